-- What the two definitions decide, place by place.
use Rattle.std.proofs.Common.{refl, ◌≡◌, ℕ, ◌+◌, ◌<◌, ◌≤◌, ◌||◌, eqb, ltb, List, get_or, Decides, arith}
use Rattle.std.proofs.Math.Bool.{and_comm}
use Rattle.std.proofs.lemmas.Bool.Decides.{Decides-below_and, Decides-eqb, nat_tests}
use Rattle.recheck_bytes.specs.Bytes.{same_up_to, filled_up_to}

-- the bytes are the same at each place passed
pub same_decides : (front s : List ℕ) (at n : ℕ) → Decides (same_up_to front s at n) ((k : ℕ) → k < n → get_or front k 0 ≡ get_or s (at + k) 0)
unfolding same_up_to
same_decides front s at =
    let here = λ (k : ℕ). eqb (get_or front k 0) (get_or s (at + k) 0) in
    Decides-below_and here (λ k. get_or front k 0 ≡ get_or s (at + k) 0) (same_up_to front s at) (λ k. Decides-eqb (get_or front k 0) (get_or s (at + k) 0)) refl (λ n. and_comm (same_up_to front s at n) (here n))

from_place : (k from x byte : ℕ) → Decides (ltb k from || eqb x byte) (from ≤ k → x ≡ byte)
from_place k from x byte = grind (arith, nat_tests)

-- each place passed that is not before the position has the byte
pub filled_decides : (byte : ℕ) (s : List ℕ) (from n : ℕ) → Decides (filled_up_to byte s from n) ((k : ℕ) → k < n → from ≤ k → get_or s k 0 ≡ byte)
unfolding filled_up_to
filled_decides byte s from =
    let here = λ (k : ℕ). ltb k from || eqb (get_or s k 0) byte in
    Decides-below_and here (λ k. from ≤ k → get_or s k 0 ≡ byte) (filled_up_to byte s from) (λ k. from_place k from (get_or s k 0) byte) refl (λ n. and_comm (filled_up_to byte s from n) (here n))
