-- With other bytes after it a whole field names the same case.
-- Assumes nothing.
use Prim.Native.Nat.{ℕ}
use mathlib.Core.Path.{◌≡◌, ap}
use mathlib.Core.List.{List, ◌++◌}
use mathlib.Core.Bool.{false}
use native.Mathlib.Omega.{arith}
use lib.Dec.{eqb}
use Rattle.headers.specs.Headers.{tag_of, length_in, is_cut, name_number, name_length}
use Rattle.headers.proofs.Whole.{whole_long}
use Rattle.headers.proofs.Following.{byte_same, stays_whole}
use Rattle.drawing.specs.Names.{names_case}
use Rattle.drawing.proofs.Names.{and_same, name_lengths}

pub names_same : (s t : List ℕ) (case : ℕ) → is_cut s ≡ false → names_case case (s ++ t) ≡ names_case case s
names_same s t case e =
    let l = whole_long s e in
    rw ((stays_whole s t e).1, byte_same s t 0 (omega arith))
    (and_same (eqb (tag_of s) name_number) (name_length (length_in s))
    (λ n. ap (λ (b : ℕ). eqb b case) (byte_same s t 3 (omega (arith, l, name_lengths (length_in s) n)))))
