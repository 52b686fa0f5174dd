-- Bytes are the same where there are as many of them and each is the same.
use Rattle.std.proofs.Common.{◌≡◌, sym, ◌∙◌, ap, ℕ, ◌+◌, ◌<◌, List, length, get_or, zero-add, eqb, Decides, arith}
use Rattle.std.proofs.lemmas.Bool.Decides.{Decides-and, Decides-eqb, Decides-like}
use Rattle.std.proofs.lemmas.List.{ext_get_or}
use Rattle.recheck_bytes.specs.Bytes.{same_up_to}
use Rattle.recheck_bytes.proofs.Tests.{same_decides}
use Rattle.recheck_offices.specs.Offices.{same_bytes}

Each : (s t : List ℕ) → Type 0
Each s t = (k : ℕ) → k < length t → get_or t k 0 ≡ get_or s (0 + k) 0

equal : (s t : List ℕ) → (length s ≡ length t) × Each s t → s ≡ t
unfolding Each
equal s t h = ext_get_or 0 s t h.0 (λ i l. sym (h.1 i (omega arith) ∙ ap (λ k. get_or s k 0) (zero-add i)))

each : (s t : List ℕ) → s ≡ t → (length s ≡ length t) × Each s t
unfolding Each
each s t e = (ap length e, λ k l. rw (e, zero-add))

pub same_bytes_decides : (s t : List ℕ) → Decides (same_bytes s t) (s ≡ t)
unfolding Each
same_bytes_decides s t =
    Decides-like (same_bytes s t) (equal s t) (each s t)
    (Decides-and (eqb (length s) (length t)) (same_up_to t s 0 (length t)) (Decides-eqb (length s) (length t)) (same_decides t s 0 (length t)))
