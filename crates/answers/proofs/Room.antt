-- Any answer has room, and what is put at 0 stands over the front.
-- Assumes nothing.
use Prim.Native.Nat.{ℕ, ◌≤◌}
use mathlib.Core.Path.{◌≡◌, ◌∙◌}
use mathlib.Core.List.{List}
use native.Mathlib.Nat.{zero-add}
use native.Mathlib.Omega.{arith}
use lib.ListN.{length}
use lib.Dec.{eqb}
use Rattle.wire.specs.Bytes.{bytes4, bytes8, over, Put}
use Rattle.wire.proofs.Cases.{both}
use Rattle.wire.proofs.Stores.{front}
use Rattle.sheet.specs.declared.Answer.{Answer}
use Rattle.sheet.specs.declared.Answer.TheVariants as answer
use Rattle.answers.specs.Answers.{answer_room, extreme_bytes, utilised_bytes, answer_bytes}

-- the room asked for is room for any answer
pub answer_fits : (a : Answer) → length (answer_bytes a) ≤ answer_room
unfolding answer_bytes extreme_bytes utilised_bytes bytes8 bytes4
answer_fits answer.Accepted = let h : 3 ≤ answer_room = omega arith in h
answer_fits (answer.Refused n) =
    let h : 0 ≤ answer_room = omega arith in
    let g : 4 ≤ answer_room = omega arith in
    both (λ (w : List ℕ). length w ≤ answer_room) (eqb n 14) h g
answer_fits (answer.Extremes x) = let h : 37 ≤ answer_room = omega arith in h
answer_fits (answer.Utilisation x) = let h : 29 ≤ answer_room = omega arith in h

-- what is put at 0 stands over the front
pub put_front : (w o : List ℕ) {to : ℕ} {out : List ℕ} → length w ≤ length o → Put o 0 w to out → (to ≡ length w) × (out ≡ over w o)
put_front w o h p = (p.0 ∙ zero-add (length w), p.1 ∙ front w o h)
