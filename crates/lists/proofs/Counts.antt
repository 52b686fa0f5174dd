-- The room for the answers to the fields of a list.
-- Assumes nothing.
use Prim.Native.Nat.{ℕ, ◌*◌, ◌/◌}
use mathlib.Core.Path.{◌≡◌, sym, ◌∙◌}
use mathlib.Core.Logic.{⊎_elim}
use native.Mathlib.Omega.{arith}
use borrow.Author.Tests.{le-ltb, lt-ltb}
use lib.Dec.{ltb}
use Rattle.wire.proofs.Cases.{lt_or_ge}
use Rattle.answers.specs.Answers.{answer_room}

-- the test by a quotient is the test by a product
pub short_is : (room n : ℕ) → ltb (room / answer_room) n ≡ ltb room (answer_room * n)
short_is room n =
    ⊎_elim (λ l. lt-ltb (room / answer_room) n (omega arith) ∙ sym (lt-ltb room (answer_room * n) l))
    (λ g. le-ltb (room / answer_room) n (omega arith) ∙ sym (le-ltb room (answer_room * n) g)) (lt_or_ge room (answer_room * n))
