-- Only an accepted field changes the sheet.
-- Assumes nothing.
use Prim.Native.Nat.{ℕ}
use mathlib.Core.Path.{◌≡◌, refl, sym, subst}
use mathlib.Core.List.{List}
use borrow.Author.Tests.{eq-eqb, ne_eqb}
use lib.ListN.{length, take, drop}
use lib.Dec.{eqb, ltb}
use Rattle.sheet.specs.declared.Sheet.{Sheet}
use Rattle.sheet.specs.declared.Answered.{Answered}
use Rattle.sheet.specs.declared.Answer.TheVariants.{Accepted}
use Rattle.sheet.specs.Edits.{unless_refused}
use Rattle.sheet.specs.Looks.{looked_extremes, looked_utilisation, edited}
use Rattle.std.specs.Prelude.{Option, Some, None}
use Rattle.fields.specs.declared.Reading.{Reading}
use Rattle.headers.specs.Headers.{Header, header_of, due_header}
use Rattle.fields.specs.Field.{read_field}
use Rattle.tags.specs.Run.{run_of}
use Rattle.fields.specs.Order.{field_of, read_header, read_in_order}
use Rattle.fields.proofs.InOrder.{read_is}
use Rattle.wire.proofs.Cases.{both}
use Rattle.tags.proofs.Laws.{run_by}
use Rattle.answers.specs.Answers.{answer_room}

-- unless it is accepted, the old sheet is handed back
abbrev Unedited : Sheet → Answered → Type 0
Unedited s a = (a.answer ≡ Accepted → ⊥) → a.sheet ≡ s

tried_unedited : (d : ℕ) (s s' : Sheet) → Unedited s (edited (unless_refused d s s'))
unfolding unless_refused
tried_unedited d s s' h = rw (ne_eqb d 0 (λ e. h (rw (eq-eqb d 0 e))))

run_unedited : (s : Sheet) (tag : ℕ) (b : List ℕ) → Unedited s (run_of s tag b)
unfolding looked_extremes looked_utilisation
run_unedited s tag b =
    run_by (Unedited s) s tag b (tried_unedited _ s _) (tried_unedited _ s _) (tried_unedited _ s _) (tried_unedited _ s _) (tried_unedited _ s _)
    (λ _. refl) (λ _. refl) (tried_unedited _ s _) (tried_unedited _ s _) (tried_unedited _ s _)

field_unedited : (s : Sheet) (tag : ℕ) (b : List ℕ) → Unedited s (field_of s tag b)
unfolding field_of
field_unedited s tag b = both (Unedited s) (eqb (due_header tag (length b)) 0) (run_unedited s tag b) (λ _. refl)

abbrev Unread : Sheet → Reading → Type 0
Unread s r = (r.answer ≡ Accepted → ⊥) → r.sheet ≡ s

header_unread : (h : Option Header) (input : List ℕ) (s : Sheet) → Unread s (read_header h input s)
unfolding read_header
header_unread None input s = λ _. refl
header_unread (Some h) input s = field_unedited s h.tag (take h.len (drop 3 input))

order_unread : (input : List ℕ) (room : ℕ) (s : Sheet) → Unread s (read_in_order input room s)
unfolding read_in_order
order_unread input room s = both (Unread s) (ltb room answer_room) (λ _. refl) (header_unread (header_of input) input s)

pub refused_unchanged : (input : List ℕ) (room : ℕ) (s : Sheet) → ((read_field input room s).answer ≡ Accepted → ⊥) → (read_field input room s).sheet ≡ s
refused_unchanged input room s = subst (Unread s) (sym (read_is input room s)) (order_unread input room s)
