-- What a run saves is a state that the next call accepts, and it gives the sheet that was saved.
-- Assumes nothing.
use Prim.Native.Nat.{ℕ, zero, suc, ◌≤◌}
use mathlib.Core.Path.{◌≡◌, refl}
use mathlib.Core.List.{List, ◌∷◌}
use native.Mathlib.Omega.{arith}
use lib.ListN.{length, drop, length-drop}
use Rattle.std.specs.Prelude.{None}
use Rattle.sheet.specs.declared.Sheet.{Sheet}
use Rattle.sheet.specs.Sheet.{fresh_sheet}
use Rattle.sheet.specs.Range.{InRange}
use Rattle.sheet.proofs.Kept.{fresh_kept}
use Rattle.answers.specs.Answers.{answer_room}
use Rattle.fields.specs.Field.{read_field}
use Rattle.fields.specs.Readings.{ReadThrough, end, field}
use Rattle.fields.proofs.Consumed.{read_consumed}
use Rattle.headers.proofs.Whole.{consumed_some}
use Rattle.saved_fields.specs.Saved.{saved_bytes}
use Rattle.restoring.proofs.RoundTrip.{round_trip}
use Rattle.lists.specs.Lists.{fields_from, fields_of, sheet_after, answers_to}
use Rattle.lists.proofs.Left.{no_fields}
use Rattle.lists.proofs.Joins.{kept_after}
use Rattle.loading.specs.Loaded.{first_refusal, loaded, due_state}
use Rattle.frames_c.specs.Calls.{saved_after}

-- every field of the list is accepted, and they lead to the sheet
abbrev Accepted : List (List ℕ) → Sheet → Sheet → Type 0
Accepted fs s s' = (first_refusal (answers_to fs s) ≡ None) × (sheet_after fs s ≡ s')

read_through : {w : List ℕ} {s s' : Sheet} → ReadThrough w s s' → (n : ℕ) → length w ≤ n → Accepted (fields_from n w) s s'
unfolding fields_from answers_to sheet_after first_refusal
read_through end n h = rw (no_fields n) (refl, refl)
read_through (field e r) zero h = absurd (omega arith)
read_through {s = s} (field {b} {bs} e r) (suc n) h =
    let w = b ∷ bs in
    let some = consumed_some w (omega arith) in
    let c = read_consumed w s in
    let l : length (drop (read_field w answer_room s).consumed w) ≤ n = rw (c, length-drop) (omega arith) in
    let x = read_through r n l in
    (rw (e, ← c) x.0, rw (← c) x.1)

pub saved_accepted : (s : Sheet) → InRange s → (due_state (saved_bytes s) ≡ None) × (loaded (saved_bytes s) ≡ s)
saved_accepted s h = read_through (round_trip s fresh_sheet h) (length (saved_bytes s)) (omega arith)

-- whatever state and fields were given
pub run_accepted : (state input : List ℕ) →
    (due_state (saved_after state input) ≡ None) × (loaded (saved_after state input) ≡ sheet_after (fields_of input) (loaded state))
run_accepted state input =
    saved_accepted (sheet_after (fields_of input) (loaded state))
    (kept_after (fields_of input) (loaded state) (kept_after (fields_of state) fresh_sheet fresh_kept))
