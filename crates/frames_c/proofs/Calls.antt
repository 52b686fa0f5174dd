-- What the calls come to: the fields answered, and the refusals.
-- Assumes nothing.
use Prim.Native.Nat.{ℕ, ◌*◌, ◌≤◌}
use mathlib.Core.Path.{◌≡◌, refl, sym, ap}
use mathlib.Core.List.{List}
use mathlib.Core.Bool.{Bool, true, false, cond}
use native.Mathlib.Omega.{arith}
use borrow.Author.Tests.{le-ltb, ltb-false}
use lib.ListN.{length}
use lib.Dec.{ltb}
use Rattle.std.specs.Prelude.{Option, Some, None, Result, Ok, Err}
use Rattle.wire.specs.Bytes.{over}
use Rattle.sheet.specs.declared.Sheet.{Sheet}
use Rattle.answers.specs.Answers.{answer_room}
use Rattle.saved_fields.specs.Saved.{saved_bytes, saved_most}
use Rattle.saved_fields.proofs.Lengths.{saved_most_lem}
use Rattle.saving.specs.Saving.{saved_answer, saved_over}
use Rattle.lists.specs.Lists.{fields_of, short, sheet_after}
use Rattle.loading.specs.Loaded.{loaded, due_state}
use Rattle.frames_c.specs.Calls.{place_room, due_answer, due_run, answered, ran_of, Answered, AnswerDone, RunDone, count_unless, count_of}

none_of : (due : Option ℕ) {w n : ℕ} → count_unless due w ≡ Ok n → (due ≡ None) × (n ≡ w)
none_of None {w} {n} e = let f : n ≡ w = cc in (refl, f)
none_of (Some k) e = absurd (let z : ◌≡◌ {A = ℕ} 0 1 = cc in omega arith)

some_of : (due : Option ℕ) (w : ℕ) {n : ℕ} → count_unless due w ≡ Err n → due ≡ Some n
some_of None w e = absurd (let z : ◌≡◌ {A = ℕ} 0 1 = cc in omega arith)
some_of (Some k) w {n = n} e = let f : k ≡ n = cc in ap Some f

some_none : {A : Type 0} {n : ℕ} → ◌≡◌ {A = Option ℕ} (Some n) None → A
some_none e = absurd (let z : ◌≡◌ {A = ℕ} 0 1 = cc in omega arith)

-- no refusal is due: neither 14 nor that of the state
none_due : (t : Bool) (d : Option ℕ) → cond t (Some 14) d ≡ None → (t ≡ false) × (d ≡ None)
none_due true d e = some_none e
none_due false d e = (refl, e)

module _ (state input o : List ℕ) where
  pub answer_room_lem : due_answer state input (length o) ≡ None → answer_room * length (fields_of input) ≤ length o
  answer_room_lem e = ltb-false (length o) (answer_room * length (fields_of input)) (none_due (short input (length o)) (due_state state) e).0

  pub run_due : (place : List ℕ) → due_run state input (length o) (length place) ≡ None → (saved_most ≤ length place) × (due_answer state input (length o) ≡ None)
  run_due place e =
      let x = none_due (ltb (length place) place_room) (due_answer state input (length o)) e in
      (omega (arith, ltb-false (length place) place_room x.0), x.1)

module _ (state input o : List ℕ) {s : Sheet} where
  pub short_refused : short input (length o) ≡ true → Answered state input o (Err 14) s o
  short_refused e = record { result = rw e; sheet = λ z. some_none (rw e at z); written = rw e }

  module _ (e : short input (length o) ≡ false) where
    pub state_refused : (n : ℕ) → due_state state ≡ Some n → Answered state input o (Err n) s o
    state_refused n d = record { result = rw (e, d); sheet = λ z. some_none (rw (e, d) at z); written = rw (e, d) }

    pub all_answered : {n : ℕ} {o' : List ℕ} → due_state state ≡ None → s ≡ sheet_after (fields_of input) (loaded state) →
        n ≡ length (answered state input) → o' ≡ over (answered state input) o → Answered state input o (Ok n) s o'
    all_answered d a b w = record { result = rw (e, d, b); sheet = λ z. a; written = rw (e, d) w }

pub small_place : (state input o place : List ℕ) → ltb (length place) place_room ≡ true → RunDone state input o place (record { refusal = 14; written = 0; saved = 0 }) o place
small_place state input o place e = record { result = rw e; written = rw e; saved = rw e }

module _ (state input o : List ℕ) {o' : List ℕ} {s : Sheet} where
  answer_done : {n : ℕ} → Answered state input o (Ok n) s o' → AnswerDone state input o (record { refusal = 0; written = n; saved = 0 }) o'
  answer_done h =
      let d = none_of (due_answer state input (length o)) (sym h.result) in
      record { result = rw (d.0, d.1); written = rw d.0 (rw d.0 at h.written) }

  answer_refused : {n : ℕ} → Answered state input o (Err n) s o' → AnswerDone state input o (record { refusal = n; written = 0; saved = 0 }) o'
  answer_refused h =
      let d = some_of (due_answer state input (length o)) (length (answered state input)) (sym h.result) in
      record { result = rw d; written = rw d (rw d at h.written) }

  pub answer_given : (r : Result ℕ ℕ) → Answered state input o r s o' → AnswerDone state input o (ran_of r) o'
  answer_given (Ok n) h = answer_done h
  answer_given (Err n) h = answer_refused h

  module _ (place : List ℕ) where
    module _ (e : ltb (length place) place_room ≡ false) where
      pub run_refused : {n : ℕ} → Answered state input o (Err n) s o' → RunDone state input o place (record { refusal = n; written = 0; saved = 0 }) o' place
      run_refused h =
          let d = some_of (due_answer state input (length o)) (length (answered state input)) (sym h.result) in
          record { result = rw (e, d); written = rw (e, d) (rw d at h.written); saved = rw (e, d) }

      pub run_done : {n k : ℕ} {place' : List ℕ} → Answered state input o (Ok n) s o' → k ≡ count_of (saved_answer s (length place)) → place' ≡ saved_over s place →
          RunDone state input o place (record { refusal = 0; written = n; saved = k }) o' place'
      unfolding saved_answer saved_over
      run_done h a b =
          let d = none_of (due_answer state input (length o)) (sym h.result) in
          let x = h.sheet d.0 in
          let after = sheet_after (fields_of input) (loaded state) in
          let g = ltb-false (length place) place_room e in
          let l : length (saved_bytes after) ≤ length place = omega (arith, saved_most_lem after) in
          record {
            result = rw (e, d.0, d.1, a, x, le-ltb (length place) (length (saved_bytes after)) l);
            written = rw (e, d.0) (rw d.0 at h.written);
            saved = rw (e, d.0, b, x, le-ltb (length place) (length (saved_bytes after)) l);
          }
