-- Any calls can be made one after the other; readings work out a sheet; bytes that are read through restore it.
-- Assumes nothing.
use Prim.Native.Nat.{ℕ, ◌≤◌, ◌<◌}
use mathlib.Core.Path.{◌≡◌, refl, sym, ap, ◌∙◌, subst}
use mathlib.Core.List.{List, [], ◌∷◌, map}
use mathlib.Core.Logic.{⊎_elim}
use native.Mathlib.Omega.{arith}
use borrow.Author.Tests.{lt-ltb, le-ltb}
use lib.ListN.{length, take, drop, replicate, length-replicate}
use lib.Seq.{take-append_seam}
use Rattle.wire.specs.Bytes.{over}
use Rattle.wire.proofs.Cases.{lt_or_ge}
use Rattle.sheet.specs.declared.Sheet.{Sheet}
use Rattle.sheet.specs.Sheet.{fresh_sheet}
use Rattle.sheet.specs.Range.{InRange}
use Rattle.sheet.proofs.Kept.{fresh_kept}
use Rattle.fields.specs.declared.Reading.{Reading}
use Rattle.fields.specs.Field.{read_field}
use Rattle.fields.specs.Readings.{ReadThrough, end, field}
use Rattle.fields.proofs.Kept.{read_kept}
use Rattle.fields.proofs.Consumed.{same_with_room}
use Rattle.answers.specs.Answers.{answer_bytes, answer_room}
use Rattle.std.specs.Prelude.{Result, Ok, Err}
use Rattle.refusals.specs.declared.Refusal.{Refusal}
use Rattle.refusals.specs.declared.Refusal.TheVariants.{ShortOutput}
use Rattle.refusals.specs.Numbers.{number}
use Rattle.saved_fields.specs.Saved.{saved_bytes}
use Rattle.saving.specs.Saving.{saved_answer, saved_over}
use Rattle.restoring.proofs.RoundTrip.{in_range_made}
use Rattle.demands.specs.Readings.{Given, sheet_from, Made, made, ReadOn, MadeFrom, RangeIsMade, Readings, none, next, given, worked_out, Call, AnyReadings, SaveOn, ReadsFrom, Restores, no_more, one_more}

-- ---- what is written over the front of an output stands there
pub take_over : (w o : List ℕ) → take (length w) (over w o) ≡ w
unfolding over
take_over w o = take-append_seam w (drop (length w) o)

-- ---- readings
-- the reading of a call, by the definitions
abbrev reading_of : Call → Sheet → Made
reading_of c s = let r : Reading = read_field c.input (length c.out) s in made c.input c.out r (over (answer_bytes r.answer) c.out)

pub any_readings : AnyReadings
any_readings [] s h = record { list = []; last = s; calls = refl; readings = none; in_range = h }
any_readings (c ∷ cs) s h =
    let m : Made = reading_of c s in
    let r = any_readings cs m.result.sheet (read_kept c.input (length c.out) s h) in
    record {
      list = m ∷ r.list;
      last = r.last;
      calls = ap (λ (x : List Call). c ∷ x) r.calls;
      readings = next (record { reading = refl; output = refl }) r.readings;
      in_range = r.in_range;
    }

-- a reading keeps the range
pub read_in_range : {s : Sheet} {m : Made} → InRange s → ReadOn s m → InRange m.result.sheet
read_in_range {s} {m} h r = subst (λ (x : Reading). InRange x.sheet) (sym r.reading) (read_kept m.input (length m.out) s h)

after_in_range : (s : Sheet) (gs : List Given) → InRange s → InRange (sheet_from s gs)
unfolding sheet_from
after_in_range s [] h = h
after_in_range s (g ∷ gs) h = after_in_range (read_field g.input g.room s).sheet gs (read_kept g.input g.room s h)

pub works_out : {s s' : Sheet} {ms : List Made} → Readings s ms s' → s' ≡ sheet_from s (map given ms)
unfolding sheet_from
works_out none = refl
works_out (next {m} {ms} f r) = works_out r ∙ ap (λ (x : Reading). sheet_from x.sheet (map given ms)) f.reading

pub worked_in_range : (ms : List Made) → InRange (worked_out ms)
worked_in_range ms = after_in_range fresh_sheet (map given ms) fresh_kept

pub readings_in_range : {ms : List Made} {s : Sheet} → Readings fresh_sheet ms s → InRange s
readings_in_range {ms} r = subst InRange (sym (works_out r)) (worked_in_range ms)

-- ---- bytes read through, with room for an answer
with_room : {w : List ℕ} {s : Sheet} {m : Made} → ReadsFrom w s m → m.result ≡ read_field w answer_room s
with_room {w} {s} {m} f = f.read.reading ∙ ap (λ (x : List ℕ). read_field x (length m.out) s) f.input ∙ same_with_room w s (length m.out) f.room

-- bytes that are read through are a list of readings
through : {w : List ℕ} {s t : Sheet} → ReadThrough w s t → MadeFrom s t
through end = record { list = []; readings = none }
through {s = s} (field {b} {bs} e r) =
    let more = through r in
    let out : List ℕ = replicate answer_room 0 in
    let x : Reading = read_field (b ∷ bs) answer_room s in
    let m : Made = made (b ∷ bs) out x (over (answer_bytes x.answer) out) in
    let read : ReadOn s m = record { reading = ap (λ (n : ℕ). read_field (b ∷ bs) n s) (sym (length-replicate {A = ℕ} answer_room 0)); output = refl } in
    record { list = m ∷ more.list; readings = next read more.readings }

pub range_is_made : RangeIsMade
range_is_made s = (λ h. through (in_range_made h).1, λ m. readings_in_range m.readings)

pub restores : {w : List ℕ} {s t : Sheet} → ReadThrough w s t → Restores w s t
restores end = no_more
restores {t = t} (field {b} {bs} e r) =
    one_more (λ m f. ap (λ (x : Reading). x.answer) (with_room f) ∙ e)
    (λ m f. subst (λ (x : Reading). Restores (drop x.consumed (b ∷ bs)) x.sheet t) (sym (with_room f)) (restores r))

-- a reading of any bytes with the least room
reads_from : (w : List ℕ) (s : Sheet) → ReadsFrom w s (reading_of (record { input = w; out = replicate answer_room 0 }) s)
reads_from w s = record { input = refl; room = omega (arith, length-replicate {A = ℕ} answer_room 0); read = record { reading = refl; output = refl } }

pub restores_unique : {w : List ℕ} {s a b : Sheet} → Restores w s a → Restores w s b → a ≡ b
restores_unique no_more no_more = refl
restores_unique (one_more {b} {bs} {s} e p) (one_more f q) = restores_unique (p _ (reads_from (b ∷ bs) s)) (q _ (reads_from (b ∷ bs) s))

-- ---- a saving: refused where the output is too short, and otherwise the saved bytes
module _ (s : Sheet) (out out' : List ℕ) where
  pub too_short : length out < length (saved_bytes s) → {r : Result ℕ Refusal} → SaveOn s out r out' → (r ≡ Err ShortOutput) × (out' ≡ out)
  unfolding saved_answer saved_over
  too_short l f = rw (lt-ltb _ _ l) at f

  pub long_enough : length (saved_bytes s) ≤ length out → {r : Result ℕ Refusal} → SaveOn s out r out' → (r ≡ Ok (length (saved_bytes s))) × (out' ≡ over (saved_bytes s) out)
  unfolding saved_answer saved_over
  long_enough l f = rw (le-ltb _ _ l) at f

  written_refused : {A : Type 0} (n : ℕ) (refusal : Refusal) → ◌≡◌ {A = Result ℕ Refusal} (Ok n) (Err refusal) → A
  written_refused n refusal e = let z : ◌≡◌ {A = ℕ} 0 1 = cc in absurd (omega arith)

  pub saving_refused : (refusal : Refusal) → SaveOn s out (Err refusal) out' → (number refusal ≡ 14) × (out' ≡ out)
  saving_refused refusal f =
      ⊎_elim (λ l. let g = too_short l f in let e : refusal ≡ ShortOutput = cc in (ap number e, g.1)) (λ l. written_refused _ refusal (sym (long_enough l f).0)) (lt_or_ge (length out) (length (saved_bytes s)))

  pub saving_written : (n : ℕ) → SaveOn s out (Ok n) out' → take n out' ≡ saved_bytes s
  saving_written n f =
      ⊎_elim (λ l. written_refused n ShortOutput (too_short l f).0)
      (λ l.
      let g = long_enough l f in
      let e : n ≡ length (saved_bytes s) = cc in
      (λ i. take (e i) (g.1 i)) ∙ take_over (saved_bytes s) out)
      (lt_or_ge (length out) (length (saved_bytes s)))
