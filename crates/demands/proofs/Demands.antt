-- The three demands hold after any list of readings.
-- Assumes nothing.
use Prim.Native.Nat.{ℕ, ◌≤◌, ◌<◌}
use mathlib.Core.Path.{◌≡◌, refl, sym, ap, ◌∙◌, subst}
use mathlib.Core.List.{List, [], ◌∷◌}
use native.Mathlib.Omega.{arith}
use borrow.Author.Tests.{le-ltb, ne_eqb}
use lib.ListN.{length, take}
use Rattle.wire.specs.Bytes.{over}
use Rattle.sheet.specs.declared.Sheet.{Sheet}
use Rattle.sheet.specs.declared.Answer.TheVariants as answer
use Rattle.sheet.specs.declared.Answered.{Answered}
use Rattle.standard.proofs.EmptyTank.{empty_tank_considered}
use Rattle.sheet.specs.Sheet.{fresh_sheet, kind_at, capacity_at}
use Rattle.sheet.specs.Looks.{extremes_at, utilisation_at}
use Rattle.refusals.specs.Refusals.{due_extremes, due_utilisation_at}
use Rattle.sheet.specs.Range.{InRange}
use Rattle.sheet.proofs.Access.{well_formed, same_sheet}
use Rattle.sheet.proofs.Promised.{extremes_govern_at, utilisation_governs_at}
use Rattle.fields.specs.declared.Reading.{Reading}
use Rattle.headers.specs.Headers.{length_of, due_header}
use Rattle.fields.specs.Field.{read_field}
use Rattle.tags.specs.Run.{run_of}
use Rattle.fields.specs.Order.{field_of, reading}
use Rattle.fields.proofs.Refused.{refused_unchanged}
use Rattle.fields.proofs.Within.{within}
use Rattle.std.specs.Prelude.{Ok}
use Rattle.restoring.proofs.Framing.{front_read}
use Rattle.restoring.proofs.RoundTrip.{round_trip, same_bytes, bytes_differ}
use Rattle.answers.specs.Answers.{answer_bytes, answer_room}
use Rattle.decoding.specs.Decoding.{decoded, AnswerFits}
use Rattle.decoding.proofs.Decoding.{decoded_answer}
use Rattle.decoding.proofs.Fits.{extremes_fit, utilisation_fits}
use Rattle.demands.specs.Readings.{Made, ReadOn, Readings, worked_out, SaveOn, Restores}
use Rattle.demands.specs.Demands.{Demand1, Demand2, look_extremes, look_utilisation, reported, ExtremesAnswered, UtilisationAnswered, Demand3, Demands}
use Rattle.demands.proofs.Due.{not_accepted, due_most, none_due, due_refused, refused_due, full_consumed, short_consumed, field_consumed}
use Rattle.demands.proofs.Readings.{take_over, works_out, worked_in_range, restores, restores_unique, long_enough, saving_refused, saving_written}

-- ---- a sheet in range
module _ (w : Sheet) (h : InRange w) where
  extremes_field : (t j : ℕ) → t < 16 → j < 3 →
      field_of w 6 (t ∷ j ∷ []) ≡ record { answer = answer.Extremes (extremes_at w t j); sheet = w }
  unfolding field_of due_header length_of run_of due_extremes
  extremes_field t j a b =
      let p : t ≤ 15 = omega arith in
      let q : j ≤ 2 = omega arith in
      rw (le-ltb 15 t p, le-ltb 2 j q)

  utilisation_field : (t : ℕ) → t < 16 → 0 < capacity_at w t 0 →
      field_of w 7 (t ∷ []) ≡ record { answer = answer.Utilisation (utilisation_at w t); sheet = w }
  unfolding field_of due_header length_of run_of due_utilisation_at
  utilisation_field t a c =
      let p : t ≤ 15 = omega arith in
      rw (le-ltb 15 t p, ne_eqb (capacity_at w t 0) 0 (λ e. omega arith))

  -- the bytes written say what is answered
  reported_is : (m : Made) {n : ℕ} {a : Answered} → ReadOn w m → m.result ≡ reading n a → AnswerFits a.answer → reported m ≡ a.answer
  reported_is m {n} {a} f r fits =
      let long : m.result.written ≡ length (answer_bytes a.answer) = ap (λ (x : Reading). x.written) r in
      let out : m.out' ≡ over (answer_bytes a.answer) m.out = f.output ∙ ap (λ (x : Reading). over (answer_bytes x.answer) m.out) r in
      (λ i. decoded (take (long i) (out i))) ∙ ap decoded (take_over (answer_bytes a.answer) m.out) ∙ decoded_answer a.answer fits

  pub look_answered : (t j : ℕ) → t < 16 → j < 3 → (m : Made) (rest : List ℕ) → answer_room ≤ length m.out → m.input ≡ look_extremes t j rest → ReadOn w m →
      (m.result.answer ≡ answer.Extremes (extremes_at w t j)) × (reported m ≡ answer.Extremes (extremes_at w t j))
  look_answered t j a b m rest room i f =
      let two : 2 < 256 = omega arith in
      let r = f.reading ∙ ap (λ (x : List ℕ). read_field x (length m.out) w) i ∙ front_read 6 (t ∷ j ∷ []) rest (length m.out) w room two (extremes_field t j a b) in
      (ap (λ (y : Reading). y.answer) r, reported_is m f r (extremes_fit w t h a j))

  extremes_answered : (t j : ℕ) → t < 16 → j < 3 → (m : Made) (rest : List ℕ) → answer_room ≤ length m.out → m.input ≡ look_extremes t j rest →
      ReadOn w m → ExtremesAnswered w t j m
  extremes_answered t j a b m rest room i f =
      let r = look_answered t j a b m rest room i f in
      let g = extremes_govern_at w h t j a b in
      record { extremes = extremes_at w t j; answered = r.0; bytes = r.1; maximum = g.maximum; minimum = g.minimum }

  utilisation_answered : (t : ℕ) → t < 16 → 0 < capacity_at w t 0 → (m : Made) (rest : List ℕ) → answer_room ≤ length m.out →
      m.input ≡ look_utilisation t rest → ReadOn w m → UtilisationAnswered w t m
  utilisation_answered t a c m rest g i f =
      let one : 1 < 256 = omega arith in
      let r = f.reading ∙ ap (λ (x : List ℕ). read_field x (length m.out) w) i ∙ front_read 7 (t ∷ []) rest (length m.out) w g one (utilisation_field t a c) in
      record {
        used = utilisation_at w t;
        answered = ap (λ (y : Reading). y.answer) r;
        bytes = reported_is m f r (utilisation_fits w t h a c);
        greatest = (utilisation_governs_at w h t a).greatest;
      }

  -- what the definition of a reading says of its answer and of its places
  answer_of_lem : (m : Made) → ReadOn w m → m.result.answer ≡ (read_field m.input (length m.out) w).answer
  answer_of_lem m f = ap (λ (r : Reading). r.answer) f.reading

  consumed_of_lem : (m : Made) → ReadOn w m → m.result.consumed ≡ (read_field m.input (length m.out) w).consumed
  consumed_of_lem m f = ap (λ (r : Reading). r.consumed) f.reading

  first : Demand1 w w
  first = record {
    refused = λ m n f. (
      λ e. refused_due m.input (length m.out) w n (sym (answer_of_lem m f) ∙ e),
      λ d. answer_of_lem m f ∙ due_refused m.input (length m.out) w n d.0 d.1,
    );
    numbers = λ m f. due_most m.input (length m.out) w;
    other = λ m f d. answer_of_lem m f ∙ none_due m.input (length m.out) w d;
    no_room = λ m f d.
        let c = full_consumed m.input (length m.out) w d in
        (consumed_of_lem m f ∙ c.0, ap (λ (r : Reading). r.written) f.reading ∙ c.1);
    cut = λ m f d. consumed_of_lem m f ∙ short_consumed m.input (length m.out) w d;
    field = λ m f a b. consumed_of_lem m f ∙ field_consumed m.input (length m.out) w a b;
    unchanged = λ m n f e.
        ap (λ (r : Reading). r.sheet) f.reading
        ∙ refused_unchanged m.input (length m.out) w (λ a. not_accepted (sym e ∙ ap (λ (r : Reading). r.answer) f.reading ∙ a));
    consumed = λ m f. (within m.input m.out w h f).consumed;
    written = λ m f. (within m.input m.out w h f).written;
    goes_on = λ m f. (within m.input m.out w h f).in_range;
    unsaved = λ out out' n f. saving_refused w out out' n f;
    saves = λ out out' r f l. (long_enough w out out' l f).0;
  }

  read_back : (out out' : List ℕ) (n : ℕ) → SaveOn w out (Ok n) out' → (s₀ : Sheet) → Restores (take n out') s₀ w
  read_back out out' n f s₀ = rw (saving_written w out out' n f) (restores (round_trip w s₀ h))

  second : Demand2 w w
  second = record {
    held = refl;
    answered = λ m f. f.reading;
    bytes = λ m f. f.output;
    saved = λ out out' n f. saving_written w out out' n f;
    restored = λ out out' n f s₀. read_back out out' n f s₀;
    restores_one = λ out out' n f s₀ s₁ r. restores_unique r (read_back out out' n f s₀);
    same = λ s₁ g e. same_sheet s₁ w (well_formed g) (well_formed h) e.settings e.kinds e.effects e.capacities;
    equal = λ s₁ e. same_bytes s₁ w e;
    differ = λ s₁ g e. bytes_differ s₁ w g h e;
  }

  third : Demand3 w w
  third = record { extremes = extremes_answered; utilisation = utilisation_answered; empty_tank = empty_tank_considered w.settings (kind_at w) }

-- what holds of the sheet worked out, held by the service
module _ (ms : List Made) {s : Sheet} (r : Readings fresh_sheet ms s) where
  pub demand_1 : Demand1 (worked_out ms) s
  demand_1 = subst (Demand1 (worked_out ms)) (sym (works_out r)) (first (worked_out ms) (worked_in_range ms))

  pub demand_2 : Demand2 (worked_out ms) s
  demand_2 = subst (Demand2 (worked_out ms)) (sym (works_out r)) (second (worked_out ms) (worked_in_range ms))

  pub demand_3 : Demand3 (worked_out ms) s
  demand_3 = subst (Demand3 (worked_out ms)) (sym (works_out r)) (third (worked_out ms) (worked_in_range ms))

pub demands : Demands
demands ms s r = (demand_1 ms r, demand_2 ms r, demand_3 ms r)
