-- Two lists that differ only at other stations answer the same for one station, reading by reading.
-- Assumes nothing.
use Prim.Native.Nat.{ℕ, ◌≤◌, ◌<◌}
use mathlib.Core.Path.{◌≡◌, refl, sym, ap, ◌∙◌, subst}
use mathlib.Core.Bool.{true}
use mathlib.Core.List.{List}
use mathlib.Core.Logic.{◌⊎◌}
use lib.ListN.{length, take}
use Rattle.wire.specs.Bytes.{over, word_at}
use Rattle.envelope.specs.Range.{station_count}
use Rattle.refusals.specs.Refusals.{first_due, due_effects_at, due_capacities}
use Rattle.refusals.proofs.Fits.{effects_range, capacities_range}
use Rattle.sheet.specs.declared.Sheet.{Sheet}
use Rattle.sheet.specs.declared.Answer.TheVariants as answer
use Rattle.sheet.specs.Sheet.{fresh_sheet, kind_at}
use Rattle.sheet.specs.Range.{InRange}
use Rattle.sheet.proofs.Kept.{fresh_kept}
use Rattle.answers.specs.Answers.{answer_bytes}
use Rattle.tags.specs.Tags.{unknown_tag, tag_at}
use Rattle.fields.specs.declared.Reading.{Reading}
use Rattle.headers.specs.Headers.{tag_of, body_of, field_in}
use Rattle.fields.specs.Field.{read_field}
use Rattle.fields.proofs.Alone as alone
use Rattle.demands.specs.Readings.{Made, ReadOn, Readings, none, next}
use Rattle.demands.proofs.Readings.{take_over, read_in_range}
use Rattle.demands.proofs.Due.{none_own, none_after, accepted_due}
use Rattle.offices.specs.Offices as offices
use Rattle.offices.specs.Offices.{effects_field, capacities_field, AcceptedInBoth, DifferElsewhere, Paired, AtEachPlace, LooksElsewhere, SameAnswer, SameForStation, HoldsSameAt, DependsOnStation, TwoOffices}
use Rattle.offices.proofs.Held.{holds_itself, effects_same, capacities_same}
use Rattle.offices.proofs.Readings.{read_same}

-- ---- the bytes of an answer
written_bytes : {s : Sheet} {m : Made} → ReadOn s m → take m.result.written m.out' ≡ answer_bytes m.result.answer
unfolding read_field
written_bytes {s} {m} r =
    let long : m.result.written ≡ length (answer_bytes m.result.answer) = rw r.reading in
    (λ i. take (long i) (r.output i)) ∙ take_over (answer_bytes m.result.answer) m.out

same_answer : {s v : Sheet} {m n : Made} → ReadOn s m → ReadOn v n → m.result.answer ≡ n.result.answer → SameAnswer m n
same_answer {s} {v} {m} {n} r q e =
    record {
      answer = e;
      bytes = written_bytes r ∙ ap answer_bytes e ∙ sym (written_bytes q);
      output = λ o. r.output ∙ (λ i. over (answer_bytes (e i)) (o i)) ∙ sym q.output;
    }

-- ---- one reading
module _ {t : ℕ} {s v : Sheet} (h : InRange s) (g : InRange v) (a : t < station_count) (same : HoldsSameAt t s v) where
  same_field : (x y : List ℕ) (room : ℕ) → (tag_of x ≤ 9) ⊎ (unknown_tag (tag_of x) ≡ true) → field_in x ≡ field_in y →
      ((LooksElsewhere t x → ⊥) → (read_field x room s).answer ≡ (read_field y room v).answer) × HoldsSameAt t (read_field x room s).sheet (read_field y room v).sheet
  same_field x y room limit e =
      let r = read_same h g a same x room limit in
      let p = alone.same_field room v x y e in
      (λ ne. r.answer ne ∙ p.answer, subst (HoldsSameAt t (read_field x room s).sheet) p.sheet r.sheet)

  -- fields that are accepted on both sheets, by what their tags make of these
  both_accepted : (x y : List ℕ) (room : ℕ) → (read_field x room s).answer ≡ answer.Accepted → (read_field y room v).answer ≡ answer.Accepted →
      (first_due ((tag_at (tag_of x)).refusals s (body_of x)) ≡ 0 → HoldsSameAt t ((tag_at (tag_of x)).after s (body_of x)) ((tag_at (tag_of y)).after v (body_of y))) →
      HoldsSameAt t (read_field x room s).sheet (read_field y room v).sheet
  both_accepted x y room e f stored =
      let d = accepted_due x room s e in
      rw (none_after x room s d, none_after y room v (accepted_due y room v f)) (stored (none_own x room s d).1)

  module _ (u : ℕ) (rest rest' : List ℕ) (elsewhere : u ≡ t → ⊥) where
    effects_elsewhere : (case room : ℕ) → (read_field (effects_field case u rest) room s).answer ≡ answer.Accepted → (read_field (effects_field case u rest') room v).answer ≡ answer.Accepted →
        HoldsSameAt t (read_field (effects_field case u rest) room s).sheet (read_field (effects_field case u rest') room v).sheet
    unfolding due_effects_at
    effects_elsewhere case room e f =
        both_accepted (effects_field case u rest) (effects_field case u rest') room e f (λ d.
        let b = body_of (effects_field case u rest) in
        let fit = effects_range (kind_at s case) case u (word_at b 2) (word_at b 4) (word_at b 6) d in
        effects_same h g a same case u _ _ _ _ _ _ fit.case fit.station (λ w. absurd (elsewhere w)))

    capacities_elsewhere : (room : ℕ) → (read_field (capacities_field u rest) room s).answer ≡ answer.Accepted → (read_field (capacities_field u rest') room v).answer ≡ answer.Accepted →
        HoldsSameAt t (read_field (capacities_field u rest) room s).sheet (read_field (capacities_field u rest') room v).sheet
    unfolding due_capacities
    capacities_elsewhere room e f =
        both_accepted (capacities_field u rest) (capacities_field u rest') room e f (λ d.
        let b = body_of (capacities_field u rest) in
        capacities_same h g a same u _ _ _ _ _ _ (capacities_range u (word_at b 1) (word_at b 3) (word_at b 5) d).station (λ w. absurd (elsewhere w)))

pub depends_on_station : DependsOnStation
depends_on_station t a s v h g same m n r q p = by_fields p.fields
  where
    room : ℕ
    room = length m.out

    left : {x : List ℕ} → m.input ≡ x → m.result ≡ read_field x room s
    left i = r.reading ∙ ap (λ (x : List ℕ). read_field x room s) i

    right : {y : List ℕ} → n.input ≡ y → n.result ≡ read_field y room v
    right {y} i = q.reading ∙ (λ k. read_field (i k) (sym p.rooms k) v)

    -- what the two readings give, as the definitions give it
    result : {x y : List ℕ} → m.input ≡ x → n.input ≡ y → ((LooksElsewhere t m.input → ⊥) → (read_field x room s).answer ≡ (read_field y room v).answer) →
        HoldsSameAt t (read_field x room s).sheet (read_field y room v).sheet → SameForStation t m n × HoldsSameAt t m.result.sheet n.result.sheet
    result i j e z = (
      λ ne. same_answer r q (ap (λ (x : Reading). x.answer) (left i) ∙ e ne ∙ sym (ap (λ (x : Reading). x.answer) (right j))),
      rw (left i, right j) z,
    )

    -- where both are accepted
    stored : {x y : List ℕ} → m.input ≡ x → n.input ≡ y → AcceptedInBoth m n →
        ((read_field x room s).answer ≡ answer.Accepted → (read_field y room v).answer ≡ answer.Accepted → HoldsSameAt t (read_field x room s).sheet (read_field y room v).sheet) →
        SameForStation t m n × HoldsSameAt t m.result.sheet n.result.sheet
    stored i j accepted z =
        let e = ap (λ (x : Reading). x.answer) (sym (left i)) ∙ accepted.0 in
        let f = ap (λ (x : Reading). x.answer) (sym (right j)) ∙ accepted.1 in
        result i j (λ _. e ∙ sym f) (z e f)

    by_fields : DifferElsewhere t m n → SameForStation t m n × HoldsSameAt t m.result.sheet n.result.sheet
    by_fields (offices.same e) = let x = same_field h g a same m.input n.input room p.tags e in result refl refl x.0 x.1
    by_fields (offices.effects case u rest rest' ne i j accepted) = stored i j accepted (effects_elsewhere h g a same u rest rest' ne case room)
    by_fields (offices.capacities u rest rest' ne i j accepted) = stored i j accepted (capacities_elsewhere h g a same u rest rest' ne room)

-- ---- the lists
all_same : {t : ℕ} → t < station_count → {s v s' v' : Sheet} {ms ns : List Made} → InRange s → InRange v → HoldsSameAt t s v → Readings s ms s' → Readings v ns v' →
    AtEachPlace (Paired t) ms ns → AtEachPlace (SameForStation t) ms ns × HoldsSameAt t s' v'
all_same a h g same none none offices.none = (offices.none, same)
all_same {t} a {s} {v} h g same (next r rs) (next q qs) (offices.next {m} {n} p ps) =
    let x = depends_on_station t a s v h g same m n r q p in
    let y = all_same a (read_in_range h r) (read_in_range g q) x.1 rs qs ps in
    (offices.next x.0 y.0, y.1)
-- lists of other lengths are no pair
all_same a h g same none (next q qs) p = elim p [ ]
all_same a h g same (next r rs) none p = elim p [ ]

pub two_offices : TwoOffices
two_offices t a ms ns s v r q p = all_same a fresh_kept fresh_kept (holds_itself t fresh_sheet) r q p
