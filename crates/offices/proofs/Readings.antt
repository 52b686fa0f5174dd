-- One reading on two sheets that hold the same for a station.
-- Assumes nothing.
use Prim.Native.Nat.{ℕ, zero, suc, ◌+◌, ◌≤◌, ◌<◌}
use native.Mathlib.Omega.{arith}
use borrow.Author.Tests.{eqb-true, ne_eqb}
use mathlib.Core.Path.{◌≡◌, refl, sym, ◌∙◌, subst}
use mathlib.Core.Bool.{true, false, false≢true}
use mathlib.Core.List.{List, [], ◌∷◌}
use mathlib.Core.Logic.{◌⊎◌, inl, inr, ⊎_elim}
use lib.Dec.{eqb, ltb, lit<}
use lib.ListN.{length, drop}
use lib.Seq.{drop-cons, get_or-take, get_or-drop}
use Rattle.wire.specs.Bytes.{byte_at}
use Rattle.wire.proofs.Cases.{either, both}
use Rattle.envelope.specs.Range.{station_count, component_count}
use Rattle.refusals.specs.Refusals.{first_due}
use Rattle.sheet.specs.declared.Sheet.{Sheet}
use Rattle.sheet.specs.Range.{InRange}
use Rattle.tags.specs.Tags.{unknown_tag, tag_at}
use Rattle.answers.specs.Answers.{answer_room}
use Rattle.headers.specs.Headers.{tag_of, length_in, body_of, is_cut}
use Rattle.headers.proofs.Whole.{whole_long}
use Rattle.fields.specs.Field.{due, read_field}
use Rattle.offices.specs.Offices.{LooksElsewhere, extremes, utilisation, HoldsSameAt}
use Rattle.offices.proofs.Tags.{TagSame, LookAtOther, by_station}

-- the same answer, unless it is to a look elsewhere, and sheets that hold the same
pub record ReadSame (t : ℕ) (x : List ℕ) (room : ℕ) (s v : Sheet) : Type 0 where
  pub answer : (LooksElsewhere t x → ⊥) → (read_field x room s).answer ≡ (read_field x room v).answer
  pub sheet : HoldsSameAt t (read_field x room s).sheet (read_field x room v).sheet

-- ---- a look, from its bytes

-- the front of a field with a body of few bytes, up to the first of them
front : (n : ℕ) → n < 255 → (x : List ℕ) → length_in x ≡ suc n → 4 ≤ length x → x ≡ tag_of x ∷ 0 ∷ suc n ∷ byte_at x 3 ∷ drop 4 x
front n few [] e l = absurd (omega (arith, l))
front n few (c0 ∷ []) e l = absurd (omega (arith, l))
front n few (c0 ∷ c1 ∷ []) e l = absurd (omega (arith, l))
front n few (c0 ∷ c1 ∷ c2 ∷ []) e l = absurd (omega (arith, l))
front n few (c0 ∷ c1 ∷ c2 ∷ u ∷ rest) e l =
    let p : c1 ≡ 0 = omega (arith, e) in
    let q : c2 ≡ suc n = omega (arith, e) in
    λ i. c0 ∷ p i ∷ q i ∷ u ∷ rest

body_at : (x : List ℕ) (i : ℕ) → i < length_in x → byte_at (body_of x) i ≡ byte_at x (3 + i)
body_at x i l = get_or-take (length_in x) (drop 3 x) i 0 l ∙ get_or-drop 3 x i 0

look_form : (t : ℕ) (x : List ℕ) → is_cut x ≡ false → (tag_at (tag_of x)).fits (length_in x) ≡ true → LookAtOther t (body_of x) (tag_of x) → LooksElsewhere t x
look_form t x whole fits l = ⊎_elim six seven l.look
  where
    six : (tag_of x ≡ 6) × (byte_at (body_of x) 1 < component_count) → LooksElsewhere t x
    six k =
        let two : length_in x ≡ 2 = eqb-true (length_in x) 2 (rw k.0 at fits) in
        let long : 5 ≤ length x = omega (arith, whole_long x whole, two) in
        let first = body_at x 0 (omega (arith, two)) in
        let second = body_at x 1 (omega (arith, two)) in
        subst (LooksElsewhere t) (sym (front 1 (lit< tt) x two (omega arith) ∙ rw (k.0, drop-cons x 4 0 long)))
        (extremes (byte_at x 3) (byte_at x 4) (drop 5 x) (rw first at l.station) (rw second at k.1) (rw first at l.other))

    seven : tag_of x ≡ 7 → LooksElsewhere t x
    seven e =
        let one : length_in x ≡ 1 = eqb-true (length_in x) 1 (rw e at fits) in
        let long : 4 ≤ length x = omega (arith, whole_long x whole, one) in
        let first = body_at x 0 (omega (arith, one)) in
        subst (LooksElsewhere t) (sym (front 0 (lit< tt) x one long ∙ rw e)) (utilisation (byte_at x 3) (drop 4 x) (rw first at l.station) (rw first at l.other))

-- ---- the reading
known_some : (tag : ℕ) → unknown_tag tag ≡ false → 0 < tag
known_some zero e = absurd (false≢true (sym e))
known_some (suc tag) e = omega arith

module _ {t : ℕ} {s v : Sheet} (h : InRange s) (g : InRange v) (a : t < station_count) (same : HoldsSameAt t s v) (x : List ℕ) (room : ℕ) where
  -- a refusal that the header alone decides is the same on every sheet
  header_refused : (n : ℕ) → 0 < n → ((z : Sheet) → due x room z ≡ n) → ReadSame t x room s v
  unfolding read_field
  header_refused n some e =
      let not_None = ne_eqb n 0 (λ z. omega arith) in
      record { answer = λ _. rw (e s, e v, not_None); sheet = rw (e s, e v, not_None) same }

  module _ (r : ltb room answer_room ≡ false) (c : is_cut x ≡ false) (u : unknown_tag (tag_of x) ≡ false) (w : (tag_at (tag_of x)).fits (length_in x) ≡ true) where
    -- what passes the tests of the header is left to the refusals of its tag
    due_own : (z : Sheet) → due x room z ≡ first_due ((tag_at (tag_of x)).refusals z (body_of x))
    unfolding due
    due_own z = rw (r, c, u, w)

    tag_read : TagSame t s v (body_of x) (tag_at (tag_of x)) → ReadSame t x room s v
    unfolding read_field
    tag_read l = ⊎_elim accepted refused (either (eqb (due x room s) 0))
      where
        both_due : due x room s ≡ due x room v
        both_due = due_own s ∙ l.refusal ∙ sym (due_own v)

        accepted : eqb (due x room s) 0 ≡ true → ReadSame t x room s v
        accepted e =
            let own = sym (due_own s) ∙ eqb-true (due x room s) 0 e in
            record { answer = λ _. rw (e, ← both_due, e) (l.answer own); sheet = rw (e, ← both_due, e) (l.after own) }

        refused : eqb (due x room s) 0 ≡ false → ReadSame t x room s v
        refused e = record { answer = λ _. rw (e, ← both_due, e); sheet = rw (e, ← both_due, e) same }

    look_read : LookAtOther t (body_of x) (tag_of x) → ReadSame t x room s v
    unfolding read_field
    look_read l =
        record {
          answer = λ ne. absurd (ne (look_form t x c w l));
          sheet = subst (λ (y : Sheet). HoldsSameAt t y (read_field x room v).sheet) (sym (stays s)) (subst (HoldsSameAt t s) (sym (stays v)) same);
        }
      where
        stays : (z : Sheet) → (read_field x room z).sheet ≡ z
        stays z = both (λ (y : Sheet). y ≡ z) (eqb (due x room z) 0) (l.leaves z) refl

  -- the tests of the header, one after the other
  pub read_same : (tag_of x ≤ 9) ⊎ (unknown_tag (tag_of x) ≡ true) → ReadSame t x room s v
  unfolding due
  read_same limit = room_test (either (ltb room answer_room))
    where
      limited : unknown_tag (tag_of x) ≡ false → tag_of x ≤ 9
      limited u = ⊎_elim (λ l. l) (λ e. absurd (false≢true (sym u ∙ e))) limit

      length_test : ltb room answer_room ≡ false → is_cut x ≡ false → unknown_tag (tag_of x) ≡ false →
          ((tag_at (tag_of x)).fits (length_in x) ≡ true) ⊎ ((tag_at (tag_of x)).fits (length_in x) ≡ false) → ReadSame t x room s v
      length_test r c u (inl w) = ⊎_elim (tag_read r c u w) (look_read r c u w) (by_station h g a same (body_of x) (tag_of x) (known_some (tag_of x) u) (limited u))
      length_test r c u (inr w) = header_refused 2 (lit< tt) (λ z. rw (r, c, u, w))

      tag_test : ltb room answer_room ≡ false → is_cut x ≡ false → (unknown_tag (tag_of x) ≡ true) ⊎ (unknown_tag (tag_of x) ≡ false) → ReadSame t x room s v
      tag_test r c (inl u) = header_refused 1 (lit< tt) (λ z. rw (r, c, u))
      tag_test r c (inr u) = length_test r c u (either ((tag_at (tag_of x)).fits (length_in x)))

      cut_test : ltb room answer_room ≡ false → (is_cut x ≡ true) ⊎ (is_cut x ≡ false) → ReadSame t x room s v
      cut_test r (inl c) = header_refused 3 (lit< tt) (λ z. rw (r, c))
      cut_test r (inr c) = tag_test r c (either (unknown_tag (tag_of x)))

      room_test : (ltb room answer_room ≡ true) ⊎ (ltb room answer_room ≡ false) → ReadSame t x room s v
      room_test (inl r) = header_refused 14 (lit< tt) (λ z. rw r)
      room_test (inr r) = cut_test r (either (is_cut x))
