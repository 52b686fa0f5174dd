-- A reading by the order of the reader is the reading by the table of tags.
-- Assumes nothing.
use Prim.Native.Nat.{ℕ, ◌+◌, ◌-◌, ◌≤◌}
use native.Mathlib.Omega.{arith}
use mathlib.Core.Path.{◌≡◌, refl, sym, ap, ◌∙◌}
use mathlib.Core.List.{List, [], ◌∷◌}
use mathlib.Core.Logic.{⊎_elim}
use mathlib.Core.Bool.{Bool, true, false, cond, not, ◌||◌}
use borrow.Author.Tests.{eqb-false, ltb-false}
use lib.Dec.{eqb, ltb}
use lib.ListN.{length, get_or, length-take, length-drop}
use Rattle.integers.proofs.Tests.{neither}
use Rattle.wire.proofs.Cases.{either}
use Rattle.standard.proofs.Table.{tabulate, same_at}
use Rattle.refusals.specs.Refusals.{on, first_due}
use Rattle.sheet.specs.declared.Sheet.{Sheet}
use Rattle.sheet.specs.declared.Answer.{Answer}
use Rattle.sheet.specs.Looks.{unless_due}
use Rattle.std.specs.Prelude.{Some, None}
use Rattle.headers.specs.Headers.{tag_of, length_in, body_of, is_cut, header, header_of, length_of, last_tag, name_number, name_length, due_header}
use Rattle.headers.proofs.Whole.{header_fits, by_header}
use Rattle.answers.specs.Answers.{answer_room, answer_bytes}
use Rattle.fields.specs.declared.Reading.{Reading}
use Rattle.tags.specs.Tags.{exactly, unknown_tag, straining_tag, tags, tag_at}
use Rattle.tags.specs.Run.{run_of}
use Rattle.fields.specs.Field.{due, read_field}
use Rattle.fields.specs.Order.{field_of, reading, refused_with, read_header, read_in_order}

-- ---- the header's refusals
-- the lengths of the tags 01 to 09 are those of the table
sizes : tabulate (λ tag. exactly (length_of tag)) 1 last_tag ≡ tabulate (λ tag. (get_or tags (tag - 1) straining_tag).fits) 1 last_tag
unfolding length_of
sizes = refl

by_tag : (u v l l' : Bool) → ((u || v) ≡ false → l ≡ l') → ◌≡◌ {A = ℕ} (cond u 1 (cond v 1 (cond l 0 2))) (cond (u || v) 1 (cond (not l') 2 0))
by_tag true v l l' h = refl
by_tag false true l l' h = refl
by_tag false false true true h = refl
by_tag false false false false h = refl
by_tag false false true false h = absurd (let z : ◌≡◌ {A = ℕ} 0 1 = cc (h refl) in omega arith)
by_tag false false false true h = absurd (let z : ◌≡◌ {A = ℕ} 0 1 = cc (h refl) in omega arith)

header_is : (tag len : ℕ) → due_header tag len ≡ first_due (on (unknown_tag tag) 1 ∷ on (not ((tag_at tag).fits len)) 2 ∷ [])
unfolding due_header
header_is tag len =
    ⊎_elim
    (λ e. rw e (by_tag false false (name_length len) (name_length len) (λ _. refl)))
    (λ e. rw e (by_tag (eqb tag 0) (ltb last_tag tag) (eqb len (length_of tag)) ((get_or tags (tag - 1) straining_tag).fits len) listed))
    (either (eqb tag name_number))
  where
    listed : (eqb tag 0 || ltb last_tag tag) ≡ false → eqb len (length_of tag) ≡ (get_or tags (tag - 1) straining_tag).fits len
    listed n =
        let k = neither (eqb tag 0) (ltb last_tag tag) n in
        ap (λ (f : ℕ → Bool). f len)
        (same_at (λ t. exactly (length_of t)) (λ t. (get_or tags (t - 1) straining_tag).fits) 1 last_tag tag sizes
        (omega (arith, eqb-false tag 0 k.0)) (omega (arith, ltb-false last_tag tag k.1)))

no_test : (u v : Bool) → ◌≡◌ {A = ℕ} (cond u 1 (cond v 2 0)) 0 → u ≡ false
no_test true v e = absurd (let z : ◌≡◌ {A = ℕ} 1 0 = e in omega arith)
no_test false v e = refl

pub known_tag : (tag len : ℕ) → due_header tag len ≡ 0 → unknown_tag tag ≡ false
known_tag tag len e = no_test (unknown_tag tag) (not ((tag_at tag).fits len)) (sym (header_is tag len) ∙ e)

-- 1 and 2 come before the refusals of the tag
by_header_refusals : (u v : Bool) (n : ℕ) (a : Answer) (s s' : Sheet) (k : ℕ) →
    ◌≡◌ {A = Reading} (record {
      answer = unless_due (cond u 1 (cond v 2 n)) a;
      sheet = cond (eqb (cond u 1 (cond v 2 n)) 0) s' s;
      consumed = k;
      written = length (answer_bytes (unless_due (cond u 1 (cond v 2 n)) a));
    })
    (reading k
    (cond (eqb (cond u 1 (cond v 2 0)) 0) (record { answer = unless_due n a; sheet = cond (eqb n 0) s' s }) (refused_with (cond u 1 (cond v 2 0)) s)))
by_header_refusals true v n a s s' k = refl
by_header_refusals false true n a s s' k = refl
by_header_refusals false false n a s s' k = refl

module _ (input : List ℕ) (room : ℕ) (s : Sheet) where
  -- under the room that a field asks for
  full : ltb room answer_room ≡ true → read_field input room s ≡ read_in_order input room s
  unfolding read_field read_in_order due
  full r = rw r

  -- a field that is cut
  short : ltb room answer_room ≡ false → is_cut input ≡ true → header_of input ≡ None → read_field input room s ≡ read_in_order input room s
  unfolding read_field read_in_order due read_header
  short r k h = rw (r, k, h)

  -- a whole field
  body_long : header_of input ≡ Some (header (tag_of input) (length_in input)) → length (body_of input) ≡ length_in input
  body_long h =
      let f : 3 + length_in input ≤ length input = header_fits input (header (tag_of input) (length_in input)) refl h in
      simp (length-take, length-drop) (omega arith)

  whole : ltb room answer_room ≡ false → is_cut input ≡ false → header_of input ≡ Some (header (tag_of input) (length_in input)) → read_field input room s ≡ read_in_order input room s
  unfolding read_field read_in_order due read_header field_of run_of
  whole r k h =
      let b = body_of input in
      let g = tag_at (tag_of input) in
      rw (r, k, h, body_long h, header_is (tag_of input) (length_in input))
      (by_header_refusals (unknown_tag (tag_of input)) (not (g.fits (length_in input))) (first_due (g.refusals s b)) (g.answer s b) s (g.after s b) (3 + length_in input))

  pub read_is : read_field input room s ≡ read_in_order input room s
  read_is =
      ⊎_elim full (λ r. ⊎_elim (λ c. short r c.0 c.1) (λ c. whole r c.0 c.1) (by_header input)) (either (ltb room answer_room))
