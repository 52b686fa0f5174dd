-- The service makes the same sheet of a file and of the file without fields of tag 60, with the same answers to the other fields.
-- Assumes nothing.
use Prim.Native.Nat.{ℕ, zero, suc, ◌-◌, ◌≤◌, ◌<◌}
use mathlib.Core.Path.{◌≡◌, refl, sym, ◌∙◌, ap}
use mathlib.Core.Bool.{Bool, true, false, cond, not, ◌&&◌}
use mathlib.Core.List.{List, [], ◌∷◌, ◌++◌}
use mathlib.Core.Logic.{⊎_elim}
use native.Mathlib.Omega.{arith}
use lib.ListN.{length, drop, length-drop, length-append}
use Rattle.wire.proofs.Cases.{either}
use Rattle.headers.specs.Headers.{is_cut, consumed_by, field_in}
use Rattle.headers.proofs.Whole.{cut_header, whole_long, consumed_some}
use Rattle.sheet.specs.declared.Sheet.{Sheet}
use Rattle.sheet.specs.declared.Answer.{Answer}
use Rattle.fields.specs.Field.{read_field}
use Rattle.fields.proofs.Alone.{same_field, field_long, field_front, rest_front}
use Rattle.answers.specs.Answers.{answer_room}
use Rattle.lists.specs.Lists.{fields_from, fields_of, sheet_after, answers_to}
use Rattle.lists.proofs.Left.{first_field, only_field}
use Rattle.one_file.specs.OneFile.{PicksNames, without_from, other_answers, SameWithout}
use Rattle.one_file.proofs.Unchanged.{name_unchanged}

-- after a whole field fewer bytes are left
pub rest_shorter : (w : List ℕ) (n : ℕ) → is_cut w ≡ false → length w ≤ suc n → length (drop (consumed_by w) w) ≤ n
rest_shorter w n c h =
    let some : 0 < consumed_by w = consumed_some w (omega (arith, whole_long w c)) in
    let l : length (drop (consumed_by w) w) ≡ length w - consumed_by w = length-drop (consumed_by w) w in
    omega arith

module _ (picks : List ℕ → Bool) (only : PicksNames picks) where
  -- v has the sheet and the answers of w without what is picked
  record Same (v w : List ℕ) (s : Sheet) : Type 0 where
    sheet : sheet_after (fields_of v) s ≡ sheet_after (fields_of w) s
    answers : answers_to (fields_of v) s ≡ other_answers picks (fields_of w) s

  no_bytes : (s : Sheet) → Same [] [] s
  unfolding other_answers answers_to fields_from
  no_bytes s = record { sheet = refl; answers = refl }

  -- what is cut stays
  cut_same : (w : List ℕ) (s : Sheet) → is_cut w ≡ true → Same w w s
  unfolding other_answers answers_to
  cut_same [] s c = no_bytes s
  cut_same (b ∷ bs) s c =
      let w : List ℕ = b ∷ bs in
      let all : consumed_by w ≡ length w = rw (cut_header w c) in
      let f : fields_of w ≡ w ∷ [] = only_field w (omega arith) all in
      record { sheet = refl; answers = rw (f, c) }

  module _ (w : List ℕ) (s : Sheet) (c : is_cut w ≡ false) where
    abbrev rest : List ℕ
    rest = drop (consumed_by w) w

    abbrev after : Sheet
    after = (read_field w answer_room s).sheet

    fields_of_lem : fields_of w ≡ w ∷ fields_of rest
    fields_of_lem = first_field w (omega (arith, whole_long w c))

    sheet_of : sheet_after (fields_of w) s ≡ sheet_after (fields_of rest) after
    unfolding sheet_after
    sheet_of = ap (λ (fs : List (List ℕ)). sheet_after fs s) fields_of_lem

    answers_of : other_answers picks (fields_of w) s ≡ cond (not (is_cut w) && picks w) [] ((read_field w answer_room s).answer ∷ []) ++ other_answers picks (fields_of rest) after
    unfolding other_answers
    answers_of = ap (λ (fs : List (List ℕ)). other_answers picks fs s) fields_of_lem

    -- a field that is left out makes no difference to the sheet
    left_out : (v : List ℕ) → picks w ≡ true → Same v rest s → Same v w s
    left_out v p h =
        let u : after ≡ s = name_unchanged w answer_room s (only w p) in
        record {
          sheet = h.sheet ∙ sym (sheet_of ∙ ap (λ (z : Sheet). sheet_after (fields_of rest) z) u);
          answers = h.answers ∙ sym (answers_of ∙ rw (c, p) (ap (λ (z : Sheet). other_answers picks (fields_of rest) z) u));
        }

    -- one that stays is read as it was
    stays : (v : List ℕ) → picks w ≡ false → Same v rest after → Same (field_in w ++ v) w s
    unfolding sheet_after answers_to
    stays v p h =
        let x : List ℕ = field_in w ++ v in
        let r = same_field answer_room s x w (field_front w c v) in
        let some : 0 < length x = rw (length-append (field_in w) v, field_long w c) (omega arith) in
        let f : fields_of x ≡ x ∷ fields_of v = first_field x some ∙ ap (λ (y : List ℕ). x ∷ fields_of y) (rest_front w c v) in
        record {
          sheet = ap (λ (fs : List (List ℕ)). sheet_after fs s) f ∙ (ap (λ (z : Sheet). sheet_after (fields_of v) z) r.sheet ∙ (h.sheet ∙ sym sheet_of));
          answers = ap (λ (fs : List (List ℕ)). answers_to fs s) f ∙ ((λ i. r.answer i ∷ answers_to (fields_of v) (r.sheet i))
              ∙ (ap (λ (later : List Answer). (read_field w answer_room s).answer ∷ later) h.answers ∙ sym (answers_of ∙ rw (c, p))));
        }

    whole_same : (n : ℕ) (t : Bool) → picks w ≡ t → ((z : Sheet) → Same (without_from picks n rest) rest z) →
        Same (cond t [] (field_in w) ++ without_from picks n rest) w s
    whole_same n true p h = left_out (without_from picks n rest) p (h s)
    whole_same n false p h = stays (without_from picks n rest) p (h after)

  without_same : (n : ℕ) (w : List ℕ) (s : Sheet) → length w ≤ n → Same (without_from picks n w) w s
  unfolding without_from
  without_same zero [] s h = no_bytes s
  without_same zero (b ∷ bs) s h = absurd (omega arith)
  without_same (suc n) w s h =
      ⊎_elim (λ c. rw c (cut_same w s c))
      (λ c. rw c (whole_same w s c n (picks w) refl (λ z. without_same n (drop (consumed_by w) w) z (rest_shorter w n c h)))) (either (is_cut w))

  pub same_without : (file : List ℕ) (s : Sheet) → SameWithout picks file s
  same_without file s =
      let h = without_same (length file) file s (omega arith) in
      record { sheet = h.sheet; answers = h.answers }
