-- Bytes that follow change nothing of the fields answered before them: all fields are answered as those answered now, and then those of
-- what is left with the bytes that follow, of which there are none after a 3.
-- Assumes nothing.
use Prim.Native.Nat.{ℕ, zero, suc, ◌+◌, ◌-◌, ◌<◌}
use mathlib.Core.Path.{◌≡◌, refl, sym, ◌∙◌, ap}
use mathlib.Core.List.{List, [], ◌∷◌, ◌++◌}
use mathlib.Core.Bool.{Bool, true, false, cond, ◌&&◌}
use native.Mathlib.Omega.{arith}
use lib.ListN.{length, drop, length-append}
use lib.Dec.{ltb, leb}
use lib.Seq.{drop-drop, drop-append-le}
use Rattle.sheet.specs.declared.Sheet.{Sheet}
use Rattle.sheet.specs.declared.Answer.{Answer}
use Rattle.headers.specs.Headers.{consumed_by, ready_of}
use Rattle.fields.specs.Field.{read_field}
use Rattle.answers.specs.Answers.{answer_bytes, last_of, answer_room}
use Rattle.fields.proofs.Consumed.{read_consumed}
use Rattle.headers.proofs.Whole.{consumed_within}
use Rattle.fields.proofs.Ready.{SameReading, ready_same}
use Rattle.fields.proofs.Last.{last_all}
use Rattle.lists.specs.Lists.{fields_from, fields_of, span_of, sheet_after, answers_to}
use Rattle.lists.proofs.Left.{first_field, only_field}
use Rattle.stream.specs.Answering.{is_next, answered_of, any_last}
use Rattle.stream.proofs.Fields.{and_parts}

-- two lists of fields have the same answers on a sheet, and lead to the same sheet
pub record Alike (s : Sheet) (fs gs : List (List ℕ)) : Type 0 where
  pub answers : answers_to fs s ≡ answers_to gs s
  pub sheet : sheet_after fs s ≡ sheet_after gs s

alike_first : (f f' : List ℕ) (fs gs : List (List ℕ)) (s : Sheet) → SameReading (read_field f answer_room s) (read_field f' answer_room s) →
    Alike (read_field f answer_room s).sheet fs gs → Alike s (f' ∷ fs) (f ∷ gs)
unfolding answers_to sheet_after
alike_first f f' fs gs s y x = record {
  answers = rw (y.answer, y.sheet) (ap (λ (as₁ : List Answer). (read_field f answer_room s).answer ∷ as₁) x.answers);
  sheet = rw y.sheet x.sheet;
}

-- what is left to answer after the fields fs of the bytes w, where t follow
abbrev pub left_of : List ℕ → List ℕ → Sheet → List (List ℕ) → List (List ℕ)
left_of t w s fs = cond (any_last (answers_to fs s)) [] (fields_of (drop (span_of fs) w ++ t))

abbrev pub Split : List ℕ → List ℕ → Sheet → List (List ℕ) → Type 0
Split t w s fs = Alike s (fields_of (w ++ t)) (fs ++ left_of t w s fs)

split_none : (t w : List ℕ) (s : Sheet) → Split t w s []
unfolding answers_to sheet_after span_of any_last
split_none t w s = record { answers = refl; sheet = refl }

module _ (t w : List ℕ) (s : Sheet) (fs : List (List ℕ)) (g : 0 < length w) where
  abbrev after : List ℕ
  after = drop (consumed_by w) w

  some : 0 < length (w ++ t)
  some = let n = length-append w t in omega arith

  split_last : ready_of w ≡ true → last_of (read_field w answer_room s).answer ≡ true → Split t w s (w ∷ [])
  unfolding answers_to any_last
  split_last r l =
      let e : fields_of (w ++ t) ≡ (w ++ t) ∷ [] = only_field (w ++ t) some (last_all w t s r l) in
      rw (e, l) (alike_first w (w ++ t) [] [] s (ready_same w t answer_room s r) (record { answers = refl; sheet = refl }))

  split_one : ready_of w ≡ true → last_of (read_field w answer_room s).answer ≡ false → Split t after (read_field w answer_room s).sheet fs → Split t w s (w ∷ fs)
  unfolding answers_to span_of any_last
  split_one r l x =
      let y = ready_same w t answer_room s r in
      let c : consumed_by (w ++ t) ≡ consumed_by w = sym (read_consumed (w ++ t) s) ∙ (y.consumed l ∙ read_consumed w s) in
      let k : drop (consumed_by (w ++ t)) (w ++ t) ≡ after ++ t =
      ap (λ (i : ℕ). drop i (w ++ t)) c ∙ drop-append-le (consumed_by w) w t (consumed_within w) in
      let e : fields_of (w ++ t) ≡ (w ++ t) ∷ fields_of (after ++ t) =
      first_field (w ++ t) some ∙ ap (λ (z : List ℕ). (w ++ t) ∷ fields_of z) k in
      let d : drop (span_of fs) after ≡ drop (consumed_by w + span_of fs) w = drop-drop (span_of fs) (consumed_by w) w in
      rw (e, l, ← d) (alike_first w (w ++ t) (fields_of (after ++ t)) (fs ++ left_of t after (read_field w answer_room s).sheet fs) s y x)

  by_tests : (i k : Bool) → (i ≡ true → ready_of w ≡ true) → k ≡ last_of (read_field w answer_room s).answer → Split t after (read_field w answer_room s).sheet fs →
      Split t w s (cond i (w ∷ cond k [] fs) [])
  by_tests false k r e x = split_none t w s
  by_tests true true r e x = split_last (r refl) (sym e)
  by_tests true false r e x = split_one (r refl) (sym e) x

is_ready_lem : (room : ℕ) (w : List ℕ) → is_next false room w ≡ true → ready_of w ≡ true
unfolding is_next
is_ready_lem room w e = (and_parts (ltb 0 (length w)) (ready_of w) (and_parts (ltb 0 (length w) && ready_of w) (leb answer_room room) e).0).1

-- what is answered before the end of input
pub split_now : (t : List ℕ) (n room : ℕ) (w : List ℕ) (s : Sheet) → Split t w s (answered_of false room (fields_from n w) s)
unfolding fields_from answered_of
split_now t zero room w s = split_none t w s
split_now t (suc n) room [] s = split_none t [] s
split_now t (suc n) room (b ∷ bs) s =
    let w : List ℕ = b ∷ bs in
    let a = read_field w answer_room s in
    let left = room - length (answer_bytes a.answer) in
    let v = drop (consumed_by w) w in
    by_tests t w s (answered_of false left (fields_from n v) a.sheet) (omega arith) (is_next false room w) (last_of a.answer) (is_ready_lem room w) refl
    (split_now t n left v a.sheet)
