-- A list of fields after another is read on the sheet after it. Every list keeps the sheet in range, and 37 bytes a field are room
-- for the answers.
-- Assumes nothing.
use Prim.Native.Nat.{ℕ, ◌+◌, ◌*◌, ◌≤◌}
use mathlib.Core.Path.{◌≡◌, refl, sym, ◌∙◌, ap}
use mathlib.Core.List.{List, [], ◌∷◌, ◌++◌, append_assoc}
use native.Mathlib.Nat.{mul-suc}
use native.Mathlib.Omega.{arith}
use lib.ListN.{length, length-append}
use Rattle.sheet.specs.declared.Sheet.{Sheet}
use Rattle.sheet.specs.declared.Answer.{Answer}
use Rattle.sheet.specs.Range.{InRange}
use Rattle.fields.specs.Field.{read_field}
use Rattle.answers.specs.Answers.{answer_bytes, answer_room}
use Rattle.fields.proofs.Kept.{read_kept}
use Rattle.answers.proofs.Room.{answer_fits}
use Rattle.lists.specs.Lists.{span_of, sheet_after, answers_to, bytes_of}

pub sheet_join : (fs gs : List (List ℕ)) (s : Sheet) → sheet_after (fs ++ gs) s ≡ sheet_after gs (sheet_after fs s)
unfolding sheet_after
sheet_join [] gs s = refl
sheet_join (f ∷ fs) gs s = sheet_join fs gs (read_field f answer_room s).sheet

pub answers_join : (fs gs : List (List ℕ)) (s : Sheet) → answers_to (fs ++ gs) s ≡ answers_to fs s ++ answers_to gs (sheet_after fs s)
unfolding sheet_after answers_to
answers_join [] gs s = refl
answers_join (f ∷ fs) gs s = ap (λ (xs : List Answer). (read_field f answer_room s).answer ∷ xs) (answers_join fs gs (read_field f answer_room s).sheet)

pub bytes_join : (xs ys : List Answer) → bytes_of (xs ++ ys) ≡ bytes_of xs ++ bytes_of ys
unfolding bytes_of
bytes_join [] ys = refl
bytes_join (a ∷ xs) ys = ap (λ (w : List ℕ). answer_bytes a ++ w) (bytes_join xs ys) ∙ sym (append_assoc (answer_bytes a) (bytes_of xs) (bytes_of ys))

pub span_join : (fs gs : List (List ℕ)) → span_of (fs ++ gs) ≡ span_of fs + span_of gs
unfolding span_of
span_join [] gs = omega arith
span_join (f ∷ fs) gs = let e = span_join fs gs in omega arith

pub kept_after : (fs : List (List ℕ)) (s : Sheet) → InRange s → InRange (sheet_after fs s)
unfolding sheet_after
kept_after [] s h = h
kept_after (f ∷ fs) s h = kept_after fs (read_field f answer_room s).sheet (read_kept f answer_room s h)

-- 37 bytes a field are room for the answers
pub answers_long : (fs : List (List ℕ)) (s : Sheet) → length (bytes_of (answers_to fs s)) ≤ answer_room * length fs
unfolding answers_to bytes_of
answers_long [] s = omega arith
answers_long (f ∷ fs) s =
    let a = (read_field f answer_room s).answer in
    let h = answers_long fs (read_field f answer_room s).sheet in
    let g = answer_fits a in
    let e = mul-suc answer_room (length fs) in
    rw length-append (omega arith)
