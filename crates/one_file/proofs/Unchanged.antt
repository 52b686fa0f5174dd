-- A reading of tag 60 leaves the sheet, so readings of it may be left out of a list.
-- Assumes nothing.
use Prim.Native.Nat.{ℕ}
use mathlib.Core.Path.{◌≡◌, refl, sym, ◌∙◌, ap, subst}
use mathlib.Core.Bool.{Bool, true, false, cond}
use mathlib.Core.List.{List, [], ◌∷◌}
use lib.ListN.{length}
use lib.Dec.{eqb}
use Rattle.wire.proofs.Cases.{both}
use Rattle.headers.specs.Headers.{tag_of, name_number}
use Rattle.sheet.specs.declared.Sheet.{Sheet}
use Rattle.fields.specs.declared.Reading.{Reading}
use Rattle.fields.specs.Field.{due, read_field}
use Rattle.demands.specs.Readings.{Made, ReadOn, Readings, none, next}
use Rattle.demands.proofs.Readings.{works_out}
use Rattle.one_file.specs.OneFile.{PicksNames, others, NamesLeftOut}

pub name_unchanged : (input : List ℕ) (room : ℕ) (s : Sheet) → tag_of input ≡ name_number → (read_field input room s).sheet ≡ s
unfolding read_field
name_unchanged input room s e = rw e (both (λ (x : Sheet). x ≡ s) (eqb (due input room s) 0) refl refl)

module _ (picks : List ℕ → Bool) (only : PicksNames picks) where
  -- a reading that is left out
  left_out : (m : Made) (s : Sheet) → ReadOn s m → picks m.input ≡ true → m.result.sheet ≡ s
  left_out m s r e = ap (λ (x : Reading). x.sheet) r.reading ∙ name_unchanged m.input (length m.out) s (only m.input e)

  one_more : (m : Made) (ms : List Made) (s s' : Sheet) (t : Bool) → picks m.input ≡ t → ReadOn s m → Readings m.result.sheet (others picks ms) s' →
      Readings s (cond t (others picks ms) (m ∷ others picks ms)) s'
  one_more m ms s s' true e r more = subst (λ (x : Sheet). Readings x (others picks ms) s') (left_out m s r e) more
  one_more m ms s s' false e r more = next r more

  remain : (ms : List Made) (s s' : Sheet) → Readings s ms s' → Readings s (others picks ms) s'
  unfolding others
  remain [] s s' none = none
  remain (m ∷ ms) s s' (next r more) = one_more m ms s s' (picks m.input) refl r (remain ms m.result.sheet s' more)

pub names_left_out : NamesLeftOut
names_left_out picks only ms s r =
    let others_read = remain picks only ms _ s r in
    (others_read, sym (works_out others_read) ∙ works_out r)
