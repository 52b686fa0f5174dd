-- The factor that the sheet holds is the one in force, so the demands speak of it.
-- Assumes nothing.
use Prim.Native.Nat.{ℕ}
use mathlib.Core.Path.{◌≡◌, refl, ap, ◌∙◌, subst}
use mathlib.Core.Bool.{Bool, true, false, cond}
use mathlib.Core.List.{List, [], ◌∷◌, map}
use mathlib.Core.Logic.{⊎_elim}
use lib.Dec.{eqb}
use borrow.Author.Tests.{eqb-true}
use Rattle.wire.specs.Bytes.{word_at}
use Rattle.sheet.specs.declared.Sheet.{Sheet}
use Rattle.sheet.specs.Sheet.{fresh_sheet, fresh, with_kind, with_effects, with_capacities, with_settings, with_straining}
use Rattle.tags.specs.Tags.{tag_at, unknown_tag}
use Rattle.tags.proofs.Laws.{by_number, known}
use Rattle.headers.specs.Headers.{tag_of, body_of, name_number}
use Rattle.fields.specs.Field.{due, read_field}
use Rattle.demands.specs.Readings.{Given, sheet_from, given, worked_out}
use Rattle.demands.specs.Demands.{ExtremesAnswered, UtilisationAnswered}
use Rattle.demands.proofs.Due.{none_own}
use Rattle.demands.proofs.Demands.{demands}
use Rattle.straining.specs.InForce.{accepted_on, factor_by, in_force_from, in_force, FactorInForce, EarlierFactorForgotten}

-- the factor that a sheet holds
abbrev factor_on : Sheet → ℕ
factor_on s = s.settings.straining

-- what each tag of the table makes of it
by_tag : (s : Sheet) (b : List ℕ) (tag : ℕ) → unknown_tag tag ≡ false → factor_on ((tag_at tag).after s b) ≡ cond (eqb tag 1) 1000 (cond (eqb tag 9) (word_at b 0) (factor_on s))
unfolding fresh with_kind with_effects with_capacities with_settings
by_tag s b tag e =
    ⊎_elim (λ (n : tag ≡ name_number). rw n)
    (λ k. by_number (λ n. factor_on ((tag_at n).after s b) ≡ cond (eqb n 1) 1000 (cond (eqb n 9) (word_at b 0) (factor_on s))) refl refl refl refl refl refl refl refl refl tag k.0 k.1)
    (known tag e)

after_reading : (s : Sheet) (g : Given) → factor_on (read_field g.input g.room s).sheet ≡ cond (accepted_on s g) (factor_by g.input (factor_on s)) (factor_on s)
unfolding read_field
after_reading s g = go (accepted_on s g) refl
  where
    go : (t : Bool) → accepted_on s g ≡ t → factor_on (cond t ((tag_at (tag_of g.input)).after s (body_of g.input)) s) ≡ cond t (factor_by g.input (factor_on s)) (factor_on s)
    go true e = by_tag s (body_of g.input) (tag_of g.input) (none_own g.input g.room s (eqb-true (due g.input g.room s) 0 e)).0
    go false e = refl

-- the factor held is the one in force
held_in_force : (s : Sheet) (gs : List Given) → factor_on (sheet_from s gs) ≡ in_force_from s (factor_on s) gs
unfolding sheet_from in_force_from
held_in_force s [] = refl
held_in_force s (g ∷ gs) =
    let s' : Sheet = (read_field g.input g.room s).sheet in
    held_in_force s' gs ∙ ap (λ (f : ℕ). in_force_from s' f gs) (after_reading s g)

unchanged : (w : Sheet) (factor : ℕ) → factor_on w ≡ factor → w ≡ with_straining w factor
unfolding with_settings
unchanged w factor e = rw (← e)

fresh_factor : factor_on fresh_sheet ≡ 1000
unfolding fresh
fresh_factor = refl

pub factor_in_force : FactorInForce
factor_in_force ms s r =
    let d = (demands ms s r).2 in
    let is : worked_out ms ≡ with_straining (worked_out ms) (in_force ms) =
    unchanged (worked_out ms) (in_force ms) (held_in_force fresh_sheet (map given ms) ∙ ap (λ (f : ℕ). in_force_from fresh_sheet f (map given ms)) fresh_factor) in
    record {
      extremes = λ t j a b m rest room look read. subst (λ (w : Sheet). ExtremesAnswered w t j m) is (d.extremes t j a b m rest room look read);
      utilisation = λ t a c m rest room look read. subst (λ (w : Sheet). UtilisationAnswered w t m) is (d.utilisation t a c m rest room look read);
    }

-- the refusal of tag 09 goes by the method alone
same_due : (input : List ℕ) (room : ℕ) (s : Sheet) (earlier : ℕ) → tag_of input ≡ 9 → due input room (with_straining s earlier) ≡ due input room s
unfolding due with_settings
same_due input room s earlier nine = rw nine

pub earlier_factor_forgotten : EarlierFactorForgotten
unfolding read_field with_settings
earlier_factor_forgotten s g earlier nine none = rw (nine, same_due g.input g.room s earlier nine, none)
