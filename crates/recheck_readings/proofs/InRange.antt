-- That a sheet is in range has one proof at most, so a reader's sheet is.
use Rattle.std.specs.Prelude.{◌≡◌, ℕ, false, ◌⊎◌}
use Rattle.std.proofs.Common.{ap, inl, inr, subst, sym}
use Rattle.std.proofs.Math.Logic.{∥∥₁_elim}
use Rattle.std.proofs.Props.{props}
use Rattle.std.proofs.lemmas.Bool.{false≢true}
use Rattle.refusals.specs.Refusals.{capacity_outside}
use Rattle.sheet.specs.declared.Sheet.{Sheet}
use Rattle.sheet.specs.Range.{AllOrNone, InRange}
use Rattle.sheet.specs.Sheet.{fresh_sheet}
use Rattle.sheet.proofs.Kept.{fresh_kept}

⊎_prop : {A B : Type 0} → IsProp A → IsProp B → (A → B → ⊥) → IsProp (A ⊎ B)
⊎_prop a b d (inl x) (inl y) = ap inl (a x y)
⊎_prop a b d (inl x) (inr y) = absurd (d x y)
⊎_prop a b d (inr x) (inl y) = absurd (d y x)
⊎_prop a b d (inr x) (inr y) = ap inr (b x y)

zero_outside : (n : ℕ) → n ≡ 0 → capacity_outside n ≡ false → ⊥
zero_outside n p q = false≢true (sym (subst (λ k. capacity_outside k ≡ false) p q))

AllOrNone_prop : (n y z : ℕ) → IsProp (AllOrNone n y z)
AllOrNone_prop n y z = ⊎_prop (Prim.hlevel props) (Prim.hlevel props) (λ a b. zero_outside n a.0 b.0)

InRange_prop : (s : Sheet) → IsProp (InRange s)
InRange_prop s = Prim.hlevel (props, AllOrNone_prop)

-- what a reader keeps of its sheet, and what that is
pub held : (s : Sheet) → ∥ InRange s ∥₁ → InRange s
held s kept = ∥∥₁_elim kept (InRange_prop s) (λ r. r)

pub fresh_held : ∥ InRange fresh_sheet ∥₁
fresh_held = ∣ fresh_kept ∣₁
