-- Terms that are in range on any two sides are so with both signs, and not the other way round: with both signs they are those of a side
-- and the other.
-- Assumes nothing.
use Prim.Native.Nat.{ℕ, zero, suc, ◌+◌, ◌*◌, ◌<◌, ◌≤◌}
use native.Mathlib.Omega.{arith}
use mathlib.Core.Bool.{Bool, true, false, cond, ◌||◌}
use mathlib.Core.Path.{◌≡◌, refl}
use lib.Dec.{eqb}
use Rattle.standard.specs.Combination.{case_count}
use Rattle.standard.specs.Kinds.{kind_count}
use Rattle.envelope.specs.declared.Sign.{Sign}
use Rattle.envelope.specs.declared.Sign.TheVariants.{Plus, Minus}
use Rattle.envelope.specs.Range.{effect_most}
use Rattle.envelope.specs.Signs.{over, under}
use Rattle.sums.specs.Sums.{sum_most}
use Rattle.terms.specs.Value.{terms_by, terms_between, terms_of, TermsInRange}
use Rattle.terms.proofs.Exchange.{with_sign}
use Rattle.governing.specs.Ways.{Ready, ReadyBetween}

pub ready_of : {held : ℕ → ℕ → ℕ} → ReadyBetween held → Ready held
ready_of {held} h = record { held_range = h.held_range; terms_range = with_sign held h.terms_range }

-- both signs: a side and the other
pub sides_apart : (sign : Sign) → over sign + under sign ≡ 1
sides_apart Plus = refl
sides_apart Minus = refl

pub in_range_apart : {held : ℕ → ℕ → ℕ} → Ready held → (above below : ℕ) → above + below ≡ 1 → TermsInRange (terms_between held above below)
in_range_apart h zero zero e = absurd (omega arith)
in_range_apart h zero (suc zero) e = h.terms_range Plus
in_range_apart h zero (suc (suc below)) e = absurd (omega arith)
in_range_apart h (suc zero) zero e = h.terms_range Minus
in_range_apart h (suc zero) (suc below) e = absurd (omega arith)
in_range_apart h (suc (suc above)) below e = absurd (omega arith)

-- of Hp and of Hv all that may be held above zero, and nothing else
abbrev pub earth_above : ℕ → ℕ → ℕ
earth_above j zero = cond (eqb j 3 || eqb j 4) (case_count * effect_most) 0
earth_above j (suc t) = 0

pub ready_with_signs : Ready earth_above
unfolding terms_by
ready_with_signs = record { held_range = held; terms_range = terms }
  where
    held : (j t : ℕ) → 0 < j → j < kind_count → t < 2 → earth_above j t ≤ sum_most
    held j zero p l m = bounded (eqb j 3 || eqb j 4)
      where
        bounded : (b : Bool) → cond b (case_count * effect_most) 0 ≤ sum_most
        bounded true = omega arith
        bounded false = omega arith
    held j (suc t) p l m = omega arith

    terms : (sign : Sign) → TermsInRange (terms_of earth_above sign)
    terms Plus = record { small = omega arith; roof_up = refl; snow_up = refl }
    terms Minus = record { small = omega arith; roof_up = refl; snow_up = refl }

pub not_between : ReadyBetween earth_above → ⊥
unfolding terms_by
not_between h = let l = (h.terms_range 0 0 (omega arith) (omega arith)).small in omega arith
