-- A setting in range has one of two methods.
use Rattle.std.proofs.Common.{ℕ, zero, suc, false, ◌≡◌, refl, sym, arith, eqb, ltb}
use mathlib.Core.Bool.{false≢true}
use borrow.Author.Tests.{ltb-false}
use Rattle.integers.proofs.Tests.{neither}
use Rattle.standard.specs.Range.{method_outside}
use Rattle.governing.proofs.Look.governing.Goals as goal

-- there are two methods
second : (method : ℕ) → method_outside method ≡ false → (method ≡ 1 → ⊥) → method ≡ 2
second zero e n = absurd (false≢true (sym e))
second (suc zero) e n = absurd (n refl)
second (suc (suc zero)) e n = refl
second (suc (suc (suc m))) e n = absurd (omega (arith, ltb-false 2 (suc (suc (suc m))) (neither (eqb (suc (suc (suc m))) 0) (ltb 2 (suc (suc (suc m)))) e).1))

pub allowable-requires : goal.allowable-requires
allowable-requires c = second c.args.self.rows.settings.method c.args.self.rows.in_range.method c.if-self-eq1.false
