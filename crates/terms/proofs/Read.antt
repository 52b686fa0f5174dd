-- What the machine reads back of what a call gave, and the sides of a sign.
-- Assumes nothing.
use Prim.Native.Nat.{◌<◌, ◌^◌}
use native.Mathlib.Omega.{arith}
use mathlib.Core.Path.{◌≡◌, refl, ◌∙◌, ap}
use lib.IntN.{ℤ, pos, negsuc}
use lib.Signed.{mag}
use mir.Syntax.{w64}
use mir.Val.{to_z, of_z}
use Rattle.std.specs.Int.{int_max}
use Rattle.integers.specs.Sums.{up}
use Rattle.integers.proofs.Machine.{read}
use Rattle.envelope.specs.declared.Sign.{Sign}
use Rattle.envelope.specs.declared.Sign.TheVariants.{Plus, Minus}
use Rattle.envelope.specs.Signs.{over}
use Rattle.sums.proofs.Held.{greatest}

-- a call's number, as the machine reads it back
pub back : {r z : ℤ} → mag r < 2 ^ 63 → r ≡ z → to_z w64 (of_z w64 r) ≡ z
back {r} h e = read r h ∙ e

-- no less than zero
pub above_zero : (z : ℤ) → int_max z (pos 0) ≡ pos (up z)
above_zero (pos n) = greatest (pos n) (pos 0) refl ∙ ap pos (omega arith)
above_zero (negsuc n) = refl

-- a sign has one of two sides
pub side : (sign : Sign) → over sign < 2
side Plus = omega arith
side Minus = omega arith
