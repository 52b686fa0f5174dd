-- Two's complement: the sign of a number as its bits have it, at every width, and a number as it is passed on.
-- Assumes nothing.
use Prim.Native.Nat.{ℕ, ◌^◌, ◌-◌, ◌≤◌, ◌<◌}
use mathlib.Core.Path.{◌≡◌, refl, sym, ◌∙◌}
use mathlib.Core.Bool.{true, false}
use mathlib.Core.Logic.{⊎_elim}
use native.Mathlib.Omega.{arith}
use borrow.Author.Tests.{le-ltb, ltb-true, ne_eqb}
use lib.Dec.{eqb}
use lib.IntN.{ℤ, pos, negsuc, nat_abs}
use lib.Signed.{lt_z}
use mir.Syntax.{Width}
use mir.Val.{to_z, of_z, bits, hbits, Fits, SFits}
use mir.ValLaws.{to_z-of_z, to_z-Fits, to_z_pos, of_z_fits, pow-bits}
use Rattle.wire.proofs.Cases.{lt_or_ge}

pub neg_bits : (w : Width) (b : ℕ) → lt_z (to_z w b) (pos 0) ≡ true → 2 ^ hbits w ≤ b
neg_bits w b h =
    ⊎_elim
    (λ (l : b < 2 ^ hbits w). absurd (let z : b < 0 = ltb-true b 0 (rw (to_z_pos w b l) at h) in omega arith))
    (λ (g : 2 ^ hbits w ≤ b). g)
    (lt_or_ge b (2 ^ hbits w))

pub nonneg_bits : (w : Width) (b : ℕ) → lt_z (to_z w b) (pos 0) ≡ false → b < 2 ^ hbits w
nonneg_bits w b h =
    ⊎_elim
    (λ (l : b < 2 ^ hbits w). l)
    (λ (g : 2 ^ hbits w ≤ b).
    let k : true ≡ false = rw (le-ltb b (2 ^ hbits w) g) at h in
    let z : ◌≡◌ {A = ℕ} 0 1 = cc in
    absurd (omega arith))
    (lt_or_ge b (2 ^ hbits w))

-- a signed number that a call made of bits, as it is passed on
pub read_back : (w : Width) (raw : ℕ) {x : ℤ} → Fits w raw → x ≡ to_z w raw → to_z w (of_z w x) ≡ to_z w raw
read_back w raw {x} h e = rw e (to_z-of_z w (to_z w raw) (to_z-Fits w raw h))

-- the complement of b
abbrev pub flipped : Width → ℕ → ℕ
flipped w b = 2 ^ bits w - 1 - b

-- The bits of a negative number are the upper half. Their complement is a number of its own, and its complement the bits.
pub record Negative (w : Width) (b : ℕ) : Type 0 where
  pub read : to_z w (flipped w b) ≡ pos (flipped w b)
  pub fits : flipped w b ≤ 2 ^ bits w - 1
  pub back : 2 ^ bits w - 1 - flipped w b ≡ b

module _ (w : Width) (z : ℤ) where
  pub negative : SFits w z → lt_z (to_z w (of_z w z)) (pos 0) ≡ true → Negative w (of_z w z)
  negative s h =
      let e = pow-bits w in
      let f : of_z w z < 2 ^ bits w = (of_z_fits w z s).fits in
      let g : 2 ^ hbits w ≤ of_z w z = neg_bits w (of_z w z) h in
      let l : flipped w (of_z w z) < 2 ^ hbits w = omega arith in
      record { read = to_z_pos w (flipped w (of_z w z)) l; fits = omega arith; back = omega arith }

  -- those of any other number are the number
  pub other : lt_z (to_z w (of_z w z)) (pos 0) ≡ false → to_z w (of_z w z) ≡ pos (of_z w z)
  other h = to_z_pos w (of_z w z) (nonneg_bits w (of_z w z) h)

-- the bits are 0 exactly where the number is
pub zero_bits : (w : Width) (z : ℤ) → SFits w z → eqb (of_z w z) 0 ≡ eqb (nat_abs z) 0
zero_bits w (pos n) s = refl
zero_bits w (negsuc n) s =
    let e = pow-bits w in
    let h : n < 2 ^ hbits w = s.sfits in
    ne_eqb (of_z w (negsuc n)) 0 (λ z. omega arith) ∙ sym (ne_eqb (nat_abs (negsuc n)) 0 (λ z. omega arith))
