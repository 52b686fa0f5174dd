-- The three weighed numbers, with the four pairs of signs.
use Prim.Native.Nat.{◌≤◌}
use native.Mathlib.Omega.{arith}
use native.Mathlib.Nat.{mul-le-mul}
use mathlib.Core.Path.{◌≡◌, ◌∙◌}
use lib.IntN.{ℤ, ◌*ℤ◌, nat_abs}
use mir.Syntax.{w64}
use mir.Val.{to_z, of_z}
use Rattle.integers.proofs.Machine.{back}
use Rattle.integers.proofs.Signs.{abs_mul}
use Rattle.envelope.specs.Range.{total_most, weight_most}
use Rattle.directions.specs.Four.{directions_of}
use Rattle.directions.proofs.reading.FourDirections.of.Goals as goal

-- a number in range at a weight in range
weighed : (w x : ℤ) → nat_abs w ≤ weight_most → nat_abs x ≤ total_most → to_z w64 (of_z w64 (to_z w64 (of_z w64 w) *ℤ to_z w64 (of_z w64 x))) ≡ w *ℤ x
weighed w x p q =
    (λ i. to_z w64 (of_z w64 (back w (omega arith) i *ℤ back x (omega arith) i))) ∙ back (w *ℤ x) (omega (arith, abs_mul w x, mul-le-mul p q))

pub four_signs-requires : goal.four_signs-requires
four_signs-requires c =
    let a = c.args in
    let w = a.self.weights in
    let r = a.self.in_range in
    rw (weighed w.n a.n r.n c.requires.0, weighed w.y a.y r.y c.requires.1, weighed w.z a.z r.z c.requires.2)
    (omega (
      arith,
      abs_mul w.n a.n,
      abs_mul w.y a.y,
      abs_mul w.z a.z,
      mul-le-mul r.n c.requires.0,
      mul-le-mul r.y c.requires.1,
      mul-le-mul r.z c.requires.2,
    ))

pub returns : goal.returns
returns c =
    let a = c.args in
    let w = a.self.weights in
    let r = a.self.in_range in
    c.four_signs.ensures
    ∙ (λ i. directions_of (weighed w.n a.n r.n c.requires.0 i) (weighed w.y a.y r.y c.requires.1 i) (weighed w.z a.z r.z c.requires.2 i))
