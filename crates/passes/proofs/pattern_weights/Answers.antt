-- Each weight is the product of the two other capacities, with the sign of its bit.
use Prim.Native.Nat.{ℕ, ◌*◌, ◌%◌}
use native.Mathlib.Nat.{div-one}
use mathlib.Core.Path.{sym, ap, ◌∙◌}
use lib.Dec.{eqb}
use Rattle.integers.proofs.Machine.{read}
use Rattle.envelope.specs.Envelope.{signed_by, pattern_of}
use Rattle.passes.proofs.pattern_weights.Goals as goal

pub returns : goal.returns
unfolding pattern_of
returns c =
    let a = c.args in
    let n = read c.signed_product.result c.signed_product.type_inv ∙ c.signed_product.ensures ∙ c.sign_of.ensures (a.p.y * a.p.z)
    ∙ sym (ap (λ (x : ℕ). signed_by (eqb (x % 2) 1) (a.p.y * a.p.z)) (div-one a.pattern)) in
    let y = read c.signed_product-2.result c.signed_product-2.type_inv ∙ c.signed_product-2.ensures ∙ c.sign_of-2.ensures (a.p.n * a.p.z) in
    let z = read c.signed_product-3.result c.signed_product-3.type_inv ∙ c.signed_product-3.ensures ∙ c.sign_of-3.ensures (a.p.n * a.p.y) in
    λ i. record { n = n i; y = y i; z = z i }
