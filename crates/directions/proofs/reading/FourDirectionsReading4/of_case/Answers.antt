-- The directions of the three effects of the case.
use mathlib.Core.List.{List}
use mathlib.Core.Path.{◌∙◌, ap}
use lib.IntN.{ℤ, pos, ◌*ℤ◌}
use lib.ListN.{get_or}
use Rattle.integers.proofs.Machine.{read}
use Rattle.directions.specs.Four.{directions_of}
use Rattle.directions.proofs.reading.FourDirectionsReading4.of_case.Goals as goal

pub returns : goal.returns
returns c = λ d l.
    let w = c.args.self.weights in
    let n = read c.on-n.result c.on-n.type_inv ∙ c.on-n.ensures in
    let y = read c.on-y.result c.on-y.type_inv ∙ c.on-y.ensures in
    let z = read c.on-z.result c.on-z.type_inv ∙ c.on-z.ensures in
    ap (λ (xs : List ℤ). get_or xs d (pos 0)) (c.of.ensures ∙ (λ i. directions_of (w.n *ℤ n i) (w.y *ℤ y i) (w.z *ℤ z i)))
