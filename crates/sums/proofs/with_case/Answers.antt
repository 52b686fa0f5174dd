-- Each direction has its call.
use Rattle.std.proofs.Common.{rules, arith, ◌≡◌, get_or, pos}
use Rattle.sums.specs.Sums.{nothing, sides_with}
use Rattle.sums.proofs.Arrays.{filled}
use Rattle.sums.proofs.with_case.Goals as goal

pub returns : goal.returns
returns g c = λ d l.
    let a = c.args in
    filled _ _ (λ i y. y ≡ sides_with a.compared (get_or a.sides i nothing) (get_or a.effects i (pos 0))) (λ i y q k. search rules) c.from_fn.result 0 g.row.N c.from_fn.ensures.items.each d nothing
    (omega arith) (omega arith)
