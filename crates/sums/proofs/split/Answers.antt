-- Each direction has its call.
use Rattle.std.proofs.Common.{rules, arith, ◌≡◌, get_or, pos}
use Rattle.sums.specs.Sums.{nothing, split_of}
use Rattle.sums.proofs.Arrays.{filled}
use Rattle.sums.proofs.split.Goals as goal

pub returns : goal.returns
returns g c = λ d l.
    filled _ _ (λ i y. y ≡ split_of (get_or c.args.totals i (pos 0))) (λ i y q k. search rules) c.from_fn.result 0 g.row.N c.from_fn.ensures.items.each d nothing (omega arith)
    (omega arith)
