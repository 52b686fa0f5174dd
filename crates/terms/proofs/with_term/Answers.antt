-- A factor is small, so there is room for the term.
use Rattle.terms.proofs.Scaled.{mul_fits, add_fits, gained}
use Rattle.terms.proofs.with_term.Goals as goal

pub overflow_mul-result : goal.overflow_mul-result
overflow_mul-result c =
    mul_fits c.args.total c.from.result c.args.x c.args.factor c.from.ensures c.requires.small (record { sfits = c.from.type_inv }) c.ranges.x
    c.requires.room

pub overflow_add-result : goal.overflow_add-result
overflow_add-result c =
    add_fits c.args.total c.from.result c.args.x c.args.factor c.from.ensures c.requires.small (record { sfits = c.from.type_inv }) c.ranges.x
    c.requires.room

pub returns : goal.returns
returns c =
    gained c.args.total c.from.result c.args.x c.args.factor c.from.ensures c.requires.small (record { sfits = c.from.type_inv }) c.ranges.x
    c.requires.room
