-- The name found lies in the file.
use Rattle.std.proofs.Common.{arith, sym}
use Rattle.drawing.proofs.Names.{name_within}
use Rattle.drawing.proofs.case_name.Goals as goal

pub overflow_add-end : goal.overflow_add-end
overflow_add-end c =
    omega (arith, rw (sym c.name_place-p.ensures) at (name_within c.args.file.now c.args.case))

pub slice_bounds-result-end : goal.slice_bounds-result-end
slice_bounds-result-end c = rw c.name_place-p.ensures (name_within c.args.file.now c.args.case)
