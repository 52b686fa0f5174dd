-- The names of the whole fields are kept, and the bytes after them stay.
use Rattle.std.proofs.Common.{arith}
use Rattle.case_names.proofs.Progress.{reach, turned, front_long}
use Rattle.case_names.proofs.reading.turn.Goals as goal

pub slice_bounds-keep_names-end : goal.slice_bounds-keep_names-end
slice_bounds-keep_names-end g c = omega (arith, reach c.read_more-read.ensures.after c.whole_end-end.ensures)

pub slice_bounds-keep_names-end-2 : goal.slice_bounds-keep_names-end-2
slice_bounds-keep_names-end-2 g c = front_long c.read_more-read.ensures.after c.whole_end-end.ensures

pub shift-requires : goal.shift-requires
shift-requires g c = reach c.read_more-read.ensures.after c.whole_end-end.ensures

pub overflow_sub-result : goal.overflow_sub-result
overflow_sub-result g c = (reach c.read_more-read.ensures.after c.whole_end-end.ensures).0

pub returns : goal.returns
returns g c = turned _ _ _ _ _ _ c.read_more-read.ensures.after c.whole_end-end.ensures c.keep_names.ensures c.shift.ensures
