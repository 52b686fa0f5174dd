-- A field that is cut ends the walk, and after a whole one it goes on where that one ends, within the file.
use Rattle.std.proofs.Common.{◌∙◌}
use Rattle.drawing.proofs.Ends.{reached_start, reached_next, reached_end}
use Rattle.drawing.proofs.whole_end.Goals as goal

pub loop-field-init : goal.loop-field-init
loop-field-init c =
    let all = c.of-field-items.ensures in
    rw c.into_iter-field-iterator.ensures.into_iter_gives (all.0, (all.1, reached_start _))

pub loop-field-preserved : goal.loop-field-preserved
loop-field-preserved c =
    let taken = c.in-Some.ensures.steps in
    let l = c.loop-field.invariant in
    let w = rw (l.0, l.1.0) at taken.here in
    (taken.file ∙ l.0, (taken.at, rw w.ends (reached_next l.1.1 w.whole)))

pub returns : goal.returns
returns c =
    let l = c.loop-field.invariant in
    reached_end l.1.1 (rw (l.0, l.1.0) at c.in-None.ensures.steps.here)
