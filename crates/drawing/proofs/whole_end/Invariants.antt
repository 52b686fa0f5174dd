-- The whole fields end at the place, or where those end that follow it.
use Rattle.std.proofs.Common.{◌≡◌}
use Rattle.drawing.proofs.Ends.{Reached}
use Rattle.drawing.proofs.whole_end.Given as goal

abbrev pub invariant-loop-field : goal.invariant-loop-field
invariant-loop-field l = (l.field-iterator.file.now ≡ l.file) × ((l.field-iterator.at ≡ l.end) × Reached l.file l.end)
