-- The last name up to the place is the one found.
use Rattle.std.proofs.Common.{◌≡◌}
use Rattle.drawing.proofs.Names.{Named}
use Rattle.drawing.proofs.name_place.Given as goal

abbrev pub invariant-loop-field : goal.invariant-loop-field
invariant-loop-field l = (l.field-iterator.file.now ≡ l.file) × Named l.file l.case l.field-iterator.at l.found
