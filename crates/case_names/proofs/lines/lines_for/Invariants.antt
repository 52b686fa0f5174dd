-- The lines of the cases so far are pushed.
use Rattle.std.proofs.Common.{◌≡◌, ◌≤◌, ◌*◌, length}
use Rattle.case_names.specs.Text.{lines_of, line_most}
use Rattle.case_names.specs.Table.{kept}
use Rattle.case_names.proofs.lines.lines_for.Given as goal

abbrev pub invariant-loop-case : goal.invariant-loop-case
invariant-loop-case l = (l.lines ≡ lines_of (kept l.names) l.case) × (length l.lines ≤ l.case * line_most)
