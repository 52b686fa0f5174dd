-- The names of the cases so far are kept.
use Rattle.case_names.proofs.Keeping.{Keeping}
use Rattle.case_names.proofs.table.keep_names.Given as goal

abbrev pub invariant-loop-case : goal.invariant-loop-case
invariant-loop-case l = Keeping l.part l.initial.names l.case l.names
