-- What holds between the reads.
use Rattle.case_names.proofs.Progress.{Collecting}
use Rattle.case_names.proofs.reading.collect.Given as goal

abbrev pub invariant-loop : goal.invariant-loop
invariant-loop g l = Collecting l.read.count l.input l.names
