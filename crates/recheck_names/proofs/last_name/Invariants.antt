-- What is found is the last name of the fields passed.
use Rattle.recheck_names.proofs.Walk.{Found}
use Rattle.recheck_names.proofs.last_name.Given as goal

abbrev pub invariant-loop-here : goal.invariant-loop-here
invariant-loop-here l = Found l.file l.case l.here-iterator.0.now l.found
