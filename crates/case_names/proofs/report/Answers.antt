-- The names kept are those of what was read.
use Rattle.case_names.proofs.Lining.{none_reported, names_reported}
use Rattle.case_names.proofs.report.Goals as goal

pub returns-in-Some : goal.returns-in-Some
returns-in-Some g c = names_reported c.in-Some.ensures c.lines_for.ensures

pub returns-in-None : goal.returns-in-None
returns-in-None g c = rw c.new.ensures none_reported
