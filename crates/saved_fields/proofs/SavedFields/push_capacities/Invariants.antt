-- What is due for the stations passed is appended.
use Rattle.sheet.specs.Sheet.{capacity_in}
use Rattle.saved_fields.specs.Saved.{capacity_bytes}
use Rattle.saved_fields.proofs.Runs.{Appended}
use Rattle.saved_fields.proofs.SavedFields.push_capacities.Given as goal

abbrev pub invariant-loop-station : goal.invariant-loop-station
invariant-loop-station l = Appended (capacity_bytes (capacity_in l.capacities)) l.station l.initial.self l.self
