-- What is due for the stations passed is appended.
use Rattle.effects.specs.Effects.{effect_in}
use Rattle.saved_fields.specs.Saved.{station_bytes}
use Rattle.saved_fields.proofs.Runs.{Appended}
use Rattle.saved_fields.proofs.SavedFields.push_case.Given as goal

abbrev pub invariant-loop-station : goal.invariant-loop-station
invariant-loop-station l = Appended (station_bytes (effect_in l.effects) l.case) l.station l.initial.self l.self
