-- What is due for the places passed is appended.
use Rattle.std.proofs.Common.{get_or}
use Rattle.effects.specs.Effects.{effect_in}
use Rattle.saved_fields.specs.Saved.{case_bytes}
use Rattle.saved_fields.proofs.Runs.{Appended}
use Rattle.saved_fields.proofs.SavedFields.push_cases.Given as goal

abbrev pub invariant-loop-case : goal.invariant-loop-case
invariant-loop-case l = Appended (case_bytes (λ k. get_or l.kinds k 0) (effect_in l.effects)) l.case l.initial.self l.self
