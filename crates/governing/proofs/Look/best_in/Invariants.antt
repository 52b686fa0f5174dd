-- The best of the row held and the rows so far.
use Rattle.std.proofs.Common.{◌≡◌, ◌-◌}
use Rattle.terms.specs.Value.{value_of}
use Rattle.envelope.specs.Envelope.{best_from}
use Rattle.governing.proofs.Look.best_in.Given as goal

abbrev pub invariant-loop-row : goal.invariant-loop-row
invariant-loop-row g l = l.best ≡ best_from (λ row. value_of l.self.rows.settings row l.self.terms) l.initial.best l.initial.row (l.row - l.initial.row)
