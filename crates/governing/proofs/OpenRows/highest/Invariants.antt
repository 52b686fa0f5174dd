-- The higher of the patterns so far: those below the next one.
use Rattle.std.proofs.Common.{◌≡◌, ◌-◌}
use Rattle.envelope.specs.Envelope.{peak_of}
use Rattle.sums.specs.Directions.{held_in}
use Rattle.governing.specs.Ways.{eight_of}
use Rattle.governing.proofs.OpenRows.highest.Given as goal

abbrev pub invariant-loop-pattern : goal.invariant-loop-pattern
invariant-loop-pattern l = l.peak ≡ peak_of (eight_of l.self.settings (held_in l.sums)) (l.pattern - 1)
