-- The turns so far, and what each of them keeps.
use Rattle.std.proofs.Common.{◌≡◌, ◌≤◌, true, length, take}
use Rattle.sheet.specs.Range.{InRange}
use Rattle.sheet.specs.Sheet.{fresh_sheet}
use Rattle.answers.specs.Answers.{answer_room}
use Rattle.service.proofs.Serving.{Serving}
use Rattle.service.proofs.serve.Given as goal

abbrev pub invariant-loop : goal.invariant-loop
invariant-loop g l =
    Serving (length l.initial.output) fresh_sheet l.sheet (take l.s.held l.input) l.s.more l.counter × (l.s.more ≡ true)
    × InRange l.sheet × (l.s.held ≤ length l.input) × (answer_room ≤ length l.output) × (length l.input ≡ length l.initial.input) × (length l.output ≡ length l.initial.output)
