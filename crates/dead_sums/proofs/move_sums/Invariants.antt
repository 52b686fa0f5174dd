-- The sums before j have moved.
use Rattle.std.proofs.Common.{◌≡◌, ◌+◌, pos, get_or}
use Rattle.std.proofs.lemmas.List.Edits.{sets}
use Rattle.dead_sums.specs.DeadSums.{moved_by, tabulated}
use Rattle.dead_sums.proofs.move_sums.Given as goal

abbrev pub invariant-loop-j : goal.invariant-loop-j
invariant-loop-j l =
    l.sums ≡ sets l.fn.sums 0 (tabulated l.j (λ j. moved_by (get_or l.fn.sums j (pos 0)) (get_or l.effects (l.from + j) (pos 0)) (get_or l.values j (pos 0))))
