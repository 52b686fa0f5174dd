-- The text of the bytes so far is pushed.
use Rattle.std.proofs.Common.{◌≡◌, ◌++◌, take}
use Rattle.case_names.specs.Text.{name_text}
use Rattle.case_names.proofs.text.Text.push_name.Given as goal

abbrev pub invariant-loop-b : goal.invariant-loop-b
invariant-loop-b g l = l.self ≡ l.initial.self ++ name_text (take l.b-index l.name)
