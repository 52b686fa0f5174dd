-- No case has a name.
use Rattle.std.proofs.Common.{[], rules}
use Rattle.case_names.proofs.Keeping.{none_named}
use Rattle.case_names.proofs.table.no_names.Goals as goal

pub returns : goal.returns
returns c = none_named _ c.from_fn.ensures.items.long (λ k b. let made = c.from_fn.ensures.items.at k [] b in let called = made.2 in search rules)
