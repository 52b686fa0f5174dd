-- The fields left lead where those of the input lead.
use Rattle.lists.specs.Lists.{fields_of}
use Rattle.loading.proofs.Overlaid.{Going}
use Rattle.loading.proofs.read_over.Given as goal

abbrev pub invariant-loop-field : goal.invariant-loop-field
invariant-loop-field l = Going l.input l.initial.sheet l.initial.output (fields_of l.field-iterator.0.now) l.sheet l.output l.refusal
