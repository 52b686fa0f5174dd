-- Each field is read on the sheet that the one before left, its answer is written over the one before, and the first refusal is kept.
use Rattle.std.proofs.Common.{◌∙◌, ap, ℕ, Option}
use Rattle.std.specs.Option.{option_or}
use Rattle.loading.proofs.Overlaid.{going_start, going_next, going_end}
use Rattle.loading.proofs.read_over.Goals as goal

pub loop-field-init : goal.loop-field-init
loop-field-init c = rw c.into_iter-field-iterator.ensures.into_iter_gives (going_start c.args.input.now c.requires.in_range c.requires.room)

pub loop-field-preserved : goal.loop-field-preserved
loop-field-preserved c =
    let l = c.loop-field in
    let e = c.or-refusal.ensures ∙ ap (λ (n : Option ℕ). option_or l.refusal n) c.refusal_of.ensures in
    going_next l.invariant c.in-Some.ensures.steps c.read_in-r.ensures.0 c.read_in-r.ensures.1.same e

pub returns-clause-sheet : goal.returns-clause-sheet
returns-clause-sheet c = (going_end c.loop-field.invariant c.in-None.ensures.steps.0).sheet

pub returns-clause-refusal : goal.returns-clause-refusal
returns-clause-refusal c = (going_end c.loop-field.invariant c.in-None.ensures.steps.0).refusal

pub returns-clause-output : goal.returns-clause-output
returns-clause-output c = (going_end c.loop-field.invariant c.in-None.ensures.steps.0).output
