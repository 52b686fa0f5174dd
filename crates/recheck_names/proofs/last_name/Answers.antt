-- What is found is the last name of the fields passed; where no whole field is left there is no later one.
use Rattle.std.proofs.Common.{sym, subst, None}
use Rattle.recheck_names.specs.declared.fields.Fields.{Fields}
use Rattle.recheck_names.proofs.Walk.{Found, found_first, found_more, found_all}
use Rattle.recheck_names.proofs.last_name.Goals as goal

pub loop-here-init : goal.loop-here-init
loop-here-init c =
    let taken = sym c.into_iter-here-iterator.ensures.into_iter_gives in
    subst (λ (f : Fields). Found c.args.file.now c.args.case f.0.now None) taken (found_first c.args.file.now c.args.case)

pub loop-here-preserved : goal.loop-here-preserved
loop-here-preserved c =
    let s = c.in-Some.ensures.steps in
    found_more c.args.file.now c.args.case c.loop-here.invariant s.whole s.left_is (rw s.here_is at c.name_here.ensures) c.or-found.ensures

pub returns : goal.returns
returns c =
    found_all c.args.file.now c.args.case c.loop-here.invariant c.in-None.ensures.steps.whole
