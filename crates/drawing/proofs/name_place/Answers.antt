-- A field that is cut ends the walk; a whole one that names the case is found in place of those before it.
use Rattle.std.proofs.Common.{arith, rules, ◌≡◌, ◌∙◌}
use Rattle.std.proofs.lemmas.Bool.{le-ltb}
use Rattle.drawing.specs.Names.{no_name, name_place}
use Rattle.drawing.proofs.Names.{named_start, named_next, named_end, found_or, name_of_field}
use Rattle.drawing.proofs.name_place.Goals as goal

pub loop-field-init : goal.loop-field-init
loop-field-init c =
    let all = c.of-field-items.ensures in
    let none : c.default-found.result ≡ no_name = search rules in
    rw c.into_iter-field-iterator.ensures.into_iter_gives (all.0, rw (all.1, none) (named_start _ _))

pub loop-field-preserved : goal.loop-field-preserved
loop-field-preserved c =
    let taken = c.in-Some.ensures.steps in
    let same = c.loop-field.invariant.0 in
    let w = rw same at taken.here in
    (taken.file ∙ same, rw (taken.at, w.ends, c.unwrap_or-found.ensures, c.name_of.ensures ∙ name_of_field c.args.file.now c.args.case w, found_or) (named_next c.loop-field.invariant.1 w.whole))

pub returns : goal.returns
unfolding name_place
returns c =
    let cut = rw c.loop-field.invariant.0 at c.in-None.ensures.steps.here in
    simp (le-ltb 31 c.args.case (omega arith)) (named_end c.loop-field.invariant.1 cut)
