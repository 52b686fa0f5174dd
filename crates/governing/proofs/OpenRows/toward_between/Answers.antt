-- The sides of the two signs.
use Rattle.envelope.specs.Signs.{over}
use Rattle.terms.proofs.Read.{side}
use Rattle.governing.proofs.OpenRows.toward_between.Goals as goal

pub invariant_of-look : goal.invariant_of-look
invariant_of-look c =
    let a = c.args in
    let range = c.requires.terms_range (over a.above) (over a.below) (side a.above) (side a.below) in
    record { terms_in_range = rw c.terms_between.ensures range }
