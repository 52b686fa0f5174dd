-- One place more adds its case where it is asked for.
use Rattle.std.proofs.Common.{refl, sym, ◌∙◌, arith}
use Rattle.recheck_combinations.specs.Acting.{having}
use Rattle.recheck_combinations.proofs.Terms.{taken, passed}
use Rattle.recheck_combinations.proofs.having.Goals as goal
use Rattle.recheck_combinations.proofs.having.Goals.{then-is_of, else-is_of}

pub loop-case-init : goal.loop-case-init
unfolding having
loop-case-init c = refl

pub loop-case-preserved : goal.loop-case-preserved
loop-case-preserved c =
    let l = c.loop-case in
    let a = c.args in
    elim c.if-is_of.branch [
      | then-is_of w ↦ w.set-is ∙ taken a.terms.now a.first a.last l.case _ (omega arith) (omega arith) l.invariant (sym c.is_of.ensures ∙ w.if-is_of.true)
      | else-is_of w ↦ w.set-is ∙ passed a.terms.now a.first a.last l.case _ (omega arith) l.invariant (sym c.is_of.ensures ∙ w.if-is_of.false)
    ]
