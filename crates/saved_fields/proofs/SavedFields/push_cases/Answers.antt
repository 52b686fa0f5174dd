-- The next one fits, since what is due for the places passed is no longer than they allow; appended after it, it is due too.
use Rattle.std.proofs.Common.{rules, arith, get_or, length-append}
use Rattle.effects.specs.Effects.{effect_in}
use Rattle.saved_fields.specs.Saved.{case_most, saved_most}
use Rattle.saved_fields.proofs.Runs.{up_to_most, none_appended, one_appended, next_fits}
use Rattle.saved_fields.proofs.Lengths.{case_most_lem}
use Rattle.saved_fields.proofs.SavedFields.push_cases.Goals as goal

pub loop-case-init : goal.loop-case-init
loop-case-init c = none_appended _ _

pub push_case-requires : goal.push_case-requires
push_case-requires c =
    let most = case_most_lem (effect_in c.args.effects.now) (λ k. get_or c.args.kinds.now k 0) in
    (search rules, next_fits c.loop-case.invariant 32 case_most saved_most most c.requires c.loop-case-test.true)

pub loop-case-preserved : goal.loop-case-preserved
loop-case-preserved c = one_appended c.loop-case.invariant c.push_case.ensures

pub returns-clause-most : goal.returns-clause-most
returns-clause-most c =
    let e = c.loop-case.invariant.is in
    let most = case_most_lem (effect_in c.args.effects.now) (λ k. get_or c.args.kinds.now k 0) in
    rw (e, length-append) (omega (arith, c.loop-case.auto.case-end, up_to_most _ case_most most c.loop-case.case))
