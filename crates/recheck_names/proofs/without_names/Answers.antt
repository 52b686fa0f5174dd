-- The output is what is kept of the fields passed, and at the end what follows them.
use Rattle.std.proofs.Common.{sym, ◌∙◌}
use Rattle.recheck_names.proofs.Without.{passed_first, passed_kept, passed_out, passed_all, all_in}
use Rattle.recheck_names.proofs.without_names.Goals as goal

pub loop-field-init : goal.loop-field-init
loop-field-init g c =
    rw c.empty-out.ensures (passed_first c.args.file.now c.args.left_out)

pub loop-field-preserved-then-not-is_left_out : goal.loop-field-preserved-then-not-is_left_out
loop-field-preserved-then-not-is_left_out g c =
    let stays = sym c.is_left_out.ensures ∙ c.if-not-is_left_out.true in
    passed_kept c.args.file.now c.args.left_out c.loop-field.invariant c.in-Some.ensures stays c.push.ensures

pub loop-field-preserved : goal.loop-field-preserved
loop-field-preserved g c =
    let goes = sym c.is_left_out.ensures ∙ c.if-not-is_left_out.false in
    passed_out c.args.file.now c.args.left_out c.loop-field.invariant c.in-Some.ensures goes

pub returns-clause-bytes : goal.returns-clause-bytes
returns-clause-bytes g c =
    passed_all c.args.file.now c.args.left_out c.loop-field.invariant c.push-2.ensures c.in_default.ensures

pub returns-clause-most : goal.returns-clause-most
returns-clause-most g c =
    all_in c.args.file.now c.args.left_out c.loop-field.invariant c.push-2.ensures
