-- A name found takes the place of the one before, and where none is found that one stays.
use Rattle.std.proofs.Common.{sym, ◌∙◌, arith}
use Rattle.case_names.proofs.Keeping.{keeping_found, keeping_kept, name_short}
use Rattle.case_names.proofs.table.keep_names.Goals as goal
use Rattle.case_names.proofs.table.keep_names.Goals.{then-not-is_empty, else-not-is_empty}

pub push-requires : goal.push-requires
push-requires c =
    let short = name_short c.args.part.now c.loop-case.case in
    (omega arith, rw (c.clear.ensures, c.case_name-found.ensures) (omega arith))

pub loop-case-preserved : goal.loop-case-preserved
loop-case-preserved c =
    let h = c.loop-case.invariant in
    elim c.if-not-is_empty.branch [
      | then-not-is_empty w ↦ rw w.names-is (keeping_found h c.loop-case-test.true c.case_name-found.ensures (sym c.is_empty.ensures ∙ w.if-not-is_empty.true) (rw w.clear.ensures at w.push.ensures))
      | else-not-is_empty w ↦ rw w.names-is (keeping_kept h c.loop-case-test.true c.case_name-found.ensures (sym c.is_empty.ensures ∙ w.if-not-is_empty.false) _)
    ]
