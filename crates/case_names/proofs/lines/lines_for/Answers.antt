-- One more line, where the case has a name.
use Rattle.std.proofs.Common.{[], refl, sym, ◌∙◌, arith, length-append}
use Rattle.std.proofs.lemmas.List.{get_or_default}
use Rattle.case_names.specs.Text.{lines_of}
use Rattle.case_names.proofs.Lining.{line_pushed, no_line_left, text_most}
use Rattle.case_names.proofs.lines.lines_for.Goals as goal
use Rattle.case_names.proofs.lines.lines_for.Goals.{then-not-is_empty, else-not-is_empty}

pub loop-case-init : goal.loop-case-init
unfolding lines_of
loop-case-init c = rw c.new-lines.ensures (refl, omega arith)

pub push_line-requires : goal.push_line-requires
push_line-requires c =
    let below = c.loop-case-test.true in
    (omega arith, (omega arith, omega (arith, c.loop-case.invariant.1, c.as_bytes-name.ensures.most)))

pub loop-case-preserved : goal.loop-case-preserved
loop-case-preserved c =
    let k = c.loop-case.case in
    let h = c.loop-case.invariant in
    let same = c.as_bytes-name.ensures.bytes ∙ get_or_default c.args.names.now k _ [] (rw c.type_inv.names c.loop-case-test.true) in
    elim c.if-not-is_empty.branch [
      | then-not-is_empty w ↦ (
        w.lines-is ∙ line_pushed _ k h.0 same (sym c.is_empty.ensures ∙ w.if-not-is_empty.true) w.push_line.ensures,
        rw (w.lines-is ∙ w.push_line.ensures, length-append) (omega (arith, h.1, text_most k _ c.as_bytes-name.ensures.most)),
      )
      | else-not-is_empty w ↦ (
        w.lines-is ∙ no_line_left _ k h.0 same (sym c.is_empty.ensures ∙ w.if-not-is_empty.false),
        rw w.lines-is (omega (arith, h.1)),
      )
    ]
