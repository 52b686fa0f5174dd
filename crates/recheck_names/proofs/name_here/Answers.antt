-- Where the field names the case its body has a byte more than the name.
use Rattle.std.proofs.Common.{◌-◌, sym, ◌∙◌, length, refl, arith}
use Rattle.recheck_names.proofs.Walk.{name_long, names_from, pair_from}
use Rattle.recheck_names.proofs.name_here.Goals as goal

pub overflow_sub-result-then-names_case : goal.overflow_sub-result-then-names_case
overflow_sub-result-then-names_case c =
    let h = name_long c.args.here.now 0 c.args.case (sym c.names_case.ensures ∙ c.if-names_case.true) in
    let e = c.from.ensures ∙ c.body.ensures in
    omega arith

pub returns-then-names_case : goal.returns-then-names_case
returns-then-names_case c =
    let file = c.args.file.now in
    let at = length file - length c.args.here.now in
    let whole = rw c.requires.place at (sym c.names_case.ensures ∙ c.if-names_case.true) in
    let named = sym (names_from file at (omega arith) c.args.case) ∙ whole in
    let body = (rw c.requires.place at (c.from.ensures ∙ c.body.ensures)) ∙ pair_from file at in
    rw (named, body) refl

pub returns-else-names_case : goal.returns-else-names_case
returns-else-names_case c =
    let file = c.args.file.now in
    let at = length file - length c.args.here.now in
    let whole = rw c.requires.place at (sym c.names_case.ensures ∙ c.if-names_case.false) in
    let named = sym (names_from file at (omega arith) c.args.case) ∙ whole in
    rw named refl
