-- `fields::field_in` meets its contract: the run where tag and length are right, else all as it was.
use Rattle.std.proofs.Common.{◌≡◌, Ok, Err, rules, sym, ap, ◌∙◌, arith}
use Rattle.std.proofs.lemmas.Bool.{eq-eqb, ne_eqb}
use Rattle.refusals.specs.Numbers.{number}
use Rattle.refusals.proofs.Numbers.{number_some}
use Rattle.sheet.specs.Looks.{answered}
use Rattle.fields.specs.Order.{field_of}
use Rattle.fields.proofs.field_in.Goals as goal

pub returns-in_err-tag : goal.returns-in_err-tag
unfolding field_of
returns-in_err-tag c =
    let refusal = c.in_err-tag.field-0.0 in
    let due : c.check_header.result ≡ Err refusal = search rules in
    let is : c.from_residual.result ≡ Err refusal = search rules in
    let number_due = rw due at c.check_header.ensures.refusal in
    ap (λ r. answered r c.args.sheet.now) is ∙ rw (← number_due, ne_eqb (number refusal) 0 (λ z. omega (arith, number_some refusal)))

pub returns : goal.returns
unfolding field_of
returns c =
    let known : c.check_header.result ≡ Ok c.in_ok-tag.tag = search rules in
    let header = rw known at c.check_header.ensures in
    rw (eq-eqb _ _ (sym header.refusal), ← header.tag) c.run.ensures
