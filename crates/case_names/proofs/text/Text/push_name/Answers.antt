-- One more byte of the name is pushed, for which four bytes were left.
use Rattle.std.proofs.Common.{◌∙◌, sym, ap, arith, append-nil, append_assoc, length-append, rules, ◌≡◌, ◌≤◌, ◌++◌, length, take, length-take-le}
use Rattle.case_names.specs.Text.{name_text}
use Rattle.case_names.proofs.Written.{name_more, name_most, name_so_far}
use Rattle.case_names.proofs.text.Text.push_name.Goals as goal

pub loop-b-init : goal.loop-b-init
unfolding name_text
loop-b-init g c = sym (append-nil _)

pub push_byte-requires : goal.push_byte-requires
push_byte-requires g c =
    let most = name_so_far c.args.name.now c.loop-b.b-index c.loop-b-test.true in
    let long = length-append c.args.self.now (name_text (take c.loop-b.b-index c.args.name.now)) in
    (search rules, rw c.loop-b.invariant (omega (arith, long, most, c.requires)))

pub loop-b-preserved : goal.loop-b-preserved
loop-b-preserved g c =
    c.push_byte.ensures
    ∙ rw c.loop-b.invariant (append_assoc c.args.self.now _ _ ∙ ap (λ w. c.args.self.now ++ w) (sym (name_more c.args.name.now c.loop-b.b-index c.loop-b-test.true)))

pub returns-clause-most : goal.returns-clause-most
returns-clause-most g c =
    let name = c.args.name.now in
    let i = c.loop-b.b-index in
    let within : i ≤ length name = omega (arith, c.loop-b.auto.b-index-end) in
    let long : length (take i name) ≡ i = length-take-le i name within in
    rw (c.loop-b.invariant, length-append) (omega (arith, long, within, name_most (take i name)))
