-- Each answer's bytes are put over the front.
use Rattle.std.proofs.Common.{refl, rules, ◌≡◌}
use borrow.Author.Tests.{ne_eqb}
use Rattle.wire.specs.Bytes.{over}
use Rattle.answers.specs.Answers.{answer_bytes}
use Rattle.answers.proofs.put_answer.Goals as goal

pub returns-in-Accepted : goal.returns-in-Accepted
unfolding answer_bytes
returns-in-Accepted c = rw c.in-Accepted.is c.put_front.ensures

pub returns-in-Refused-eq14 : goal.returns-in-Refused-eq14
unfolding answer_bytes over
returns-in-Refused-eq14 c =
    let r = c.in-Refused-eq14 in
    let n : r.field-0 ≡ 14 = let test = r.field-0-test in let is = r.field-0-is in search rules in
    rw (r.is, n) (refl, refl)

pub returns-in-Refused : goal.returns-in-Refused
unfolding answer_bytes
returns-in-Refused c =
    let r = c.in-Refused in
    let other = rw r.is at r.n-test in
    rw (r.is, ne_eqb r.n 14 other.1) c.put_front-in-Refused.ensures
