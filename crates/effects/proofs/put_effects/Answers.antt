-- A part replaced is a run of stores.
use Rattle.std.proofs.Common.{arith, rules, ◌≡◌, ◌+◌, ◌-◌, length}
use Rattle.effects.proofs.Stored.{part_copied}
use Rattle.effects.proofs.put_effects.Goals as goal

pub returns : goal.returns
returns c =
    let a = c.args in
    let three : length a.values ≡ 3 = search rules in
    let long : length a.effects.now ≡ 1536 = search rules in
    let size : a.at + 3 - a.at ≡ 3 = omega arith in
    rw (size, c.copy_from_slice.ensures.after) (part_copied a.effects.now a.values a.at three (omega arith))
