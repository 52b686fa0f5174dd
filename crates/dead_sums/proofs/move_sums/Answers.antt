-- One more sum moves, and the machine reads back what it becomes.
use Rattle.std.proofs.Common.{◌≡◌, ◌+◌, ◌≤◌, ◌∙◌, refl, arith, rules, ℤ, pos, nat_abs, length, get_or, w16, to_z, of_z}
use Rattle.std.proofs.Math.ListN.{set}
use Rattle.std.proofs.lemmas.Int.{to_z-of_z}
use Rattle.integers.proofs.Machine.{back, read}
use Rattle.integers.proofs.Signs.{abs_parts, mag_le}
use Rattle.envelope.specs.Range.{effect_limit}
use Rattle.dead_sums.specs.DeadSums.{tabulated}
use Rattle.dead_sums.proofs.Sums.{still_there, stored_more, all_stored}
use Rattle.dead_sums.proofs.move_sums.Goals as goal

read_effect : (e : ℤ) → nat_abs e ≤ effect_limit → to_z w16 (of_z w16 e) ≡ e
read_effect e h = to_z-of_z w16 e (record { sfits = omega (arith, mag_le e, abs_parts e) })

pub loop-j-init : goal.loop-j-init
unfolding tabulated
loop-j-init c = refl

pub moved-requires : goal.moved-requires
moved-requires c =
    let a = c.args in
    let m = c.requires.1 in
    let j = c.loop-j.j in
    let s = a.sums.now in
    let is : get_or c.loop-j.sums j (pos 0) ≡ get_or s j (pos 0) = rw c.loop-j.invariant (still_there s j _) in
    rw (
      is,
      back (get_or s j (pos 0)) (omega (arith, m.sums_range j)),
      read_effect (get_or a.effects.now (a.from + j) (pos 0)) (m.effects_range (a.from + j)),
      read_effect (get_or a.values j (pos 0)) (m.values_range j),
    )
    (m.sums_range j, m.effects_range (a.from + j), m.values_range j)

pub loop-j-preserved : goal.loop-j-preserved
loop-j-preserved c =
    let a = c.args in
    let m = c.requires.1 in
    let j = c.loop-j.j in
    let s = a.sums.now in
    let is : get_or c.loop-j.sums j (pos 0) ≡ get_or s j (pos 0) = rw c.loop-j.invariant (still_there s j _) in
    let old = read_effect (get_or a.effects.now (a.from + j) (pos 0)) (m.effects_range (a.from + j)) in
    let new = read_effect (get_or a.values j (pos 0)) (m.values_range j) in
    let sum = back (get_or s j (pos 0)) (omega (arith, m.sums_range j)) in
    let r = read c.moved.result c.moved.type_inv ∙ rw (is, sum, old, new) at c.moved.ensures in
    (λ i. set (c.loop-j.invariant i) j (r i)) ∙ stored_more s j _

pub returns : goal.returns
returns c =
    let long : length c.args.sums.now ≡ 3 = search rules in
    let end : c.loop-j.j ≡ 3 = omega arith in
    (rw end at c.loop-j.invariant) ∙ all_stored c.args.sums.now _ long
