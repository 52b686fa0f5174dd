-- Each term joins a total that is small by the sizes of the terms before it.
use Prim.Native.Nat.{ℕ, ◌+◌, ◌*◌}
use native.Mathlib.Omega.{arith}
use mathlib.Core.Path.{◌∙◌}
use lib.IntN.{ℤ, pos, ◌+ℤ◌, ◌*ℤ◌, nat_abs}
use mir.Syntax.{w64}
use mir.Val.{to_z, of_z}
use Rattle.terms.specs.declared.Terms.{Terms}
use Rattle.terms.specs.Value.{factor_most, Gained, TermsInRange, own_of}
use Rattle.terms.proofs.Scaled.{Total, nothing, room, joined, told}
use Rattle.terms.proofs.Row.own_value.Goals as goal

-- with the first four terms
four : {t : Terms} (range : TermsInRange t) {dead fluid earth lowered : ℤ} {d f e l : ℕ} →
    Gained dead (pos 0) d (to_z w64 (of_z w64 t.dead)) → Gained fluid (to_z w64 (of_z w64 dead)) f (to_z w64 (of_z w64 t.fluid)) →
    Gained earth (to_z w64 (of_z w64 fluid)) e (to_z w64 (of_z w64 t.earth)) → Gained lowered (to_z w64 (of_z w64 earth)) l (to_z w64 (of_z w64 t.lowered)) →
    Total lowered (0 + factor_most * nat_abs t.dead + factor_most * nat_abs t.fluid + factor_most * nat_abs t.earth + factor_most * nat_abs t.lowered)
    (pos 0 +ℤ pos d *ℤ t.dead +ℤ pos f *ℤ t.fluid +ℤ pos e *ℤ t.earth +ℤ pos l *ℤ t.lowered)
four {t} range dead fluid earth lowered =
    let one = joined nothing t.dead (omega (arith, range.small)) dead in
    let two = joined one t.fluid (omega (arith, range.small)) fluid in
    let three = joined two t.earth (omega (arith, range.small)) earth in
    joined three t.lowered (omega (arith, range.small)) lowered

pub with_term-live-requires-clause-room : goal.with_term-live-requires-clause-room
with_term-live-requires-clause-room c =
    let lowered = four c.requires c.with_term-dead.ensures c.with_term-fluid.ensures c.with_term-earth.ensures c.with_term-lowered.ensures in
    room lowered c.args.t.live (omega (arith, c.requires.small))

pub with_term-requires-clause-room : goal.with_term-requires-clause-room
with_term-requires-clause-room c =
    let lowered = four c.requires c.with_term-dead.ensures c.with_term-fluid.ensures c.with_term-earth.ensures c.with_term-lowered.ensures in
    let live = joined lowered c.args.t.live (omega (arith, c.requires.small)) c.with_term-live.ensures in
    room live c.args.t.straining (omega (arith, c.requires.small))

pub returns : goal.returns
unfolding own_of
returns c =
    let t = c.args.t in
    let lowered = four c.requires c.with_term-dead.ensures c.with_term-fluid.ensures c.with_term-earth.ensures c.with_term-lowered.ensures in
    let live = joined lowered t.live (omega (arith, c.requires.small)) c.with_term-live.ensures in
    let all = told c.with_term.type_inv (joined live t.straining (omega (arith, c.requires.small)) c.with_term.ensures) in
    record {
      is = all.is
          ∙ (λ i. pos 0 +ℤ pos (c.factor.ensures.is i) *ℤ t.dead +ℤ pos (c.factor-2.ensures.is i) *ℤ t.fluid +ℤ pos (c.factor-3.ensures.is i) *ℤ t.earth
          +ℤ pos (c.lower_factor.ensures.is i) *ℤ t.lowered +ℤ pos (c.factor-4.ensures.is i) *ℤ t.live +ℤ pos (c.factor-5.ensures.is i) *ℤ t.straining);
      small = omega (arith, all.small);
    }
