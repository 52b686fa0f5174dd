-- Three terms from what the sums hold on the two sides, the others from the one above.
use Prim.Native.Nat.{◌<◌, ◌^◌}
use native.Mathlib.Omega.{arith}
use mathlib.Core.Path.{◌≡◌, ◌∙◌, ap}
use lib.IntN.{ℤ, pos, neg_ℤ, ◌+ℤ◌, nat_abs}
use mir.Syntax.{w64}
use mir.Val.{to_z, of_z}
use Rattle.std.proofs.Common.{rules}
use Rattle.std.specs.Int.{int_max}
use Rattle.integers.proofs.Machine.{neg_back}
use Rattle.envelope.specs.Signs.{over}
use Rattle.sums.specs.Sums.{held_at}
use Rattle.terms.specs.declared.Terms.{Terms}
use Rattle.terms.specs.Value.{terms_by}
use Rattle.terms.proofs.Read.{back, above_zero, side}
use Rattle.terms.proofs.terms_between.Goals as goal

-- the machine reads back the number
abbrev Back : ℤ → Type 0
Back z = to_z w64 (of_z w64 z) ≡ z

pub returns : goal.returns
unfolding terms_by
returns c =
    let below = c.args.below in
    let held = held_at c.args.sums.now.by_kind 2 in
    let fluid = pos (held (over c.args.above)) +ℤ neg_ℤ (pos (held (over below))) in
    let excess = back c.excess-2.type_inv c.excess-2.ensures in
    let small = c.args.sums.now.in_range.each 3 (over below) (omega arith) (omega arith) (side below) in
    let low_fits : nat_abs c.held.result < 2 ^ 63 = rw c.held.ensures (omega (arith, small)) in
    let t = c.terms_of.result in
    let earth : Back t.earth = search rules in
    let live : Back t.live = search rules in
    let straining : Back t.straining = search rules in
    let roof : Back t.roof = search rules in
    let snow : Back t.snow = search rules in
    let wind : Back t.wind = search rules in
    let quake : Back t.quake = search rules in
    let flood : Back t.flood = search rules in
    let ice : Back t.ice = search rules in
    let icewind : Back t.icewind = search rules in
    let own = c.terms_of.ensures in
    λ i. record {
      dead = back c.excess.type_inv c.excess.ensures i;
      fluid = back c.max.type_inv (c.max.ensures.value ∙ ap (λ (z : ℤ). int_max z (pos 0)) excess ∙ above_zero fluid) i;
      earth = (earth ∙ ap (λ (x : Terms). x.earth) own) i;
      lowered = (neg_back c.held.result low_fits ∙ ap neg_ℤ c.held.ensures) i;
      live = (live ∙ ap (λ (x : Terms). x.live) own) i;
      straining = (straining ∙ ap (λ (x : Terms). x.straining) own) i;
      roof = (roof ∙ ap (λ (x : Terms). x.roof) own) i;
      snow = (snow ∙ ap (λ (x : Terms). x.snow) own) i;
      wind = (wind ∙ ap (λ (x : Terms). x.wind) own) i;
      quake = (quake ∙ ap (λ (x : Terms). x.quake) own) i;
      flood = (flood ∙ ap (λ (x : Terms). x.flood) own) i;
      ice = (ice ∙ ap (λ (x : Terms). x.ice) own) i;
      icewind = (icewind ∙ ap (λ (x : Terms). x.icewind) own) i;
    }
