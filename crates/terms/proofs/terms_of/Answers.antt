-- Each term from what the sums hold of its kinds.
use Prim.Native.Nat.{ℕ, ◌+◌, ◌<◌, ◌≤◌, ◌^◌}
use native.Mathlib.Omega.{arith}
use mathlib.Core.Path.{◌≡◌, refl, ◌∙◌, ap}
use lib.IntN.{ℤ, pos, neg_ℤ, ◌+ℤ◌, nat_abs}
use mir.Syntax.{w64}
use mir.Val.{to_z, of_z}
use Rattle.std.specs.Int.{int_max}
use Rattle.integers.specs.Sums.{up}
use Rattle.integers.proofs.Machine.{read, sum_back, neg_back}
use Rattle.standard.specs.Kinds.{kind_count}
use Rattle.envelope.specs.declared.Sign.{Sign}
use Rattle.envelope.specs.declared.Sign.TheVariants.{Plus, Minus}
use Rattle.envelope.specs.Signs.{over, under, opposite}
use Rattle.sums.specs.Sums.{held_at, sum_most}
use Rattle.sums.proofs.Held.{greatest}
use Rattle.terms.specs.Value.{terms_by}
use Rattle.terms.proofs.Read.{back, above_zero, side}
use Rattle.terms.proofs.terms_of.Goals as goal

-- what is below zero with a sign is what is above with the opposite
other : (sign : Sign) → over (opposite sign) ≡ under sign
other Plus = refl
other Minus = refl

pub returns : goal.returns
unfolding terms_by
returns c =
    let sums = c.args.sums.now.by_kind in
    let o = over c.args.sign in
    let low : c.held-3.result ≡ pos (held_at sums 3 (under c.args.sign)) =
    c.held-3.ensures ∙ ap (λ (s : Sign). pos (held_at sums 3 (over s))) c.opposite.ensures ∙ ap (λ (t : ℕ). pos (held_at sums 3 t)) (other c.args.sign) in
    let at6 = back c.held-6.type_inv c.held-6.ensures in
    let at8 = back c.held-7.type_inv c.held-7.ensures in
    let excess : to_z w64 (of_z w64 c.excess-2.result) ≡ c.excess-2.result = read c.excess-2.result c.excess-2.type_inv in
    let fits : (j : ℕ) → 0 < j → j < kind_count → (s : Sign) → held_at sums j (over s) ≤ sum_most = λ j p l s. c.args.sums.now.in_range.each j (over s) p l (side s) in
    let earth : nat_abs c.held.result + nat_abs c.held-2.result < 2 ^ 63 =
    rw (c.held.ensures, c.held-2.ensures) (omega (arith, fits 3 (omega arith) (omega arith) c.args.sign, fits 4 (omega arith) (omega arith) c.args.sign)) in
    let low_fits : nat_abs c.held-3.result < 2 ^ 63 = rw c.held-3.ensures (omega (arith, fits 3 (omega arith) (omega arith) c.opposite.result)) in
    λ i. record {
      dead = back c.excess.type_inv c.excess.ensures i;
      fluid = back c.max.type_inv (c.max.ensures.value ∙ ap (λ (z : ℤ). int_max z (pos 0)) excess ∙ above_zero c.excess-2.result ∙ ap (λ (z : ℤ). pos (up z)) c.excess-2.ensures) i;
      earth = (sum_back c.held.result c.held-2.result earth ∙ (λ k. c.held.ensures k +ℤ c.held-2.ensures k)) i;
      lowered = (neg_back c.held-3.result low_fits ∙ ap neg_ℤ low) i;
      live = back c.held-4.type_inv c.held-4.ensures i;
      straining = back c.held-5.type_inv c.held-5.ensures i;
      roof = back c.max-2.type_inv (c.max-2.ensures.value ∙ (λ k. int_max (at6 k) (at8 k)) ∙ greatest (pos (held_at sums 6 o)) (pos (held_at sums 8 o)) refl) i;
      snow = back c.held-8.type_inv c.held-8.ensures i;
      wind = back c.held-9.type_inv c.held-9.ensures i;
      quake = back c.held-10.type_inv c.held-10.ensures i;
      flood = back c.held-11.type_inv c.held-11.ensures i;
      ice = back c.held-12.type_inv c.held-12.ensures i;
      icewind = back c.held-13.type_inv c.held-13.ensures i;
    }
