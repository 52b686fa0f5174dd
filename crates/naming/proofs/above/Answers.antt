-- The walk meets the lowest member of the rest, which is a case.
use Rattle.std.proofs.Common.{arith, ◌≡◌, ◌+◌, ◌<◌, ◌^◌, ℕ, ℤ, pos, Bool, true, false, sym, ap, ◌∙◌, subst, add-zero}
use lib.Pow.{pow-lt}
use lib.Signed.{lt_z}
use Rattle.integers.specs.declared.Members.{Members}
use Rattle.integers.specs.Sums.{when}
use Rattle.integers.specs.Sets.{has}
use Rattle.integers.proofs.Machine.{read}
use Rattle.integers.proofs.Walks.{Walk, Turn}
use Rattle.standard.specs.Combination.{case_count}
use Rattle.envelope.specs.Signs.{signed}
use Rattle.naming.specs.Sets.{with_sign, above_in}
use Rattle.naming.proofs.Marks.{above_join, above_most, above_from, above_turn, above_end}
use Rattle.naming.proofs.above.Goals as goal

-- what is held after a member, whose effect is y
joined : (set : ℕ) (x : ℕ → ℤ) {k next a : ℕ} → Turn (has set) case_count (above_in (has set) x) k next a → (y : ℤ) (t : Bool) → y ≡ x k → lt_z (pos 0) y ≡ t →
    (b : ℕ) → b ≡ a + when t (2 ^ k) → Walk (has set) case_count (above_in (has set) x) next b
joined set x {k = k} {a = a} m y t e h b s =
    m.after b
    (s ∙ (λ i. m.gathered i + when ((sym h ∙ ap (λ (z : ℤ). lt_z (pos 0) z) e) i) (2 ^ k)) ∙ sym (above_join (has set) x k m.member))

pub loop-k-init : goal.loop-k-init
loop-k-init g c =
    subst
    (λ (m : Members). Walk (has c.args.set) case_count (above_in (has c.args.set) (with_sign c.args.sign (g.C.CaseEffects.effect c.args.cases))) m.0 0)
    (sym c.into_iter-k-iterator.ensures.into_iter_gives)
    (above_from c.args.set (with_sign c.args.sign (g.C.CaseEffects.effect c.args.cases)) c.requires)

pub effect_of-requires : goal.effect_of-requires
effect_of-requires g c =
    (above_turn c.args.set (with_sign c.args.sign (g.C.CaseEffects.effect c.args.cases)) c.loop-k.invariant c.in-Some.ensures.steps).inside

pub overflow_shl-above : goal.overflow_shl-above
overflow_shl-above g c =
    omega (
      arith,
      (above_turn c.args.set (with_sign c.args.sign (g.C.CaseEffects.effect c.args.cases)) c.loop-k.invariant c.in-Some.ensures.steps).inside,
    )

pub overflow_add-above : goal.overflow_add-above
overflow_add-above g c =
    let m = above_turn c.args.set (with_sign c.args.sign (g.C.CaseEffects.effect c.args.cases)) c.loop-k.invariant c.in-Some.ensures.steps in
    let small : 2 ^ c.in-Some.k < 2 ^ 32 = pow-lt m.inside in
    omega (arith, m.gathered, small, above_most (has c.args.set) (with_sign c.args.sign (g.C.CaseEffects.effect c.args.cases)) c.in-Some.k)

pub loop-k-preserved-then-x-gt0 : goal.loop-k-preserved-then-x-gt0
loop-k-preserved-then-x-gt0 g c =
    let m = above_turn c.args.set (with_sign c.args.sign (g.C.CaseEffects.effect c.args.cases)) c.loop-k.invariant c.in-Some.ensures.steps in
    let small : 2 ^ c.in-Some.k < 2 ^ 32 = pow-lt m.inside in
    joined c.args.set (with_sign c.args.sign (g.C.CaseEffects.effect c.args.cases)) m _ true
    (read c.of-x.result c.of-x.type_inv ∙ c.of-x.ensures
    ∙ ap (λ (z : ℤ). signed c.args.sign z) (read c.effect_of.result c.effect_of.type_inv ∙ c.effect_of.ensures.value))
    c.if-x-gt0.true _ (omega (arith, small))

pub loop-k-preserved : goal.loop-k-preserved
loop-k-preserved g c =
    let m = above_turn c.args.set (with_sign c.args.sign (g.C.CaseEffects.effect c.args.cases)) c.loop-k.invariant c.in-Some.ensures.steps in
    joined c.args.set (with_sign c.args.sign (g.C.CaseEffects.effect c.args.cases)) m _ false
    (read c.of-x.result c.of-x.type_inv ∙ c.of-x.ensures
    ∙ ap (λ (z : ℤ). signed c.args.sign z) (read c.effect_of.result c.effect_of.type_inv ∙ c.effect_of.ensures.value))
    c.if-x-gt0.false _ (sym (add-zero c.loop-k.above))

pub returns : goal.returns
returns g c = above_end c.args.set (with_sign c.args.sign (g.C.CaseEffects.effect c.args.cases)) c.loop-k.invariant c.in-None.ensures.steps
