-- The walk meets the lowest member of the rest, which is a case.
use Rattle.std.proofs.Common.{arith, ◌≡◌, ◌*◌, ◌%◌, ◌<◌, ◌^◌, ℕ, ℤ, pos, Bool, true, false, sym, ◌∙◌, subst, refl, cond, w64, to_z, of_z}
use lib.Pow.{pow-lt}
use lib.Signed.{lt_z}
use Rattle.integers.specs.declared.Members.{Members}
use Rattle.integers.specs.Sets.{has}
use Rattle.integers.proofs.Machine.{read}
use Rattle.integers.proofs.Walks.{Walk, Turn}
use Rattle.standard.specs.Combination.{case_count}
use Rattle.naming.proofs.Marks.{Led, led, led_join, led_from, led_turn, led_end}
use Rattle.naming.proofs.lead.Goals as goal

-- what is held after a member, whose effect is y
joined : (set : ℕ) (x : ℕ → ℤ) {k next : ℕ} {a : Led} → Turn (has set) case_count (led (has set) x) k next a → (y : ℤ) (t : Bool) → y ≡ x k → lt_z a.most y ≡ t →
    (b : Led) → b ≡ (record { lead = cond t (2 ^ k) a.lead; most = cond t y a.most }) → Walk (has set) case_count (led (has set) x) next b
joined set x {k = k} m y t e h b s =
    m.after b
    (s ∙ (λ i. record { lead = cond t (2 ^ k) (m.gathered i).lead; most = cond t (e i) (m.gathered i).most })
    ∙ sym (led_join (has set) x k t m.member (sym (λ i. lt_z (m.gathered i).most (e i)) ∙ h)))

pub loop-k-init : goal.loop-k-init
loop-k-init g c =
    subst
    (λ (m : Members). Walk (has c.args.set) case_count (led (has c.args.set) (g.C.CaseEffects.effect c.args.cases)) m.0 (record { lead = 0; most = pos 0 }))
    (sym c.into_iter-k-iterator.ensures.into_iter_gives)
    (led_from c.args.set (g.C.CaseEffects.effect c.args.cases) c.requires)

pub effect_of-x-requires : goal.effect_of-x-requires
effect_of-x-requires g c = (led_turn c.args.set (g.C.CaseEffects.effect c.args.cases) c.loop-k.invariant c.in-Some.ensures.steps).inside

pub overflow_shl-lead : goal.overflow_shl-lead
overflow_shl-lead g c =
    omega (arith, (led_turn c.args.set (g.C.CaseEffects.effect c.args.cases) c.loop-k.invariant c.in-Some.ensures.steps).inside)

pub loop-k-preserved-then-most-x : goal.loop-k-preserved-then-most-x
loop-k-preserved-then-most-x g c =
    let m = led_turn c.args.set (g.C.CaseEffects.effect c.args.cases) c.loop-k.invariant c.in-Some.ensures.steps in
    let small : 2 ^ c.in-Some.k < 2 ^ 32 = pow-lt m.inside in
    let bit : 1 * 2 ^ c.in-Some.k % 18446744073709551616 ≡ 2 ^ c.in-Some.k = omega (arith, small) in
    joined c.args.set (g.C.CaseEffects.effect c.args.cases) m _ true
    (read c.effect_of-x.result c.effect_of-x.type_inv ∙ c.effect_of-x.ensures.value) c.if-most-x.true _
    (λ i. record { lead = bit i; most = to_z w64 (of_z w64 c.effect_of-x.result) })

pub loop-k-preserved : goal.loop-k-preserved
loop-k-preserved g c =
    let m = led_turn c.args.set (g.C.CaseEffects.effect c.args.cases) c.loop-k.invariant c.in-Some.ensures.steps in
    joined c.args.set (g.C.CaseEffects.effect c.args.cases) m _ false
    (read c.effect_of-x.result c.effect_of-x.type_inv ∙ c.effect_of-x.ensures.value) c.if-most-x.false _ refl

pub returns : goal.returns
returns g c = led_end c.args.set (g.C.CaseEffects.effect c.args.cases) c.loop-k.invariant c.in-None.ensures.steps
