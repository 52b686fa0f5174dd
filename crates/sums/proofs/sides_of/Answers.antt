-- The loop walks over the set: in each direction what the members passed make is held.
use Prim.Native.Nat.{ℕ, ◌+◌, ◌*◌, ◌-◌, ◌<◌, ◌^◌}
use native.Mathlib.Omega.{arith}
use mathlib.Core.Bool.{Bool}
use mathlib.Core.Path.{◌≡◌, refl, sym, ◌∙◌, subst}
use lib.IntN.{ℤ}
use lib.ListN.{get_or, replicate}
use Rattle.std.proofs.lemmas.List.{get_or-replicate}
use Rattle.integers.specs.declared.Members.{Members}
use Rattle.integers.specs.Sets.{has, Lowest}
use Rattle.integers.proofs.Walks.{Walk, Met, walk_from, walk_meets, walk_end}
use Rattle.standard.specs.Combination.{case_count}
use Rattle.envelope.specs.Range.{effect_of}
use Rattle.sums.specs.declared.Sides.{Sides}
use Rattle.sums.specs.Sums.{nothing, sides_in, sides_with}
use Rattle.sums.proofs.Held.{no_sides, sides_skip, sides_join, sides_room}
use Rattle.sums.proofs.sides_of.Goals as goal

-- at a member
met : (compared : Bool) (set : ℕ) (e : ℕ → ℤ) {rest k : ℕ} {s : Sides} →
    Walk (has set) case_count (sides_in compared (has set) e) rest s → Lowest rest k → Met (has set) case_count (sides_in compared (has set) e) rest k s
met compared set e {rest} {k} {s} = walk_meets (has set) case_count (sides_in compared (has set) e) (sides_skip compared (has set) e) rest k s

-- a member is a case
case_met : (set : ℕ) {rest k : ℕ} → Walk {A = Unit {0}} (has set) case_count (λ _. tt) rest tt → Lowest rest k → Met {A = Unit {0}} (has set) case_count (λ _. tt) rest k tt
case_met set {rest} {k} = walk_meets (has set) case_count (λ _. tt) (λ _ _ _. refl) rest k tt

left : (k : ℕ) {rest new : ℕ} → new + 2 ^ k ≡ rest → rest - 2 ^ k ≡ new
left k e = omega arith

pub loop-k-init : goal.loop-k-init
loop-k-init g c =
    let set = c.args.set in
    let taken = sym c.into_iter-k-iterator.ensures.into_iter_gives in
    record {
      cases = subst (λ (m : Members). Walk {A = Unit {0}} (has set) case_count (λ _. tt) m.0 tt) taken (walk_from case_count set (λ _. tt) tt c.requires.cases refl);
      made = λ d l.
          let e : ℕ → ℤ = g.R.Reading.along c.args.reading (effect_of c.args.effects.all.now) d in
          let made = sides_in c.args.compared (has set) e in
          let is : c.default-sides.result ≡ nothing = λ i. record { above = c.default-sides.ensures.0 i; below = c.default-sides.ensures.1 i } in
          let none = get_or-replicate g.row.N d c.default-sides.result nothing l ∙ is ∙ no_sides c.args.compared (has set) e in
          subst (λ (m : Members). Walk (has set) case_count made m.0 (get_or (replicate g.row.N c.default-sides.result) d nothing)) taken
          (walk_from case_count set made _ c.requires.cases none);
    }

pub of_case-requires : goal.of_case-requires
of_case-requires g c =
    let fits : g.row.N * 8 < 2 ^ 63 = omega (arith, c.requires.fits) in
    (fits, (case_met c.args.set c.loop-k.invariant.cases c.in-Some.ensures.steps.0).inside)

pub with_case-sides-requires : goal.with_case-sides-requires
with_case-sides-requires g c =
    let fits : g.row.N * 8 < 2 ^ 63 = omega (arith, c.requires.fits) in (
      c.requires.fits,
      (
        fits,
        λ d l.
            let e : ℕ → ℤ = g.R.Reading.along c.args.reading (effect_of c.args.effects.all.now) d in
            let m = met c.args.compared c.args.set e (c.loop-k.invariant.made d l) c.in-Some.ensures.steps.0 in
            rw (c.of_case.ensures d l, m.gathered)
            (sides_room c.args.compared (has c.args.set) e
            (c.requires.small d) c.in-Some.k m.inside),
      ),
    )

pub loop-k-preserved : goal.loop-k-preserved
loop-k-preserved g c =
    let set = c.args.set in
    let low = c.in-Some.ensures.steps.0 in
    let rest = left c.in-Some.k c.in-Some.ensures.steps.1 in
    record {
      cases = subst (λ (r : ℕ). Walk {A = Unit {0}} (has set) case_count (λ _. tt) r tt) rest ((case_met c.args.set c.loop-k.invariant.cases low).after tt refl);
      made = λ d l.
          let e : ℕ → ℤ = g.R.Reading.along c.args.reading (effect_of c.args.effects.all.now) d in
          let made = sides_in c.args.compared (has set) e in
          let m = met c.args.compared set e (c.loop-k.invariant.made d l) low in
          let s = get_or c.with_case-sides.result d nothing in
          subst (λ (r : ℕ). Walk (has set) case_count made r s) rest
          (m.after s
          (c.with_case-sides.ensures d l
          ∙ (λ i. sides_with c.args.compared (m.gathered i) (c.of_case.ensures d l i))
          ∙ sides_join c.args.compared (has set) e c.in-Some.k m.member));
    }

pub returns : goal.returns
returns g c = λ d l.
    let set = c.args.set in
    let e : ℕ → ℤ = g.R.Reading.along c.args.reading (effect_of c.args.effects.all.now) d in
    let made = sides_in c.args.compared (has set) e in
    let s = get_or c.loop-k.sides d nothing in
    walk_end (has set) case_count made (sides_skip c.args.compared (has set) e) s
    (subst (λ (r : ℕ). Walk (has set) case_count made r s) c.in-None.ensures.steps.0 (c.loop-k.invariant.made d l))
