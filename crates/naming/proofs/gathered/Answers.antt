-- The loop holds the cases of the kinds passed, and there is room for those of one kind more. A kind is cast to its number.
use Rattle.std.proofs.Common.{ℕ, ◌+◌, ◌≡◌, get_or, length, add-zero, arith, true, false, refl, sym, ap, ◌∙◌, eq-eqb, ne_eqb}
use denote.Enum.Declared.{tag_of}
use Rattle.integers.specs.Sums.{sum}
use Rattle.standard.specs.contracts.Kind.{the_type}
use Rattle.standard.specs.declared.Kind.{Kind}
use Rattle.standard.specs.declared.Kind.TheVariants.{Dead, Fluid, EarthPermanent, EarthOther, Live, RoofLive, Snow, Rain, Wind, Earthquake, Flood, Ice, WindOnIce, SelfStraining}
use Rattle.standard.specs.Kinds.{number_of}
use Rattle.naming.proofs.Naming.{numbered, gathered_to, gathered_fit, gathered_next}
use Rattle.naming.specs.Sets.{gathered_in}
use Rattle.naming.proofs.gathered.Goals as goal
use Rattle.naming.proofs.gathered.Goals.{then-factored-kind-eq1, else-factored-kind-eq1}

abbrev cast : Kind → ℕ
cast kind = tag_of the_type kind + 1

cast_is : (kind : Kind) → cast kind ≡ number_of kind
cast_is Dead = refl
cast_is Fluid = refl
cast_is EarthPermanent = refl
cast_is EarthOther = refl
cast_is Live = refl
cast_is RoofLive = refl
cast_is Snow = refl
cast_is Rain = refl
cast_is Wind = refl
cast_is Earthquake = refl
cast_is Flood = refl
cast_is Ice = refl
cast_is WindOnIce = refl
cast_is SelfStraining = refl

pub loop-kind-init : goal.loop-kind-init
unfolding sum
loop-kind-init c = refl

pub overflow_add-set : goal.overflow_add-set
overflow_add-set c =
    let places = c.args.places.now in
    let kind = get_or c.args.kinds.now c.loop-kind.kind-index Dead in
    omega (
      arith,
      gathered_fit places.sets c.args.factored c.args.kinds.now c.loop-kind.kind-index places.in_range,
      c.loop-kind.invariant,
      c.of-set.ensures ∙ ap (λ (j : ℕ). get_or places.sets j 0) (cast_is kind),
      places.in_range.each (number_of kind) (numbered kind).0 (numbered kind).1,
    )

pub loop-kind-preserved : goal.loop-kind-preserved
loop-kind-preserved c =
    let next = gathered_next c.args.places.now.sets c.args.factored c.args.kinds.now c.loop-kind.kind-index c.loop-kind.set c.if-factored-kind-eq1.set c.loop-kind.invariant in
    let is = cast_is (get_or c.args.kinds.now c.loop-kind.kind-index Dead) in
    elim c.if-factored-kind-eq1.branch [
      | then-factored-kind-eq1 w ↦
          next true (rw (← is) (eq-eqb _ 1 w.if-factored-kind-eq1.true)) (rw (← is) (w.set-is ∙ ap (λ (n : ℕ). c.loop-kind.set + n) w.of-set.ensures))
      | else-factored-kind-eq1 w ↦ next false (rw (← is) (ne_eqb _ 1 w.if-factored-kind-eq1.false)) (w.set-is ∙ sym (add-zero c.loop-kind.set))
    ]

pub returns : goal.returns
unfolding gathered_in
returns c =
    let all : c.loop-kind.kind-index ≡ length c.args.kinds.now = omega arith in
    c.loop-kind.invariant ∙ ap (gathered_to c.args.places.now.sets c.args.factored c.args.kinds.now) all
