-- Each set is gathered from the cases of its kinds, among the kinds that have a factor in the row.
use Rattle.std.proofs.Common.{arith, List, ℕ, ◌+◌, ◌*◌, ◌≤◌, ◌^◌, ◌≡◌, ◌∙◌, ap, sym, Bool, [], ◌∷◌, length, get_or, refl}
use Rattle.integers.specs.Sums.{when, sum}
use Rattle.integers.specs.Sets.{has}
use Rattle.standard.specs.Columns.{kinds_in}
use Rattle.standard.specs.Combination.{case_count}
use Rattle.standard.specs.Kinds.{number_of, self_straining}
use Rattle.standard.specs.declared.Kind.{Kind}
use Rattle.standard.specs.declared.Kind.TheVariants.{Dead, Fluid, EarthPermanent, EarthOther, Live, RoofLive, Snow, Rain, Wind, Earthquake, Flood, Ice, WindOnIce, SelfStraining}
use Rattle.envelope.specs.Places.{PlacesInRange}
use Rattle.naming.specs.Sets.{gathered_of, gathered_in, chosen_of}
use Rattle.naming.proofs.Naming.{gathered_fit}
use Rattle.naming.proofs.chosen_in.Goals as goal
use Rattle.naming.proofs.chosen_in.Goals.{then-fluid, else-fluid}

-- what is gathered is a set of cases for each kind
few : (places : List ℕ) (factored r : ℕ) (kinds : List Kind) → PlacesInRange places → r ≡ gathered_in places factored kinds → r ≤ length kinds * 2 ^ case_count
unfolding gathered_in
few places factored r kinds range e = omega (arith, e, gathered_fit places factored kinds (length kinds) range)

-- of a run of kinds
module _ (places : List ℕ) (factored : ℕ) where
  one : (kind : Kind) → gathered_in places factored (kind ∷ []) ≡ gathered_of places factored (number_of kind) 1
  unfolding gathered_in gathered_of sum
  one kind = ap (λ (j : ℕ). 0 + when (has factored j) (get_or places j 0)) {x = number_of kind} {y = number_of kind + 0} (omega arith)

  two : gathered_in places factored (EarthOther ∷ Live ∷ []) ≡ gathered_of places factored 4 2
  unfolding gathered_in gathered_of sum
  two = refl

  three : gathered_in places factored (RoofLive ∷ Snow ∷ Rain ∷ []) ≡ gathered_of places factored 6 3
  unfolding gathered_in gathered_of sum
  three = refl

pub overflow_add-result : goal.overflow_add-result
overflow_add-result c =
    omega (
      arith,
      few _ _ _ _ c.args.places.now.in_range c.gathered-dead.ensures,
      few _ _ _ _ c.args.places.now.in_range c.gathered-earth.ensures,
    )

pub overflow_add-result-2 : goal.overflow_add-result-2
overflow_add-result-2 c =
    let dead = few _ _ _ _ c.args.places.now.in_range c.gathered-dead.ensures in
    let tank = few _ _ _ _ c.args.places.now.in_range c.gathered-tank.ensures in
    let earth = few _ _ _ _ c.args.places.now.in_range c.gathered-earth.ensures in
    elim c.if-fluid.branch [
      | then-fluid w ↦ omega (arith, w.joint-is, dead, tank, earth)
      | else-fluid w ↦ omega (arith, w.joint-is, dead, earth)
    ]

pub overflow_add-result-3 : goal.overflow_add-result-3
overflow_add-result-3 c =
    omega (
      arith,
      few _ _ _ _ c.args.places.now.in_range c.gathered.ensures,
      few _ _ _ _ c.args.places.now.in_range c.gathered-2.ensures,
    )

pub returns : goal.returns
unfolding chosen_of
returns c =
    let places = c.args.places.now.sets in
    let f = c.kinds_in-factored.result in
    let among : (first count : ℕ) → gathered_of places f first count ≡ gathered_of places (kinds_in c.args.row) first count =
    λ first count. ap (λ (n : ℕ). gathered_of places n first count) c.kinds_in-factored.ensures in
    let dead = c.gathered-dead.ensures ∙ one places f Dead ∙ among 1 1 in
    let tank = c.gathered-tank.ensures ∙ one places f Fluid ∙ among 2 1 in
    let earth = c.gathered-earth.ensures ∙ one places f EarthPermanent ∙ among 3 1 in
    let joint : c.if-fluid.joint ≡ when c.args.fluid c.gathered-tank.result =
    elim c.if-fluid.branch [
      | then-fluid w ↦ w.joint-is ∙ ap (λ (b : Bool). when b c.gathered-tank.result) (sym w.if-fluid.true)
      | else-fluid w ↦ w.joint-is ∙ ap (λ (b : Bool). when b c.gathered-tank.result) (sym w.if-fluid.false)
    ] in
    λ i. record {
      always = dead i + earth i + (joint ∙ ap (λ (n : ℕ). when c.args.fluid n) tank) i;
      earth = earth i;
      free = (c.gathered.ensures ∙ two places f ∙ among 4 2) i + (c.gathered-2.ensures ∙ one places f SelfStraining ∙ among self_straining 1) i;
      groups =
          (c.gathered-3.ensures ∙ three places f ∙ among 6 3) i
          ∷ (c.gathered-4.ensures ∙ one places f Wind ∙ among 9 1) i ∷ (c.gathered-5.ensures ∙ one places f Earthquake ∙ among 10 1) i
          ∷ (c.gathered-6.ensures ∙ one places f Flood ∙ among 11 1) i ∷ (c.gathered-7.ensures ∙ one places f Ice ∙ among 12 1) i
          ∷ (c.gathered-8.ensures ∙ one places f WindOnIce ∙ among 13 1) i
          ∷ [];
    }
