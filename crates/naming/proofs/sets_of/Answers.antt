-- The cases chosen make the sets.
use Rattle.std.proofs.Common.{arith, ℕ, ℤ, ◌≡◌, ◌+◌, ◌*◌, ◌<◌, ◌^◌, sym, ap, ◌∙◌, get_or}
use Rattle.integers.specs.Sets.{has}
use Rattle.standard.specs.Combination.{case_count}
use Rattle.standard.specs.Kinds.{group_count}
use Rattle.naming.specs.declared.Chosen.{Chosen}
use Rattle.naming.specs.Sets.{ChosenInRange, above_in, named_of}
use Rattle.naming.proofs.Marks.{above_most}
use Rattle.naming.proofs.Naming.{leads_of, leads_none, leads_more, leads_small, lead_small}
use Rattle.naming.proofs.sets_of.Goals as goal

-- the cases that all act and those of a subset are fewer than four sets
few : (a b : Chosen) (x : ℕ → ℤ) {above : ℕ} → a ≡ b → ChosenInRange b → above ≡ above_in (has a.free) x case_count → a.always + above < 4 * 2 ^ case_count
few a b x e range made = omega (arith, ap (λ (d : Chosen). d.always) e, range.always, made, above_most (has a.free) x case_count)

pub loop-group-init : goal.loop-group-init
loop-group-init g c = sym (leads_none c.chosen_in-c.result.groups (g.C.CaseEffects.effect c.args.cases))

pub overflow_add-leads : goal.overflow_add-leads
overflow_add-leads g c =
    let x = g.C.CaseEffects.effect c.args.cases in
    let groups = c.chosen_in-c.result.groups in
    omega (
      arith,
      c.loop-group.invariant,
      leads_small groups x c.loop-group.group-index,
      c.lead-leads.ensures,
      lead_small (has (get_or groups c.loop-group.group-index 0)) x,
    )

pub loop-group-preserved : goal.loop-group-preserved
loop-group-preserved g c =
    (λ i. c.loop-group.invariant i + c.lead-leads.ensures i)
    ∙ leads_more c.chosen_in-c.result.groups (g.C.CaseEffects.effect c.args.cases) c.loop-group.group-index

pub overflow_add-result : goal.overflow_add-result
overflow_add-result g c = omega (arith, few _ _ (g.C.CaseEffects.effect c.args.cases) c.chosen_in-c.ensures c.requires.1 c.above.ensures)

pub overflow_add-result-2 : goal.overflow_add-result-2
overflow_add-result-2 g c =
    let x = g.C.CaseEffects.effect c.args.cases in
    omega (
      arith,
      few _ _ x c.chosen_in-c.ensures c.requires.1 c.above.ensures,
      c.loop-group.invariant,
      leads_small c.chosen_in-c.result.groups x c.loop-group.group-index,
    )

pub returns : goal.returns
unfolding named_of leads_of
returns g c =
    let x = g.C.CaseEffects.effect c.args.cases in
    let groups = c.chosen_in-c.result.groups in
    let all : c.loop-group.group-index ≡ group_count = omega arith in
    (λ i. record {
      acting = c.chosen_in-c.result.always + c.above.ensures i + (c.loop-group.invariant ∙ ap (leads_of groups x) all) i;
      low = c.above-2.ensures i;
    })
    ∙ ap (λ (d : Chosen). named_of d x) c.chosen_in-c.ensures
