-- The closure keeps the case and asks the options for its factor.
use Rattle.std.proofs.Common.{◌≡◌, ◌∙◌, sym, ◌≤◌, max, pos, None, rules, arith}
use Rattle.recheck_combinations.specs.declared.Case.{Case}
use Rattle.recheck_combinations.specs.declared.Term.{Term}
use Rattle.recheck_combinations.proofs.Terms.{mapped, same_cases, bounded}
use Rattle.recheck_combinations.proofs.terms_in.Goals as goal

abbrev none : Term
none = record { case = record { kind = None; effects = record { n = pos 0; my = pos 0; mz = pos 0 } }; factor = 0 }

pub returns : goal.returns
returns c =
    let cases = c.args.cases.now in
    let terms = c.map.result in
    let n = c.map.ensures.items.long in
    let made = mapped _ _ (λ (x : Case) (y : Term). (y.case ≡ x) × (y.factor ≤ max 2000 c.args.options.straining)) (λ x y q k. search rules) cases terms 0 32 c.map.ensures.items.each in
    record {
      cases = same_cases cases terms none (n ∙ sym c.told-cases) (λ k l. (made k none.case none (omega arith) (omega arith)).0);
      factors = bounded c.args.options.straining terms none (λ k l. (made k none.case none (omega arith) (omega arith)).1);
    }
