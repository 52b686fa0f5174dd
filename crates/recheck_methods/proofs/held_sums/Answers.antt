-- Each of the sums is the definition's.
use Rattle.std.proofs.Common.{ℕ, ℤ, pos, ◌≡◌, rules, arith}
use Rattle.std.proofs.lemmas.List.FromFn.{fill_by_all}
use Rattle.recheck_sums.proofs.Filled.{filled}
use Rattle.recheck_methods.specs.Held.{held_at, held_sums}
use Rattle.recheck_methods.proofs.held_sums.Goals as goal

pub returns : goal.returns
unfolding held_sums
returns c =
    let f : ℕ → ℤ = held_at c.args.sheet.now in
    let calls = c.from_fn.ensures.items in
    let made = filled _ _ (λ i sum. sum ≡ f i) (λ i y q k. search rules) c.from_fn.result 0 96 calls.each in
    fill_by_all f c.from_fn.result 96 (pos 0) calls.long (λ k l. made k (pos 0) (omega arith) (omega arith))
