-- One row more.
use Rattle.std.proofs.Common.{ℕ, suc, ◌+◌, ◌-◌, ◌≤◌, ◌≡◌, refl, ◌∙◌, ap, subst, arith, ℤ}
use Rattle.envelope.specs.declared.Best.{Best}
use Rattle.envelope.specs.Envelope.{better_by, best_from}
use Rattle.envelope.proofs.Spans.{no_row, row_more}
use Rattle.terms.specs.Value.{value_of}
use Rattle.governing.proofs.Look.best_in.Goals as goal

none : (v : ℕ → ℤ) (start : Best) (from : ℕ) → start ≡ best_from v start from (from - from)
none v start from = subst (λ (n : ℕ). start ≡ best_from v start from n) {x = 0} {y = from - from} (omega arith) (no_row v start from refl)

more : (v : ℕ → ℤ) (start : Best) (from row : ℕ) {b r : Best} → from ≤ row → b ≡ best_from v start from (row - from) → r ≡ better_by b row (v row) →
    r ≡ best_from v start from (row + 1 - from)
more v start from row {b} {r} h e q =
    let n : ℕ = row - from in
    subst (λ (m : ℕ). r ≡ best_from v start from m) {x = suc n} {y = row + 1 - from} (omega arith)
    (row_more v start from n e (subst (λ (m : ℕ). r ≡ better_by b m (v m)) {x = row} {y = from + n} (omega arith) q))

pub loop-row-init : goal.loop-row-init
loop-row-init g c = none _ _ _

pub loop-row-preserved : goal.loop-row-preserved
loop-row-preserved g c =
    more (λ row. value_of c.args.self.rows.settings row c.args.self.terms) c.args.held g.row.FIRST c.loop-row.row c.loop-row.auto.row c.loop-row.invariant
    (c.better-best.ensures ∙ ap (λ (x : Best). better_by c.loop-row.best x.row x.value) c.at.ensures)

pub returns : goal.returns
returns g c =
    let v : ℕ → ℤ = λ row. value_of c.args.self.rows.settings row c.args.self.terms in
    subst (λ (row : ℕ). c.loop-row.best ≡ best_from v c.args.held g.row.FIRST (row - g.row.FIRST)) {x = c.loop-row.row} {y = g.row.LAST + 1} (omega arith)
    c.loop-row.invariant

pub returns-2 : goal.returns-2
returns-2 g c =
    let v : ℕ → ℤ = λ row. value_of c.args.self.rows.settings row c.args.self.terms in
    let is = more v c.args.held g.row.FIRST c.loop-row.row c.loop-row.auto.row c.loop-row.invariant (c.better-best.ensures ∙ ap (λ (x : Best). better_by c.loop-row.best x.row x.value) c.at.ensures) in
    subst (λ (row : ℕ). c.better-best.result ≡ best_from v c.args.held g.row.FIRST (row + 1 - g.row.FIRST)) {x = c.loop-row.row} {y = g.row.LAST} (omega arith) is
