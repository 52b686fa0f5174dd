-- The plain rows, those of the zone and the ice rows.
use Rattle.std.proofs.Common.{ℕ, ℤ, sym, ◌∙◌}
use Rattle.envelope.proofs.Spans.{allowable_rows}
use Rattle.terms.specs.Value.{value_of}
use Rattle.governing.proofs.Methods.{compared}
use Rattle.governing.proofs.Look.allowable.Goals as goal

pub returns : goal.returns
returns c =
    let s = c.args.self.rows.settings in
    let v : ℕ → ℤ = λ row. value_of s row c.args.self.terms in
    compared v 21 22 9 _ _ c.at.ensures c.best_in-plain.ensures c.with_flood-flooded.ensures c.with_ice.ensures ∙ sym (allowable_rows s v c.requires)
