-- The ice rows, or none.
use Rattle.std.proofs.Common.{◌∙◌}
use Rattle.standard.specs.Rows.{rows_to}
use Rattle.envelope.proofs.Spans.{ice_on, ice_off}
use Rattle.terms.specs.Value.{value_of}
use Rattle.governing.proofs.Look.with_ice.Goals as goal

pub returns-then-self-eq1 : goal.returns-then-self-eq1
returns-then-self-eq1 g c =
    let a = c.args in
    c.best_in.ensures ∙ ice_on a.self.rows.settings (λ row. value_of a.self.rows.settings row a.self.terms) a.held (rows_to g.row.FIRST g.row.LAST) c.if-self-eq1.true

pub returns-else-self-eq1 : goal.returns-else-self-eq1
returns-else-self-eq1 g c =
    let a = c.args in
    ice_off a.self.rows.settings (λ row. value_of a.self.rows.settings row a.self.terms) a.held (rows_to g.row.FIRST g.row.LAST) c.if-self-eq1.false
