-- The rows of the zone, or none.
use Rattle.std.proofs.Common.{◌∙◌, arith}
use Rattle.standard.specs.Rows.{rows_to}
use Rattle.envelope.proofs.Spans.{first_zone, second_zone, no_zone}
use Rattle.terms.specs.Value.{value_of}
use Rattle.governing.proofs.Look.with_flood.Goals as goal

pub returns-in-1 : goal.returns-in-1
returns-in-1 g c =
    let a = c.args in
    c.best_in.ensures ∙ first_zone a.self.rows.settings (λ row. value_of a.self.rows.settings row a.self.terms) a.held (rows_to g.row.ONE g.row.ONE_LAST) (rows_to g.row.TWO g.row.TWO_LAST) c.in-1.is

pub returns-in-2 : goal.returns-in-2
returns-in-2 g c =
    let a = c.args in
    c.best_in-in-2.ensures ∙ second_zone a.self.rows.settings (λ row. value_of a.self.rows.settings row a.self.terms) a.held (rows_to g.row.ONE g.row.ONE_LAST) (rows_to g.row.TWO g.row.TWO_LAST) c.in-2.is

pub returns-in_default : goal.returns-in_default
returns-in_default g c =
    let a = c.args in
    no_zone a.self.rows.settings (λ row. value_of a.self.rows.settings row a.self.terms) a.held (rows_to g.row.ONE g.row.ONE_LAST) (rows_to g.row.TWO g.row.TWO_LAST)
    (λ e. absurd (omega arith)) (λ e. absurd (omega arith))
