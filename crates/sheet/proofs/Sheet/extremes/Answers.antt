-- The envelope of the station's part of the effects.
use Rattle.std.proofs.Common.{◌≡◌, Err, rules, sym, ap}
use Rattle.sheet.specs.declared.Answer.TheVariants as answer
use Rattle.sheet.specs.Looks.{extremes_at, station_effects}
use Rattle.refusals.proofs.Fits.{extremes_range}
use Rattle.sheet.proofs.Refusals.{looked, look_refused}
use Rattle.sheet.proofs.Stations.{station_in_range, totals_held}
use Rattle.sheet.proofs.Promised.{extremes_promised}
use Rattle.sheet.proofs.Sheet.extremes.Goals as goal

pub returns-in_err-component : goal.returns-in_err-component
returns-in_err-component c =
    let a = c.args in
    let is : c.from_residual.result ≡ Err c.in_err-component.field-0.0 = search rules in
    look_refused _ _ _ (extremes_promised a.self.now c.requires a.station a.component) is c.in_err-component.ensures.refusal

pub extremes_of-extremes-requires : goal.extremes_of-extremes-requires
unfolding station_effects
extremes_of-extremes-requires c =
    let s = c.args.self.now in
    let t = c.args.station in
    let r = extremes_range t c.args.component (sym c.in_ok-component.ensures.refusal) in
    rw (c.station_effects.ensures, c.station_sums.ensures, c.from-t.ensures)
    (station_in_range s t c.requires r.0, totals_held s t c.requires r.0, c.requires.settings)

pub returns : goal.returns
unfolding extremes_at station_effects
returns c =
    let a = c.args in
    let found = rw (c.station_effects.ensures, c.from-t.ensures, c.in_ok-component.ensures.component) at c.extremes_of-extremes.ensures.0 in
    looked _ _ _ (extremes_promised a.self.now c.requires a.station a.component) c.in_ok-component.ensures.refusal (ap (λ x. answer.Extremes x) found)
