-- The utilisation of the station's part of the effects.
use Rattle.std.proofs.Common.{◌≡◌, Err, rules, sym, ap}
use Rattle.sheet.specs.declared.Answer.TheVariants as answer
use Rattle.sheet.specs.Looks.{utilisation_at, station_effects, capacities_at}
use Rattle.sheet.specs.Sheet.{capacity_at}
use Rattle.refusals.proofs.Fits.{utilisation_range}
use Rattle.sheet.proofs.Refusals.{looked, look_refused}
use Rattle.sheet.proofs.Stations.{station_in_range, totals_held, capacities_in_range}
use Rattle.sheet.proofs.Promised.{utilisation_promised}
use Rattle.sheet.proofs.Sheet.utilisation.Goals as goal

pub returns-in_err-check_utilisation : goal.returns-in_err-check_utilisation
returns-in_err-check_utilisation c =
    let s = c.args.self.now in
    let t = c.args.station in
    let is : c.from_residual.result ≡ Err c.in_err-check_utilisation.field-0.0 = search rules in
    let due = rw c.first_capacity.ensures at c.in_err-check_utilisation.ensures in
    look_refused _ _ _ (utilisation_promised s c.requires t) is due

pub utilisation_of-utilised-requires : goal.utilisation_of-utilised-requires
unfolding station_effects capacities_at capacity_at
utilisation_of-utilised-requires c =
    let s = c.args.self.now in
    let t = c.args.station in
    let due = rw c.first_capacity.ensures at c.in_ok-check_utilisation.ensures in
    let r = utilisation_range _ t (sym due) in
    rw (c.station_effects.ensures, c.station_sums.ensures, c.from-t.ensures)
    (station_in_range s t c.requires r.0, totals_held s t c.requires r.0, capacities_in_range s t c.requires r.0 r.1, c.requires.settings)

pub returns : goal.returns
unfolding utilisation_at station_effects capacities_at capacity_at
returns c =
    let s = c.args.self.now in
    let t = c.args.station in
    let due = rw c.first_capacity.ensures at c.in_ok-check_utilisation.ensures in
    let found = rw (c.station_effects.ensures, c.from-t.ensures) at c.utilisation_of-utilised.ensures.0 in
    looked _ _ _ (utilisation_promised s c.requires t) due (ap (λ x. answer.Utilisation x) found)
