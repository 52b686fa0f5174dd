-- The next one fits, since what is due for the stations passed is no longer than they allow; appended after it, it is due too.
use Rattle.std.proofs.Common.{rules, arith, ◌+◌, ◌*◌, ◌≤◌, length, length-append}
use Rattle.effects.specs.Effects.{effect_in}
use Rattle.saved_fields.specs.Saved.{station_most, saved_most}
use Rattle.saved_fields.proofs.Runs.{none_appended, one_appended, next_fits}
use Rattle.saved_fields.proofs.Lengths.{station_most_lem}
use Rattle.saved_fields.proofs.SavedFields.push_case.Goals as goal

pub loop-station-init : goal.loop-station-init
loop-station-init c = none_appended _ _

pub push_effects-requires : goal.push_effects-requires
push_effects-requires c =
    let room : length c.push.new.self + 16 * station_most ≤ saved_most = rw (c.push.ensures, length-append) (omega arith) in
    let most = station_most_lem (effect_in c.args.effects.now) c.args.case in
    (search rules, search rules, next_fits c.loop-station.invariant 16 station_most saved_most most room c.loop-station-test.true)

pub loop-station-preserved : goal.loop-station-preserved
loop-station-preserved c = one_appended c.loop-station.invariant c.push_effects.ensures
