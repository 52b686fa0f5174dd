-- The next one fits, since what is due for the stations passed is no longer than they allow; appended after it, it is due too.
use Rattle.sheet.specs.Sheet.{capacity_in}
use Rattle.saved_fields.specs.Saved.{capacity_bytes, capacity_most, saved_most}
use Rattle.saved_fields.proofs.Runs.{none_appended, one_appended, next_fits}
use Rattle.saved_fields.proofs.Lengths.{capacity_most_lem}
use Rattle.saved_fields.proofs.SavedFields.push_capacities.Goals as goal

pub loop-station-init : goal.loop-station-init
loop-station-init c = none_appended _ _

pub push_capacity-requires : goal.push_capacity-requires
push_capacity-requires c =
    let most = capacity_most_lem (capacity_in c.args.capacities.now) in
    next_fits c.loop-station.invariant 16 capacity_most saved_most most c.requires c.loop-station-test.true

pub loop-station-preserved : goal.loop-station-preserved
unfolding capacity_bytes
loop-station-preserved c = one_appended c.loop-station.invariant (rw c.from.ensures at c.push_capacity.ensures)
