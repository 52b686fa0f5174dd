-- `tags::run` meets its contract: each arm of the match is that of the table of tags.
use Rattle.tags.proofs.Arms.{restart_arm, fill_arm, effects_arm, empty_arm, capacities_arm, extremes_arm, utilisation_arm, switch_arm, name_arm, straining_arm}
use Rattle.tags.proofs.run.Goals as goal

pub returns-in-Restart : goal.returns-in-Restart
returns-in-Restart c =
    rw c.in-Restart.is (restart_arm _ _ c.byte-first.ensures c.byte-second.ensures c.byte.ensures c.restart_in.ensures)

pub returns-in-Fill : goal.returns-in-Fill
returns-in-Fill c =
    rw c.in-Fill.is (fill_arm _ _ c.byte-first.ensures c.byte-second.ensures (c.fill_in.ensures.filled c.requires))

pub returns-in-Effects : goal.returns-in-Effects
returns-in-Effects c =
    rw c.in-Effects.is (effects_arm _ c.args.body.now c.byte-first.ensures c.byte-second.ensures c.word.ensures c.word-in-Effects.ensures c.word-in-Effects-2.ensures c.replace_effects_in.ensures)

pub returns-in-Empty : goal.returns-in-Empty
returns-in-Empty c =
    rw c.in-Empty.is (empty_arm _ _ c.byte-first.ensures c.empty_in.ensures)

pub returns-in-Capacities : goal.returns-in-Capacities
returns-in-Capacities c =
    rw c.in-Capacities.is (capacities_arm _ _ c.byte-first.ensures c.word-in-Capacities.ensures c.word-in-Capacities-2.ensures c.word-in-Capacities-3.ensures c.replace_capacities_in.ensures)

pub returns-in-Extremes : goal.returns-in-Extremes
returns-in-Extremes c =
    rw c.in-Extremes.is (extremes_arm _ _ c.byte-first.ensures c.byte-second.ensures c.extremes.ensures.0)

pub returns-in-Utilisation : goal.returns-in-Utilisation
returns-in-Utilisation c =
    rw c.in-Utilisation.is (utilisation_arm _ _ c.byte-first.ensures c.utilisation.ensures.0)

pub returns-in-Ice : goal.returns-in-Ice
returns-in-Ice c =
    rw c.in-Ice.is (switch_arm _ _ c.byte-first.ensures c.switch_ice_in.ensures)

pub returns-in-Name : goal.returns-in-Name
returns-in-Name c =
    rw c.in-Name.is (name_arm _ _ c.byte-first.ensures c.name_case_in.ensures)

pub returns-in-Straining : goal.returns-in-Straining
returns-in-Straining c =
    rw c.in-Straining.is (straining_arm _ _ c.word-in-Straining.ensures c.set_straining_in.ensures)
