-- The sums of the case's kind move, those of another kind stay.
use Rattle.std.proofs.Common.{ℕ, suc, ◌≡◌, ◌<◌, ◌∙◌, true, false, List, ℤ, length, get_or, arith, rules, ap, sym}
use Rattle.std.proofs.lemmas.Bool.{eq-eqb, ne_eqb}
use Rattle.std.proofs.lemmas.List.Edits.{sets}
use Rattle.std.proofs.Math.ListN.{set}
use Rattle.standard.specs.Combination.{case_count}
use Rattle.envelope.specs.declared.StationSums.{StationSums}
use Rattle.envelope.specs.Range.{station_count, component_count}
use Rattle.effects.specs.Effects.{place}
use Rattle.dead_sums.specs.DeadSums.{station_by, sums_moved, sums_of, EffectsWithin, MovesInRange, SumsHeld, of_dead_kind}
use Rattle.dead_sums.proofs.Sums.{station_is, sums_within, uncounted, part_moved, moved_are}
use Rattle.dead_sums.proofs.put_effects.Goals as goal
use Rattle.dead_sums.proofs.put_effects.Goals.{in-1, in-2, in_default}

module _ (kinds : List ℕ) (effects : List ℤ) (sums : List StationSums) (values : List ℤ) (held : SumsHeld kinds effects sums) (t : ℕ) (b : t < station_count) where
  -- the sums that are held for the station
  held_there : (d : StationSums) → get_or sums t d ≡ station_by (of_dead_kind kinds) effects t
  held_there d = rw held.sums_true (station_is (of_dead_kind kinds) effects t d b)

  -- there is room
  dead_fits : (d : StationSums) → EffectsWithin values → MovesInRange (get_or sums t d).dead effects values
  dead_fits d within = record {
    sums_range = λ i. rw (held_there d) (sums_within (of_dead_kind kinds) effects held.effects_range 0 t i);
    effects_range = held.effects_range;
    values_range = within;
  }

  fluid_fits : (d : StationSums) → EffectsWithin values → MovesInRange (get_or sums t d).fluid effects values
  fluid_fits d within = record {
    sums_range = λ i. rw (held_there d) (sums_within (of_dead_kind kinds) effects held.effects_range 1 t i);
    effects_range = held.effects_range;
    values_range = within;
  }

  module _ (three : length values ≡ component_count) (k : ℕ) (a : k < case_count) where
    abbrev after : List StationSums
    after = sums_of kinds (sets effects (place k t) values)

    is_kind : (which : ℕ) → get_or kinds k 0 ≡ suc which → of_dead_kind kinds which k ≡ true
    is_kind which e = eq-eqb (get_or kinds k 0) (suc which) e

    no_kind : (which : ℕ) → (get_or kinds k 0 ≡ suc which → ⊥) → of_dead_kind kinds which k ≡ false
    no_kind which ne = ne_eqb (get_or kinds k 0) (suc which) ne

    other_kind : (which : ℕ) → get_or kinds k 0 ≡ suc which → (w : ℕ) → w < 2 → (w ≡ which → ⊥) → of_dead_kind kinds w k ≡ false
    other_kind which e w l ne = no_kind w (λ q. ne (omega arith))

    -- the part of the kind moves
    part_is : (d : StationSums) (which : ℕ) → which < 2 → get_or kinds k 0 ≡ suc which →
        set sums t (part_moved (of_dead_kind kinds) effects k t values three held.effects_long a b which (get_or sums t d)) ≡ after
    part_is d which c e =
        rw held.sums_true (moved_are (of_dead_kind kinds) effects k t values three held.effects_long a b which c (is_kind which e) (other_kind which e) d)

    dead_moved : (d : StationSums) {moved : List ℤ} → get_or kinds k 0 ≡ 1 → moved ≡ sums_moved (get_or sums t d).dead effects (place k t) values →
        set sums t (record { dead = moved; fluid = (get_or sums t d).fluid }) ≡ after
    unfolding part_moved
    dead_moved d kind e = (λ i. set sums t (record { dead = e i; fluid = (get_or sums t d).fluid })) ∙ part_is d 0 (omega arith) kind

    fluid_moved : (d : StationSums) {moved : List ℤ} → get_or kinds k 0 ≡ 2 → moved ≡ sums_moved (get_or sums t d).fluid effects (place k t) values →
        set sums t (record { dead = (get_or sums t d).dead; fluid = moved }) ≡ after
    unfolding part_moved
    fluid_moved d kind e = (λ i. set sums t (record { dead = (get_or sums t d).dead; fluid = e i })) ∙ part_is d 1 (omega arith) kind

    -- those of a kind that is neither stay
    none_moved : ((which : ℕ) → which < 2 → get_or kinds k 0 ≡ suc which → ⊥) → sums ≡ after
    none_moved neither =
        held.sums_true ∙ uncounted (of_dead_kind kinds) effects k t values three held.effects_long a b (λ which l. no_kind which (neither which l))

pub move_sums-requires : goal.move_sums-requires
move_sums-requires c =
    (omega arith, dead_fits c.args.kinds.now _ c.args.sums.now _ c.requires.3 c.args.station c.requires.1 _ c.requires.2)

pub move_sums-requires-in-2 : goal.move_sums-requires-in-2
move_sums-requires-in-2 c =
    (omega arith, fluid_fits c.args.kinds.now _ c.args.sums.now _ c.requires.3 c.args.station c.requires.1 _ c.requires.2)

pub returns : goal.returns
returns c =
    let a = c.args in
    let r = c.requires in
    let t = a.station in
    let three : length a.values ≡ component_count = search rules in
    let e = c.put_effects.ensures in
    let kind = sym c.byte.ensures in
    let sums : c.match-byte.sums ≡ sums_of a.kinds.now (sets a.effects.now (place a.case t) a.values) = elim c.match-byte.branch [
      | in-1 w ↦ w.sums-is ∙ dead_moved a.kinds.now _ a.sums.now _ r.3 t r.1 three a.case r.0 _ (kind ∙ w.in-1.is) w.move_sums.ensures
      | in-2 w ↦ w.sums-is ∙ fluid_moved a.kinds.now _ a.sums.now _ r.3 t r.1 three a.case r.0 _ (kind ∙ w.in-2.is) w.move_sums-in-2.ensures
      | in_default w ↦ w.sums-is ∙ none_moved a.kinds.now _ a.sums.now _ r.3 t r.1 three a.case r.0 (λ which l q. omega arith)
    ] in
    (e, sums ∙ ap (sums_of a.kinds.now) (sym e))
