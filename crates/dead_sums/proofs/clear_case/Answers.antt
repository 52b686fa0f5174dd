-- One more station has the case's effects set to 0.
use Rattle.std.proofs.Common.{◌∙◌, refl, ap, arith, add-one, length, pos, [], ◌∷◌}
use Rattle.std.proofs.lemmas.List.Edits.{sets}
use Rattle.effects.specs.Effects.{place, cleared}
use Rattle.effects.proofs.Stored.{Within, length_cleared, cleared_within}
use Rattle.wire.proofs.Stores.{replicate_all}
use Rattle.dead_sums.proofs.clear_case.Goals as goal

pub loop-station-init : goal.loop-station-init
unfolding cleared
loop-station-init c = (refl, c.requires.1.sums_true)

pub put_effects-requires : goal.put_effects-requires
put_effects-requires c =
    let l = c.loop-station in
    let h = c.requires.1 in (
      c.requires.0,
      omega arith,
      replicate_all Within (pos 0) (pos 0) (omega arith) (omega arith) 3,
      record {
        effects_long = ap length l.invariant.0 ∙ length_cleared c.args.effects.now c.args.case l.station ∙ h.effects_long;
        effects_range = λ i. rw l.invariant.0 (cleared_within c.args.effects.now c.args.case l.station i (h.effects_range i));
        sums_true = l.invariant.1;
      },
    )

pub loop-station-preserved : goal.loop-station-preserved
unfolding cleared
loop-station-preserved c =
    let l = c.loop-station in
    let p = c.put_effects.ensures in
    (rw (add-one l.station) (p.0 ∙ ap (λ e. sets e (place c.args.case l.station) (pos 0 ∷ pos 0 ∷ pos 0 ∷ [])) l.invariant.0), p.1)
