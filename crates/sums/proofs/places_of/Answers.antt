-- A case more is a bit more in the set of its kind; an empty place changes no set.
use Rattle.std.proofs.Common.{◌+◌, ℕ, List, refl, sym, subst, arith}
use lib.ListN.{get_or, set}
use Rattle.envelope.specs.Range.{kind_of}
use Rattle.sums.proofs.Gathered.{PlacesTo, no_places, empty_more, case_more, case_fits, bit_more, places_all, places_in_range}
use Rattle.sums.proofs.places_of.Goals as goal
use Rattle.sums.proofs.places_of.Goals.{then-placed, else-placed}

pub loop-kind-init : goal.loop-kind-init
loop-kind-init c = record { bit = refl; held = no_places (kind_of c.args.kinds.now) }

pub overflow_add-sets : goal.overflow_add-sets
overflow_add-sets c =
    let h = c.loop-kind in
    let k = h.kind-index in
    rw c.from-kind.ensures
    (omega (
      arith,
      case_fits h.sets (kind_of c.args.kinds.now) k h.bit h.invariant.held h.invariant.bit (omega (arith, c.requires.long)) (omega (arith, c.if-placed.true, c.from-kind.ensures))
          (omega (arith, c.requires.range k)),
    ))

pub loop-kind-preserved : goal.loop-kind-preserved
loop-kind-preserved c =
    let h = c.loop-kind in
    let k = h.kind-index in
    let kind = kind_of c.args.kinds.now in
    let i = h.invariant in
    record {
      bit = bit_more h.sets kind k h.bit i.held i.bit;
      held =
          elim c.if-placed.branch [
            | then-placed w ↦
                subst (λ (l : List ℕ). PlacesTo l kind (k + 1)) (sym w.sets-is)
                (subst (λ (n : ℕ). PlacesTo (set h.sets n (get_or h.sets n 0 + h.bit)) kind (k + 1)) (sym c.from-kind.ensures)
                (case_more h.sets kind k h.bit i.held i.bit (omega (arith, w.if-placed.true, c.from-kind.ensures)) (omega (arith, c.requires.range k))))
            | else-placed w ↦
                subst (λ (l : List ℕ). PlacesTo l kind (k + 1)) (sym w.sets-is)
                (empty_more h.sets kind k h.bit i.held i.bit (omega (arith, w.if-placed.false, c.from-kind.ensures)))
          ];
    }

pub invariant_of-result : goal.invariant_of-result
invariant_of-result c =
    record {
      in_range =
          places_in_range c.loop-kind.sets (kind_of c.args.kinds.now)
          (places_all c.loop-kind.kind-index c.loop-kind.invariant.held (omega (arith, c.requires.long)));
    }
