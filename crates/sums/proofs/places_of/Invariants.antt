-- The loop holds the sets of the cases below k.
use Rattle.std.proofs.Common.{◌≡◌, ◌^◌}
use Rattle.envelope.specs.Range.{kind_of}
use Rattle.sums.proofs.Gathered.{PlacesTo}
use Rattle.sums.proofs.places_of.Given as goal

abbrev pub invariant-loop-kind : goal.invariant-loop-kind
invariant-loop-kind l = record { bit : l.bit ≡ 2 ^ l.kind-index; held : PlacesTo l.sets (kind_of l.kinds) l.kind-index }
