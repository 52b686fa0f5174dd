-- The comparison and the definition both decide whether the bytes are the same.
use Rattle.std.proofs.lemmas.Bool.Decides.{same_from_decides, Decides-eqb}
use Rattle.std.proofs.lemmas.Slice.Eq.{slice_eq-Decides}
use Rattle.recheck_offices.proofs.Same.{same_bytes_decides}
use Rattle.recheck_offices.proofs.same_bytes.Goals as goal

pub returns : goal.returns
returns c =
    same_from_decides _ _ (slice_eq-Decides Decides-eqb _ _ _ c.eq.ensures) (same_bytes_decides c.args.s.now c.args.t.now)
