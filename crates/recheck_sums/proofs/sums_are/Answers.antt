-- `==` of two lists of numbers decides whether they are equal.
use Rattle.std.proofs.Common.{◌≡◌, Decides, ℤ}
use Rattle.std.proofs.lemmas.Bool.Decides.{Decides-int_eq}
use Rattle.std.proofs.lemmas.Slice.Eq.{slice_eq-Decides}
use Rattle.std.specs.Ordering.{int_eq}
use Rattle.recheck_sums.proofs.sums_are.Goals as goal

pub returns : goal.returns
returns c =
    let sums = c.args.sums.now in
    let d : Decides c.eq.result (sums ≡ c.as_slice.result.now) = slice_eq-Decides {A = ℤ} {E = int_eq} Decides-int_eq sums c.as_slice.result.now c.eq.result c.eq.ensures in
    rw c.as_slice.ensures at d
