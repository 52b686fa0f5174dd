-- The call and the definition decide the same.
use Rattle.std.proofs.Common.{rules, ◌≡◌, ◌<◌, ◌≤◌, ℕ, length, get_or, Decides}
use Rattle.std.proofs.lemmas.Bool.Decides.{same_from_decides}
use Rattle.recheck_bytes.proofs.Tests.{filled_decides}
use Rattle.recheck_bytes.proofs.filled_from.Goals as goal

pub returns : goal.returns
returns c =
    let s = c.args.s.now in
    let called : Decides c.all.result ((k : ℕ) → k < length s → c.args.from ≤ k → get_or s k 0 ≡ c.args.byte) = search rules in
    same_from_decides _ _ called (filled_decides c.args.byte s c.args.from (length s))
