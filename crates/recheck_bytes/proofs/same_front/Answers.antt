-- The call and the definition decide the same.
use Rattle.std.proofs.Common.{rules, ◌≡◌, ◌+◌, ◌<◌, ℕ, zero-add, length, get_or, Decides}
use Rattle.std.proofs.lemmas.Bool.Decides.{same_from_decides}
use Rattle.recheck_bytes.proofs.Tests.{same_decides}
use Rattle.recheck_bytes.proofs.same_front.Goals as goal

pub returns : goal.returns
returns c =
    let front = c.args.front.now in
    let s = c.args.s.now in
    let called : Decides c.all.result ((k : ℕ) → k < length front → get_or front k 0 ≡ get_or s (0 + k) 0) = search (rules, zero-add) in
    same_from_decides _ _ called (same_decides front s 0 (length front))
