-- The place is emptied where no refusal is due.
use Rattle.std.proofs.Common.{sym}
use Rattle.refusals.proofs.Fits.{empty_range}
use Rattle.sheet.proofs.Edits.{sums_held, emptied}
use Rattle.sheet.proofs.Refusals.{made}
use Rattle.sheet.proofs.Sheet.empty_in.Goals as goal

pub clear_case-requires : goal.clear_case-requires
clear_case-requires c = (rw c.from-k.ensures (empty_range _ _ (sym c.in_ok-check_empty.ensures)).case, sums_held c.requires)

pub bounds-self-k : goal.bounds-self-k
bounds-self-k c = rw c.from-k.ensures (empty_range _ _ (sym c.in_ok-check_empty.ensures)).case

pub returns : goal.returns
returns c =
    let s = c.args.self.now in
    let due = rw c.kind.ensures at c.in_ok-check_empty.ensures in
    let stored = rw c.from-k.ensures at c.clear_case.ensures in
    rw c.from-k.ensures (made _ s _ due (emptied s c.args.case c.requires (empty_range _ _ (sym due)).case stored.0 stored.1))
