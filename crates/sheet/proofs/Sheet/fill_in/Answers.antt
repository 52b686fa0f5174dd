-- The place is filled where no refusal is due.
use Rattle.std.proofs.Common.{sym, refl}
use Rattle.refusals.proofs.Fits.{fill_range}
use Rattle.sheet.proofs.Edits.{filled}
use Rattle.sheet.proofs.Refusals.{made}
use Rattle.sheet.proofs.Sheet.fill_in.Goals as goal

pub bounds-self-from : goal.bounds-self-from
bounds-self-from c = rw c.from.ensures (fill_range _ _ _ (sym c.in_ok-check_fill.ensures)).case

pub returns-clause-stored : goal.returns-clause-stored
returns-clause-stored c =
    let due = rw c.kind.ensures at c.in_ok-check_fill.ensures in
    rw c.from.ensures (made _ c.args.self.now _ due refl)

pub returns-clause-filled : goal.returns-clause-filled
returns-clause-filled c range =
    let s = c.args.self.now in
    let due = rw c.kind.ensures at c.in_ok-check_fill.ensures in
    let f = fill_range _ _ _ (sym due) in
    rw c.from.ensures (made _ s _ due (filled s c.args.case c.args.kind range f.case f.empty))
