-- The effects are replaced where no refusal is due.
use Rattle.std.proofs.Common.{rules, sym, w16, zero-le}
use Rattle.wire.proofs.Complement.{read_back}
use Rattle.effects.proofs.Stored.{Within}
use Rattle.refusals.proofs.Fits.{effects_range}
use Rattle.sheet.proofs.Edits.{sums_held, replaced}
use Rattle.sheet.proofs.Kept.{three}
use Rattle.sheet.proofs.Refusals.{made}
use Rattle.sheet.proofs.Sheet.replace_effects_in.Goals as goal

pub put_effects-requires : goal.put_effects-requires
put_effects-requires c =
    let a = c.args in
    let f = effects_range c.kind.result a.case a.station a.words.n a.words.y a.words.z (sym c.in_ok-check_effects.ensures) in (
      rw c.from.ensures f.case,
      rw c.from-2.ensures f.station,
      three Within
          (rw (read_back w16 a.words.n (search rules) c.cast_signed.ensures) f.n)
          (rw (read_back w16 a.words.y (search rules) c.cast_signed-2.ensures) f.y)
          (rw (read_back w16 a.words.z (search rules) c.cast_signed-3.ensures) f.z)
          zero-le,
      sums_held c.requires,
    )

pub returns : goal.returns
returns c =
    let a = c.args in
    let stored = rw (c.from.ensures, c.from-2.ensures) at c.put_effects.ensures in
    made _ a.self.now _ (rw c.kind.ensures at c.in_ok-check_effects.ensures)
    (replaced a.self.now a.case a.station stored.0 stored.1
    (read_back w16 a.words.n (search rules) c.cast_signed.ensures) (read_back w16 a.words.y (search rules) c.cast_signed-2.ensures) (read_back w16 a.words.z (search rules) c.cast_signed-3.ensures))
