-- The saved bytes are written over the front of an output that has room for them.
use Rattle.std.proofs.Common.{◌≡◌, ◌∙◌, ◌<◌, ◌≤◌, arith, length, refl, ap}
use borrow.Author.Tests.{lt-ltb, le-ltb}
use Rattle.wire.specs.Bytes.{over}
use Rattle.saved_fields.specs.Saved.{saved_bytes}
use Rattle.saving.specs.Saving.{saved_answer, saved_over}
use Rattle.saving.proofs.save_in.Goals as goal

pub returns-then-out-n : goal.returns-then-out-n
unfolding saved_answer saved_over
returns-then-out-n c =
    let s = c.args.sheet.now in
    let e : c.as_slice-bytes.result.now ≡ saved_bytes s = c.as_slice-bytes.ensures ∙ c.push_fields.ensures in
    let f = ap length e in
    let h : length c.args.out.now < length (saved_bytes s) = omega arith in
    rw (lt-ltb _ _ h) (refl, refl)

pub returns : goal.returns
unfolding saved_answer saved_over over
returns c =
    let s = c.args.sheet.now in
    let e : c.as_slice-bytes.result.now ≡ saved_bytes s = c.as_slice-bytes.ensures ∙ c.push_fields.ensures in
    let f = ap length e in
    let h : length (saved_bytes s) ≤ length c.args.out.now = omega arith in
    rw (le-ltb _ _ h, ← e, c.copy_from_slice.ensures.after) (refl, refl)
