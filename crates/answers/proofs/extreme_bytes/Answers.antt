-- The number, and then the combination.
use Rattle.std.proofs.Common.{rules, ◌≡◌, ◌∙◌, to_z, of_z}
use mir.Syntax.{w64}
use mir.ValLaws.{to_z-of_z}
use Rattle.wire.specs.Bytes.{bits64, bytes4, bytes8}
use Rattle.answers.specs.Answers.{extreme_bytes}
use Rattle.wire.proofs.Numbers.{bytes8_of}
use Rattle.answers.proofs.extreme_bytes.Goals as goal

pub returns : goal.returns
unfolding extreme_bytes bytes8 bytes4
returns c =
    let x = c.args.x in
    let e : to_z w64 (of_z w64 x.value) ≡ x.value = to_z-of_z w64 x.value (search rules) in
    let b : c.to_be_bytes.result ≡ bytes8 (bits64 x.value) = c.to_be_bytes.ensures ∙ rw e (bytes8_of (bits64 x.value)) in
    rw (c.copy_from_slice.ensures.after, c.copy_from_slice-2.ensures.after, b, c.named_bytes.ensures)
