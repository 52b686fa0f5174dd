-- The numerator, the denominator, the verdict, and then the combination.
use Rattle.std.proofs.Common.{◌≡◌, ◌∙◌, Bool, true, false, refl}
use Rattle.wire.specs.Bytes.{bytes4, bytes8}
use Rattle.answers.specs.Answers.{utilised_bytes, verdict_byte}
use Rattle.wire.proofs.Numbers.{bytes8_of}
use Rattle.answers.proofs.utilised_bytes.Goals as goal

verdict : (t : Bool) → mir.Val.bool_byte t ≡ verdict_byte t
verdict true = refl
verdict false = refl

pub returns : goal.returns
unfolding utilised_bytes bytes8 bytes4
returns c =
    let x = c.args.x in
    let a : c.to_be_bytes.result ≡ bytes8 x.numerator = c.to_be_bytes.ensures ∙ bytes8_of x.numerator in
    let b : c.to_be_bytes-2.result ≡ bytes8 x.denominator = c.to_be_bytes-2.ensures ∙ bytes8_of x.denominator in
    let v : c.from-bytes.result ≡ verdict_byte x.pass = c.from-bytes.ensures ∙ verdict x.pass in
    rw (c.copy_from_slice.ensures.after, c.copy_from_slice-2.ensures.after, c.copy_from_slice-3.ensures.after, a, b, c.named_bytes.ensures, v)
