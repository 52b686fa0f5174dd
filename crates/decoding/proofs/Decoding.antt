-- The bytes of an answer whose numbers fit decode to that answer.
-- Assumes nothing.
use Prim.Native.Nat.{ℕ, suc, ◌+◌, ◌*◌, ◌-◌, ◌^◌, ◌/◌, ◌%◌, ◌<◌, ◌≤◌}
use mathlib.Core.Path.{◌≡◌, refl, sym, ap, ◌∙◌}
use mathlib.Core.List.{List, [], ◌∷◌}
use mathlib.Core.Bool.{Bool, true, false, cond}
use native.Mathlib.Nat.{div-div-eq-div-mul, div-add-mod', mod-eq_of_lt}
use native.Mathlib.Omega.{arith}
use borrow.Author.Tests.{lt-ltb, le-ltb}
use lib.Dec.{eqb}
use lib.IntN.{ℤ, pos, negsuc, nat_abs}
use Rattle.wire.specs.Bytes.{bits64, bytes4, bytes8}
use Rattle.integers.proofs.Sums.{eqb_cases}
use Rattle.envelope.specs.declared.Extreme.{Extreme}
use Rattle.sheet.specs.declared.Answer.{Answer}
use Rattle.sheet.specs.declared.Answer.TheVariants as answer
use Rattle.answers.specs.Answers.{verdict_byte, extreme_bytes, utilised_bytes, answer_bytes}
use Rattle.decoding.specs.Decoding.{signed64, decoded, ExtremeFits, AnswerFits}

-- the four bytes of a number, put together
abbrev joined4 : ℕ → ℕ
joined4 n = (n / 16777216 % 256 * 256 + n / 65536 % 256) * 2 ^ 16 + (n / 256 % 256 * 256 + n % 256)

four : (n : ℕ) → n < 2 ^ 32 → joined4 n ≡ n
four n h =
    let a : n / 256 / 256 ≡ n / 65536 = div-div-eq-div-mul n 256 256 in
    let b : n / 65536 / 256 ≡ n / 16777216 = div-div-eq-div-mul n 65536 256 in
    let t : n / 16777216 < 256 = omega arith in
    let c : n / 16777216 % 256 ≡ n / 16777216 = mod-eq_of_lt t in
    omega (arith, div-add-mod' n 256, div-add-mod' (n / 256) 256, div-add-mod' (n / 65536) 256)

eight : (n : ℕ) → n < 2 ^ 64 → joined4 (n / 4294967296) * 2 ^ 32 + joined4 (n % 4294967296) ≡ n
eight n h =
    let a : n / 4294967296 < 2 ^ 32 = omega arith in
    let b : n % 4294967296 < 2 ^ 32 = omega arith in
    let e : n / 4294967296 * 2 ^ 32 + n % 4294967296 ≡ n = omega arith in
    (λ i. four (n / 4294967296) a i * 2 ^ 32 + four (n % 4294967296) b i) ∙ e

bits_fit : (z : ℤ) → nat_abs z < 2 ^ 63 → bits64 z < 2 ^ 64
bits_fit (pos n) h = omega arith
bits_fit (negsuc n) h = omega arith

signed_bits : (z : ℤ) → nat_abs z < 2 ^ 63 → signed64 (bits64 z) ≡ z
signed_bits (pos n) h = rw (lt-ltb n (2 ^ 63) h)
signed_bits (negsuc n) h =
    let g : 2 ^ 63 ≤ 2 ^ 64 - suc n = omega arith in
    let e : 2 ^ 64 - (2 ^ 64 - suc n) ≡ suc n = omega arith in
    rw (le-ltb (2 ^ 64 - suc n) (2 ^ 63) g, e)

signed_eight : (z : ℤ) → nat_abs z < 2 ^ 63 → signed64 (joined4 (bits64 z / 4294967296) * 2 ^ 32 + joined4 (bits64 z % 4294967296)) ≡ z
signed_eight z h = ap signed64 (eight (bits64 z) (bits_fit z h)) ∙ signed_bits z h

-- an extreme from the bytes of its numbers
module _ (x : Extreme) (h : ExtremeFits x) where
  extreme_back : ◌≡◌ {A = Extreme} (record {
    value = signed64 (joined4 (bits64 x.value / 4294967296) * 2 ^ 32 + joined4 (bits64 x.value % 4294967296));
    row = x.row;
    acting = joined4 x.acting;
    low = joined4 x.low;
  }) x
  extreme_back = λ i. record { value = signed_eight x.value h.value i; row = x.row; acting = four x.acting h.acting i; low = four x.low h.low i }

verdict_back : (t : Bool) → eqb (verdict_byte t) 1 ≡ t
verdict_back true = refl
verdict_back false = refl

pub decoded_answer : (a : Answer) → AnswerFits a → decoded (answer_bytes a) ≡ a
unfolding decoded answer_bytes AnswerFits extreme_bytes utilised_bytes bytes8 bytes4
decoded_answer answer.Accepted h = refl
decoded_answer (answer.Refused n) h =
    let none : List ℕ = [] in
    let some : List ℕ = 0x81 ∷ 0 ∷ 1 ∷ n ∷ [] in
    eqb_cases n 14 (λ (t : Bool). decoded (cond t none some) ≡ answer.Refused n) (λ e. ap answer.Refused (sym e)) (λ _. refl)
decoded_answer (answer.Extremes x) h = λ i. answer.Extremes (record { maximum = extreme_back x.maximum h.0 i; minimum = extreme_back x.minimum h.1 i })
decoded_answer (answer.Utilisation x) h = λ i. answer.Utilisation (record {
  numerator = eight x.numerator h.numerator i;
  denominator = eight x.denominator h.denominator i;
  pass = verdict_back x.pass i;
  row = x.row;
  acting = four x.acting h.acting i;
  low = four x.low h.low i;
})
