-- SCOPE 6.1, read the other way: the answer that some bytes are.
use Rattle.std.specs.Prelude.{ℕ, ◌+◌, ◌*◌, ◌-◌, ◌^◌, ◌<◌, List, cond, length, eqb, ltb, ℤ, pos, neg_ℤ, nat_abs}
use Rattle.wire.specs.Bytes.{byte_at, word_at}
use Rattle.envelope.specs.declared.Extreme.{Extreme}
use Rattle.envelope.specs.declared.Utilised.{Utilised}
use Rattle.sheet.specs.declared.Answer.{Answer}
use Rattle.sheet.specs.declared.Answer.TheVariants as answer

-- the numbers of four and of eight bytes from a position on, the high byte first (SCOPE 5.1)
abbrev pub number4 : List ℕ → ℕ → ℕ
number4 b at = word_at b at * 2 ^ 16 + word_at b (at + 2)

abbrev pub number8 : List ℕ → ℕ → ℕ
number8 b at = number4 b at * 2 ^ 32 + number4 b (at + 4)

-- two's complement of 64 bits (SCOPE 5.1)
abbrev pub signed64 : ℕ → ℤ
signed64 n = cond (ltb n (2 ^ 63)) (pos n) (neg_ℤ (pos (2 ^ 64 - n)))

-- a number (8 bytes, signed), its row (1), acting cases (4), low Hp cases (4)
abbrev pub extreme_from : List ℕ → ℕ → Extreme
extreme_from b at = record { value = signed64 (number8 b at); row = byte_at b (at + 8); acting = number4 b (at + 9); low = number4 b (at + 13) }

-- numerator (8), denominator (8), verdict (1 is pass), row, acting, low
abbrev pub utilised_from : List ℕ → ℕ → Utilised
utilised_from b at = record {
  numerator = number8 b at;
  denominator = number8 b (at + 8);
  pass = eqb (byte_at b (at + 16)) 1;
  row = byte_at b (at + 17);
  acting = number4 b (at + 18);
  low = number4 b (at + 22);
}

-- by the tag, after which come two bytes of length; no bytes are the refusal 14 (SCOPE 6.1, 7.3)
unfoldable pub decoded : List ℕ → Answer
decoded b =
    cond (eqb (length b) 0) (answer.Refused 14)
    (cond (eqb (byte_at b 0) 0x80) answer.Accepted
    (cond (eqb (byte_at b 0) 0x81) (answer.Refused (byte_at b 3))
    (cond (eqb (byte_at b 0) 0x86) (answer.Extremes (record { maximum = extreme_from b 3; minimum = extreme_from b 20 })) (answer.Utilisation (utilised_from b 3)))))

-- numbers that the bytes have room for
pub record ExtremeFits (x : Extreme) : Type 0 where
  pub value : nat_abs x.value < 2 ^ 63
  pub row : x.row < 256
  pub acting : x.acting < 2 ^ 32
  pub low : x.low < 2 ^ 32

pub record UtilisedFits (x : Utilised) : Type 0 where
  pub numerator : x.numerator < 2 ^ 64
  pub denominator : x.denominator < 2 ^ 64
  pub row : x.row < 256
  pub acting : x.acting < 2 ^ 32
  pub low : x.low < 2 ^ 32

unfoldable pub AnswerFits : Answer → Type 0
AnswerFits answer.Accepted = Unit
AnswerFits (answer.Refused n) = Unit
AnswerFits (answer.Extremes x) = ExtremeFits x.maximum × ExtremeFits x.minimum
AnswerFits (answer.Utilisation x) = UtilisedFits x
