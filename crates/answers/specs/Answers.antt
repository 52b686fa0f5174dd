-- SCOPE 6.1: the bytes of an answer.
use Rattle.std.specs.Prelude.{ℕ, List, [], ◌∷◌, ◌++◌, Bool, true, false, cond, eqb}
use Rattle.wire.specs.Bytes.{bits64, bytes4, bytes8}
use Rattle.envelope.specs.declared.Extreme.{Extreme}
use Rattle.envelope.specs.declared.Utilised.{Utilised}
use Rattle.sheet.specs.declared.Answer.{Answer}
use Rattle.sheet.specs.declared.Answer.TheVariants as answer

-- the room that a field asks for, which the longest answer takes (SCOPE 6.1, 7.1)
abbrev pub answer_room : ℕ
answer_room = 37

-- a row (1 byte), acting cases (4), low Hp cases (4) (SCOPE 6.1, 6.2)
abbrev pub named_bytes : ℕ → ℕ → ℕ → List ℕ
named_bytes row acting low = row ∷ (bytes4 acting ++ bytes4 low)

-- a number (8 bytes, signed), its row, acting and low cases
unfoldable pub extreme_bytes : Extreme → List ℕ
extreme_bytes x = bytes8 (bits64 x.value) ++ named_bytes x.row x.acting x.low

abbrev pub verdict_byte : Bool → ℕ
verdict_byte true = 1
verdict_byte false = 0

-- numerator (8), denominator (8), verdict (1), row, acting, low
unfoldable pub utilised_bytes : Utilised → List ℕ
utilised_bytes x = bytes8 x.numerator ++ (bytes8 x.denominator ++ (verdict_byte x.pass ∷ named_bytes x.row x.acting x.low))

-- `80 00 00` is accepted; `81 00 01` and a number is a refusal, of which 14 writes nothing (SCOPE 7.3); 86 and 87 with their bodies
unfoldable pub answer_bytes : Answer → List ℕ
answer_bytes answer.Accepted = 0x80 ∷ 0 ∷ 0 ∷ []
answer_bytes (answer.Refused n) = cond (eqb n 14) [] (0x81 ∷ 0 ∷ 1 ∷ n ∷ [])
answer_bytes (answer.Extremes x) = (0x86 ∷ 0 ∷ 34 ∷ []) ++ (extreme_bytes x.maximum ++ extreme_bytes x.minimum)
answer_bytes (answer.Utilisation x) = (0x87 ∷ 0 ∷ 26 ∷ []) ++ utilised_bytes x

-- a service stops after 3 (SCOPE 9.4)
abbrev pub last_of : Answer → Bool
last_of answer.Accepted = false
last_of (answer.Extremes x) = false
last_of (answer.Utilisation x) = false
last_of (answer.Refused n) = eqb n 3
