-- SCOPE 5.1: bytes of numbers. Multi-byte numbers have the high byte first, signed ones are two's complement.
use Rattle.std.specs.Prelude.{ℕ, ◌+◌, ◌*◌, ◌/◌, ◌%◌, ◌≡◌, List, [], ◌∷◌, ◌++◌, length, get_or, drop, ℤ}
use Rattle.std.proofs.lemmas.List.Edits.{sets}
use Rattle.std.specs.Int.{w16, w64}
use Rattle.std.proofs.Common.{to_z, of_z}

-- the byte at a position, 0 past the end, and the two-byte number there
abbrev pub byte_at : List ℕ → ℕ → ℕ
byte_at s at = get_or s at 0

abbrev pub word_at : List ℕ → ℕ → ℕ
word_at s at = get_or s at 0 * 256 + get_or s (at + 1) 0

-- the two bytes of a number
abbrev pub word_bytes : ℕ → List ℕ
word_bytes n = n / 256 ∷ n % 256 ∷ []

-- the number whose two's complement bits these are, and its bits
abbrev pub signed16 : ℕ → ℤ
signed16 n = to_z w16 n

abbrev pub bits16 : ℤ → ℕ
bits16 z = of_z w16 z

abbrev pub bits64 : ℤ → ℕ
bits64 z = of_z w64 z

-- the four and the eight bytes of a number
unfoldable pub bytes4 : ℕ → List ℕ
bytes4 n = n / 16777216 % 256 ∷ n / 65536 % 256 ∷ n / 256 % 256 ∷ n % 256 ∷ []

unfoldable pub bytes8 : ℕ → List ℕ
bytes8 n = bytes4 (n / 4294967296) ++ bytes4 (n % 4294967296)

-- bytes written over the front of an output: later ones stay (SCOPE 5.3, 8.2)
unfoldable pub over : List ℕ → List ℕ → List ℕ
over w o = w ++ drop (length w) o

-- w is put into o at i: where it ends, and the output after it (SCOPE 5.3)
abbrev pub Put : List ℕ → ℕ → List ℕ → ℕ → List ℕ → Type 0
Put o i w to out = (to ≡ i + length w) × (out ≡ sets o i w)
