-- SCOPE 5.1: bytes of fields and answers as numbers, the high byte first. Past the end stands 0.
use Rattle.std.specs.Prelude.{ℕ, zero, suc, ◌+◌, ◌*◌, ◌%◌, List, Bool, true, ◌&&◌, ◌||◌, eqb, ltb, get_or}

abbrev pub byte_at : List ℕ → ℕ → ℕ
byte_at s at = get_or s at 0

-- two bytes
abbrev pub pair_at : List ℕ → ℕ → ℕ
pair_at s at = get_or s at 0 * 256 + get_or s (at + 1) 0

-- so many bytes; of more than eight, the last eight
unfoldable pub number_at : List ℕ → ℕ → ℕ → ℕ
number_at s at zero = 0
number_at s at (suc n) = number_at s at n % 72057594037927936 * 256 + get_or s (at + n) 0

-- whether so many bytes are the same as those from a position on
unfoldable pub same_up_to : List ℕ → List ℕ → ℕ → ℕ → Bool
same_up_to front s at zero = true
same_up_to front s at (suc n) = same_up_to front s at n && eqb (get_or front n 0) (get_or s (at + n) 0)

-- whether those of so many bytes that stand from a position on are all the one given
unfoldable pub filled_up_to : ℕ → List ℕ → ℕ → ℕ → Bool
filled_up_to byte s from zero = true
filled_up_to byte s from (suc n) = filled_up_to byte s from n && (ltb n from || eqb (get_or s n 0) byte)
