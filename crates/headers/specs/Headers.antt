-- SCOPE 5.1 and 7: a field's header, the refusals 3, 1 and 2, and how much a reading consumes.
use Rattle.std.specs.Prelude.{ℕ, ◌+◌, ◌-◌, List, [], ◌∷◌, Bool, true, false, cond, ◌&&◌, ◌||◌, Option, Some, None, length, get_or, take, drop, ltb, leb, eqb}
use Rattle.wire.specs.Bytes.{byte_at, word_at}

-- the greatest length of a body (SCOPE 7.1)
abbrev pub longest_body : ℕ
longest_body = 60000

-- a field's tag, its length and its body (SCOPE 5.1)
abbrev pub tag_of : List ℕ → ℕ
tag_of input = byte_at input 0

abbrev pub length_in : List ℕ → ℕ
length_in input = word_at input 1

abbrev pub body_of : List ℕ → List ℕ
body_of input = take (length_in input) (drop 3 input)

-- header or body goes past the end, or the length is above 60,000 (SCOPE 7.1)
abbrev pub is_cut : List ℕ → Bool
is_cut input = ltb (length input) 3 || (ltb longest_body (length_in input) || ltb (length input - 3) (length_in input))

-- what a header says: the tag, and the length of the body (SCOPE 5.1)
pub record Header : Type 0 where
  pub tag : ℕ
  pub len : ℕ

abbrev pub header : (tag len : ℕ) → Header
header tag len = record { tag = tag; len = len }

-- one tag byte, a two-byte length and a body that is there; none, and 3 is due, where header or body goes past the end, or the length is
-- above 60,000 (SCOPE 5.1, 7.1)
unfoldable pub header_of : List ℕ → Option Header
header_of s =
    cond (ltb (length s) 3) None
    (cond (ltb longest_body (word_at s 1)) None
    (cond (ltb (length s - 3) (word_at s 1)) None (Some (header (byte_at s 0) (word_at s 1)))))

-- the length of a body by its tag, from tag 00, which is none (SCOPE 5.2)
unfoldable pub length_of : ℕ → ℕ
length_of tag = get_or (0 ∷ 3 ∷ 2 ∷ 8 ∷ 1 ∷ 7 ∷ 2 ∷ 1 ∷ 1 ∷ 2 ∷ []) tag 0

-- the last of these tags (SCOPE 5.2)
abbrev pub last_tag : ℕ
last_tag = 9

-- the tag of a case name, whose body is a case and 1 to 24 bytes (SCOPE 5.2, 5.4)
abbrev pub name_number : ℕ
name_number = 0x60

abbrev pub name_length : ℕ → Bool
name_length len = leb 2 len && leb len 25

-- 1 for an unknown tag, then 2 for a length that is not the tag's (SCOPE 7.2)
unfoldable pub due_header : ℕ → ℕ → ℕ
due_header tag len =
    cond (eqb tag name_number) (cond (name_length len) 0 2)
    (cond (eqb tag 0) 1 (cond (ltb last_tag tag) 1 (cond (eqb len (length_of tag)) 0 2)))

-- 3 consumes all that is left, others the field (SCOPE 5.3, 7.3)
abbrev pub consumed_of : Option Header → List ℕ → ℕ
consumed_of None input = length input
consumed_of (Some h) input = 3 + h.len

abbrev pub consumed_by : List ℕ → ℕ
consumed_by input = consumed_of (header_of input) input

-- the bytes of a field, without what follows it; where it is cut, all that is left (SCOPE 5.3, 7.3)
abbrev pub field_in : List ℕ → List ℕ
field_in input = take (consumed_by input) input

-- what is at hand can be read before more bytes come: a whole field, or a length above 60,000
unfoldable pub ready_of : List ℕ → Bool
ready_of s = cond (ltb (length s) 3) false (cond (ltb longest_body (word_at s 1)) true (cond (ltb (length s - 3) (word_at s 1)) false true))
