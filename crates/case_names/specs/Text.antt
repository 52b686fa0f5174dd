-- What the program writes: a line for each case that has a name, with the case and its name.
use Rattle.std.specs.Prelude.{ℕ, zero, suc, ◌+◌, ◌/◌, ◌%◌, List, [], ◌∷◌, ◌++◌, Bool, cond, ◌||◌, ltb, eqb}

-- a digit to base 16, in upper case
abbrev pub hex_digit : ℕ → ℕ
hex_digit d = cond (ltb d 10) (48 + d) (55 + d)

-- a byte that is not written as itself: 00 to 1F, 7F and the backslash
abbrev pub escaped : ℕ → Bool
escaped b = ltb b 0x20 || (eqb b 0x7F || eqb b 0x5C)

-- such a byte as a backslash, x and two digits
unfoldable pub byte_text : ℕ → List ℕ
byte_text b = cond (escaped b) (0x5C ∷ 0x78 ∷ hex_digit (b / 16) ∷ hex_digit (b % 16) ∷ []) (b ∷ [])

unfoldable pub name_text : List ℕ → List ℕ
name_text [] = []
name_text (b ∷ bs) = byte_text b ++ name_text bs

-- a case in decimal, with one digit or two
unfoldable pub case_text : ℕ → List ℕ
case_text case = cond (ltb case 10) (hex_digit case ∷ []) (hex_digit (case / 10) ∷ hex_digit (case % 10) ∷ [])

-- the case, a space, its name and a newline
unfoldable pub line_text : ℕ → List ℕ → List ℕ
line_text case name = case_text case ++ ((0x20 ∷ []) ++ (name_text name ++ (0x0A ∷ [])))

-- none where there is no name
unfoldable pub line_of : ℕ → List ℕ → List ℕ
line_of case [] = []
line_of case (b ∷ bs) = line_text case (b ∷ bs)

-- the lines of the cases below n, rising
unfoldable pub lines_of : (ℕ → List ℕ) → ℕ → List ℕ
lines_of name zero = []
lines_of name (suc n) = lines_of name n ++ line_of n (name n)

-- the most bytes of a line, and of those of 32 cases
abbrev pub line_most : ℕ
line_most = 100

abbrev pub lines_most : ℕ
lines_most = 3200
