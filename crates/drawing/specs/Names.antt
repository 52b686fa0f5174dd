-- SCOPE 9.6: the drawing office's reader, the name of a load case in a file.
use Rattle.std.specs.Prelude.{ℕ, zero, suc, ◌+◌, ◌-◌, List, [], ◌∷◌, Bool, cond, ◌&&◌, length, take, drop, eqb}
use Rattle.wire.specs.Bytes.{byte_at}
use Rattle.refusals.specs.Refusals.{case_outside}
use Rattle.headers.specs.Headers.{tag_of, length_in, is_cut, name_number, name_length}
use Rattle.drawing.specs.declared.NamePlace.{NamePlace}

-- where the whole fields of a file begin, from a place on: each where the one before ends, and none from a field on that is cut or has a
-- length above 60,000; n is at least their number (SCOPE 9.6)
unfoldable pub places_from : ℕ → ℕ → List ℕ → List ℕ
places_from zero at file = []
places_from (suc n) at file = cond (is_cut (drop at file)) [] (at ∷ places_from n (at + (3 + length_in (drop at file))) file)

abbrev pub places_of : List ℕ → List ℕ
places_of file = places_from (length file) 0 file

-- where the last of the fields at these places ends, or the end before them (SCOPE 9.6)
unfoldable pub end_of : List ℕ → List ℕ → ℕ → ℕ
end_of file [] end = end
end_of file (at ∷ later) end = end_of file later (at + (3 + length_in (drop at file)))

-- as far as the whole fields of a file reach (SCOPE 9.6)
unfoldable pub whole_end : List ℕ → ℕ
whole_end file = end_of file (places_of file) 0

-- the field at the front of these bytes has tag 60, a right length and the case (SCOPE 9.6)
abbrev pub names_case : ℕ → List ℕ → Bool
names_case case field = eqb (tag_of field) name_number && (name_length (length_in field) && eqb (byte_at field 3) case)

-- the name in the field at a place: its body without the case (SCOPE 9.6)
abbrev pub name_at : List ℕ → ℕ → NamePlace
name_at file at = record { from = at + 4; len = length_in (drop at file) - 1 }

-- no name: a name has a byte at least
abbrev pub no_name : NamePlace
no_name = record { from = 0; len = 0 }

-- the name in the last of the fields at these places that names the case, or the one found before them (SCOPE 9.6)
unfoldable pub last_of : ℕ → List ℕ → List ℕ → NamePlace → NamePlace
last_of case file [] found = found
last_of case file (at ∷ later) found = last_of case file later (cond (names_case case (drop at file)) (name_at file at) found)

-- where the name of a case stands in a file; none for a case above 31 (SCOPE 9.6)
unfoldable pub name_place : List ℕ → ℕ → NamePlace
name_place file case = cond (case_outside case) no_name (last_of case file (places_of file) no_name)

-- the name as that part of the file (SCOPE 9.6)
abbrev pub case_name : List ℕ → ℕ → List ℕ
case_name file case = take (name_place file case).len (drop (name_place file case).from file)
