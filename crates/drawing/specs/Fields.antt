-- SCOPE 9.6: a whole field at a place of a file.
use Rattle.std.specs.Prelude.{ℕ, ◌+◌, ◌-◌, ◌≡◌, ◌≤◌, List, Bool, ◌&&◌, Option, MatchOption, true, false, length, drop, eqb}
use Rattle.wire.specs.Bytes.{byte_at}
use Rattle.headers.specs.Headers.{tag_of, length_in, body_of, is_cut, name_number, name_length}
use Rattle.drawing.specs.declared.NamePlace.{NamePlace}
use Rattle.drawing.specs.declared.fields.Field.{Field}
use Rattle.drawing.specs.declared.fields.Fields.{Fields}
use Rattle.std.specs.Option.{option_map_or}

-- the field at the place is whole, with its tag and its body, and lies in the file up to its end
pub record FieldOf (file : List ℕ) (at : ℕ) (field : Field) : Type 0 where
  pub whole : is_cut (drop at file) ≡ false
  pub begins : field.at ≡ at
  pub tag_is : field.whole.tag ≡ tag_of (drop at file)
  pub length_is : length field.whole.body.now ≡ length_in (drop at file)
  pub body_is : field.whole.body.now ≡ body_of (drop at file)
  pub ends : field.end ≡ at + (3 + length_in (drop at file))
  pub fits : field.end ≤ length file

-- that field, or none where the field at the place is cut
abbrev pub FieldAt : List ℕ → ℕ → Option Field → Type 0
FieldAt file at found = MatchOption found (is_cut (drop at file) ≡ true) (λ field. FieldOf file at field)

-- the field at the place is taken, and the next one is where it ends; at one that is cut none is
pub record TakesField (old : Fields) (found : Option Field) (new : Fields) : Type 0 where
  pub here : FieldAt old.file.now old.at found
  pub file : new.file.now ≡ old.file.now
  pub at : new.at ≡ option_map_or (λ (field : Field). field.end) found old.at

-- by its tag and its body, a field names the case (SCOPE 9.6)
abbrev pub is_name_of : ℕ → Field → Bool
is_name_of case field = eqb field.whole.tag name_number && (name_length (length field.whole.body.now) && eqb (byte_at field.whole.body.now 0) case)

-- the name in it: its body without the case (SCOPE 9.6)
abbrev pub name_in : Field → NamePlace
name_in field = record { from = field.at + 4; len = length field.whole.body.now - 1 }
