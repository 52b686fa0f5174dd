-- SCOPE 9.6 and 9.7: the fields of a file by their places, the name of a case, and the file without its names.
use Rattle.std.specs.Prelude.{ℕ, zero, suc, ◌+◌, ◌-◌, List, [], ◌++◌, Bool, true, false, cond, ◌&&◌, ◌||◌, eqb, ltb, length, take, drop, Option, Some, None}
use Rattle.recheck_bytes.specs.Bytes.{byte_at, pair_at}
use Rattle.recheck_names.specs.declared.Name.{Name}
use Rattle.recheck_names.specs.declared.LeftOut.{LeftOut}
use Rattle.recheck_names.specs.declared.LeftOut.TheVariants.{Names, All}

-- a whole field begins here: its header and its body lie within the file, and its length is at most 60,000
unfoldable pub is_whole : List ℕ → ℕ → Bool
is_whole file at = ltb (pair_at file (at + 1)) 60001 && ltb (at + 2 + pair_at file (at + 1)) (length file)

-- where the next field begins; where no whole field begins the walk stays
unfoldable pub after_field : List ℕ → ℕ → ℕ
after_field file at = cond (is_whole file at) (at + 3 + pair_at file (at + 1)) at

-- where the field begins that has so many before it
unfoldable pub field_place : List ℕ → ℕ → ℕ
field_place file zero = 0
field_place file (suc n) = after_field file (field_place file n)

-- SCOPE 5.2: the case and a name of 1 to 24 bytes
abbrev pub is_name_length : ℕ → Bool
is_name_length body = ltb 1 body && ltb body 26

-- a whole tag 60
unfoldable pub is_tag60 : List ℕ → ℕ → Bool
is_tag60 file at = is_whole file at && eqb (byte_at file at) 96

-- one of right length for the case
unfoldable pub names_case : List ℕ → ℕ → ℕ → Bool
names_case file at case = is_tag60 file at && is_name_length (pair_at file (at + 1)) && eqb (byte_at file (at + 3)) case

-- the field's body without the case
abbrev pub name_at : List ℕ → ℕ → Name
name_at file at = record { from = at + 4; len = pair_at file (at + 1) - 1 }

-- the name in the field here, where it names the case
abbrev pub name_here : List ℕ → ℕ → ℕ → Option Name
name_here file at case = cond (names_case file at case) (Some (name_at file at)) None

-- the name in the last of so many fields that has one for the case
unfoldable pub last_name : List ℕ → ℕ → ℕ → Option Name
last_name file case zero = None
last_name file case (suc n) = cond (names_case file (field_place file n) case) (Some (name_at file (field_place file n))) (last_name file case n)

-- no file has more fields than bytes
abbrev pub name_of : List ℕ → ℕ → Option Name
name_of file case = cond (ltb case 32) (last_name file case (length file)) None

-- SCOPE 9.7: whether those that a reading refuses with 2 or 5 are left out too
abbrev pub takes_refused : LeftOut → Bool
takes_refused Names = false
takes_refused All = true

-- a whole tag 60 that is left out: one that a reading accepts, or one that it refuses where these are
unfoldable pub is_left_out : List ℕ → LeftOut → ℕ → Bool
is_left_out file left_out at = is_tag60 file at && (takes_refused left_out || (is_name_length (pair_at file (at + 1)) && ltb (byte_at file (at + 3)) 32))

-- what is kept of the field here
unfoldable pub kept_at : List ℕ → LeftOut → ℕ → List ℕ
kept_at file left_out at = cond (is_left_out file left_out at) [] (take (after_field file at - at) (drop at file))

-- what is kept of so many fields
unfoldable pub kept_up_to : List ℕ → LeftOut → ℕ → List ℕ
kept_up_to file left_out zero = []
kept_up_to file left_out (suc n) = kept_up_to file left_out n ++ kept_at file left_out (field_place file n)

-- all whole fields, then what follows them: a field that is cut, or one with a length above 60,000
unfoldable pub without_names : List ℕ → LeftOut → List ℕ
without_names file left_out = kept_up_to file left_out (length file) ++ drop (field_place file (length file)) file
