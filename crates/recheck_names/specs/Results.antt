-- SCOPE 9.6: the walk over the whole fields of a file, from each to the next.
use Rattle.std.specs.Prelude.{ℕ, ◌+◌, ◌<◌, ◌≡◌, true, false, List, length, take, drop}
use Rattle.recheck_names.specs.Names.{is_whole, after_field}

-- a whole field and what follows it
pub record Split (here field rest : List ℕ) : Type 0 where
  pub whole : is_whole here 0 ≡ true
  pub field_is : field ≡ take (after_field here 0) here
  pub rest_is : rest ≡ drop (after_field here 0) here
  pub size : length field + length rest ≡ length here
  pub some : 0 < length field

-- the next whole field comes, and what follows it is left
pub record Gives (before here left : List ℕ) : Type 0 where
  pub here_is : here ≡ before
  pub whole : is_whole before 0 ≡ true
  pub left_is : left ≡ drop (after_field before 0) before

-- no whole field is left
pub record Ends (before left : List ℕ) : Type 0 where
  pub whole : is_whole before 0 ≡ false
  pub left_is : left ≡ before
