-- The file as far as it is read: the names of its whole fields are kept, and the bytes after those are held.
use Rattle.std.specs.Prelude.{ℕ, ◌≤◌, ◌≡◌, List, ◌++◌, true, length, take}
use Rattle.headers.specs.Headers.{is_cut}
use Rattle.drawing.specs.Names.{whole_end}
use Rattle.case_names.specs.Table.{Fits, NamesOf}

-- of all the bytes that were read, those held are the last, and the names are those of the whole fields before them
pub record Progress (all held : List ℕ) (names : List (List ℕ)) : Type 0 where
  pub done : List ℕ
  pub split : all ≡ done ++ held
  pub whole : whole_end done ≡ length done
  pub names_of : NamesOf done names
  pub cut : is_cut held ≡ true

-- that stays so with the bytes that one more read gives
pub record Further (all held : List ℕ) (names : List (List ℕ)) : Type 0 where
  pub more : List ℕ
  pub progress : Progress (all ++ more) held names

pub record Turned (held : ℕ) (input : List ℕ) (names : List (List ℕ)) (held' : ℕ) (input' : List ℕ) (names' : List (List ℕ)) : Type 0 where
  pub within : held' ≤ length input
  pub same : length input' ≡ length input
  pub fits : Fits names'
  pub goes_on : (all : List ℕ) → Progress all (take held input) names → Further all (take held' input') names'

-- the names are those of a file: of the bytes that were read
pub record Collected (names : List (List ℕ)) : Type 0 where
  pub file : List ℕ
  pub names_of : NamesOf file names
