-- The names kept of the cases: for each its name, which may have no bytes.
use Rattle.std.specs.Prelude.{ℕ, ◌≤◌, ◌<◌, ◌≡◌, List, [], cond, length, get_or, eqb}
use Rattle.drawing.specs.Names.{case_name}

-- how many cases there are, and the most bytes of a name
abbrev pub cases : ℕ
cases = 32

abbrev pub longest_name : ℕ
longest_name = 24

-- the name kept of a case
abbrev pub kept : List (List ℕ) → ℕ → List ℕ
kept names case = get_or names case []

-- each case has its place, and no name has more bytes than that holds
pub record Fits (names : List (List ℕ)) : Type 0 where
  pub long : length names ≡ cases
  pub most : (case : ℕ) → length (kept names case) ≤ longest_name

-- a name found later, where there is one, in place of the one before
abbrev pub newer : List ℕ → List ℕ → List ℕ
newer name before = cond (eqb (length name) 0) before name

-- the names in a part of the file are kept
pub record AllKept (part : List ℕ) (names names' : List (List ℕ)) : Type 0 where
  pub fits : Fits names'
  pub each : (j : ℕ) → j < cases → kept names' j ≡ newer (case_name part j) (kept names j)

-- the names kept are those of these bytes
pub record NamesOf (file : List ℕ) (names : List (List ℕ)) : Type 0 where
  pub fits : Fits names
  pub each : (j : ℕ) → j < cases → kept names j ≡ case_name file j
