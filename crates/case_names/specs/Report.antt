-- What the program writes of a file.
use Rattle.std.specs.Prelude.{ℕ, ◌≤◌, ◌≡◌, List, length}
use Rattle.drawing.specs.Names.{case_name}
use Rattle.case_names.specs.Text.{lines_of, lines_most}
use Rattle.case_names.specs.Table.{cases}

-- the lines for the names of a file
pub record Reported (written : List ℕ) : Type 0 where
  pub file : List ℕ
  pub lines : written ≡ lines_of (case_name file) cases
  pub most : length written ≤ lines_most
