-- An edit of a sheet: the first refusal that is due, by the refusals of its tag (SCOPE 7.2), and the sheet after it (SCOPE 5.2, 7.3).
use Rattle.std.specs.Prelude.{ℕ, cond, eqb}
use Rattle.refusals.specs.Refusals.{due_fill_at, due_effects_at, due_empty_at, due_straining}
use Rattle.sheet.specs.declared.Sheet.{Sheet}
use Rattle.sheet.specs.Sheet.{kind_at}

-- tags 02, 03 and 04, whose refusals look at the place
abbrev pub due_fill : Sheet → ℕ → ℕ → ℕ
due_fill s case kind = due_fill_at (kind_at s case) case kind

abbrev pub due_effects : Sheet → ℕ → ℕ → ℕ → ℕ → ℕ → ℕ
due_effects s case station n y z = due_effects_at (kind_at s case) case station n y z

abbrev pub due_empty : Sheet → ℕ → ℕ
due_empty s case = due_empty_at (kind_at s case) case

-- tag 09, whose refusal looks at the method
abbrev pub due_factor : Sheet → ℕ → ℕ
due_factor s factor = due_straining s.settings.method factor

-- the refusal that is due, 0 for none, and the sheet after the edit
pub record Edited : Type 0 where
  pub refusal : ℕ
  pub sheet : Sheet

-- If none is due, the table of tags says what becomes of the sheet; otherwise it stays as it was (SCOPE 9.2).
unfoldable pub unless_refused : ℕ → Sheet → Sheet → Edited
unless_refused due s s' = record { refusal = due; sheet = cond (eqb due 0) s' s }
