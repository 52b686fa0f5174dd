-- The rows that an answer names are numbers of the table, so they fit a byte.
-- Assumes nothing.
use Prim.Native.Nat.{ℕ, ◌<◌}
use mathlib.Core.Path.{sym, subst}
use mathlib.Core.List.{List}
use native.Mathlib.Omega.{arith}
use lib.Dec.{eqb}
use lib.IntN.{ℤ}
use lib.ListN.{length}
use Rattle.standard.specs.declared.Settings.{Settings}
use Rattle.optimum.specs.Row.{row_maximum}
use Rattle.envelope.specs.declared.Best.{Best}
use Rattle.envelope.specs.Range.{effect_of}
use Rattle.envelope.specs.Envelope.{governing_of, extreme_in, extremes_of, pattern_best, utilised_of}
use Rattle.envelope.proofs.Rows.{best_some}
use Rattle.envelope.proofs.Utilisation.{peak_own}
use Rattle.sheet.specs.declared.Sheet.{Sheet}
use Rattle.sheet.specs.declared.Answered.{Answered}
use Rattle.sheet.specs.declared.Answer.{Answer}
use Rattle.sheet.specs.declared.Answer.TheVariants as answer
use Rattle.sheet.specs.Sheet.{kind_at}
use Rattle.sheet.specs.Edits.{Edited, unless_refused}
use Rattle.sheet.specs.Looks.{station_effects, capacities_at, extremes_at, utilisation_at, due_utilisation, looked_extremes, looked_utilisation, unless_due, edited}
use Rattle.refusals.specs.Refusals.{due_extremes}
use Rattle.headers.specs.Headers.{due_header}
use Rattle.tags.specs.Run.{run_of}
use Rattle.fields.specs.Order.{field_of}
use Rattle.answers.specs.Rows.{RowsFit}
use Rattle.wire.proofs.Cases.{both}
use Rattle.tags.proofs.Laws.{run_by}

governing_fits : (s : Settings) (kind : ℕ → ℕ) (e : ℕ → ℤ) → (governing_of s kind e).row < 256
unfolding governing_of
governing_fits s kind e = omega (arith, (best_some s (λ row. row_maximum s row kind e)).0)

record Fits (a : Answered) : Type 0 where
  rows : RowsFit a.answer

-- a refusal names none, nor does an edit
pub refused_fits : (n : ℕ) → RowsFit (answer.Refused n)
unfolding RowsFit
refused_fits n = tt

edit_fits : (e : Edited) → Fits (edited e)
unfolding RowsFit
edit_fits e = record { rows = both RowsFit (eqb e.refusal 0) tt tt }

look_fits : (due : ℕ) (a : Answer) → RowsFit a → RowsFit (unless_due due a)
look_fits due a h = both RowsFit (eqb due 0) h (refused_fits due)

module _ (s : Sheet) (station : ℕ) where
  extremes_fit : (j : ℕ) → Fits (looked_extremes s station j)
  unfolding RowsFit looked_extremes extremes_at extremes_of extreme_in
  extremes_fit j = record {
    rows = look_fits (due_extremes station j) (answer.Extremes (extremes_at s station j)) (governing_fits s.settings (kind_at s) _, governing_fits s.settings (kind_at s) _);
  }

  utilisation_fits : Fits (looked_utilisation s station)
  unfolding RowsFit looked_utilisation utilisation_at utilised_of extreme_in
  utilisation_fits =
      let b = pattern_best s.settings (kind_at s) (effect_of (station_effects s station)) (capacities_at s station) in
      record {
        rows = look_fits (due_utilisation s station) (answer.Utilisation (utilisation_at s station))
            (subst (λ (x : Best). x.row < 256) (sym (peak_own b 7)) (governing_fits s.settings (kind_at s) _));
      }

run_fits : (s : Sheet) (tag : ℕ) (b : List ℕ) → Fits (run_of s tag b)
run_fits s tag b =
    run_by Fits s tag b (edit_fits (unless_refused _ s _)) (edit_fits (unless_refused _ s _)) (edit_fits (unless_refused _ s _)) (edit_fits (unless_refused _ s _)) (edit_fits (unless_refused _ s _))
    (extremes_fit s _ _) (utilisation_fits s _) (edit_fits (unless_refused _ s _)) (edit_fits (unless_refused _ s _)) (edit_fits (unless_refused _ s _))

pub field_fits : (s : Sheet) (tag : ℕ) (b : List ℕ) → RowsFit (field_of s tag b).answer
unfolding field_of
field_fits s tag b = (both Fits (eqb (due_header tag (length b)) 0) (run_fits s tag b) (record { rows = refused_fits _ })).rows
