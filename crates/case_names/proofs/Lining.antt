-- The lines for the names kept: that of a case, how long it is at most, those of all cases one after the other, and what the program writes.
-- Assumes nothing.
use Prim.Native.Nat.{ℕ, zero, suc, ◌+◌, ◌*◌, ◌≤◌, ◌<◌}
use mathlib.Core.Path.{◌≡◌, refl, sym, ◌∙◌}
use mathlib.Core.List.{List, [], ◌∷◌, ◌++◌, append-nil}
use mathlib.Core.Bool.{true, false}
use native.Mathlib.Numerals.{add-one}
use native.Mathlib.Omega.{arith}
use borrow.Author.Tests.{eqb-true, eqb-false}
use lib.Dec.{eqb}
use lib.ListN.{length, length-append}
use Rattle.drawing.proofs.Joins.{cut_nameless}
use Rattle.case_names.specs.Text.{line_text, line_of, lines_of, line_most}
use Rattle.case_names.specs.Table.{cases, longest_name, kept}
use Rattle.case_names.specs.Reading.{Collected}
use Rattle.case_names.specs.Report.{Reported}
use Rattle.case_names.proofs.Written.{case_most_lem, name_most}

pub some_line : (case : ℕ) (w : List ℕ) → (length w ≡ 0 → ⊥) → line_of case w ≡ line_text case w
unfolding line_of
some_line case [] h = absurd (h refl)
some_line case (b ∷ bs) h = refl

pub no_line : (case : ℕ) (w : List ℕ) → length w ≡ 0 → line_of case w ≡ []
unfolding line_of
no_line case [] h = refl
no_line case (b ∷ bs) h = absurd (omega arith)

pub text_most : (case : ℕ) (w : List ℕ) → length w ≤ longest_name → length (line_text case w) ≤ line_most
unfolding line_text
text_most case w h = simp length-append (omega (arith, case_most_lem case, name_most w))

line_most_lem : (case : ℕ) (w : List ℕ) → length w ≤ longest_name → length (line_of case w) ≤ line_most
unfolding line_of
line_most_lem case [] h = omega arith
line_most_lem case (b ∷ bs) h = text_most case (b ∷ bs) h

pub lines_more : (name : ℕ → List ℕ) (k : ℕ) → lines_of name (k + 1) ≡ lines_of name k ++ line_of k (name k)
unfolding lines_of
lines_more name k = rw add-one

-- one more line, or none
pub line_pushed : (name : ℕ → List ℕ) (k : ℕ) {lines lines' w : List ℕ} → lines ≡ lines_of name k → w ≡ name k → eqb (length w) 0 ≡ false →
    lines' ≡ lines ++ line_text k w → lines' ≡ lines_of name (k + 1)
line_pushed name k {w = w} h e some p =
    p ∙ rw (lines_more name k, h, ← e, some_line k w (eqb-false (length w) 0 some))

pub no_line_left : (name : ℕ → List ℕ) (k : ℕ) {lines w : List ℕ} → lines ≡ lines_of name k → w ≡ name k → eqb (length w) 0 ≡ true → lines ≡ lines_of name (k + 1)
no_line_left name k {w = w} h e none =
    h ∙ sym (lines_more name k ∙ rw (← e, no_line k w (eqb-true (length w) 0 none)) (append-nil (lines_of name k)))

-- the lines are those of the names, however they are held
lines_same : {f g : ℕ → List ℕ} (n : ℕ) → ((j : ℕ) → j < n → f j ≡ g j) → lines_of f n ≡ lines_of g n
unfolding lines_of
lines_same zero h = refl
lines_same (suc n) h = rw (lines_same n (λ j b. h j (omega arith)), h n (omega arith))

no_lines : (n : ℕ) → lines_of (λ _. []) n ≡ []
unfolding lines_of line_of
no_lines zero = refl
no_lines (suc n) = rw (no_lines n)

pub lines_most_lem : (f : ℕ → List ℕ) → ((j : ℕ) → length (f j) ≤ longest_name) → (n : ℕ) → length (lines_of f n) ≤ n * line_most
unfolding lines_of
lines_most_lem f h zero = omega arith
lines_most_lem f h (suc n) = rw length-append (omega (arith, lines_most_lem f h n, line_most_lem n (f n) (h n)))

-- what is written where a read failed, and for the names kept
pub none_reported : Reported []
none_reported = record { file = []; lines = sym (lines_same cases (λ j _. cut_nameless [] j refl) ∙ no_lines cases); most = omega arith }

pub names_reported : {names : List (List ℕ)} {written : List ℕ} → Collected names → written ≡ lines_of (kept names) cases → Reported written
names_reported {names} c e = record {
  file = c.file;
  lines = e ∙ lines_same cases c.names_of.each;
  most = rw e (lines_most_lem (kept names) c.names_of.fits.most cases);
}
