-- The names kept of the cases: a name put into its place stands there, and the other names stay as they were.
-- Assumes nothing.
use Prim.Native.Nat.{ℕ, ◌+◌, ◌≤◌, ◌<◌}
use mathlib.Core.Path.{◌≡◌, refl, sym, ◌∙◌, ap}
use mathlib.Core.List.{List, []}
use mathlib.Core.Bool.{true, false, cond}
use mathlib.Core.Logic.{⊎_elim}
use native.Mathlib.Omega.{arith}
use borrow.Author.Tests.{eqb-true, eqb-false, lt-ltb, le-ltb}
use lib.ListN.{length, get_or, set, drop, length-set, length-take, get_or-eq_default}
use Rattle.std.proofs.lemmas.List.{get_or_default}
use lib.Seq.{get_or-set_same, get_or-set_other}
use lib.Dec.{eqb, ltb}
use Rattle.wire.proofs.Cases.{either, both, lt_or_ge}
use Rattle.wire.proofs.Stores.{set_keep}
use Rattle.drawing.specs.declared.NamePlace.{NamePlace}
use Rattle.drawing.specs.Names.{name_place, case_name}
use Rattle.drawing.proofs.Names.{name_len}
use Rattle.drawing.proofs.Joins.{cut_nameless}
use Rattle.case_names.specs.Table.{cases, longest_name, kept, Fits, newer, AllKept, NamesOf}

-- a name has no more bytes than its place
pub name_short : (file : List ℕ) (case : ℕ) → length (case_name file case) ≤ longest_name
name_short file case =
    let p = name_place file case in
    let l = length-take p.len (drop p.from file) in
    ⊎_elim (λ e. let z : p.len ≡ 0 = ap (λ (x : NamePlace). x.len) e in omega arith) (λ h. omega (arith, h.1)) (name_len file case)

-- where no case has a name, the names are those of no bytes
pub none_named : (names : List (List ℕ)) → length names ≡ cases → ((case : ℕ) → case < cases → get_or names case [] ≡ []) → NamesOf [] names
none_named names l e = record { fits = record { long = l; most = short }; each = λ j b. e j b ∙ sym (cut_nameless [] j refl) }
  where
    short : (case : ℕ) → length (kept names case) ≤ longest_name
    short case = ⊎_elim (λ b. rw (e case b) (omega arith)) (λ g. let past : length names ≤ case = omega arith in rw (get_or-eq_default names [] past) (omega arith)) (lt_or_ge case cases)

-- the names of the cases below k are kept
pub record Keeping (part : List ℕ) (names : List (List ℕ)) (k : ℕ) (names' : List (List ℕ)) : Type 0 where
  pub so_far : k ≤ cases
  pub fits : Fits names'
  pub each : (j : ℕ) → j < cases → kept names' j ≡ cond (ltb j k) (newer (case_name part j) (kept names j)) (kept names j)

pub keeping_none : (part : List ℕ) (names : List (List ℕ)) → Fits names → Keeping part names 0 names
keeping_none part names f = record { so_far = omega arith; fits = f; each = λ j l. rw (le-ltb j 0 (omega arith)) }

module _ {part : List ℕ} {names : List (List ℕ)} {k : ℕ} {names' : List (List ℕ)} (h : Keeping part names k names') where
  newer_short : length (newer (case_name part k) (kept names' k)) ≤ longest_name
  newer_short = both (λ (x : List ℕ). length x ≤ longest_name) (eqb (length (case_name part k)) 0) (h.fits.most k) (name_short part k)

  put_each : {name : List ℕ} → k < cases → name ≡ newer (case_name part k) (kept names' k) → (j : ℕ) → j < cases →
      kept (set names' k name) j ≡ cond (ltb j (k + 1)) (newer (case_name part j) (kept names j)) (kept names j)
  put_each {name} l e j b =
      ⊎_elim
      (λ q.
      let z : j ≡ k = eqb-true j k q in
      rw (z, get_or-set_same names' k name [] (omega (arith, h.fits.long)), lt-ltb k (k + 1) (omega arith)) (e ∙ rw (h.each k l, le-ltb k k (omega arith))))
      (λ q.
      let z : j ≡ k → ⊥ = eqb-false j k q in
      rw (get_or-set_other names' k j name [] z, h.each j b)
      (⊎_elim
      (λ s. rw (lt-ltb j k s, lt-ltb j (k + 1) (omega arith)))
      (λ g. rw (le-ltb j k g, le-ltb j (k + 1) (omega (arith, z))))
      (lt_or_ge j k)))
      (either (eqb j k))

  keeping_next : k < cases → {name : List ℕ} → name ≡ newer (case_name part k) (kept names' k) → Keeping part names (k + 1) (set names' k name)
  keeping_next l {name} e = record {
    so_far = omega arith;
    fits = record {
      long = length-set names' k name ∙ h.fits.long;
      most = λ j. set_keep (λ (x : List ℕ). length x ≤ longest_name) [] names' k name j (h.fits.most j) (rw e newer_short);
    };
    each = put_each l e;
  }

  -- a name found, or none, which leaves the one before
  pub keeping_found : k < cases → {found name : List ℕ} → found ≡ case_name part k → eqb (length found) 0 ≡ false → name ≡ found → Keeping part names (k + 1) (set names' k name)
  keeping_found l {found} e some n = keeping_next l (n ∙ rw (← e, some))

  pub keeping_kept : k < cases → {found : List ℕ} → found ≡ case_name part k → eqb (length found) 0 ≡ true → (d : List ℕ) → Keeping part names (k + 1) (set names' k (get_or names' k d))
  keeping_kept l {found} e none d =
      let same : get_or names' k d ≡ kept names' k = get_or_default names' k d [] (omega (arith, h.fits.long)) in
      keeping_next l (same ∙ rw (← e, none))

  pub keeping_all : cases ≤ k → AllKept part names names'
  keeping_all g = record { fits = h.fits; each = λ j b. h.each j b ∙ rw (lt-ltb j k (omega arith)) }
