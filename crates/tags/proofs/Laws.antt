-- The lines of the table of tags.
-- Assumes nothing.
use Prim.Native.Nat.{ℕ, zero, suc, ◌-◌, ◌≤◌, ◌<◌}
use mathlib.Core.Bool.{Bool, true, false, cond}
use mathlib.Core.Path.{◌≡◌, refl, sym, ap, subst}
use lib.Dec.{eqb}
use mathlib.Core.List.{List, [], ◌∷◌}
use mathlib.Core.Logic.{⊎_elim, ◌⊎◌, inl, inr}
use lib.ListN.{get_or}
use borrow.Author.Tests.{ne_eqb}
use Rattle.integers.proofs.Tests.{past}
use Rattle.wire.proofs.Cases.{both, eq_or_ne}
use Rattle.headers.specs.Headers.{name_number}
use Rattle.wire.specs.Bytes.{byte_at, word_at, signed16}
use Rattle.standard.specs.Rows.{settings_of}
use Rattle.sheet.specs.declared.Sheet.{Sheet}
use Rattle.sheet.specs.declared.Answered.{Answered}
use Rattle.sheet.specs.Sheet.{fresh, with_kind, with_effects, with_capacities, with_switch, with_straining}
use Rattle.refusals.specs.Refusals.{first_due, due_settings, due_fill_at, due_effects_at, due_empty_at, due_capacities, due_extremes, due_utilisation_at, due_switch, due_straining, due_name}
use Rattle.sheet.specs.Edits.{due_fill, due_effects, due_empty, due_factor, unless_refused}
use Rattle.sheet.specs.Looks.{looked_extremes, looked_utilisation, edited}
use Rattle.refusals.proofs.Fits.{inside}
use native.Mathlib.Omega.{arith}
use Rattle.tags.specs.Tags.{unknown_tag, extremes_tag, utilisation_tag, straining_tag, name_tag, Tag, tags, tag_at}
use Rattle.tags.specs.Run.{ran_by, run_of}

-- a look leaves the sheet, refused or not
either_way : (t : Bool) (s : Sheet) → cond t s s ≡ s
either_way true s = refl
either_way false s = refl

pub extremes_ran : (s : Sheet) (b : List ℕ) → ran_by extremes_tag s b ≡ looked_extremes s (byte_at b 0) (byte_at b 1)
unfolding looked_extremes due_extremes
extremes_ran s b = ap (λ (x : Sheet). record { answer = (ran_by extremes_tag s b).answer; sheet = x }) (either_way (eqb (first_due (extremes_tag.refusals s b)) 0) s)

pub utilisation_ran : (s : Sheet) (b : List ℕ) → ran_by utilisation_tag s b ≡ looked_utilisation s (byte_at b 0)
unfolding looked_utilisation due_utilisation_at
utilisation_ran s b = ap (λ (x : Sheet). record { answer = (ran_by utilisation_tag s b).answer; sheet = x }) (either_way (eqb (first_due (utilisation_tag.refusals s b)) 0) s)

-- what holds of each tag of the table holds of the tag of a field
pub by_tags : (P : Tag → Type 0) → P (get_or tags 0 straining_tag) → P (get_or tags 1 straining_tag) → P (get_or tags 2 straining_tag) → P (get_or tags 3 straining_tag) →
    P (get_or tags 4 straining_tag) → P (get_or tags 5 straining_tag) → P (get_or tags 6 straining_tag) → P (get_or tags 7 straining_tag) → P straining_tag → P name_tag → (tag : ℕ) → P (tag_at tag)
by_tags P p1 p2 p3 p4 p5 p6 p7 p8 p9 name tag = both P (eqb tag name_number) name (at (tag - 1))
  where
    ninth : (k : ℕ) → P (get_or (straining_tag ∷ []) k straining_tag)
    ninth zero = p9
    ninth (suc k) = p9

    at : (k : ℕ) → P (get_or tags k straining_tag)
    at zero = p1
    at (suc zero) = p2
    at (suc (suc zero)) = p3
    at (suc (suc (suc zero))) = p4
    at (suc (suc (suc (suc zero)))) = p5
    at (suc (suc (suc (suc (suc zero))))) = p6
    at (suc (suc (suc (suc (suc (suc zero)))))) = p7
    at (suc (suc (suc (suc (suc (suc (suc zero))))))) = p8
    at (suc (suc (suc (suc (suc (suc (suc (suc k)))))))) = ninth k

-- what holds of the tags 01 to 09 holds of a tag among them, whatever tags there are beside them
pub by_number : (P : ℕ → Type 0) → P 1 → P 2 → P 3 → P 4 → P 5 → P 6 → P 7 → P 8 → P 9 → (tag : ℕ) → 0 < tag → tag ≤ 9 → P tag
by_number P p1 p2 p3 p4 p5 p6 p7 p8 p9 zero a b = absurd (omega arith)
by_number P p1 p2 p3 p4 p5 p6 p7 p8 p9 (suc zero) a b = p1
by_number P p1 p2 p3 p4 p5 p6 p7 p8 p9 (suc (suc zero)) a b = p2
by_number P p1 p2 p3 p4 p5 p6 p7 p8 p9 (suc (suc (suc zero))) a b = p3
by_number P p1 p2 p3 p4 p5 p6 p7 p8 p9 (suc (suc (suc (suc zero)))) a b = p4
by_number P p1 p2 p3 p4 p5 p6 p7 p8 p9 (suc (suc (suc (suc (suc zero))))) a b = p5
by_number P p1 p2 p3 p4 p5 p6 p7 p8 p9 (suc (suc (suc (suc (suc (suc zero)))))) a b = p6
by_number P p1 p2 p3 p4 p5 p6 p7 p8 p9 (suc (suc (suc (suc (suc (suc (suc zero))))))) a b = p7
by_number P p1 p2 p3 p4 p5 p6 p7 p8 p9 (suc (suc (suc (suc (suc (suc (suc (suc zero)))))))) a b = p8
by_number P p1 p2 p3 p4 p5 p6 p7 p8 p9 (suc (suc (suc (suc (suc (suc (suc (suc (suc zero))))))))) a b = p9
by_number P p1 p2 p3 p4 p5 p6 p7 p8 p9 (suc (suc (suc (suc (suc (suc (suc (suc (suc (suc k)))))))))) a b = absurd (omega arith)

-- what holds of each line of the table of tags holds of the field that runs
module _ (P : Answered → Type 0) (s : Sheet) (tag : ℕ) (b : List ℕ) where
  abbrev b0 : ℕ
  b0 = byte_at b 0

  abbrev b1 : ℕ
  b1 = byte_at b 1

  pub run_by :
      P (edited (unless_refused (due_settings b0 b1 (byte_at b 2)) s (fresh (settings_of b0 b1 (byte_at b 2))))) →
      P (edited (unless_refused (due_fill s b0 b1) s (with_kind s b0 b1))) →
      P (edited (unless_refused (due_effects s b0 b1 (word_at b 2) (word_at b 4) (word_at b 6)) s (with_effects s b0 b1 (signed16 (word_at b 2)) (signed16 (word_at b 4)) (signed16 (word_at b 6))))) →
      P (edited (unless_refused (due_empty s b0) s (with_kind s b0 0))) →
      P (edited (unless_refused (due_capacities b0 (word_at b 1) (word_at b 3) (word_at b 5)) s (with_capacities s b0 (word_at b 1) (word_at b 3) (word_at b 5)))) →
      P (looked_extremes s b0 b1) → P (looked_utilisation s b0) →
      P (edited (unless_refused (due_switch b0) s (with_switch s b0))) →
      P (edited (unless_refused (due_factor s (word_at b 0)) s (with_straining s (word_at b 0)))) →
      P (edited (unless_refused (due_name b0) s s)) → P (run_of s tag b)
  unfolding run_of unless_refused due_settings due_fill_at due_effects_at due_empty_at due_capacities due_switch due_straining due_name
  run_by p1 p2 p3 p4 p5 p6 p7 p8 p9 name =
      by_tags (λ t. P (ran_by t s b)) p1 p2 p3 p4 p5 (subst P (sym (extremes_ran s b)) p6) (subst P (sym (utilisation_ran s b)) p7) p8 p9 name tag

-- a known tag is 60, or one of 01 to 09
pub known : (tag : ℕ) → unknown_tag tag ≡ false → (tag ≡ name_number) ⊎ ((0 < tag) × (tag ≤ 9))
known tag e = ⊎_elim inl (λ ne. inr (inside tag 9 (rw (ne_eqb tag name_number ne) at e))) (eq_or_ne tag name_number)

-- the arm of the match that is left
pub last_tag_lem : (tag : ℕ) → unknown_tag tag ≡ false → (tag ≡ 1 → ⊥) → (tag ≡ 2 → ⊥) → (tag ≡ 3 → ⊥) → (tag ≡ 4 → ⊥) → (tag ≡ 5 → ⊥) → (tag ≡ 6 → ⊥) → (tag ≡ 7 → ⊥) → (tag ≡ 8 → ⊥) →
    (tag ≡ name_number → ⊥) → tag ≡ 9
last_tag_lem tag e n1 n2 n3 n4 n5 n6 n7 n8 name =
    ⊎_elim (λ n. absurd (name n))
    (λ k. within k.1 (past 8 (past 7 (past 6 (past 5 (past 4 (past 3 (past 2 (past 1 k.0 n1) n2) n3) n4) n5) n6) n7) n8)) (known tag e)
  where
    within : tag ≤ 9 → 9 ≤ tag → tag ≡ 9
    within a b = omega arith
