-- Effects as they stand in memory: what is read after three are stored, and after a case's are cleared.
-- Assumes nothing.
use Prim.Native.Nat.{ℕ, zero, suc, ◌+◌, ◌*◌, ◌≤◌, ◌<◌, zero-le}
use mathlib.Core.Path.{◌≡◌, refl, sym, ap, ◌∙◌}
use mathlib.Core.List.{List, [], ◌∷◌, ◌++◌}
use mathlib.Core.Logic.{⊎_elim}
use native.Mathlib.Omega.{arith}
use lib.ListN.{length, get_or, set, take, drop}
use lib.Seq.{sets, sets-eq, length-sets}
use lib.IntN.{ℤ, pos, nat_abs}
use Rattle.std.proofs.lemmas.List.{drop-drop, append_assoc}
use Rattle.standard.specs.Combination.{case_count}
use Rattle.envelope.specs.Range.{station_count, component_count, effect_limit}
use Rattle.wire.proofs.Cases.{lt_or_ge, eq_or_ne}
use Rattle.wire.proofs.Stores.{sets_keep, sets_below, sets_above, sets_at_lem, replicate_all}
use Rattle.effects.specs.Effects.{effect_count, effect_in, place, cleared}

-- ---- three stored
-- Three copied over a part of a list are a run of stores.
pub part_copied : {A : Type 0} (l values : List A) (at : ℕ) → length values ≡ component_count → at + 3 ≤ length l →
    take at l ++ (values ++ drop 3 (drop at l)) ≡ sets l at values
part_copied l values at three room =
    let end : at + 3 ≡ at + length values = omega arith in
    ap (λ d. take at l ++ (values ++ d)) (drop-drop 3 at l ∙ ap (λ n. drop n l) end)
    ∙ sym (append_assoc (take at l) values _) ∙ sym (sets-eq values l at (omega arith))

-- Three stored at i leave what is read of another three, at m: both stand at multiples of three.
pub triple_other : {A : Type 0} (d : A) (l values : List A) → length values ≡ component_count → (i m a b j : ℕ) → i ≡ a * 3 → m ≡ b * 3 → (b ≡ a → ⊥) → j < component_count →
    get_or (sets l i values) (m + j) d ≡ get_or l (m + j) d
triple_other d l values three i m a b j p q ne h =
    ⊎_elim
    (λ (u : m + j < i). sets_below d values l i (m + j) u)
    (λ (u : i ≤ m + j).
    let g : i + length values ≤ m + j = ⊎_elim
    (λ (w : m + j < i + 3). absurd (ne (omega arith)))
    (λ (w : i + 3 ≤ m + j). rw three w)
    (lt_or_ge (m + j) (i + 3)) in
    sets_above d values l i (m + j) g)
    (lt_or_ge (m + j) i)

module _ (l : List ℤ) (k t : ℕ) (values : List ℤ) (three : length values ≡ component_count) where
  pub effects_other : (k' t' j : ℕ) → k < case_count → k' < case_count → ((k' ≡ k) × (t' ≡ t) → ⊥) → j < component_count →
      effect_in (sets l (place k t) values) k' t' j ≡ effect_in l k' t' j
  effects_other k' t' j a b ne h =
      triple_other (pos 0) l values three (place k t) (place k' t') (t * case_count + k) (t' * case_count + k') j (omega arith) (omega arith)
      (λ e. ne (omega arith, omega arith)) h

  pub effects_at_lem : (j : ℕ) → length l ≡ effect_count → k < case_count → t < station_count → j < component_count →
      effect_in (sets l (place k t) values) k t j ≡ get_or values j (pos 0)
  effects_at_lem j long a b g =
      let w : place k t + length values ≤ length l = rw (three, long) (omega arith) in
      sets_at_lem (pos 0) values l (place k t) j (rw three g) w

-- ---- a case cleared
pub length_cleared : (l : List ℤ) (k n : ℕ) → length (cleared l k n) ≡ length l
unfolding cleared
length_cleared l k zero = refl
length_cleared l k (suc n) = length-sets (cleared l k n) (place k n) (pos 0 ∷ pos 0 ∷ pos 0 ∷ []) ∙ length_cleared l k n

three_zero : (i : ℕ) → get_or (pos 0 ∷ pos 0 ∷ pos 0 ∷ []) i (pos 0) ≡ pos 0
three_zero i = replicate_all (λ (e : ℤ). e ≡ pos 0) (pos 0) (pos 0) refl refl 3 i

pub cleared_below : (l : List ℤ) (k n : ℕ) → length l ≡ effect_count → k < case_count → n ≤ station_count → (t j : ℕ) → t < n → j < component_count → effect_in (cleared l k n) k t j ≡ pos 0
unfolding cleared
cleared_below l k zero long a b t j h g = absurd (omega arith)
cleared_below l k (suc n) long a b t j h g =
    ⊎_elim
    (λ (e : t ≡ n).
    let w : place k n + 3 ≤ length (cleared l k n) = rw (length_cleared l k n) (omega arith) in
    rw e (sets_at_lem (pos 0) (pos 0 ∷ pos 0 ∷ pos 0 ∷ []) (cleared l k n) (place k n) j g w ∙ three_zero j))
    (λ (ne : t ≡ n → ⊥).
    let u : t < n = omega arith in
    let b' : n ≤ station_count = omega arith in
    sets_keep (λ (e : ℤ). e ≡ pos 0) (pos 0) (pos 0 ∷ pos 0 ∷ pos 0 ∷ []) (cleared l k n) (place k n) (place k t + j) (cleared_below l k n long a b' t j u g) three_zero)
    (eq_or_ne t n)

pub cleared_other : (l : List ℤ) (k k' : ℕ) → k < case_count → k' < case_count → (k' ≡ k → ⊥) → (n t j : ℕ) → j < component_count → effect_in (cleared l k n) k' t j ≡ effect_in l k' t j
unfolding cleared
cleared_other l k k' a b ne zero t j h = refl
cleared_other l k k' a b ne (suc n) t j h =
    effects_other (cleared l k n) k n (pos 0 ∷ pos 0 ∷ pos 0 ∷ []) refl k' t j a b (λ e. ne e.0) h ∙ cleared_other l k k' a b ne n t j h

-- an effect within its limit
abbrev pub Within : ℤ → Type 0
Within e = nat_abs e ≤ effect_limit

pub cleared_within : (l : List ℤ) (k n i : ℕ) → Within (get_or l i (pos 0)) → Within (get_or (cleared l k n) i (pos 0))
unfolding cleared
cleared_within l k zero i h = h
cleared_within l k (suc n) i h =
    sets_keep Within (pos 0) (pos 0 ∷ pos 0 ∷ pos 0 ∷ []) (cleared l k n) (place k n) i (cleared_within l k n i h)
    (replicate_all Within (pos 0) (pos 0) zero-le zero-le 3)

-- ---- storing what is there changes nothing
set_there : (l : List ℤ) (i : ℕ) (v d : ℤ) → get_or l i d ≡ v → set l i v ≡ l
set_there [] i v d e = refl
set_there (x ∷ l) zero v d e = λ t. sym e t ∷ l
set_there (x ∷ l) (suc i) v d e = λ t. x ∷ set_there l i v d e t

-- so a case that has no effects is cleared as it stands
pub cleared_none : (l : List ℤ) (k : ℕ) → ((t j : ℕ) → t < station_count → j < component_count → effect_in l k t j ≡ pos 0) → (n : ℕ) → n ≤ station_count → cleared l k n ≡ l
unfolding cleared
cleared_none l k none zero b = refl
cleared_none l k none (suc n) b =
    let at : (i j : ℕ) → i ≡ place k n + j → j < component_count → get_or l i (pos 0) ≡ pos 0 =
    λ i j e c. ap (λ (x : ℕ). get_or l x (pos 0)) e ∙ none n j (omega arith) c in
    let first : set l (place k n) (pos 0) ≡ l = set_there l (place k n) (pos 0) (pos 0) (at (place k n) 0 (omega arith) (omega arith)) in
    let second : set l (suc (place k n)) (pos 0) ≡ l = set_there l (suc (place k n)) (pos 0) (pos 0) (at (suc (place k n)) 1 (omega arith) (omega arith)) in
    let third : set l (suc (suc (place k n))) (pos 0) ≡ l = set_there l (suc (suc (place k n))) (pos 0) (pos 0) (at (suc (suc (place k n))) 2 (omega arith) (omega arith)) in
    ap (λ (x : List ℤ). sets x (place k n) (pos 0 ∷ pos 0 ∷ pos 0 ∷ [])) (cleared_none l k none n (omega arith))
    ∙ ap (λ (x : List ℤ). set (set x (suc (place k n)) (pos 0)) (suc (suc (place k n))) (pos 0)) first
    ∙ ap (λ (x : List ℤ). set x (suc (suc (place k n))) (pos 0)) second
    ∙ third
