-- Arrays that are filled one place after the other, and the sums of several directions.
-- Assumes nothing.
use Prim.Native.Nat.{ℕ, zero, suc, ◌+◌, ◌<◌, ◌≤◌}
use native.Mathlib.Decide.{ℕ_discrete}
use native.Mathlib.Omega.{arith}
use mathlib.Core.List.{List, [], ◌∷◌}
use mathlib.Core.Path.{◌≡◌, refl, sym, ap, ◌∙◌, subst}
use lib.ListN.{length, get_or, set, replicate}
use Rattle.std.proofs.Math.Logic.{⊎_elim}
use Rattle.std.proofs.lemmas.Bool.{cases_eq}
use lib.Seq.{get_or-set_same, get_or-set_other}
use denote.Param.Members.{Mut}
use Rattle.std.specs.Array.{IsFromFnResultFrom}
use Rattle.std.specs.Fn.{Called}
use Rattle.sums.specs.declared.Sides.{Sides}
use Rattle.sums.specs.declared.by_kind.Sums.{Sums}
use Rattle.sums.specs.Sums.{nothing, held_at, KindPut}
use Rattle.sums.specs.Directions.{held_in}

-- what a closure says of each number and what it makes of it, where a call leaves the closure as it is
pub filled : {F B : Type 0} (g : Mut F (ℕ × Unit {0}) B) (f : F) (Q : ℕ → B → Type 0) → ((i : ℕ) (y : B) (q : F) → Called g f (i, tt) y q → (q ≡ f) × Q i y) →
    (ys : List B) (i n : ℕ) → IsFromFnResultFrom g f ys i n → (k : ℕ) (e : B) → i ≤ k → k < i + n → Q k (get_or ys k e)
filled g f Q says ys i zero m k e h l = absurd (omega arith)
filled g f Q says ys i (suc n) m k e h l =
    let call = says i m.1 m.0 m.3 in
    ⊎_elim
    (λ (p : k ≡ i). rw (p, m.2.1 e) call.1)
    (λ (p : k ≡ i → ⊥). filled g f Q says ys (i + 1) n (subst (λ (q : _). IsFromFnResultFrom g q ys (i + 1) n) call.0 m.4) k e (omega arith) (omega arith))
    (cases_eq k i)

-- one place more
pub filled_more : {A : Type 0} (xs : List A) (d : ℕ) (r z : A) (F : ℕ → A) → d < length xs → r ≡ F d → ((i : ℕ) → i < d → get_or xs i z ≡ F i) →
    (i : ℕ) → i < d + 1 → get_or (set xs d r) i z ≡ F i
filled_more xs d r z F l e h i m = go (ℕ_discrete i d)
  where
    go : Dec (i ≡ d) → get_or (set xs d r) i z ≡ F i
    go (yes p) = subst (λ (n : ℕ). get_or (set xs d r) n z ≡ F n) (sym p) (get_or-set_same xs d r z l ∙ e)
    go (no p) = get_or-set_other xs d i r z p ∙ h i (omega arith)

pub all_nothing : (n i : ℕ) → get_or (replicate n nothing) i nothing ≡ nothing
all_nothing zero i = refl
all_nothing (suc n) zero = refl
all_nothing (suc n) (suc i) = all_nothing n i

-- ---- the sums of several directions
pub held_got : (ss : List Sums) (d : ℕ) (z : Sums) → d < length ss → held_in ss d ≡ held_at (get_or ss d z).by_kind
held_got [] d z l = absurd (omega arith)
held_got (x ∷ xs) zero z l = refl
held_got (x ∷ xs) (suc d) z l = held_got xs d z (omega arith)

held_set_same : (ss : List Sums) (d : ℕ) (s : Sums) → d < length ss → held_in (set ss d s) d ≡ held_at s.by_kind
held_set_same [] d s l = absurd (omega arith)
held_set_same (x ∷ xs) zero s l = refl
held_set_same (x ∷ xs) (suc d) s l = held_set_same xs d s (omega arith)

held_set_other : (ss : List Sums) (d i : ℕ) (s : Sums) → (i ≡ d → ⊥) → held_in (set ss d s) i ≡ held_in ss i
held_set_other [] d i s ne = refl
held_set_other (x ∷ xs) zero zero s ne = absurd (ne refl)
held_set_other (x ∷ xs) zero (suc i) s ne = refl
held_set_other (x ∷ xs) (suc d) zero s ne = refl
held_set_other (x ∷ xs) (suc d) (suc i) s ne = held_set_other xs d i s (λ e. ne (ap suc e))

-- the directions below d have the kind's sides, and the others what they had
pub record PutTo (before sums : List Sums) (kind : ℕ) (sides : List Sides) (d : ℕ) : Type 0 where
  pub done : (i : ℕ) → i < d → KindPut (held_in before i) (held_in sums i) kind (get_or sides i nothing)
  pub left : (i : ℕ) → d ≤ i → held_in sums i ≡ held_in before i

pub none_put : (before : List Sums) (kind : ℕ) (sides : List Sides) → PutTo before before kind sides 0
none_put before kind sides = record { done = λ i l. absurd (omega arith); left = λ i l. refl }

pub put_more : (before sums : List Sums) (kind : ℕ) (sides : List Sides) (d : ℕ) (z new : Sums) → d < length sums →
    KindPut (held_at (get_or sums d z).by_kind) (held_at new.by_kind) kind (get_or sides d nothing) → PutTo before sums kind sides d → PutTo before (set sums d new) kind sides (d + 1)
put_more before sums kind sides d z new l p h =
    record {
      done = λ i m. go i m (ℕ_discrete i d);
      left = λ i m. held_set_other sums d i new (λ q. omega arith) ∙ h.left i (omega arith);
    }
  where
    here : KindPut (held_in before d) (held_in (set sums d new) d) kind (get_or sides d nothing)
    here =
        subst (λ (f : ℕ → ℕ → ℕ). KindPut f (held_in (set sums d new) d) kind (get_or sides d nothing)) (sym (held_got sums d z l) ∙ h.left d (omega arith))
        (subst (λ (f : ℕ → ℕ → ℕ). KindPut (held_at (get_or sums d z).by_kind) f kind (get_or sides d nothing)) (sym (held_set_same sums d new l)) p)

    go : (i : ℕ) → i < d + 1 → Dec (i ≡ d) → KindPut (held_in before i) (held_in (set sums d new) i) kind (get_or sides i nothing)
    go i m (yes q) = subst (λ (n : ℕ). KindPut (held_in before n) (held_in (set sums d new) n) kind (get_or sides n nothing)) (sym q) here
    go i m (no q) = subst (λ (f : ℕ → ℕ → ℕ). KindPut (held_in before i) f kind (get_or sides i nothing)) (sym (held_set_other sums d i new q)) (h.done i (omega arith))
