-- What stands at each place of a list: of a tabulated function its value there, of a list that passes a test what passes.
-- Assumes nothing.
use mathlib.Core.Path.{◌≡◌, sym, ap, subst, ◌∙◌}
use mathlib.Core.Bool.{Bool, true, false, ◌&&◌}
use mathlib.Core.List.{List, [], ◌∷◌}
use Prim.Native.Nat.{ℕ, zero, suc, ◌+◌, ◌-◌, ◌<◌, ◌≤◌}
use native.Mathlib.Nat.{add-zero, zero-add, add-suc, suc-add, le_of_suc-le-suc, not-suc-le-zero}
use native.Mathlib.Omega.{arith}
use lib.Dec.{T}
use lib.ListN.{get_or}
use Rattle.integers.proofs.Tests.{and_left, and_right}

-- f i, f (i + 1), .., n of them
abbrev pub tabulate {ℓ} : {A : Type ℓ} → (ℕ → A) → ℕ → ℕ → List A
tabulate f i zero = []
tabulate f i (suc n) = f i ∷ tabulate f (suc i) n

from {ℓ} : {A : Type ℓ} (f : ℕ → A) (d : A) (n i k : ℕ) → k < n → get_or (tabulate f i n) k d ≡ f (i + k)
from f d zero i k h = absurd (not-suc-le-zero h)
from f d (suc n) i zero h = ap f (sym (add-zero i))
from f d (suc n) i (suc k) h = from f d n (suc i) k (le_of_suc-le-suc h) ∙ ap f (suc-add i k ∙ sym (add-suc i k))

pub at {ℓ} : {A : Type ℓ} (f : ℕ → A) (d : A) (n k : ℕ) → k < n → get_or (tabulate f 0 n) k d ≡ f k
at f d n k h = from f d n 0 k h ∙ ap f (zero-add k)

-- two functions that have the same table agree on it
pub same_at {ℓ} : {A : Type ℓ} (f g : ℕ → A) (i n k : ℕ) → tabulate f i n ≡ tabulate g i n → i ≤ k → k < i + n → f k ≡ g k
same_at {A = A} f g i n k e l h =
    subst (λ (j : ℕ). f j ≡ g j) {x = i + (k - i)} {y = k} (omega arith)
    (sym (from f (f i) n i (k - i) (omega arith))
    ∙ ap (λ (xs : List A). get_or xs (k - i) (f i)) e
    ∙ from g (f i) n i (k - i) (omega arith))

-- a test passes at every entry: so at every place, past the end too where the default passes
abbrev pub all {ℓ} : {A : Type ℓ} → (A → Bool) → List A → Bool
all f [] = true
all f (x ∷ xs) = f x && all f xs

pub all_at {ℓ} : {A : Type ℓ} (f : A → Bool) (xs : List A) (d : A) → T (f d) → T (all f xs) → (k : ℕ) → T (f (get_or xs k d))
all_at f [] d e t k = e
all_at f (x ∷ xs) d e t zero = and_left (f x) (all f xs) t
all_at f (x ∷ xs) d e t (suc k) = all_at f xs d e (and_right (f x) (all f xs) t) k

-- the same of two lists side by side, as long as each other
abbrev pub all₂ {ℓ₁ ℓ₂} : {A : Type ℓ₁} {B : Type ℓ₂} → (A → B → Bool) → List A → List B → Bool
all₂ f [] [] = true
all₂ f [] (y ∷ ys) = false
all₂ f (x ∷ xs) [] = false
all₂ f (x ∷ xs) (y ∷ ys) = f x y && all₂ f xs ys

pub all₂_at {ℓ₁ ℓ₂} : {A : Type ℓ₁} {B : Type ℓ₂} (f : A → B → Bool) (xs : List A) (ys : List B) (d : A) (e : B) →
    T (f d e) → T (all₂ f xs ys) → (k : ℕ) → T (f (get_or xs k d) (get_or ys k e))
all₂_at f [] [] d e n t k = n
all₂_at f [] (y ∷ ys) d e n t k = absurd t
all₂_at f (x ∷ xs) [] d e n t k = absurd t
all₂_at f (x ∷ xs) (y ∷ ys) d e n t zero = and_left (f x y) (all₂ f xs ys) t
all₂_at f (x ∷ xs) (y ∷ ys) d e n t (suc k) = all₂_at f xs ys d e n (and_right (f x y) (all₂ f xs ys) t) k
