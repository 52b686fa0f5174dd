-- Runs of stores: how they join, and what stands at an index after one.
-- Assumes nothing.
use Prim.Native.Nat.{ℕ, zero, suc, ◌+◌, ◌≤◌, ◌<◌}
use mathlib.Core.Path.{◌≡◌, refl, sym, ap, ◌∙◌}
use mathlib.Core.List.{List, [], ◌∷◌, ◌++◌}
use native.Mathlib.Numerals.{add-one}
use native.Mathlib.Nat.{add-zero, zero-add, le_of_lt}
use native.Mathlib.Omega.{arith}
use lib.ListN.{length, get_or, set, take, drop, replicate, length-set, length-append}
use lib.Seq.{sets, sets-eq, length-sets, take-suc, length-take-le, get_or-set_other, get_or-set_same}
use Rattle.wire.specs.Bytes.{over, Put}

module _ {A : Type 0} where
  -- three stores, as code writes them
  pub sets3 : (xs : List A) (i : ℕ) (a b c : A) → set (set (set xs i a) (i + 1) b) (i + 2) c ≡ sets xs i (a ∷ b ∷ c ∷ [])
  sets3 xs i a b c =
      let e : i + 1 ≡ suc i = omega arith in
      let f : i + 2 ≡ suc (suc i) = omega arith in
      rw (e, f)

  -- a run after a run is one run
  pub sets_append : (vs ws l : List A) (i : ℕ) → sets (sets l i vs) (i + length vs) ws ≡ sets l i (vs ++ ws)
  sets_append [] ws l i = rw add-zero
  sets_append (v ∷ vs) ws l i =
      let e : i + suc (length vs) ≡ suc i + length vs = omega arith in
      rw e (sets_append vs ws (set l i v) (suc i))

  -- one more element of a copy
  pub sets_more : (o b : List A) (i k : ℕ) (d : A) → k < length b → set (sets o i (take k b)) (i + k) (get_or b k d) ≡ sets o i (take (k + 1) b)
  sets_more o b i k d h =
      let l : length (take k b) ≡ k = length-take-le k b (le_of_lt h) in
      let p : set (sets o i (take k b)) (i + length (take k b)) (get_or b k d) ≡ sets o i (take k b ++ (get_or b k d ∷ [])) = sets_append (take k b) (get_or b k d ∷ []) o i in
      (rw l at p) ∙ ap (sets o i) (sym (take-suc b k d h) ∙ ap (λ (n : ℕ). take n b) (sym (add-one k)))

  -- what holds of the element at j, and of all that is stored, holds of the element at j afterwards
  pub set_keep : (P : A → Type 0) (d : A) (l : List A) (i : ℕ) (v : A) (j : ℕ) → P (get_or l j d) → P v → P (get_or (set l i v) j d)
  set_keep P d [] i v j h p = h
  set_keep P d (x ∷ l) zero v zero h p = p
  set_keep P d (x ∷ l) zero v (suc j) h p = h
  set_keep P d (x ∷ l) (suc i) v zero h p = h
  set_keep P d (x ∷ l) (suc i) v (suc j) h p = set_keep P d l i v j h p

  pub sets_keep : (P : A → Type 0) (d : A) (vs l : List A) (i j : ℕ) → P (get_or l j d) → ((n : ℕ) → P (get_or vs n d)) → P (get_or (sets l i vs) j d)
  sets_keep P d [] l i j h p = h
  sets_keep P d (v ∷ vs) l i j h p = sets_keep P d vs (set l i v) (suc i) j (set_keep P d l i v j h (p 0)) (λ n. p (suc n))

  -- what stands below a run, above it, in it
  pub sets_below : (d : A) (vs l : List A) (i j : ℕ) → j < i → get_or (sets l i vs) j d ≡ get_or l j d
  sets_below d [] l i j h = refl
  sets_below d (v ∷ vs) l i j h =
      let g : j < suc i = omega arith in
      sets_below d vs (set l i v) (suc i) j g ∙ get_or-set_other l i j v d (λ e. omega arith)

  pub sets_above : (d : A) (vs l : List A) (i j : ℕ) → i + length vs ≤ j → get_or (sets l i vs) j d ≡ get_or l j d
  sets_above d [] l i j h = refl
  sets_above d (v ∷ vs) l i j h =
      let g : suc i + length vs ≤ j = omega arith in
      sets_above d vs (set l i v) (suc i) j g ∙ get_or-set_other l i j v d (λ e. omega arith)

  pub sets_at_lem : (d : A) (vs l : List A) (i n : ℕ) → n < length vs → i + length vs ≤ length l → get_or (sets l i vs) (i + n) d ≡ get_or vs n d
  sets_at_lem d [] l i n h g = absurd (omega arith)
  sets_at_lem d (v ∷ vs) l i zero h g =
      let b : i < suc i = omega arith in
      let k : i < length l = omega arith in
      rw add-zero (sets_below d vs (set l i v) (suc i) i b ∙ get_or-set_same l i v d k)
  sets_at_lem d (v ∷ vs) l i (suc n) h g =
      let e : i + suc n ≡ suc i + n = omega arith in
      let k : n < length vs = omega arith in
      let g' : suc i + length vs ≤ length (set l i v) = rw length-set (omega arith) in
      rw e (sets_at_lem d vs (set l i v) (suc i) n k g')

  -- what holds of all elements of a copied value
  pub replicate_all : (P : A → Type 0) (d a : A) → P d → P a → (n i : ℕ) → P (get_or (replicate n a) i d)
  replicate_all P d a h p zero i = h
  replicate_all P d a h p (suc n) zero = p
  replicate_all P d a h p (suc n) (suc i) = replicate_all P d a h p n i

pub put_none : (o : List ℕ) (i : ℕ) → Put o i [] i o
put_none o i = (omega arith, refl)

pub put_long : (w o : List ℕ) (i : ℕ) {to : ℕ} {out : List ℕ} → Put o i w to out → length out ≡ length o
put_long w o i p = ap length p.1 ∙ length-sets o i w

-- one run after another
pub put_two : (v w o : List ℕ) (i : ℕ) {o₁ o₂ : List ℕ} {j e : ℕ} → Put o i v j o₁ → Put o₁ j w e o₂ → Put o i (v ++ w) e o₂
put_two v w o i p q = (rw length-append (omega arith), q.1 ∙ rw (p.0, p.1) (sets_append v w o i))

pub front : (w o : List ℕ) → length w ≤ length o → sets o 0 w ≡ over w o
unfolding over
front w o h =
    let g : 0 + length w ≤ length o = omega arith in
    sets-eq w o 0 g ∙ ap (λ (k : ℕ). w ++ drop k o) (zero-add (length w))
