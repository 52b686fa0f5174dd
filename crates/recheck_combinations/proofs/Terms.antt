-- The places in a row, one by one.
use Rattle.std.proofs.Common.{◌≡◌, sym, ◌∙◌, subst, ℕ, zero, suc, ◌+◌, ◌*◌, ◌%◌, ◌^◌, ◌<◌, ◌≤◌, max, true, false, cond, List, length, map, get_or, unwrap_or, add-one, arith, bit_or}
use Rattle.std.proofs.Math.Logic.{⊎_elim}
use Rattle.std.proofs.Math.Pow.{pow-lt}
use Rattle.std.proofs.lemmas.Bool.{cases_eq, cases_lt}
use Rattle.std.proofs.lemmas.List.{get_or-map, get_or_past, ext_get_or, length-map}
use Rattle.std.specs.Array.{MapsFrom}
use Rattle.std.specs.Fn.{Called}
use denote.Param.Members.{Mut}
use Rattle.recheck_combinations.specs.declared.Case.{Case}
use Rattle.recheck_combinations.specs.declared.Term.{Term}
use Rattle.recheck_combinations.specs.Acting.{kinds_of, factors_of, is_of, having, Factors}

-- what a closure says of each element and what it makes of it, where a call leaves the closure as it is
pub mapped : {F A B : Type 0} (g : Mut F (A × Unit {0}) B) (f : F) (Q : A → B → Type 0) → ((x : A) (y : B) (q : F) → Called g f (x, tt) y q → (q ≡ f) × Q x y) → (xs : List A) (ys : List B) (i n : ℕ) → MapsFrom g f xs ys i n → (k : ℕ) (d : A) (e : B) → i ≤ k → k < i + n → Q (get_or xs k d) (get_or ys k e)
mapped g f Q says xs ys i zero m k d e h l = absurd (omega arith)
mapped g f Q says xs ys i (suc n) m k d e h l =
    let call = says m.1 m.2 m.0 m.5 in
    ⊎_elim
    (λ (p : k ≡ i). rw (p, m.3.1 d, m.4.1 e) call.1)
    (λ (p : k ≡ i → ⊥). mapped g f Q says xs ys (i + 1) n (subst (λ (q : _). MapsFrom g q xs ys (i + 1) n) call.0 m.6) k d e (omega arith) (omega arith))
    (cases_eq k i)

-- the places are those given, where each is
pub same_cases : (cases : List Case) (terms : List Term) (d : Term) → length terms ≡ length cases → ((k : ℕ) → k < length cases → (get_or terms k d).case ≡ get_or cases k d.case) → map (λ t. t.case) terms ≡ cases
same_cases cases terms d n same =
    ext_get_or d.case (map (λ t. t.case) terms) cases (length-map terms (λ t. t.case) ∙ n)
    (λ i l.
    let l' : i < length terms = omega (arith, length-map terms (λ (t : Term). t.case)) in
    get_or-map (λ t. t.case) terms i d d.case l' ∙ same i (omega arith))

-- past the last place stands 0
pub bounded : (straining : ℕ) (terms : List Term) (d : Term) → ((k : ℕ) → k < length terms → (get_or terms k d).factor ≤ max 2000 straining) → Factors straining (factors_of terms)
bounded straining terms d below k =
    ⊎_elim
    (λ (l : k < length terms). rw (get_or-map (λ t. t.factor) terms k d 0 l) (below k l))
    (λ (l : length terms ≤ k). rw (get_or_past (factors_of terms) k 0 (omega (arith, length-map terms (λ (t : Term). t.factor)))) (omega arith))
    (cases_lt k (length terms))

module _ (terms : List Term) (first last : ℕ) where
  -- one place more, with its case and without
  more : (i : ℕ) (d : Term) {s : ℕ} → i < length terms → s ≡ having (kinds_of terms) (factors_of terms) first last i → cond (is_of (get_or terms i d) first last) (bit_or s (2 ^ i)) s ≡ having (kinds_of terms) (factors_of terms) first last (i + 1)
  unfolding having
  more i d l p =
      let kind = get_or-map (λ t. unwrap_or t.case.kind 0) terms i d 0 l in
      let factor = get_or-map (λ t. t.factor) terms i d 0 l in
      rw (add-one, kind, factor, p)

  pub taken : (i : ℕ) (d : Term) {s : ℕ} → i < length terms → i < 32 → s ≡ having (kinds_of terms) (factors_of terms) first last i → is_of (get_or terms i d) first last ≡ true → bit_or s (1 * 2 ^ i % 2 ^ 64) ≡ having (kinds_of terms) (factors_of terms) first last (i + 1)
  taken i d {s} l small p h =
      let low : 2 ^ i < 2 ^ 32 = pow-lt small in
      let bit : 1 * 2 ^ i % 2 ^ 64 ≡ 2 ^ i = omega (arith, low) in
      let one : cond (is_of (get_or terms i d) first last) (bit_or s (2 ^ i)) s ≡ bit_or s (2 ^ i) = rw h in
      rw bit (sym one ∙ more i d l p)

  pub passed : (i : ℕ) (d : Term) {s : ℕ} → i < length terms → s ≡ having (kinds_of terms) (factors_of terms) first last i → is_of (get_or terms i d) first last ≡ false → s ≡ having (kinds_of terms) (factors_of terms) first last (i + 1)
  passed i d {s} l p h =
      let none : cond (is_of (get_or terms i d) first last) (bit_or s (2 ^ i)) s ≡ s = rw h in
      sym none ∙ more i d l p
