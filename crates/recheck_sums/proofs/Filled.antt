-- The list that a closure's calls made, number by number.
use Rattle.std.proofs.Common.{◌≡◌, subst, ℕ, zero, suc, ◌+◌, ◌<◌, ◌≤◌, List, get_or, arith}
use Rattle.std.proofs.Math.Logic.{⊎_elim}
use Rattle.std.proofs.lemmas.Bool.{cases_eq}
use Rattle.std.specs.Array.{IsFromFnResultFrom}
use Rattle.std.specs.Fn.{Called}
use denote.Param.Members.{Mut}

-- what a closure says of each number and what it makes of it, where a call leaves the closure as it is
pub filled : {F B : Type 0} (g : Mut F (ℕ × Unit {0}) B) (f : F) (Q : ℕ → B → Type 0) → ((i : ℕ) (y : B) (q : F) → Called g f (i, tt) y q → (q ≡ f) × Q i y) → (ys : List B) (i n : ℕ) → IsFromFnResultFrom g f ys i n → (k : ℕ) (e : B) → i ≤ k → k < i + n → Q k (get_or ys k e)
filled g f Q says ys i zero m k e h l = absurd (omega arith)
filled g f Q says ys i (suc n) m k e h l =
    let call = says i m.1 m.0 m.3 in
    ⊎_elim
    (λ (p : k ≡ i). rw (p, m.2.1 e) call.1)
    (λ (p : k ≡ i → ⊥). filled g f Q says ys (i + 1) n (subst (λ (q : _). IsFromFnResultFrom g q ys (i + 1) n) call.0 m.4) k e (omega arith) (omega arith))
    (cases_eq k i)
