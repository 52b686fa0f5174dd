-- The edit that a refusal leaves undone, and the answer that it gives.
-- Assumes nothing.
use Prim.Native.Nat.{ℕ}
use native.Mathlib.Omega.{arith}
use mathlib.Core.Path.{◌≡◌, refl, sym, ap, ◌∙◌}
use borrow.Author.Tests.{eq-eqb, ne_eqb}
use Rattle.std.specs.Prelude.{Result, Ok, Err}
use Rattle.refusals.specs.declared.Refusal.{Refusal}
use Rattle.refusals.specs.Numbers.{number}
use Rattle.refusals.proofs.Numbers.{number_some}
use Rattle.sheet.specs.declared.Sheet.{Sheet}
use Rattle.sheet.specs.declared.Answer.{Answer}
use Rattle.sheet.specs.declared.Answer.TheVariants as answer
use Rattle.sheet.specs.Looks.{unless_due, as_answer, edited, answered}
use Rattle.sheet.specs.Edits.{Edited, unless_refused}

-- an edit whose refusals are tried: made where none is due, else not
pub tried_none : (d : ℕ) (s s' : Sheet) {x : Sheet} → d ≡ 0 → x ≡ s' → ◌≡◌ {A = Edited} (record { refusal = 0; sheet = x }) (unless_refused d s s')
unfolding unless_refused
tried_none d s s' {x} e f = rw (e, f)

pub tried_due : (d : ℕ) (s s' : Sheet) {e : ℕ} → e ≡ d → (e ≡ 0 → ⊥) → ◌≡◌ {A = Edited} (record { refusal = e; sheet = s }) (unless_refused d s s')
unfolding unless_refused
tried_due d s s' {e} p h = rw (← p, ne_eqb e 0 h)

pub answered_none : (d : ℕ) (a : Answer) → d ≡ 0 → a ≡ unless_due d a
answered_none d a e = rw (eq-eqb d 0 e)

pub answered_due : (d : ℕ) (a : Answer) {e : ℕ} → e ≡ d → (e ≡ 0 → ⊥) → answer.Refused e ≡ unless_due d a
answered_due d a p n = ap (λ (x : ℕ). answer.Refused x) p ∙ rw (ne_eqb d 0 (λ q. n (p ∙ q)))

-- what a field in place replies, beside the sheet after it: made where no refusal is due, else refused and all as it was
pub made : (d : ℕ) (s s' : Sheet) {x : Sheet} → 0 ≡ d → x ≡ s' → answered (Ok answer.Accepted) x ≡ edited (unless_refused d s s')
made d s s' e f = ap edited (tried_none d s s' (sym e) f)

pub refused : (d : ℕ) (s s' : Sheet) {replied : Result Answer Refusal} {refusal : Refusal} → replied ≡ Err refusal → number refusal ≡ d → answered replied s ≡ edited (unless_refused d s s')
refused d s s' {replied} {refusal} is e =
    let some : number refusal ≡ 0 → ⊥ = λ z. omega (arith, number_some refusal) in
    ap (λ r. answered r s) is ∙ ap (λ a. record { answer = a; sheet = s }) (answered_due (number refusal) answer.Accepted refl some) ∙ ap edited (tried_due d s s' e some)

-- the same of a look, with what it promises of every answer that is due
module _ (d : ℕ) (a : Answer) (Promised : Answer → Type 0) (promise : (r : Answer) → r ≡ unless_due d a → Promised r) where
  with_promise : {r : Answer} → r ≡ unless_due d a → (r ≡ unless_due d a) × Promised r
  with_promise {r} e = (e, promise r e)

  pub looked : {b : Answer} → 0 ≡ d → b ≡ a → (b ≡ unless_due d a) × Promised b
  looked e f = with_promise (f ∙ answered_none d a (sym e))

  pub look_refused : {replied : Result Answer Refusal} {refusal : Refusal} → replied ≡ Err refusal → number refusal ≡ d →
      (as_answer replied ≡ unless_due d a) × Promised (as_answer replied)
  look_refused {replied} {refusal} is e = with_promise (ap as_answer is ∙ answered_due d a e (λ z. omega (arith, number_some refusal)))
