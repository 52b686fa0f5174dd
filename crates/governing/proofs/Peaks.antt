-- Pattern after pattern, the one that governs so far.
-- Assumes nothing.
use Prim.Native.Nat.{ℕ, zero, suc, ◌+◌, ◌-◌, ◌<◌}
use native.Mathlib.Omega.{arith}
use mathlib.Core.Path.{◌≡◌, ◌∙◌, subst}
use Rattle.envelope.specs.declared.Best.{Best}
use Rattle.envelope.specs.declared.Peak.{Peak}
use Rattle.envelope.specs.Envelope.{higher_by, peak_of}

pub peak_first : (b : ℕ → Best) (x : Best) → x ≡ b 0 → record { pattern = 0; best = x } ≡ peak_of b 0
unfolding peak_of
peak_first b x e = λ i. record { pattern = 0; best = e i }

peak_more : (b : ℕ → Best) (n : ℕ) {q r : Peak} {x : Best} → q ≡ peak_of b n → x ≡ b (suc n) → r ≡ higher_by q (suc n) x → r ≡ peak_of b (suc n)
unfolding peak_of
peak_more b n e p h = h ∙ (λ i. higher_by (e i) (suc n) (p i))

-- the same by the number of the pattern
pub peak_next : (b : ℕ → Best) (i : ℕ) {q r : Peak} {x : Best} → 0 < i → q ≡ peak_of b (i - 1) → x ≡ b i → r ≡ higher_by q i x → r ≡ peak_of b (i + 1 - 1)
peak_next b zero l e p h = absurd (omega arith)
peak_next b (suc n) {q} {r} {x} l e p h =
    let held : q ≡ peak_of b n = subst (λ (m : ℕ). q ≡ peak_of b m) {x = suc n - 1} {y = n} (omega arith) e in
    subst (λ (m : ℕ). r ≡ peak_of b m) {x = suc n} {y = suc n + 1 - 1} (omega arith) (peak_more b n held p h)
