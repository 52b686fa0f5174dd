-- The rows of a method, compared span after span.
-- Assumes nothing.
use Prim.Native.Nat.{ℕ}
use mathlib.Core.List.{List}
use mathlib.Core.Path.{◌≡◌, ap, ◌∙◌}
use lib.IntN.{ℤ}
use Rattle.standard.specs.Rows.{Span}
use Rattle.envelope.specs.declared.Best.{Best}
use Rattle.envelope.specs.Envelope.{best_at, best_from, best_among}

-- the first row, n rows from a number on, those of the zone and the ice rows
pub compared : (v : ℕ → ℤ) (first from n : ℕ) (zone ice : List Span) {a b c d : Best} → a ≡ best_at first (v first) → b ≡ best_from v a from n →
    c ≡ best_among v b zone → d ≡ best_among v c ice → d ≡ best_among v (best_among v (best_from v (best_at first (v first)) from n) zone) ice
compared v first from n zone ice p q r t =
    t ∙ ap (λ (x : Best). best_among v x ice) (r ∙ ap (λ (x : Best). best_among v x zone) (q ∙ ap (λ (x : Best). best_from v x from n) p))
