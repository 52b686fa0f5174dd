-- The best of the open rows as a chain: each row in turn against the best so far.
-- Assumes nothing.
use Prim.Native.Nat.{ℕ, suc, ◌+◌}
use mathlib.Core.Path.{◌≡◌, refl, ap, ◌∙◌}
use mathlib.Core.List.{List, [], ◌∷◌, ◌++◌}
use borrow.Author.Tests.{ne_eqb}
use lib.IntN.{ℤ}
use Rattle.standard.specs.declared.Settings.{Settings}
use Rattle.standard.specs.Rows.{Span, rows_to, plain_rows, by_zone, flood_rows, by_ice, ice_rows, open_rows}
use Rattle.envelope.specs.declared.Best.{Best}
use Rattle.envelope.specs.Envelope.{best_at, better_by, best_from, best_in, best_among, best_over, best_of}

module _ (v : ℕ → ℤ) (start : Best) (from : ℕ) where
  pub no_row : {b : Best} → b ≡ start → b ≡ best_from v start from 0
  unfolding best_from
  no_row e = e

  pub row_more : (n : ℕ) {b r : Best} → b ≡ best_from v start from n → r ≡ better_by b (from + n) (v (from + n)) → r ≡ best_from v start from (suc n)
  unfolding best_from
  row_more n e q = q ∙ ap (λ (x : Best). better_by x (from + n) (v (from + n))) e

-- the best of some spans and then of others
among_join : (v : ℕ → ℤ) (b : Best) (ps qs : List Span) → best_among v b (ps ++ qs) ≡ best_among v (best_among v b ps) qs
unfolding best_among
among_join v b [] qs = refl
among_join v b (p ∷ ps) qs = among_join v (best_in v b p) ps qs

module _ (s : Settings) (v : ℕ → ℤ) where
  -- the rows of each method
  pub strength_rows : s.method ≡ 1 →
      best_of s v ≡ best_among v (best_among v (best_from v (best_at 1 (v 1)) 2 7) (by_zone s (rows_to 9 10) (rows_to 11 12))) (by_ice s (rows_to 13 15))
  unfolding best_of best_over best_among open_rows plain_rows flood_rows ice_rows
  strength_rows e = rw e (among_join v (best_from v (best_at 1 (v 1)) 2 7) (by_zone s (rows_to 9 10) (rows_to 11 12)) (by_ice s (rows_to 13 15)))

  pub allowable_rows : s.method ≡ 2 →
      best_of s v ≡ best_among v (best_among v (best_from v (best_at 21 (v 21)) 22 9) (by_zone s (rows_to 31 35) (rows_to 36 40))) (by_ice s (rows_to 41 43))
  unfolding best_of best_over best_among open_rows plain_rows flood_rows ice_rows
  allowable_rows e = rw e (among_join v (best_from v (best_at 21 (v 21)) 22 9) (by_zone s (rows_to 31 35) (rows_to 36 40)) (by_ice s (rows_to 41 43)))

  pub no_rows : (s.method ≡ 1 → ⊥) → (s.method ≡ 2 → ⊥) → best_of s v ≡ best_at 0 (v 0)
  unfolding best_of best_over open_rows plain_rows flood_rows ice_rows
  no_rows a b = rw (ne_eqb s.method 1 a, ne_eqb s.method 2 b)

  module _ (b : Best) (one two : Span) where
    pub first_zone : s.zone ≡ 1 → best_in v b one ≡ best_among v b (by_zone s one two)
    unfolding best_among
    first_zone e = rw e

    pub second_zone : s.zone ≡ 2 → best_in v b two ≡ best_among v b (by_zone s one two)
    unfolding best_among
    second_zone e = rw e

    pub no_zone : (s.zone ≡ 1 → ⊥) → (s.zone ≡ 2 → ⊥) → b ≡ best_among v b (by_zone s one two)
    unfolding best_among
    no_zone m n = rw (ne_eqb s.zone 1 m, ne_eqb s.zone 2 n)

  module _ (b : Best) (ice : Span) where
    pub ice_on : s.ice ≡ 1 → best_in v b ice ≡ best_among v b (by_ice s ice)
    unfolding best_among
    ice_on e = rw e

    pub ice_off : (s.ice ≡ 1 → ⊥) → b ≡ best_among v b (by_ice s ice)
    unfolding best_among
    ice_off n = rw (ne_eqb s.ice 1 n)
