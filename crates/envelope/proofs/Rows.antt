-- The best of the open rows: it is one of them, and none is above it.
-- Assumes nothing.
use Prim.Native.Nat.{ℕ, zero, suc, ◌+◌, ◌-◌, ◌<◌, ◌≤◌}
use native.Mathlib.Omega.{arith}
use native.Mathlib.Decide.{ℕ_discrete}
use mathlib.Core.Path.{◌≡◌, refl, sym, subst}
use mathlib.Core.Bool.{Bool, true, false, not, cond}
use mathlib.Core.List.{List, [], ◌∷◌}
use mathlib.Core.Logic.{◌⊎◌, inl, inr}
use lib.Dec.{T, leb, leb→le, le→leb}
use lib.IntN.{ℤ}
use lib.Signed.{◌≤ℤ◌, ≤ℤ_refl, lt_z, lt_z_no}
use Rattle.integers.proofs.Tests.{and_left, and_right, and_both, or_left, or_right, or_cases}
use Rattle.integers.proofs.Signs.{≤_trans, less_le}
use Rattle.standard.specs.declared.Settings.{Settings}
use Rattle.standard.specs.Range.{SettingsInRange}
use Rattle.standard.specs.Rows.{Span, row_count, open_rows, within, in_spans, is_open_row}
use Rattle.standard.proofs.Facts.{begins, some_open}
use Rattle.envelope.specs.declared.Best.{Best}
use Rattle.envelope.specs.Envelope.{best_at, better_by, best_from, best_in, best_among, later_of, best_over, best_of}

-- the rows of a span
within_in : (p : Span) (r : ℕ) → p.first ≤ r → r ≤ p.last → T (within p r)
within_in p r a b = and_both (leb p.first r) (leb r p.last) (le→leb p.first r a) (le→leb r p.last b)

within_out : (p : Span) (r : ℕ) → T (within p r) → (p.first ≤ r) × (r ≤ p.last)
within_out p r t = (leb→le p.first r (and_left (leb p.first r) (leb r p.last) t), leb→le r p.last (and_right (leb p.first r) (leb r p.last) t))

-- b is the value of a row with P, and no row with Q is above it
record Governs (v : ℕ → ℤ) (P : ℕ → Type 0) (Q : ℕ → Type 0) (b : Best) : Type 0 where
  value : b.value ≡ v b.row
  row : P b.row
  none_above : (r : ℕ) → Q r → v r ≤ℤ b.value

module _ (v : ℕ → ℤ) (P : ℕ → Type 0) where
  -- one row more
  better : (Q : ℕ → Type 0) (b : Best) (r : ℕ) → P r → Governs v P Q b → Governs v P (λ i. Q i ⊎ (i ≡ r)) (better_by b r (v r))
  better Q b r p h = go (lt_z b.value (v r)) (λ t. less_le b.value (v r) t) (λ t. lt_z_no t)
    where
      up_to : (x : ℤ) → b.value ≤ℤ x → v r ≤ℤ x → (i : ℕ) → Q i ⊎ (i ≡ r) → v i ≤ℤ x
      up_to x m n i (inl q) = ≤_trans (h.none_above i q) m
      up_to x m n i (inr e) = subst (λ (j : ℕ). v j ≤ℤ x) (sym e) n

      go : (t : Bool) → (T t → b.value ≤ℤ v r) → (T (not t) → v r ≤ℤ b.value) →
          Governs v P (λ i. Q i ⊎ (i ≡ r)) (cond t (record { row = r; value = v r }) b)
      go true m n = record { value = refl; row = p; none_above = up_to (v r) (m tt) (≤ℤ_refl (v r)) }
      go false m n = record { value = h.value; row = h.row; none_above = up_to b.value (≤ℤ_refl b.value) (n tt) }

  best_from_lem : (Q : ℕ → Type 0) (b : Best) (from n : ℕ) → ((r : ℕ) → from ≤ r → r < from + n → P r) → Governs v P Q b →
      Governs v P (λ i. Q i ⊎ ((from ≤ i) × (i < from + n))) (best_from v b from n)
  unfolding best_from
  best_from_lem Q b from zero p h = record { value = h.value; row = h.row; none_above = λ r q. go r q }
    where
      go : (r : ℕ) → Q r ⊎ ((from ≤ r) × (r < from + 0)) → v r ≤ℤ b.value
      go r (inl q) = h.none_above r q
      go r (inr q) = absurd (omega (arith, q.0, q.1))
  best_from_lem Q b from (suc n) p h =
      weaken (better (λ i. Q i ⊎ ((from ≤ i) × (i < from + n))) (best_from v b from n) (from + n) (p (from + n) (omega arith) (omega arith))
      (best_from_lem Q b from n (λ r a c. p r a (omega arith)) h))
    where
      sort : (r : ℕ) → Q r ⊎ ((from ≤ r) × (r < from + suc n)) → (Q r ⊎ ((from ≤ r) × (r < from + n))) ⊎ (r ≡ from + n)
      sort r (inl q) = inl (inl q)
      sort r (inr q) = last (ℕ_discrete r (from + n))
        where
          last : Dec (r ≡ from + n) → (Q r ⊎ ((from ≤ r) × (r < from + n))) ⊎ (r ≡ from + n)
          last (yes e) = inr e
          last (no e) = inl (inr (q.0, omega (arith, q.0, q.1)))

      weaken : {x : Best} → Governs v P (λ i. (Q i ⊎ ((from ≤ i) × (i < from + n))) ⊎ (i ≡ from + n)) x → Governs v P (λ i. Q i ⊎ ((from ≤ i) × (i < from + suc n))) x
      weaken g = record { value = g.value; row = g.row; none_above = λ r q. g.none_above r (sort r q) }

  -- of fewer rows, the same holds
  fewer : {Q R : ℕ → Type 0} {b : Best} → ((r : ℕ) → R r → Q r) → Governs v P Q b → Governs v P R b
  fewer f g = record { value = g.value; row = g.row; none_above = λ r q. g.none_above r (f r q) }

  best_among_lem : (Q : ℕ → Type 0) (b : Best) (ps : List Span) → ((r : ℕ) → T (in_spans ps r) → P r) → Governs v P Q b →
      Governs v P (λ i. Q i ⊎ T (in_spans ps i)) (best_among v b ps)
  unfolding best_among
  best_among_lem Q b [] p h = fewer none h
    where
      none : (r : ℕ) → Q r ⊎ T (in_spans [] r) → Q r
      none r (inl q) = q
      none r (inr t) = absurd t
  best_among_lem Q b (s ∷ ps) p h =
      fewer sort
      (best_among_lem (λ i. Q i ⊎ ((s.first ≤ i) × (i < s.first + (s.last + 1 - s.first)))) (best_in v b s) ps (λ r t. p r (or_right (within s r) (in_spans ps r) t))
      (best_from_lem Q b s.first (s.last + 1 - s.first) (λ r a c. p r (or_left (within s r) (in_spans ps r) (within_in s r a (omega arith)))) h))
    where
      sort : (r : ℕ) → Q r ⊎ T (in_spans (s ∷ ps) r) → (Q r ⊎ ((s.first ≤ r) × (r < s.first + (s.last + 1 - s.first)))) ⊎ T (in_spans ps r)
      sort r (inl q) = inl (inl q)
      sort r (inr t) = go (or_cases (within s r) (in_spans ps r) t)
        where
          go : T (within s r) ⊎ T (in_spans ps r) → (Q r ⊎ ((s.first ≤ r) × (r < s.first + (s.last + 1 - s.first)))) ⊎ T (in_spans ps r)
          go (inl w) = let a : (s.first ≤ r) × (r ≤ s.last) = within_out s r w in inl (inr (a.0, omega (arith, a.0, a.1)))
          go (inr w) = inr w

-- the best of the rows of some spans, the first of which has a row
best_over_lem : (v : ℕ → ℤ) (p : Span) (ps : List Span) → p.first ≤ p.last →
    Governs v (λ r. T (in_spans (p ∷ ps) r)) (λ r. T (in_spans (p ∷ ps) r)) (best_over v (p ∷ ps))
unfolding best_over
best_over_lem v p ps h =
    fewer v _ all
    (best_among_lem v (λ r. T (in_spans (p ∷ ps) r)) (λ r. r ≡ p.first) (best_at p.first (v p.first)) (later_of p ∷ ps) each
    (record {
      value = refl;
      row = or_left (within p p.first) (in_spans ps p.first) (within_in p p.first (omega arith) h);
      none_above = λ r e. subst (λ (i : ℕ). v i ≤ℤ v p.first) (sym e) (≤ℤ_refl (v p.first));
    }))
  where
    each : (r : ℕ) → T (in_spans (later_of p ∷ ps) r) → T (in_spans (p ∷ ps) r)
    each r t = go (or_cases (within (later_of p) r) (in_spans ps r) t)
      where
        go : T (within (later_of p) r) ⊎ T (in_spans ps r) → T (in_spans (p ∷ ps) r)
        go (inl w) =
            let a : (p.first + 1 ≤ r) × (r ≤ p.last) = within_out (later_of p) r w in
            or_left (within p r) (in_spans ps r) (within_in p r (omega (arith, a.0)) a.1)
        go (inr w) = or_right (within p r) (in_spans ps r) w

    all : (r : ℕ) → T (in_spans (p ∷ ps) r) → (r ≡ p.first) ⊎ T (in_spans (later_of p ∷ ps) r)
    all r t = go (ℕ_discrete r p.first) (or_cases (within p r) (in_spans ps r) t)
      where
        go : Dec (r ≡ p.first) → T (within p r) ⊎ T (in_spans ps r) → (r ≡ p.first) ⊎ T (in_spans (later_of p ∷ ps) r)
        go (yes e) w = inl e
        go (no e) (inl w) =
            let a : (p.first ≤ r) × (r ≤ p.last) = within_out p r w in
            inr (or_left (within (later_of p) r) (in_spans ps r) (within_in (later_of p) r (omega (arith, a.0)) a.1))
        go (no e) (inr w) = inr (or_right (within (later_of p) r) (in_spans ps r) w)

pub record BestOpen (s : Settings) (v : ℕ → ℤ) (b : Best) : Type 0 where
  pub value : b.value ≡ v b.row
  pub open_row : T (is_open_row s b.row)
  pub none_above : (r : ℕ) → T (is_open_row s r) → v r ≤ℤ b.value

pub best_open : (s : Settings) (v : ℕ → ℤ) → SettingsInRange s → BestOpen s v (best_of s v)
unfolding best_of is_open_row
best_open s v range = go (open_rows s) refl
  where
    go : (ps : List Span) → open_rows s ≡ ps → BestOpen s v (best_of s v)
    go [] e = absurd (some_open s range e)
    go (p ∷ ps) e =
        let g = subst (λ (q : List Span). Governs v (λ r. T (in_spans q r)) (λ r. T (in_spans q r)) (best_over v q)) (sym e) (best_over_lem v p ps (begins s p ps e).some) in
        record { value = g.value; open_row = g.row; none_above = g.none_above }

-- whatever the method, the row is a number of the table, and the value its own
pub best_some : (s : Settings) (v : ℕ → ℤ) → ((best_of s v).row < row_count) × ((best_of s v).value ≡ v (best_of s v).row)
unfolding best_of best_over
best_some s v = go (open_rows s) refl
  where
    Own : List Span → Type 0
    Own ps = ((best_over v ps).row < row_count) × ((best_over v ps).value ≡ v (best_over v ps).row)

    go : (ps : List Span) → open_rows s ≡ ps → Own (open_rows s)
    go [] e = subst Own (sym e) (omega arith, refl)
    go (p ∷ ps) e =
        let b = begins s p ps e in
        let g = best_over_lem v p ps b.some in
        subst Own (sym e) (b.below (best_over v (p ∷ ps)).row g.row, g.value)
