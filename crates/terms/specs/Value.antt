-- A row's value from its terms.
use Rattle.std.specs.Prelude.{ℕ, ◌+◌, ◌*◌, ◌≤◌, max, ◌≡◌, ℤ, pos, neg_ℤ, ◌+ℤ◌, ◌*ℤ◌, nat_abs}
use Rattle.integers.specs.Sums.{up}
use Rattle.standard.specs.declared.Settings.{Settings}
use Rattle.standard.specs.Rows.{factor_of}
use Rattle.optimum.specs.Row.{lower_of}
use Rattle.terms.specs.declared.Terms.{Terms}
use Rattle.envelope.specs.declared.Sign.{Sign}
use Rattle.envelope.specs.Range.{effect_most}
use Rattle.envelope.specs.Signs.{over, under}

-- the terms of what is held above zero and below, by kind
unfoldable pub terms_by : (above below : ℕ → ℕ) → Terms
terms_by u d =
    record {
      dead = pos (u 1) +ℤ neg_ℤ (pos (d 1));
      fluid = pos (up (pos (u 2) +ℤ neg_ℤ (pos (d 2))));
      earth = pos (u 3) +ℤ pos (u 4);
      lowered = neg_ℤ (pos (d 3));
      live = pos (u 5);
      straining = pos (u 14);
      roof = pos (max (u 6) (u 8));
      snow = pos (u 7);
      wind = pos (u 9);
      quake = pos (u 10);
      flood = pos (u 11);
      ice = pos (u 12);
      icewind = pos (u 13);
    }

-- from what is held of each kind on each side: on any two
abbrev pub terms_between : (ℕ → ℕ → ℕ) → (above below : ℕ) → Terms
terms_between held above below = terms_by (λ j. held j above) (λ j. held j below)

-- of the effects with a sign
abbrev pub terms_of : (ℕ → ℕ → ℕ) → Sign → Terms
terms_of held sign = terms_between held (over sign) (under sign)

-- the sizes of the terms, all together: each case is counted once on each side
abbrev pub singles_size : Terms → ℕ
singles_size t = nat_abs t.wind + nat_abs t.quake + nat_abs t.flood + nat_abs t.ice + nat_abs t.icewind

abbrev pub size_of : Terms → ℕ
size_of t =
    nat_abs t.dead + nat_abs t.fluid + nat_abs t.earth + nat_abs t.lowered + nat_abs t.live + nat_abs t.straining
    + nat_abs t.roof + nat_abs t.snow + singles_size t

pub record TermsInRange (t : Terms) : Type 0 where
  pub small : size_of t ≤ 64 * effect_most
  pub roof_up : t.roof ≡ pos (up t.roof)
  pub snow_up : t.snow ≡ pos (up t.snow)

-- no factor is above it, now or in the tables that may come
abbrev pub factor_most : ℕ
factor_most = 21000

-- a total with a term at a factor
pub record Gained (r total : ℤ) (f : ℕ) (x : ℤ) : Type 0 where
  pub is : r ≡ total +ℤ pos f *ℤ x
  pub small : nat_abs r ≤ nat_abs total + factor_most * nat_abs x

unfoldable pub own_of : Settings → ℕ → Terms → ℤ
own_of s row t =
    pos 0 +ℤ pos (factor_of s row 1) *ℤ t.dead +ℤ pos (factor_of s row 2) *ℤ t.fluid +ℤ pos (factor_of s row 3) *ℤ t.earth
    +ℤ pos (lower_of s row 3) *ℤ t.lowered +ℤ pos (factor_of s row 5) *ℤ t.live +ℤ pos (factor_of s row 14) *ℤ t.straining

-- with the groups of one kind each
unfoldable pub singles_of : Settings → ℕ → ℤ → Terms → ℤ
singles_of s row total t =
    total +ℤ pos (factor_of s row 9) *ℤ t.wind +ℤ pos (factor_of s row 10) *ℤ t.quake +ℤ pos (factor_of s row 11) *ℤ t.flood
    +ℤ pos (factor_of s row 12) *ℤ t.ice +ℤ pos (factor_of s row 13) *ℤ t.icewind

unfoldable pub value_of : Settings → ℕ → Terms → ℤ
value_of s row t =
    singles_of s row (own_of s row t +ℤ pos (max (up (pos 0 +ℤ pos (factor_of s row 6) *ℤ t.roof)) (up (pos 0 +ℤ pos (factor_of s row 7) *ℤ t.snow)))) t
