-- SCOPE 3.7: which rows a sheet opens, the low factor, and T's. Flood and ice rows come beside the plain ones.
use Rattle.std.specs.Prelude.{ℕ, Bool, cond, ◌&&◌, ◌||◌, eqb, leb}

abbrev pub between : ℕ → ℕ → ℕ → Bool
between n first last = leb first n && leb n last

-- the plain rows, those of zone 1, those of zone 2, and the ice rows while the switch is 1
unfoldable pub strength_open : ℕ → ℕ → ℕ → Bool
strength_open row zone ice =
    between row 1 8 || between row 9 10 && eqb zone 1 || between row 11 12 && eqb zone 2 || between row 13 15 && eqb ice 1

unfoldable pub allowable_open : ℕ → ℕ → ℕ → Bool
allowable_open row zone ice =
    between row 21 30 || between row 31 35 && eqb zone 1 || between row 36 40 && eqb zone 2 || between row 41 43 && eqb ice 1

abbrev pub is_open : ℕ → ℕ → ℕ → ℕ → Bool
is_open row method zone ice = cond (eqb method 1) (strength_open row zone ice) (allowable_open row zone ice)

-- in place of the full factor of Hp (SCOPE 4.3)
abbrev pub low_factor_of : ℕ → ℕ
low_factor_of method = cond (eqb method 1) 900 600

-- of T, in every row but the first of each method: the sheet's (SCOPE 3.9)
abbrev pub self_straining : ℕ → ℕ → ℕ
self_straining row straining = cond (eqb row 1 || eqb row 21) 0 straining
