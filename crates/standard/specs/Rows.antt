-- SCOPE 3: the factor of a kind in a row, in thousandths, and the rows that are open. 0 is no factor.
use Rattle.std.specs.Prelude.{ℕ, ◌-◌, Bool, false, cond, ◌&&◌, ◌||◌, List, [], ◌∷◌, ◌++◌, map, eqb, leb, get_or, replicate}
use Rattle.standard.specs.declared.Settings.{Settings}
use Rattle.standard.specs.Kinds.{self_straining}

-- a sheet's settings (SCOPE 2.2): ice is 1 where the ice rows are switched on, straining is the factor of T; tag 01 switches the ice rows
-- off and sets the factor to 1000; those of a fresh sheet are method 1, live option 0, zone 0 (SCOPE 2.6)
abbrev pub settings_of : (method live zone : ℕ) → Settings
settings_of method live zone = record { method = method; live = live; zone = zone; ice = 0; straining = 1000 }

abbrev pub switched : ℕ → Settings → Settings
switched ice s = record { method = s.method; live = s.live; zone = s.zone; ice = ice; straining = s.straining }

abbrev pub strained : ℕ → Settings → Settings
strained factor s = record { method = s.method; live = s.live; zone = s.zone; ice = s.ice; straining = factor }

abbrev pub fresh_settings : Settings
fresh_settings = settings_of 1 0 0

-- the column L: a number, or f, which is 1000, or 500 with live option 1 (SCOPE 3.1, 3.5)
pub data Live : Type 0 where
  num : ℕ → Live
  f : Live

-- the column roof: a factor for Lr, S and R, or one for snow only (SCOPE 3.1)
pub data Roof : Type 0 where
  any snow : ℕ → Roof

-- a line of the table (SCOPE 3.1); only a flood row has a factor for Fa (SCOPE 3.4), only an ice row one for Di and Wi (SCOPE 3.8)
pub record Line : Type 0 where
  pub dead : ℕ
  pub fluid : ℕ
  pub live : Live
  pub roof : Roof
  pub wind : ℕ
  pub quake : ℕ
  pub earth : ℕ
  pub flood : ℕ
  pub ice : ℕ
  pub icewind : ℕ

abbrev pub line : ℕ → ℕ → Live → Roof → ℕ → ℕ → ℕ → Line
line d fl l r w e h = record { dead = d; fluid = fl; live = l; roof = r; wind = w; quake = e; earth = h; flood = 0; ice = 0; icewind = 0 }

abbrev pub blank : Line
blank = line 0 0 (num 0) (any 0) 0 0 0

-- columns D, F, L, roof, W, E, H: rows 1 to 8 (SCOPE 3.2)
abbrev pub strength : List Line
strength =
    line 1400 1400 (num 0) (any 0) 0 0 0
    ∷ line 1200 1200 (num 1600) (any 500) 0 0 1600
    ∷ line 1200 1200 f (any 1600) 0 0 1600
    ∷ line 1200 1200 (num 0) (any 1600) 500 0 1600
    ∷ line 1200 1200 f (any 500) 1000 0 1600
    ∷ line 1200 1200 f (snow 200) 0 1000 1600
    ∷ line 900 0 (num 0) (any 0) 1000 0 1600
    ∷ line 900 900 (num 0) (any 0) 0 1000 1600
    ∷ []

-- rows 21 to 30 (SCOPE 3.3)
abbrev pub allowable : List Line
allowable =
    line 1000 1000 (num 0) (any 0) 0 0 0
    ∷ line 1000 1000 (num 1000) (any 0) 0 0 1000
    ∷ line 1000 1000 (num 0) (any 1000) 0 0 1000
    ∷ line 1000 1000 (num 750) (any 750) 0 0 1000
    ∷ line 1000 1000 (num 0) (any 0) 600 0 1000
    ∷ line 1000 1000 (num 0) (any 0) 0 700 1000
    ∷ line 1000 1000 (num 750) (any 750) 450 0 1000
    ∷ line 1000 1000 (num 750) (snow 750) 0 525 1000
    ∷ line 600 0 (num 0) (any 0) 600 0 1000
    ∷ line 600 600 (num 0) (any 0) 0 700 1000
    ∷ []

-- by their numbers (SCOPE 3.2, 3.3)
abbrev pub strength_row : ℕ → Line
strength_row row = get_or strength (row - 1) blank

abbrev pub allowable_row : ℕ → Line
allowable_row row = get_or allowable (row - 21) blank

-- a line with other factors for W, E and Fa (SCOPE 3.4)
abbrev pub changed : ℕ → ℕ → ℕ → Line → Line
changed w e fa l =
    record { dead = l.dead; fluid = l.fluid; live = l.live; roof = l.roof; wind = w; quake = e; earth = l.earth; flood = fa; ice = l.ice; icewind = l.icewind }

-- with Fa and no E (SCOPE 3.4)
abbrev pub flooded : ℕ → Line → Line
flooded fa l = changed l.wind 0 fa l

-- with W and Fa (SCOPE 3.4)
abbrev pub flooded_wind : ℕ → ℕ → Line → Line
flooded_wind w fa l = changed w 0 fa l

-- Rows 9 and 10 are rows 5 and 7 with Fa 2000, rows 11 and 12 the same rows with W 500 and Fa 1000 (SCOPE 3.4).
abbrev pub strength_flood : List Line
strength_flood =
    flooded 2000 (strength_row 5) ∷ flooded 2000 (strength_row 7)
    ∷ flooded_wind 500 1000 (strength_row 5) ∷ flooded_wind 500 1000 (strength_row 7)
    ∷ []

-- Rows 31 to 35 are rows 25 to 29 with Fa 1500 and E 0, rows 36 to 40 the same rows with Fa 750 (SCOPE 3.4).
abbrev pub allowable_flood : ℕ → List Line
allowable_flood fa = map (λ row. flooded fa (allowable_row row)) (25 ∷ 26 ∷ 27 ∷ 28 ∷ 29 ∷ [])

-- a line with another roof load, without W, and with Di and Wi (SCOPE 3.8)
abbrev pub roofed : Roof → Line → Line
roofed r l =
    record { dead = l.dead; fluid = l.fluid; live = l.live; roof = r; wind = l.wind; quake = l.quake; earth = l.earth; flood = l.flood; ice = l.ice; icewind = l.icewind }

abbrev pub calm : Line → Line
calm l = changed 0 l.quake l.flood l

abbrev pub iced : ℕ → ℕ → Line → Line
iced di wi l =
    record { dead = l.dead; fluid = l.fluid; live = l.live; roof = l.roof; wind = l.wind; quake = l.quake; earth = l.earth; flood = l.flood; ice = di; icewind = wi }

-- Rows 13, 14 and 15 are rows 2, 5 and 7: in 13 the roof load gives way to Di and S, in 14 W and the roof load to Di, Wi and S, in 15 W to
-- Di and Wi (SCOPE 3.8).
abbrev pub strength_ice : List Line
strength_ice =
    iced 200 0 (roofed (snow 500) (strength_row 2))
    ∷ iced 1000 1000 (calm (roofed (snow 500) (strength_row 5)))
    ∷ iced 1000 1000 (calm (strength_row 7))
    ∷ []

-- Row 41 is row 22 with Di, row 42 row 23 with Di, Wi and S for the roof load, row 43 row 29 with Di and Wi for W (SCOPE 3.8).
abbrev pub allowable_ice : List Line
allowable_ice =
    iced 700 0 (allowable_row 22)
    ∷ iced 700 700 (roofed (snow 1000) (allowable_row 23))
    ∷ iced 700 700 (calm (allowable_row 29))
    ∷ []

-- rows 0 to 43; a number that no row has is blank (SCOPE 3.2 to 3.4, 3.8)
abbrev pub lines : List Line
lines =
    blank
    ∷ (strength ++ (strength_flood ++ (strength_ice ++ (replicate 5 blank ++ (allowable ++ (allowable_flood 1500 ++ (allowable_flood 750 ++ allowable_ice)))))))

abbrev pub row_count : ℕ
row_count = 44

-- what a column gives L (SCOPE 3.5), Lr and R, and S (SCOPE 3.1)
abbrev pub live_factor : Bool → Live → ℕ
live_factor halved (num x) = x
live_factor halved f = cond halved 500 1000

abbrev pub roof_factor : Roof → ℕ
roof_factor (any x) = x
roof_factor (snow x) = 0

abbrev pub snow_factor : Roof → ℕ
snow_factor (any x) = x
snow_factor (snow x) = x

-- the factors of a line by kind: none, D, F, Hp, Hv, L, Lr, S, R, W, E, Fa, Di, Wi (SCOPE 3.1)
abbrev pub columns : Bool → Line → List ℕ
columns halved l =
    0
    ∷ l.dead ∷ l.fluid
    ∷ l.earth ∷ l.earth
    ∷ live_factor halved l.live
    ∷ roof_factor l.roof ∷ snow_factor l.roof ∷ roof_factor l.roof
    ∷ l.wind ∷ l.quake ∷ l.flood
    ∷ l.ice ∷ l.icewind
    ∷ []

-- what the table gives a kind in a row (SCOPE 3.1)
abbrev pub table_factor : Bool → ℕ → ℕ → ℕ
table_factor halved row kind = get_or (columns halved (get_or lines row blank)) kind 0

-- T has the sheet's factor in every row but 1 and 21 (SCOPE 3.9)
abbrev pub straining_in : Settings → ℕ → ℕ
straining_in s row = cond (eqb row 1 || eqb row 21) 0 s.straining

-- the factor of a kind in a row: that of T from the sheet, the others from the table (SCOPE 3.1, 3.9)
unfoldable pub factor_of : Settings → ℕ → ℕ → ℕ
factor_of s row kind = cond (eqb kind self_straining) (straining_in s row) (table_factor (eqb s.live 1) row kind)

-- the low factor, 900 in method 1 and 600 in method 2 (SCOPE 4.3)
unfoldable pub low_of : Settings → ℕ
low_of s = cond (eqb s.method 1) 900 600

-- the rows from one number to another, both among them
pub record Span : Type 0 where
  pub first : ℕ
  pub last : ℕ

abbrev pub rows_to : ℕ → ℕ → Span
rows_to a b = record { first = a; last = b }

-- method 1 opens rows 1 to 8, method 2 rows 21 to 30 (SCOPE 3.7)
unfoldable pub plain_rows : Settings → List Span
plain_rows s = cond (eqb s.method 1) (rows_to 1 8 ∷ []) (cond (eqb s.method 2) (rows_to 21 30 ∷ []) [])

-- some rows in zone 1, others in zone 2 (SCOPE 3.7)
abbrev pub by_zone : Settings → Span → Span → List Span
by_zone s one two = cond (eqb s.zone 1) (one ∷ []) (cond (eqb s.zone 2) (two ∷ []) [])

-- flood rows are further rows; the plain ones remain (SCOPE 3.7)
unfoldable pub flood_rows : Settings → List Span
flood_rows s =
    cond (eqb s.method 1) (by_zone s (rows_to 9 10) (rows_to 11 12)) (cond (eqb s.method 2) (by_zone s (rows_to 31 35) (rows_to 36 40)) [])

-- some rows where the ice rows are switched on (SCOPE 3.8)
abbrev pub by_ice : Settings → Span → List Span
by_ice s span = cond (eqb s.ice 1) (span ∷ []) []

-- ice rows are further rows too (SCOPE 3.8)
unfoldable pub ice_rows : Settings → List Span
ice_rows s = cond (eqb s.method 1) (by_ice s (rows_to 13 15)) (cond (eqb s.method 2) (by_ice s (rows_to 41 43)) [])

unfoldable pub open_rows : Settings → List Span
open_rows s = plain_rows s ++ (flood_rows s ++ ice_rows s)

-- a row is open where one of the spans has it (SCOPE 3.7)
abbrev pub within : Span → ℕ → Bool
within p row = leb p.first row && leb row p.last

abbrev pub in_spans : List Span → ℕ → Bool
in_spans [] row = false
in_spans (p ∷ ps) row = within p row || in_spans ps row

unfoldable pub is_open_row : Settings → ℕ → Bool
is_open_row s row = in_spans (open_rows s) row
