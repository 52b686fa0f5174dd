-- How the constant table holds the lines: nothing that a reader must believe, since `factor` is proved against `factor_of`.
use Rattle.std.specs.Prelude.{ℕ, true, false, List, [], ◌∷◌, map, get_or, ltb}
use Rattle.integers.specs.Sums.{mask_of}
use Rattle.standard.specs.Kinds.{kind_count}
use Rattle.standard.specs.Rows.{Line, lines, blank, live_factor, roof_factor, snow_factor, fresh_settings, factor_of}

-- of each row the columns D, F, H, L, L with live option 1, roof, S, W, E, Fa, Di, Wi
abbrev pub entries : Line → List ℕ
entries l =
    l.dead ∷ l.fluid ∷ l.earth
    ∷ live_factor false l.live ∷ live_factor true l.live
    ∷ roof_factor l.roof ∷ snow_factor l.roof
    ∷ l.wind ∷ l.quake ∷ l.flood
    ∷ l.ice ∷ l.icewind
    ∷ []

unfoldable pub row_table : List (List ℕ)
row_table = map entries lines

-- of a row by its number
unfoldable pub entries_in : ℕ → List ℕ
entries_in row = entries (get_or lines row blank)

-- the kinds that have a factor in a row, whatever the settings, as a set: bit j is kind j
unfoldable pub kinds_in : ℕ → ℕ
kinds_in row = mask_of kind_count (λ j. ltb 0 (factor_of fresh_settings row j))
