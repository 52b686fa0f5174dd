-- SCOPE 2.7: the effects of the D cases and those of the F cases, added up for each station and component. Of the six sums of a
-- station the first three are those of D, in the order of the components.
use Rattle.std.specs.Prelude.{ℕ, ◌/◌, ◌%◌, List, map, Option, None, Some, ℤ, pos, ◌+ℤ◌, fold, if◌then◌else◌, ◌==◌, nat_lt, slice_index_or}
use Rattle.std.specs.Int.{w16, cast_signed}
use Rattle.std.specs.List.{range_with_len}
use Rattle.recheck_sheet.specs.declared.Place.{Place}
use Rattle.recheck_sheet.specs.declared.WorkingSheet.{WorkingSheet}
use Rattle.recheck_sheet.specs.Sheet.{component_of, no_effect}

-- an effect, where the case is of the kind
abbrev pub counted : Option ℕ → ℕ → ℤ → ℤ
counted None kind effect = pos 0
counted (Some k) kind effect = if k == kind then effect else pos 0

-- what a place adds to the sum of a kind at a station and component
unfoldable pub share : Place → ℕ → ℕ → ℕ → ℤ
share p kind station component = counted p.kind kind (cast_signed w16 (component_of (slice_index_or p.effects station no_effect) component))

unfoldable pub sum_at : List Place → ℕ → ℕ → ℕ → ℤ
sum_at ps kind station component = fold (λ sum p. sum +ℤ share p kind station component) (pos 0) ps

-- the kind whose sum stands at an index: D, then F
abbrev pub kind_at : ℕ → ℕ
kind_at i = if nat_lt (i % 6) 3 then 1 else 2

-- the sums of a sheet
unfoldable pub sums_of : WorkingSheet → List ℤ
sums_of w = map (λ i. sum_at w.places (kind_at i) (i / 6) (i % 3)) (range_with_len 0 96)
