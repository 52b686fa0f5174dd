-- SCOPE 2.7: the sums that the library's sheet holds, in the order of recheck_sums: of the six of a station the first three are those of D.
use Rattle.std.specs.Prelude.{ℕ, ◌/◌, ◌%◌, List, map, ℤ, if◌then◌else◌, nat_lt, slice_index_or, pos, []}
use Rattle.std.specs.List.{range_with_len}
use Rattle.envelope.specs.declared.StationSums.{StationSums}
use Rattle.sheet.specs.declared.Sheet.{Sheet}

-- past the last station there are none
abbrev pub none : StationSums
none = record { dead = []; fluid = [] }

-- the sum at an index
abbrev pub held_at : Sheet → ℕ → ℤ
held_at s i = slice_index_or (if nat_lt (i % 6) 3 then (slice_index_or s.sums (i / 6) none).dead else (slice_index_or s.sums (i / 6) none).fluid) (i % 3) (pos 0)

unfoldable pub held_sums : Sheet → List ℤ
held_sums s = map (held_at s) (range_with_len 0 96)
