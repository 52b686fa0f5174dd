-- SCOPE 6.1: the extremes in two answers. The maximum stands from byte 3 on, the minimum from byte 20 on.
use Rattle.std.specs.Prelude.{ℕ, ◌+◌, ◌%◌, ◌^◌, Bool, ◌&&◌, List, ◌==◌}
use Rattle.recheck_bytes.specs.Bytes.{byte_at, number_at}

-- tag 06, answered with 86
abbrev pub has_extremes : List ℕ → List ℕ → Bool
has_extremes field answer = byte_at field 0 == 6 && byte_at answer 0 == 134

-- numbers of eight bytes, in two's complement, add up to 0
abbrev pub opposite : ℕ → ℕ → Bool
opposite x y = (x + y) % 2 ^ 64 == 0

-- each extreme after the signs are turned is minus the other one before
abbrev pub pair_agrees : List ℕ → List ℕ → Bool
pair_agrees before after =
    opposite (number_at after 3 8) (number_at before 20 8) && opposite (number_at after 20 8) (number_at before 3 8)
