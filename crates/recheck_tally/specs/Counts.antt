-- The counts of the second program (SCOPE 10), which wrap at 2^64.
use Rattle.std.specs.Prelude.{ℕ, ◌+◌, ◌%◌, ◌^◌, Bool, cond}

-- one more where there is one
abbrev pub counted : ℕ → Bool → ℕ
counted n more = (n + cond more 1 0) % 2 ^ 64

-- as many more as failed
abbrev pub with_failures : ℕ → ℕ → ℕ
with_failures n failed = (n + failed) % 2 ^ 64
