-- The limits of effects (SCOPE 2.4), in 16 bits of two's complement, and of capacities (SCOPE 2.5).
use Rattle.std.specs.Prelude.{ℕ, ◌≤◌, ◌<◌, ◌⊎◌}

abbrev pub EffectWithin : ℕ → Type 0
EffectWithin e = (e ≤ 10000) ⊎ ((55536 ≤ e) × (e < 65536))

abbrev pub CapacityWithin : ℕ → Type 0
CapacityWithin c = (0 < c) × (c ≤ 10000)
