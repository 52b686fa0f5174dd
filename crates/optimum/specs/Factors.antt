-- Cases of which at most one of each group acts: `grp k` is the group of case k, `f k` its factor and `u k` its effect above zero.
use Rattle.std.specs.Prelude.{ℕ, ◌*◌, eqb}
use Rattle.integers.specs.Sums.{when, most_at}

-- what a case adds for a group, if it is the one that acts
abbrev pub worth : (grp f u : ℕ → ℕ) → ℕ → ℕ → ℕ
worth grp f u g k = when (eqb (grp k) g) (f k * u k)

-- the first case of a group that adds most
abbrev pub leads : ℕ → (grp f u : ℕ → ℕ) → ℕ → ℕ
leads n grp f u g = most_at n (worth grp f u g)
