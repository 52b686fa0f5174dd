-- The four directions of a case's weighed effects: a pattern of signs is one of them or the opposite of one.
use Rattle.std.specs.Prelude.{Bool, cond, ℤ, neg_ℤ, ◌+ℤ◌}

abbrev pub turned : Bool → ℤ → ℤ
turned t x = cond t (neg_ℤ x) x

-- the weighed effects added up, the first two with a sign each
abbrev pub signs_by : Bool → Bool → ℤ → ℤ → ℤ → ℤ
signs_by p q a b c = turned p a +ℤ (turned q b +ℤ c)
