-- Sums and maxima over the numbers below n, and the two parts of an integer.
use Rattle.std.specs.Prelude.{ℕ, zero, suc, ◌+◌, ◌^◌, max, Bool, cond, ltb, ℤ, pos, negsuc, ◌+ℤ◌}

-- x where the test holds, else 0
abbrev pub when : Bool → ℕ → ℕ
when t x = cond t x 0

unfoldable pub sum : ℕ → (ℕ → ℕ) → ℕ
sum zero g = 0
sum (suc n) g = sum n g + g n

unfoldable pub sumℤ : ℕ → (ℕ → ℤ) → ℤ
sumℤ zero g = pos 0
sumℤ (suc n) g = sumℤ n g +ℤ g n

-- the values of the members below n, added up
unfoldable pub sum_where : ℕ → (ℕ → Bool) → (ℕ → ℤ) → ℤ
sum_where n member g = sumℤ n (λ k. cond (member k) (g k) (pos 0))

-- the greatest of the values, 0 where there is none
unfoldable pub most : ℕ → (ℕ → ℕ) → ℕ
most zero g = 0
most (suc n) g = max (most n g) (g n)

-- the first number that has the greatest value
unfoldable pub most_at : ℕ → (ℕ → ℕ) → ℕ
most_at zero g = 0
most_at (suc n) g = cond (ltb (most n g) (g n)) n (most_at n g)

-- a set of numbers below n as a number: k is in it where bit k is set, bit 0 the lowest
unfoldable pub mask_of : ℕ → (ℕ → Bool) → ℕ
mask_of n p = sum n (λ k. when (p k) (2 ^ k))

-- the part of an integer above zero, and the part below it
abbrev pub up : ℤ → ℕ
up (pos n) = n
up (negsuc n) = 0

abbrev pub down : ℤ → ℕ
down (pos n) = 0
down (negsuc n) = suc n
