-- Products of two capacities fit, as the machine holds them.
-- Assumes nothing.
use Prim.Native.Nat.{ℕ, ◌*◌, ◌<◌, ◌≤◌, ◌^◌}
use native.Mathlib.Nat.{mul-le-mul}
use native.Mathlib.Omega.{arith}

pub product_fits : {a b : ℕ} → a < 2 ^ 16 → b < 2 ^ 16 → a * b < 2 ^ 32
product_fits {a} {b} h k = let l : a ≤ 65535 = omega arith in let m : b ≤ 65535 = omega arith in omega (arith, mul-le-mul l m)
