-- The two bytes of a number, as std has them.
-- Assumes nothing.
use Prim.Native.Nat.{ℕ, ◌/◌, ◌%◌, ◌<◌}
use mathlib.Core.Path.{◌≡◌}
use native.Mathlib.Omega.{arith}
use mir.Syntax.{w16}
use Rattle.std.specs.Int.{to_be_bytes}
use Rattle.wire.specs.Bytes.{word_bytes}

pub word_bytes_of : (n : ℕ) → n < 65536 → to_be_bytes w16 n ≡ word_bytes n
word_bytes_of n h =
    let e : n / 256 % 256 ≡ n / 256 = omega arith in
    rw e
