-- The four and the eight bytes of a number, as std has them.
-- Assumes nothing.
use Prim.Native.Nat.{ℕ, ◌/◌, ◌%◌}
use mathlib.Core.Path.{◌≡◌, refl}
use native.Mathlib.Omega.{arith}
use Rattle.std.specs.Int.{w32, w64, to_be_bytes}
use Rattle.wire.specs.Bytes.{bytes4, bytes8}

pub bytes4_of : (n : ℕ) → to_be_bytes w32 n ≡ bytes4 n
unfolding bytes4
bytes4_of n = refl

-- the four high bytes, then the four low ones
pub bytes8_of : (n : ℕ) → to_be_bytes w64 n ≡ bytes8 n
unfolding bytes8 bytes4
bytes8_of n =
    let a : n / 72057594037927936 % 256 ≡ n / 4294967296 / 16777216 % 256 = omega arith in
    let b : n / 281474976710656 % 256 ≡ n / 4294967296 / 65536 % 256 = omega arith in
    let d : n / 1099511627776 % 256 ≡ n / 4294967296 / 256 % 256 = omega arith in
    let e : n / 16777216 % 256 ≡ n % 4294967296 / 16777216 % 256 = omega arith in
    let f : n / 65536 % 256 ≡ n % 4294967296 / 65536 % 256 = omega arith in
    let g : n / 256 % 256 ≡ n % 4294967296 / 256 % 256 = omega arith in
    let h : n % 256 ≡ n % 4294967296 % 256 = omega arith in
    rw (a, b, d, e, f, g, h)
