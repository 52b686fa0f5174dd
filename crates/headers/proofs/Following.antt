-- A whole field is the same whatever bytes follow it.
-- Assumes nothing.
use Prim.Native.Nat.{ℕ, ◌+◌, ◌-◌, ◌≤◌, ◌<◌}
use mathlib.Core.Path.{◌≡◌, sym}
use mathlib.Core.List.{List, ◌++◌}
use mathlib.Core.Bool.{true, false}
use native.Mathlib.Omega.{arith}
use borrow.Author.Tests.{ltb-false, le-ltb}
use lib.ListN.{length, length-append, get_or-append}
use lib.Dec.{ltb}
use Rattle.integers.proofs.Tests.{neither}
use Rattle.wire.specs.Bytes.{byte_at}
use Rattle.headers.specs.Headers.{longest_body, length_in, is_cut, ready_of}

-- a field is whole where its header is there, its length is at most 60,000 and its body is there
record Uncut (w : List ℕ) : Type 0 where
  header : 3 ≤ length w
  short : length_in w ≤ longest_body
  body : 3 + length_in w ≤ length w

uncut : (w : List ℕ) → is_cut w ≡ false → Uncut w
uncut w e =
    let x = neither (ltb (length w) 3) _ e in
    let y = neither (ltb longest_body (length_in w)) (ltb (length w - 3) (length_in w)) x.1 in
    let a : 3 ≤ length w = ltb-false (length w) 3 x.0 in
    let b : length_in w ≤ longest_body = ltb-false longest_body (length_in w) y.0 in
    let c : length_in w ≤ length w - 3 = ltb-false (length w - 3) (length_in w) y.1 in
    record { header = a; short = b; body = omega arith }

uncut_so : (w : List ℕ) → Uncut w → is_cut w ≡ false
uncut_so w u =
    let b : length_in w ≤ longest_body = u.short in
    let c : length_in w ≤ length w - 3 = omega (arith, u.body) in
    rw (le-ltb (length w) 3 u.header, le-ltb longest_body (length_in w) b, le-ltb (length w - 3) (length_in w) c)

-- such a field can be read before more bytes come
pub whole_ready : (w : List ℕ) → is_cut w ≡ false → ready_of w ≡ true
unfolding ready_of
whole_ready w e =
    let x = neither (ltb (length w) 3) _ e in
    let y = neither (ltb longest_body (length_in w)) (ltb (length w - 3) (length_in w)) x.1 in
    rw (x.0, y.0, y.1)

module _ (s t : List ℕ) where
  pub byte_same : (n : ℕ) → n < length s → byte_at (s ++ t) n ≡ byte_at s n
  byte_same n h = get_or-append s t 0 n h

  pub length_same : 3 ≤ length s → length_in (s ++ t) ≡ length_in s
  length_same h = rw (byte_same 1 (omega arith), byte_same 2 (omega arith))

  -- with bytes after it a whole field stays whole, and keeps its length
  pub stays_whole : is_cut s ≡ false → (is_cut (s ++ t) ≡ false) × (length_in (s ++ t) ≡ length_in s)
  stays_whole e =
      let u = uncut s e in
      let l = length-append s t in
      let k : length_in (s ++ t) ≡ length_in s = length_same u.header in
      (uncut_so (s ++ t) (record { header = omega (arith, u.header); short = rw k u.short; body = rw k (omega (arith, u.body)) }), k)

  -- it is whole without them, where it ends before them
  pub was_whole : is_cut (s ++ t) ≡ false → 3 + length_in (s ++ t) ≤ length s → (is_cut s ≡ false) × (length_in (s ++ t) ≡ length_in s)
  was_whole e h =
      let u = uncut (s ++ t) e in
      let a : 3 ≤ length s = omega arith in
      let k : length_in (s ++ t) ≡ length_in s = length_same a in
      (uncut_so s (record { header = a; short = rw (sym k) u.short; body = rw (sym k) h }), k)
