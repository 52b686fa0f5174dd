-- Runs of bytes that are appended one after the other by a loop: the invariant, a turn, and how long they are.
-- Assumes nothing.
use Prim.Native.Nat.{ℕ, zero, suc, ◌+◌, ◌*◌, ◌≤◌, ◌<◌, zero-le}
use mathlib.Core.Path.{◌≡◌, sym}
use mathlib.Core.List.{List, ◌++◌, append_assoc, append-nil}
use native.Mathlib.Numerals.{add-one}
use native.Mathlib.Nat.{suc-mul, mul-le-mul_right}
use native.Mathlib.Omega.{arith}
use lib.ListN.{length, length-append}
use Rattle.saved_fields.specs.Saved.{up_to}

-- n runs, each of b bytes at most
pub up_to_most : (f : ℕ → List ℕ) (b : ℕ) → ((k : ℕ) → length (f k) ≤ b) → (n : ℕ) → length (up_to f n) ≤ n * b
unfolding up_to
up_to_most f b h zero = zero-le
up_to_most f b h (suc n) =
    let i = up_to_most f b h n in
    let j = h n in
    rw (length-append, suc-mul) (omega arith)

-- f 0, .. f (t - 1) are appended to what there was before
pub record Appended (f : ℕ → List ℕ) (t : ℕ) (before now : List ℕ) : Type 0 where
  pub is : now ≡ before ++ up_to f t

pub none_appended : (f : ℕ → List ℕ) (xs : List ℕ) → Appended f 0 xs xs
unfolding up_to
none_appended f xs = record { is = sym (append-nil xs) }

module _ {f : ℕ → List ℕ} {t : ℕ} {before now : List ℕ} (h : Appended f t before now) where
  pub one_appended : {later : List ℕ} → later ≡ now ++ f t → Appended f (t + 1) before later
  unfolding up_to
  one_appended e = record { is = rw (e, h.is, add-one, append_assoc) }

  -- the next one fits
  pub next_fits : (n b most : ℕ) → ((k : ℕ) → length (f k) ≤ b) → length before + n * b ≤ most → t < n → length now + b ≤ most
  next_fits n b most m r l =
      let g : suc t * b ≤ n * b = mul-le-mul_right b l in
      let e = suc-mul t b in
      let v = up_to_most f b m t in
      rw (h.is, length-append) (omega arith)
