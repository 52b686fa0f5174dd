-- What is saved of a place and of a station, by what they hold, and one run of bytes more.
-- Assumes nothing.
use Prim.Native.Nat.{ℕ, ◌+◌, ◌≤◌}
use mathlib.Core.Path.{◌≡◌}
use mathlib.Core.List.{List, [], ◌++◌}
use mathlib.Core.Bool.{◌&&◌}
use native.Mathlib.Numerals.{add-one}
use borrow.Author.Tests.{ne_eqb}
use lib.Dec.{eqb}
use lib.IntN.{ℤ}
use lib.ListN.{length, take, drop}
use lib.Seq.{sets, take-append_seam}
use mir.Syntax.{w16}
use mir.Val.{SFits}
use Rattle.wire.specs.Bytes.{bits16, over}
use Rattle.wire.proofs.Complement.{zero_bits}
use Rattle.wire.proofs.Stores.{front}
use Rattle.envelope.specs.Range.{station_count}
use Rattle.saved_fields.specs.Saved.{up_to, all_zero, fill_field, capacities_field, station_bytes, case_bytes, capacity_bytes}

pub up_to_more : (f : ℕ → List ℕ) (n : ℕ) → up_to f (n + 1) ≡ up_to f n ++ f n
unfolding up_to
up_to_more f n = rw add-one

pub zero_by_bits : {n y z : ℤ} → SFits w16 n → SFits w16 y → SFits w16 z →
    all_zero n y z ≡ (eqb (bits16 n) 0 && (eqb (bits16 y) 0 && eqb (bits16 z) 0))
zero_by_bits {n} {y} {z} a b c = rw (zero_bits w16 n a, zero_bits w16 y b, zero_bits w16 z c)

module _ (kind : ℕ → ℕ) (effect : ℕ → ℕ → ℕ → ℤ) (case : ℕ) where
  pub case_none : kind case ≡ 0 → case_bytes kind effect case ≡ []
  unfolding case_bytes
  case_none h = rw h

  pub case_some : (kind case ≡ 0 → ⊥) → case_bytes kind effect case ≡ fill_field case (kind case) ++ up_to (station_bytes effect case) station_count
  unfolding case_bytes
  case_some h = rw (ne_eqb (kind case) 0 h)

module _ (capacity : ℕ → ℕ → ℕ) (station : ℕ) {n : ℕ} (a : n ≡ capacity station 0) where
  pub capacity_none : n ≡ 0 → capacity_bytes capacity station ≡ []
  unfolding capacity_bytes
  capacity_none h = rw (← a, h)

  pub capacity_some : {y z : ℕ} → y ≡ capacity station 1 → z ≡ capacity station 2 → (n ≡ 0 → ⊥) →
      capacity_bytes capacity station ≡ capacities_field station n y z
  unfolding capacity_bytes
  capacity_some b c h = rw (← a, ← b, ← c, ne_eqb n 0 h)

-- ---- a run put at the front

pub front_taken : (w o : List ℕ) {n : ℕ} {b : List ℕ} → length w ≤ length o → n ≡ length w → b ≡ sets o 0 w → take n b ≡ w
unfolding over
front_taken w o h e f = rw (e, f, front w o h) (take-append_seam w (drop (length w) o))
