-- How long the bytes of stations, of places and of a whole sheet are at most.
-- Assumes nothing.
use Prim.Native.Nat.{ℕ, ◌*◌, ◌≤◌, zero-le}
use mathlib.Core.List.{List, [], ◌∷◌, ◌++◌}
use mathlib.Core.Bool.{Bool, true, false, cond}
use native.Mathlib.Omega.{arith}
use lib.Dec.{lit≤, eqb}
use lib.IntN.{ℤ}
use lib.ListN.{length, length-append}
use Rattle.wire.specs.Bytes.{word_bytes}
use Rattle.standard.specs.declared.Settings.{Settings}
use Rattle.sheet.specs.declared.Sheet.{Sheet}
use Rattle.sheet.specs.Sheet.{kind_at, effect_at, capacity_at}
use Rattle.saved_fields.proofs.Runs.{up_to_most}
use Rattle.saved_fields.specs.Saved.{up_to, words, settings_field, switch_field, straining_field, settings_bytes, settings_most, fill_field, effects_field, capacities_field, all_zero, station_bytes, case_bytes, capacity_bytes, saved_by, saved_bytes, station_most, case_most, capacity_most, saved_most}

-- nothing, or w
pub cond_most : (t : Bool) (w : List ℕ) (b : ℕ) → length w ≤ b → length (cond t [] w) ≤ b
cond_most true w b h = zero-le
cond_most false w b h = h

module _ (effect : ℕ → ℕ → ℕ → ℤ) where
  pub station_most_lem : (case station : ℕ) → length (station_bytes effect case station) ≤ station_most
  unfolding station_bytes effects_field words
  station_most_lem case station =
      let e : ℕ → ℤ = effect case station in
      cond_most (all_zero (e 0) (e 1) (e 2)) (effects_field case station (e 0) (e 1) (e 2)) station_most (lit≤ tt)

  pub case_most_lem : (kind : ℕ → ℕ) (case : ℕ) → length (case_bytes kind effect case) ≤ case_most
  unfolding case_bytes fill_field
  case_most_lem kind case =
      let h = up_to_most (station_bytes effect case) station_most (station_most_lem case) 16 in
      cond_most (eqb (kind case) 0) (fill_field case (kind case) ++ up_to (station_bytes effect case) 16) case_most (omega arith)

pub capacity_most_lem : (capacity : ℕ → ℕ → ℕ) (station : ℕ) → length (capacity_bytes capacity station) ≤ capacity_most
unfolding capacity_bytes capacities_field words
capacity_most_lem capacity station =
    let held : ℕ → ℕ = capacity station in
    cond_most (eqb (held 0) 0) (capacities_field station (held 0) (held 1) (held 2)) capacity_most (lit≤ tt)

pub settings_most_lem : (s : Settings) → length (settings_bytes s) ≤ settings_most
unfolding settings_bytes settings_field switch_field straining_field
settings_most_lem s =
    let h = cond_most (eqb s.ice 0) (8 ∷ 0 ∷ 1 ∷ s.ice ∷ []) 4 (lit≤ tt) in
    let g = cond_most (eqb s.straining 1000) (9 ∷ 0 ∷ 2 ∷ word_bytes s.straining) 5 (lit≤ tt) in
    simp length-append (omega (arith, h, g))

module _ (kind : ℕ → ℕ) (effect : ℕ → ℕ → ℕ → ℤ) where
  -- what is saved of all places
  pub places_most : length (up_to (case_bytes kind effect) 32) ≤ 32 * case_most
  places_most = up_to_most (case_bytes kind effect) case_most (case_most_lem effect kind) 32

  by_most : (settings : Settings) (capacity : ℕ → ℕ → ℕ) → length (saved_by settings kind effect capacity) ≤ saved_most
  unfolding saved_by
  by_most settings capacity =
      let v = up_to (case_bytes kind effect) 32 in
      let w = up_to (capacity_bytes capacity) 16 in
      let h = places_most in
      let g = up_to_most (capacity_bytes capacity) capacity_most (capacity_most_lem capacity) 16 in
      let k = settings_most_lem settings in
      rw (length-append (settings_bytes settings) (v ++ w), length-append v w) (omega arith)

-- a saved sheet's greatest size
pub saved_most_lem : (s : Sheet) → length (saved_bytes s) ≤ saved_most
unfolding saved_bytes
saved_most_lem s = by_most (kind_at s) (effect_at s) s.settings (capacity_at s)
