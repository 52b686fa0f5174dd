-- The sums of the kinds, one kind after the other, and the sets of the cases, one case after the other.
-- Assumes nothing.
use Prim.Native.Nat.{ℕ, zero, suc, ◌+◌, ◌*◌, ◌<◌, ◌≤◌, ◌^◌}
use native.Mathlib.Decide.{ℕ_discrete}
use native.Mathlib.Nat.{pow-suc}
use native.Mathlib.Numerals.{add-one}
use native.Mathlib.Omega.{arith}
use mathlib.Core.Bool.{Bool, cond}
use mathlib.Core.List.{List}
use mathlib.Core.Path.{◌≡◌, refl, sym, ap, ◌∙◌, subst}
use borrow.Author.Tests.{eq-eqb, ne_eqb}
use lib.Dec.{eqb}
use lib.IntN.{ℤ, pos, nat_abs}
use lib.ListN.{length, get_or, set, replicate, length-set}
use lib.Pow.{pow-lt}
use lib.Seq.{get_or-set_same, get_or-set_other}
use Rattle.integers.specs.Sums.{when, sum, mask_of, up, down}
use Rattle.integers.specs.Sets.{has}
use Rattle.integers.proofs.Masks.{bit_in_mask, mask_below}
use Rattle.integers.proofs.Signs.{neg_down}
use Rattle.integers.proofs.Sums.{ltb_cases, sum_same, most_same}
use Rattle.integers.proofs.Linear.{where_most}
use Rattle.standard.specs.Kinds.{class_of, kind_count}
use Rattle.standard.specs.Combination.{case_count}
use Rattle.optimum.specs.Row.{total_of}
use Rattle.envelope.specs.Range.{effect_most}
use Rattle.envelope.specs.Places.{Places, PlacesInRange}
use Rattle.sums.specs.declared.Sides.{Sides}
use Rattle.sums.specs.Sums.{total_count, part_of, alone, held_by, held_of, held_at, among, sides_by, split_of, sides_in, sum_most, KindPut, SumsOf, Summed, TotalsOf, SumsInRange}
use Rattle.sums.proofs.Held.{part_le, held_most}

-- ---- the kinds

-- of two sides, the one of a number
abbrev side_of : ℕ → ℕ → ℕ → ℕ
side_of zero above below = above
side_of (suc t) above below = below

side_part : (t : ℕ) (x : ℤ) → side_of t (up x) (down x) ≡ part_of t x
side_part zero x = refl
side_part (suc t) x = refl

-- of the kind itself
put_own : {before after : ℕ → ℕ → ℕ} {j : ℕ} {s : Sides} (t above below : ℕ) → KindPut before after j s → t < 2 → s ≡ sides_by above below →
    after j t ≡ side_of t above below
put_own zero above below p l is = p.above ∙ ap (λ (x : Sides). up x.above) is
put_own (suc zero) above below p l is = p.below ∙ ap (λ (x : Sides). down x.below) is ∙ neg_down (pos below)
put_own (suc (suc t)) above below p l is = absurd (omega arith)

module _ (totals : ℕ → ℤ) (places : List ℕ) (e : ℕ → ℤ) where
  -- the totals of D and F
  pub totals_put : {before dead after : ℕ → ℕ → ℕ} {d f : Sides} → KindPut before dead 1 d → d ≡ split_of (totals 0) → KindPut dead after 2 f → f ≡ split_of (totals 1) →
      SumsOf after totals places e 3
  totals_put {before} {dead} {after} {d} {f} p is q it = record { total = at_kind; others = λ j t b m _. absurd (omega arith) }
    where
      at_kind : (j t : ℕ) → j < total_count → t < 2 → after (suc j) t ≡ part_of t (totals j)
      at_kind zero t _ m = q.others 1 t (λ e. omega arith) ∙ put_own t (up (totals 0)) (down (totals 0)) p m is ∙ side_part t (totals 0)
      at_kind (suc zero) t _ m = put_own t (up (totals 1)) (down (totals 1)) q m it ∙ side_part t (totals 1)
      at_kind (suc (suc j)) t b m = absurd (omega arith)

  -- one kind more
  pub kind_more : (j : ℕ) {before after : ℕ → ℕ → ℕ} {x : Sides} → SumsOf before totals places e j → total_count < j → KindPut before after j x →
      x ≡ sides_in (alone (class_of j)) (has (get_or places j 0)) e case_count → SumsOf after totals places e (j + 1)
  kind_more j {before} {after} {x} h above p is =
      record {
        total = λ i t b m. p.others (suc i) t (λ q. omega arith) ∙ h.total i t b m;
        others = λ i t b l m. go i t b l m (ℕ_discrete i j);
      }
    where
      side : ℕ → ℕ
      side t = held_of j case_count (among (has (get_or places j 0)) (λ k. part_of t (e k)))

      own : (t : ℕ) → t < 2 → after j t ≡ side t
      own zero m = put_own 0 (side 0) (side 1) p m is
      own (suc zero) m = put_own 1 (side 0) (side 1) p m is
      own (suc (suc t)) m = absurd (omega arith)

      go : (i t : ℕ) → total_count < i → i < j + 1 → t < 2 → Dec (i ≡ j) → after i t ≡ held_of i case_count (among (has (get_or places i 0)) (λ k. part_of t (e k)))
      go i t b l m (yes q) = subst (λ (n : ℕ). after n t ≡ held_of n case_count (among (has (get_or places n 0)) (λ k. part_of t (e k)))) (sym q) (own t m)
      go i t b l m (no q) = p.others i t q ∙ h.others i t b (omega arith) m

-- the totals of D and F alone are held
pub totals_same : {held : ℕ → ℕ → ℕ} (totals other : ℕ → ℤ) (places : List ℕ) (e : ℕ → ℤ) (m : ℕ) → ((j : ℕ) → j < total_count → totals j ≡ other j) →
    SumsOf held totals places e m → SumsOf held other places e m
totals_same totals other places e m same h = record { total = λ j t b l. h.total j t b l ∙ ap (part_of t) (same j b); others = h.others }

-- ---- from the sets to the kinds of the cases
held_same : (j n : ℕ) (g h : ℕ → ℕ) → ((k : ℕ) → k < n → g k ≡ h k) → held_of j n g ≡ held_of j n h
unfolding held_by
held_same j n g h e = λ i. cond (alone (class_of j)) (most_same n g h e i) (sum_same n g h e i)

pub summed : (held : ℕ → ℕ → ℕ) (totals : ℕ → ℤ) (places : List ℕ) (kind : ℕ → ℕ) (e : ℕ → ℤ) → Places places kind → TotalsOf totals kind e →
    SumsOf held totals places e kind_count → Summed held kind e
summed held totals places kind e q true h =
    record {
      total = λ j t b m. h.total j t b m ∙ ap (part_of t) (true.each j b);
      others = λ j t p l m. h.others j t p l m ∙ held_same j case_count _ _ (member j t (omega arith) l);
    }
  where
    member : (j t : ℕ) → 0 < j → j < kind_count → (k : ℕ) → k < case_count →
        among (has (get_or places j 0)) (λ i. part_of t (e i)) k ≡ among (λ i. eqb (kind i) j) (λ i. part_of t (e i)) k
    member j t p l k b =
        ap (λ (v : Bool). when v (part_of t (e k))) (ap (λ (m : ℕ). has m k) (q.each j p l) ∙ bit_in_mask case_count (λ i. eqb (kind i) j) k b)

pub places_in_range : (places : List ℕ) (kind : ℕ → ℕ) → Places places kind → PlacesInRange places
places_in_range places kind q = record { long = q.long; each = λ j p l. omega (arith, q.each j p l, mask_below case_count (λ k. eqb (kind k) j)) }

pub total_most_lem : (kind : ℕ → ℕ) (e : ℕ → ℤ) → ((k : ℕ) → nat_abs (e k) ≤ effect_most) → (j t : ℕ) → part_of t (total_of kind e j) ≤ case_count * effect_most
unfolding total_of
total_most_lem kind e small j t = omega (arith, part_le t (total_of kind e j), where_most case_count (λ k. eqb (kind k) j) effect_most e (λ k _. small k))

-- whatever the kinds are, no sum is above the greatest
pub summed_most : (held : ℕ → ℕ → ℕ) (kind : ℕ → ℕ) (e : ℕ → ℤ) → Summed held kind e → ((k : ℕ) → nat_abs (e k) ≤ effect_most) →
    (j t : ℕ) → 0 < j → j < kind_count → t < 2 → held j t ≤ sum_most
summed_most held kind e h small zero t p l m = absurd (omega arith)
summed_most held kind e h small (suc j) t p l m =
    ltb_cases j total_count (λ _. held (suc j) t ≤ sum_most)
    (λ b. omega (arith, h.total j t b m, total_most_lem kind e small (suc j) t))
    (λ b. omega (arith, h.others (suc j) t (omega arith) l m, held_most (alone (class_of (suc j))) (λ k. eqb (kind k) (suc j)) e small t case_count))

pub sums_in_range : (sums : List (List ℕ)) (kind : ℕ → ℕ) (e : ℕ → ℤ) → Summed (held_at sums) kind e → ((k : ℕ) → nat_abs (e k) ≤ effect_most) → SumsInRange sums
sums_in_range sums kind e h small = record { each = summed_most (held_at sums) kind e h small }

-- ---- the sets of the cases below k
pub record PlacesTo (places : List ℕ) (kind : ℕ → ℕ) (k : ℕ) : Type 0 where
  pub long : length places ≡ kind_count
  pub each : (j : ℕ) → 0 < j → j < kind_count → get_or places j 0 ≡ mask_of k (λ i. eqb (kind i) j)

zeros : (n i : ℕ) → ◌≡◌ {A = ℕ} (get_or (replicate n 0) i 0) 0
zeros zero i = refl
zeros (suc n) zero = refl
zeros (suc n) (suc i) = zeros n i

pub no_places : (kind : ℕ → ℕ) → PlacesTo (replicate kind_count 0) kind 0
unfolding mask_of sum
no_places kind = record { long = refl; each = λ j p l. zeros kind_count j }

pub places_all : {places : List ℕ} {kind : ℕ → ℕ} (k : ℕ) → PlacesTo places kind k → k ≡ case_count → Places places kind
places_all {places} {kind} k h e =
    let all : PlacesTo places kind case_count = subst (PlacesTo places kind) e h in record { long = all.long; each = all.each }

module _ (places : List ℕ) (kind : ℕ → ℕ) (k bit : ℕ) (h : PlacesTo places kind k) (b : bit ≡ 2 ^ k) where
  -- an empty place is in no set
  pub empty_more : kind k ≡ 0 → PlacesTo places kind (k + 1)
  unfolding mask_of sum
  empty_more z =
      record {
        long = h.long;
        each = λ j p l. rw (add-one k, z, ne_eqb 0 j (λ q. omega arith)) (omega (arith, h.each j p l));
      }

  pub case_more : 0 < kind k → kind k < kind_count → PlacesTo (set places (kind k) (get_or places (kind k) 0 + bit)) kind (k + 1)
  unfolding mask_of sum
  case_more p l = record { long = length-set places (kind k) _ ∙ h.long; each = λ j q m. go j q m (ℕ_discrete (kind k) j) }
    where
      go : (j : ℕ) → 0 < j → j < kind_count → Dec (kind k ≡ j) → get_or (set places (kind k) (get_or places (kind k) 0 + bit)) j 0 ≡ mask_of (k + 1) (λ i. eqb (kind i) j)
      go j q m (yes e) =
          subst (λ (n : ℕ). get_or (set places (kind k) (get_or places (kind k) 0 + bit)) n 0 ≡ mask_of (k + 1) (λ i. eqb (kind i) n)) e
          (get_or-set_same places (kind k) _ 0 (omega (arith, h.long))
          ∙ rw (add-one k, eq-eqb (kind k) (kind k) refl) (omega (arith, h.each (kind k) p l)))
      go j q m (no e) =
          get_or-set_other places (kind k) j _ 0 (λ a. e (sym a)) ∙ rw (add-one k, ne_eqb (kind k) j e) (omega (arith, h.each j q m))

  pub case_fits : k < case_count → 0 < kind k → kind k < kind_count → get_or places (kind k) 0 + bit < 2 ^ 64
  case_fits i p l = let n : 2 ^ k < 2 ^ 32 = pow-lt i in omega (arith, h.each (kind k) p l, mask_below k (λ j. eqb (kind j) (kind k)))

  pub bit_more : bit * 2 ≡ 2 ^ (k + 1)
  bit_more = rw add-one (omega (arith, pow-suc 2 k))

  pub bit_fits : k < case_count → bit * 2 < 2 ^ 64
  bit_fits i = let n : 2 ^ k < 2 ^ 32 = pow-lt i in omega arith
