-- The sums of a station and component are those of its cases; what becomes of them where a case's effects at a station are others, and
-- where its kind is another while it has no effects. Over any test that says which cases are counted.
-- Assumes nothing.
use Prim.Native.Nat.{ℕ, zero, suc, ◌+◌, ◌≤◌, ◌<◌}
use native.Mathlib.Numerals.{add-one}
use native.Mathlib.Omega.{arith}
use mathlib.Core.Bool.{Bool, true, false, cond}
use mathlib.Core.List.{List, [], ◌∷◌, ◌++◌}
use mathlib.Core.Logic.{⊎_elim}
use mathlib.Core.Path.{◌≡◌, refl, sym, ap, ◌∙◌}
use borrow.Author.Tests.{ne_eqb}
use lib.Dec.{eqb}
use lib.IntN.{ℤ, pos, nat_abs}
use lib.ListN.{length, get_or, set, replicate, get_or-eq_default}
use lib.Seq.{sets, ext_get_or, get_or-set_other}
use Rattle.integers.proofs.Linear.{where_agrees, where_none, where_most, where_changed}
use Rattle.standard.specs.Combination.{case_count}
use Rattle.envelope.specs.declared.StationSums.{StationSums}
use Rattle.envelope.specs.Range.{station_count, component_count, effect_limit, total_most}
use Rattle.wire.proofs.Cases.{lt_or_ge, eq_or_ne}
use Rattle.wire.proofs.Stores.{sets_above, sets_append, replicate_all}
use Rattle.effects.specs.Effects.{effect_count, effect_in, place}
use Rattle.effects.proofs.Stored.{effects_at_lem, effects_other}
use Rattle.dead_sums.specs.DeadSums.{no_sums, sum_in, tabulated, sum_by, station_by, sums_by, of_dead_kind, sums_of, moved_by, sums_moved, EffectsWithin}

-- ---- a list of what a function gives
tabulated_long : {A : Type 0} (n : ℕ) (f : ℕ → A) → length (tabulated n f) ≡ n
unfolding tabulated
tabulated_long zero f = refl
tabulated_long (suc n) f = ap suc (tabulated_long n (λ i. f (suc i)))

tabulated_at : {A : Type 0} (n : ℕ) (f : ℕ → A) (i : ℕ) (d : A) → i < n → get_or (tabulated n f) i d ≡ f i
unfolding tabulated
tabulated_at zero f i d l = absurd (omega arith)
tabulated_at (suc n) f zero d l = refl
tabulated_at (suc n) f (suc i) d l = tabulated_at n (λ j. f (suc j)) i d (omega arith)

tabulated_more : {A : Type 0} (n : ℕ) (f : ℕ → A) → tabulated n f ++ f n ∷ [] ≡ tabulated (suc n) f
unfolding tabulated
tabulated_more zero f = refl
tabulated_more {A} (suc n) f = ap (λ (l : List A). f 0 ∷ l) (tabulated_more n (λ i. f (suc i)))

tabulated_same : {A : Type 0} (n : ℕ) (f g : ℕ → A) → ((i : ℕ) → i < n → f i ≡ g i) → tabulated n f ≡ tabulated n g
unfolding tabulated
tabulated_same zero f g e = refl
tabulated_same (suc n) f g e = λ t. e 0 (omega arith) t ∷ tabulated_same n (λ i. f (suc i)) (λ i. g (suc i)) (λ i l. e (suc i) (omega arith)) t

-- a list that has them at their places
tabulated_is : {A : Type 0} (d : A) (n : ℕ) (f : ℕ → A) (l : List A) → length l ≡ n → ((i : ℕ) → i < n → get_or l i d ≡ f i) → l ≡ tabulated n f
tabulated_is d n f l long at =
    ext_get_or d l (tabulated n f) (long ∙ sym (tabulated_long n f))
    (λ i h. let b : i < n = rw long at h in at i b ∙ sym (tabulated_at n f i d b))

-- one of them set to what another function gives, where the two differ nowhere else
tabulated_set : {A : Type 0} (n : ℕ) (f g : ℕ → A) (i : ℕ) → i < n → ((u : ℕ) → u < n → (u ≡ i → ⊥) → f u ≡ g u) → set (tabulated n f) i (g i) ≡ tabulated n g
unfolding tabulated
tabulated_set zero f g i l e = absurd (omega arith)
tabulated_set {A} (suc n) f g zero l e =
    ap (λ (x : List A). g 0 ∷ x) (tabulated_same n (λ u. f (suc u)) (λ u. g (suc u)) (λ u m. e (suc u) (omega arith) (λ q. omega arith)))
tabulated_set (suc n) f g (suc i) l e =
    λ t. e 0 (omega arith) (λ q. omega arith) t ∷ tabulated_set n (λ u. f (suc u)) (λ u. g (suc u)) i (omega arith) (λ u m ne. e (suc u) (omega arith) (λ q. ne (omega arith))) t

replicated : {A : Type 0} (n : ℕ) (x : A) → replicate n x ≡ tabulated n (λ _. x)
unfolding tabulated
replicated zero x = refl
replicated (suc n) x = λ t. x ∷ replicated n x t

-- what a function gives is stored, one number after the other: those above are as they were, and the next one goes on
module _ (l : List ℤ) (n : ℕ) (f : ℕ → ℤ) where
  pub still_there : get_or (sets l 0 (tabulated n f)) n (pos 0) ≡ get_or l n (pos 0)
  still_there = sets_above (pos 0) (tabulated n f) l 0 n (rw tabulated_long (omega arith))

  pub stored_more : set (sets l 0 (tabulated n f)) n (f n) ≡ sets l 0 (tabulated (n + 1) f)
  stored_more =
      let end : 0 + n ≡ n = omega arith in
      let next = sets_append (tabulated n f) (f n ∷ []) l 0 in
      (rw (tabulated_long, end) at next) ∙ ap (sets l 0) (tabulated_more n f) ∙ ap (λ k. sets l 0 (tabulated k f)) (sym (add-one n))

-- where all three are stored, they are what stands there
pub all_stored : (l : List ℤ) (f : ℕ → ℤ) → length l ≡ component_count → sets l 0 (tabulated component_count f) ≡ tabulated component_count f
unfolding tabulated
all_stored [] f e = absurd (omega (arith, e))
all_stored (x ∷ []) f e = absurd (omega (arith, e))
all_stored (x ∷ y ∷ []) f e = absurd (omega (arith, e))
all_stored (x ∷ y ∷ z ∷ []) f e = refl
all_stored (x ∷ y ∷ z ∷ u ∷ l) f e = absurd (omega (arith, e))

-- ---- the sums are those of the cases
module _ (member : ℕ → ℕ → Bool) (effects : List ℤ) where
  pub sums_long : length (sums_by member effects) ≡ station_count
  unfolding sums_by
  sums_long = tabulated_long station_count (station_by member effects)

  pub station_is : (t : ℕ) (d : StationSums) → t < station_count → get_or (sums_by member effects) t d ≡ station_by member effects t
  unfolding sums_by
  station_is t d b = tabulated_at station_count (station_by member effects) t d b

  pub three_long : (t : ℕ) → (length (station_by member effects t).dead ≡ component_count) × (length (station_by member effects t).fluid ≡ component_count)
  three_long t = (tabulated_long component_count (sum_by member effects 0 t), tabulated_long component_count (sum_by member effects 1 t))

  pub sum_is : (which t j : ℕ) → which < 2 → t < station_count → j < component_count → sum_in (sums_by member effects) which t j ≡ sum_by member effects which t j
  sum_is zero t j a b c =
      ap (λ (s : StationSums). get_or s.dead j (pos 0)) (station_is t no_sums b) ∙ tabulated_at component_count (sum_by member effects 0 t) j (pos 0) c
  sum_is (suc zero) t j a b c =
      ap (λ (s : StationSums). get_or s.fluid j (pos 0)) (station_is t no_sums b) ∙ tabulated_at component_count (sum_by member effects 1 t) j (pos 0) c
  sum_is (suc (suc which)) t j a b c = absurd (omega arith)

  -- a list that has them at their places is the list of the sums
  pub sums_same : (l : List StationSums) → length l ≡ station_count →
      ((t : ℕ) → t < station_count → (length (get_or l t no_sums).dead ≡ component_count) × (length (get_or l t no_sums).fluid ≡ component_count)) →
      ((which t j : ℕ) → which < 2 → t < station_count → j < component_count → sum_in l which t j ≡ sum_by member effects which t j) → l ≡ sums_by member effects
  sums_same l long three at =
      ext_get_or no_sums l (sums_by member effects) (long ∙ sym sums_long)
      (λ t h.
      let b : t < station_count = rw long at h in
      let s : StationSums = get_or l t no_sums in
      let dead : s.dead ≡ tabulated component_count (sum_by member effects 0 t) =
      tabulated_is (pos 0) component_count (sum_by member effects 0 t) s.dead (three t b).0 (λ j c. at 0 t j (omega arith) b c) in
      let fluid : s.fluid ≡ tabulated component_count (sum_by member effects 1 t) =
      tabulated_is (pos 0) component_count (sum_by member effects 1 t) s.fluid (three t b).1 (λ j c. at 1 t j (omega arith) b c) in
      (λ i. record { dead = dead i; fluid = fluid i }) ∙ sym (station_is t no_sums b))

  -- three of them are small
  pub sums_within : EffectsWithin effects → (which t j : ℕ) → nat_abs (get_or (tabulated component_count (sum_by member effects which t)) j (pos 0)) ≤ total_most
  sums_within small which t j = ⊎_elim
      (λ (l : j < component_count). rw (tabulated_at component_count (sum_by member effects which t) j (pos 0) l)
      (where_most case_count (member which) effect_limit (λ k. effect_in effects k t j) (λ k _. small (place k t + j))))
      (λ (l : component_count ≤ j).
      let z : get_or (tabulated component_count (sum_by member effects which t)) j (pos 0) ≡ pos 0 =
      get_or-eq_default (tabulated component_count (sum_by member effects which t)) (pos 0) (omega (arith, tabulated_long component_count (sum_by member effects which t))) in
      rw z (omega arith))
      (lt_or_ge j component_count)

-- the same effects of the cases that are counted make the same sums
pub sums_agree_lem : (member member' : ℕ → ℕ → Bool) (effects effects' : List ℤ) →
    ((which k t j : ℕ) → which < 2 → k < case_count → t < station_count → j < component_count →
    cond (member which k) (effect_in effects k t j) (pos 0) ≡ cond (member' which k) (effect_in effects' k t j) (pos 0)) →
    sums_by member effects ≡ sums_by member' effects'
unfolding sums_by
sums_agree_lem member member' effects effects' same =
    tabulated_same station_count (station_by member effects) (station_by member' effects')
    (λ t b i. record { dead = three 0 (omega arith) t b i; fluid = three 1 (omega arith) t b i })
  where
    three : (which : ℕ) → which < 2 → (t : ℕ) → t < station_count →
        tabulated component_count (sum_by member effects which t) ≡ tabulated component_count (sum_by member' effects' which t)
    three which c t b = tabulated_same component_count (sum_by member effects which t) (sum_by member' effects' which t)
        (λ j d. where_agrees case_count (member which) (member' which) (λ k. effect_in effects k t j) (λ k. effect_in effects' k t j) (λ k l. same which k t j c l b d))

-- ---- a case's three effects at a station are others
module _ (member : ℕ → ℕ → Bool) (effects : List ℤ) (k t : ℕ) (values : List ℤ) (three : length values ≡ component_count) (long : length effects ≡ effect_count)
    (a : k < case_count) (b : t < station_count) where
  abbrev after : List ℤ
  after = sets effects (place k t) values

  -- three sums at a station, before and after
  abbrev sums_at : List ℤ → ℕ → ℕ → List ℤ
  sums_at e which u = tabulated component_count (sum_by member e which u)

  -- those of another station stay
  elsewhere : (which u : ℕ) → (u ≡ t → ⊥) → sums_at effects which u ≡ sums_at after which u
  elsewhere which u ne = tabulated_same component_count (sum_by member effects which u) (sum_by member after which u)
      (λ j d. where_agrees case_count (member which) (member which) (λ q. effect_in effects q u j) (λ q. effect_in after q u j)
      (λ q l. ap (λ (x : ℤ). cond (member which q) x (pos 0)) (sym (effects_other effects k t values three q u j a l (λ e. ne e.1) d))))

  -- those that don't count it stay
  kept : (which : ℕ) → member which k ≡ false → sums_at effects which t ≡ sums_at after which t
  kept which other = tabulated_same component_count (sum_by member effects which t) (sum_by member after which t)
      (λ j d. where_agrees case_count (member which) (member which) (λ q. effect_in effects q t j) (λ q. effect_in after q t j)
      (λ q l. ⊎_elim
      (λ (e : q ≡ k). let f : member which q ≡ false = ap (member which) e ∙ other in rw f)
      (λ (ne : q ≡ k → ⊥). ap (λ (x : ℤ). cond (member which q) x (pos 0)) (sym (effects_other effects k t values three q t j a l (λ e. ne e.0) d)))
      (eq_or_ne q k)))

  -- those that count it move by the difference
  counted : (which : ℕ) → member which k ≡ true → sums_moved (sums_at effects which t) effects (place k t) values ≡ sums_at after which t
  counted which own = tabulated_same component_count _ (sum_by member after which t)
      (λ j d. (λ i. moved_by (tabulated_at component_count (sum_by member effects which t) j (pos 0) d i) (effect_in effects k t j) (sym (effects_at_lem effects k t values three j long a b d) i))
      ∙ sym (where_changed case_count (member which) k (λ q. effect_in after q t j) (λ q. effect_in effects q t j) a own
      (λ q l ne. effects_other effects k t values three q t j a l (λ e. ne e.0) d)))

  -- the sums of the station are stored
  stored : {s : StationSums} → s ≡ station_by member after t → set (sums_by member effects) t s ≡ sums_by member after
  unfolding sums_by
  stored e =
      ap (set (sums_by member effects) t) e
      ∙ tabulated_set station_count (station_by member effects) (station_by member after) t b
      (λ u l ne i. record { dead = elsewhere 0 u ne i; fluid = elsewhere 1 u ne i })

  -- it isn't counted: all sums stay
  pub uncounted : ((which : ℕ) → which < 2 → member which k ≡ false) → sums_by member effects ≡ sums_by member after
  unfolding sums_by
  uncounted none = tabulated_same station_count (station_by member effects) (station_by member after) (λ u l. ⊎_elim
      (λ (e : u ≡ t). rw e (λ i. record { dead = kept 0 (none 0 (omega arith)) i; fluid = kept 1 (none 1 (omega arith)) i }))
      (λ (ne : u ≡ t → ⊥). λ i. record { dead = elsewhere 0 u ne i; fluid = elsewhere 1 u ne i })
      (eq_or_ne u t))

  -- the sums of D, at 0, or of F, at 1, of a station with the case's effects replaced
  unfoldable pub part_moved : ℕ → StationSums → StationSums
  part_moved zero s = record { dead = sums_moved s.dead effects (place k t) values; fluid = s.fluid }
  part_moved (suc which) s = record { dead = s.dead; fluid = sums_moved s.fluid effects (place k t) values }

  -- it is counted for the one and not for the other: its three sums there move by the difference
  pub moved_are : (which : ℕ) → which < 2 → member which k ≡ true → ((w : ℕ) → w < 2 → (w ≡ which → ⊥) → member w k ≡ false) → (d : StationSums) →
      set (sums_by member effects) t (part_moved which (get_or (sums_by member effects) t d)) ≡ sums_by member after
  unfolding part_moved
  moved_are zero c own other d =
      stored (ap (part_moved 0) (station_is member effects t d b)
      ∙ (λ i. record { dead = counted 0 own i; fluid = kept 1 (other 1 (omega arith) (λ e. omega arith)) i }))
  moved_are (suc zero) c own other d =
      stored (ap (part_moved 1) (station_is member effects t d b)
      ∙ (λ i. record { dead = kept 0 (other 0 (omega arith) (λ e. omega arith)) i; fluid = counted 1 own i }))
  moved_are (suc (suc which)) c own other d = absurd (omega arith)

-- ---- a case without effects may be of any kind
no_effect : (s t : Bool) {x : ℤ} → x ≡ pos 0 → cond s x (pos 0) ≡ cond t x (pos 0)
no_effect true true e = refl
no_effect true false e = e
no_effect false true e = sym e
no_effect false false e = refl

pub any_kind : (kinds : List ℕ) (effects : List ℤ) (k v : ℕ) → ((t j : ℕ) → t < station_count → j < component_count → effect_in effects k t j ≡ pos 0) →
    sums_of (set kinds k v) effects ≡ sums_of kinds effects
any_kind kinds effects k v none = sums_agree_lem (of_dead_kind (set kinds k v)) (of_dead_kind kinds) effects effects (λ which q t j c l b d. ⊎_elim
    (λ (e : q ≡ k). no_effect (of_dead_kind (set kinds k v) which q) (of_dead_kind kinds which q) (rw e (none t j b d)))
    (λ (ne : q ≡ k → ⊥). ap (λ (x : ℕ). cond (eqb x (suc which)) (effect_in effects q t j) (pos 0)) (get_or-set_other kinds k q v 0 ne))
    (eq_or_ne q k))

-- ---- a fresh sheet has no cases and no sums
pub none_summed : (effects : List ℤ) → replicate station_count no_sums ≡ sums_of (replicate case_count 0) effects
unfolding sums_by
none_summed effects =
    replicated station_count no_sums
    ∙ tabulated_same station_count (λ _. no_sums) (station_by (of_dead_kind (replicate case_count 0)) effects)
    (λ t b i. record { dead = none 0 t i; fluid = none 1 t i })
  where
    none : (which t : ℕ) → replicate component_count (pos 0) ≡ tabulated component_count (sum_by (of_dead_kind (replicate case_count 0)) effects which t)
    none which t = replicated component_count (pos 0) ∙ tabulated_same component_count (λ _. pos 0) (sum_by (of_dead_kind (replicate case_count 0)) effects which t)
        (λ j c. sym (where_none case_count (of_dead_kind (replicate case_count 0) which) (λ k. effect_in effects k t j) (λ k l.
        let z : get_or (replicate case_count 0) k 0 ≡ 0 = replicate_all (λ (x : ℕ). x ≡ 0) 0 0 refl refl case_count k in
        rw (z, ne_eqb 0 (suc which) (λ e. omega arith)))))
