-- Facts of every row, kind and setting, each by one test that antt computes over the whole list of lines or of classes.
-- Assumes nothing.
use mathlib.Core.List.{List, [], ◌∷◌, ◌++◌}
use mathlib.Core.Path.{◌≡◌, refl, sym, ap, ◌∙◌, subst}
use mathlib.Core.Bool.{Bool, true, false, false≢true, cond, ◌&&◌, ◌||◌}
use mathlib.Core.Logic.{◌⊎◌, inl, inr}
use Prim.Native.Nat.{ℕ, zero, suc, ◌-◌, ◌≤◌, ◌<◌}
use native.Mathlib.Decide.{dec_lt}
use native.Mathlib.Omega.{arith}
use borrow.Author.Tests.{ltb-false, lt-ltb}
use lib.Dec.{T, eqb, leb, ltb, leb→le, ltb→lt, eqb→eq}
use lib.ListN.{length, get_or, get_or-eq_default}
use Rattle.integers.specs.Sets.{has}
use Rattle.integers.proofs.Masks.{bit_in_mask}
use Rattle.integers.proofs.Tests.{and_left, and_right, and_both, or_cases, neither}
use Rattle.integers.proofs.Sums.{eqb_cases}
use Rattle.standard.specs.declared.Settings.{Settings}
use Rattle.standard.specs.declared.Class.{Class}
use Rattle.standard.specs.declared.Class.TheVariants.{Always, Together, Subset, OneOf, Unknown}
use Rattle.standard.specs.Kinds.{classes, class_of, unknown, kind_count, group_count, permanent_earth, self_straining}
use Rattle.standard.specs.Range.{outside, method_outside, SettingsInRange}
use Rattle.standard.specs.Rows.{Live, num, f, Line, blank, lines, live_factor, roof_factor, snow_factor, columns, row_count, fresh_settings, table_factor, straining_in, factor_of, low_of, Span, rows_to, plain_rows, by_zone, flood_rows, by_ice, ice_rows, open_rows, within, in_spans}
use Rattle.standard.specs.Columns.{kinds_in}
use Rattle.standard.proofs.Table.{tabulate, same_at, all, all_at, all₂, all₂_at}

-- what holds of both arms holds of a choice
of_both {ℓ} : {A : Type ℓ} (P : A → Type 0) (t : Bool) (x y : A) → P x → P y → P (cond t x y)
of_both P true x y p q = p
of_both P false x y p q = q

-- a factor is the sheet's or the table's
by_kind : (P : ℕ → Type 0) (s : Settings) (r k : ℕ) → (k ≡ self_straining → P (straining_in s r)) → P (table_factor (eqb s.live 1) r k) → P (factor_of s r k)
unfolding factor_of
by_kind P s r k p q = eqb_cases k self_straining (λ t. P (cond t (straining_in s r) (table_factor (eqb s.live 1) r k))) p (λ _. q)

-- the sheet's, by the range of the settings
straining_limits : (s : Settings) → SettingsInRange s → (0 < s.straining) × (s.straining ≤ 2000)
straining_limits s h = go (eqb s.method 1) h.straining
  where
    x : ℕ
    x = s.straining

    within : (least most : ℕ) → outside least most x ≡ false → (least ≤ x) × (x ≤ most)
    within least most e = let n = neither (ltb x least) (ltb most x) e in (ltb-false x least n.0, ltb-false most x n.1)

    go : (t : Bool) → cond t (outside 1000 2000 x) (outside 750 1000 x) ≡ false → (0 < x) × (x ≤ 2000)
    go true e = let w = within 1000 2000 e in (omega (arith, w.0), w.1)
    go false e = let w = within 750 1000 e in (omega (arith, w.0), omega (arith, w.1))

-- no factor of the line is above 2000
small : Bool → Line → Bool
small halved l = all (λ x. leb x 2000) (columns halved l)

small_lines : (halved : Bool) → T (small halved blank) × T (all (small halved) lines)
unfolding small
small_lines true = (tt, tt)
small_lines false = (tt, tt)

table_le : (halved : Bool) (r k : ℕ) → table_factor halved r k ≤ 2000
unfolding small
table_le halved r k =
    leb→le _ _
    (all_at (λ x. leb x 2000) (columns halved (get_or lines r blank)) 0 tt
    (all_at (small halved) lines blank (small_lines halved).0 (small_lines halved).1 r) k)

pub factor_le : (s : Settings) (r k : ℕ) → SettingsInRange s → factor_of s r k ≤ 2000
factor_le s r k h =
    by_kind (λ x. x ≤ 2000) s r k
    (λ _. of_both (λ x. x ≤ 2000) (eqb r 1 || eqb r 21) 0 s.straining (omega arith) (straining_limits s h).1)
    (table_le (eqb s.live 1) r k)

low_le_900 : (s : Settings) → low_of s ≤ 900
unfolding low_of
low_le_900 s = of_both (λ x. x ≤ 900) (eqb s.method 1) 900 600 (omega arith) (omega arith)

-- a factor for earth is none, or no less than the greatest low factor
earth_test : ℕ → Bool
earth_test zero = true
earth_test (suc x) = leb 900 (suc x)

earth_ge_900 : (x : ℕ) → 0 < x → T (earth_test x) → 900 ≤ x
unfolding earth_test
earth_ge_900 zero h t = absurd (omega arith)
earth_ge_900 (suc x) h t = leb→le _ _ t

pub low_le_full : (s : Settings) (r : ℕ) → 0 < factor_of s r permanent_earth → low_of s ≤ factor_of s r permanent_earth
unfolding factor_of earth_test
low_le_full s r h =
    omega
    (arith, low_le_900 s, earth_ge_900 (factor_of s r permanent_earth) h (all_at (λ l. earth_test l.earth) lines blank tt tt r))

-- the table has no column for the last kind
padded : (xs : List ℕ) (k : ℕ) → get_or (xs ++ (0 ∷ [])) k 0 ≡ get_or xs k 0
padded [] zero = refl
padded [] (suc k) = refl
padded (x ∷ xs) zero = refl
padded (x ∷ xs) (suc k) = padded xs k

-- so what a test finds of each class and column holds of each kind
by_columns : (P : Class → ℕ → Bool) (halved : Bool) (l : Line) → T (P Unknown 0) → T (all₂ P classes (columns halved l ++ (0 ∷ []))) →
    (k : ℕ) → T (P (class_of k) (get_or (columns halved l) k 0))
unfolding class_of
by_columns P halved l none t k =
    subst (λ (x : ℕ). T (P (class_of k) x)) (padded (columns halved l) k) (all₂_at P classes (columns halved l ++ (0 ∷ [])) Unknown 0 none t k)

straining_class : (k : ℕ) → k ≡ self_straining → class_of k ≡ Subset
unfolding class_of
straining_class k e = ap class_of e

-- a kind that is unknown has no factor
unknown_test : Class → ℕ → Bool
unknown_test Always x = true
unknown_test Together x = true
unknown_test Subset x = true
unknown_test (OneOf g) x = true
unknown_test Unknown x = eqb x 0

pub unknown_none : (s : Settings) (r k : ℕ) → class_of k ≡ Unknown → factor_of s r k ≡ 0
unfolding unknown_test
unknown_none s r k e =
    by_kind (λ x. x ≡ 0) s r k (λ q. absurd (false≢true (ap unknown (sym (straining_class k q) ∙ e))))
    (eqb→eq _ _
    (subst (λ (c : Class). T (unknown_test c (table_factor (eqb s.live 1) r k))) e (by_columns unknown_test (eqb s.live 1) (get_or lines r blank) tt tt k)))

-- the kinds are the numbers from 1 on that have a class
known_table : tabulate (λ k. unknown (class_of k)) 1 (kind_count - 1) ≡ tabulate (λ k. false) 1 (kind_count - 1)
unfolding class_of
known_table = refl

pub kind_known : (k : ℕ) → 0 < k → k < kind_count → unknown (class_of k) ≡ false
kind_known k p l = same_at (λ j. unknown (class_of j)) (λ j. false) 1 (kind_count - 1) k known_table p l

pub known_kind : (k : ℕ) → unknown (class_of k) ≡ false → (0 < k) × (k < kind_count)
unfolding class_of
known_kind k e = (some k e, go (dec_lt k kind_count))
  where
    some : (n : ℕ) → unknown (class_of n) ≡ false → 0 < n
    some zero q = absurd (false≢true (sym q))
    some (suc n) q = omega arith

    go : Dec (k < kind_count) → k < kind_count
    go (yes l) = l
    go (no l) =
        let past : length classes ≤ k = omega arith in
        absurd (false≢true (sym e ∙ ap unknown (get_or-eq_default classes Unknown past)))

-- a group is one of the groups
group_test : Class → Bool
group_test Always = true
group_test Together = true
group_test Subset = true
group_test (OneOf g) = ltb g group_count
group_test Unknown = true

pub group_below : (k g : ℕ) → class_of k ≡ OneOf g → g < group_count
unfolding class_of group_test
group_below k g e = ltb→lt g group_count (subst (λ (c : Class). T (group_test c)) e (all_at group_test classes Unknown tt tt k))

-- ---- the open rows
-- a span has a row, and its rows are in the table
in_table : Span → Bool
in_table p = leb p.first p.last && ltb p.last row_count

abbrev AllInTable : List Span → Type 0
AllInTable ps = T (all in_table ps)

joined : (ps qs : List Span) → AllInTable ps → AllInTable qs → AllInTable (ps ++ qs)
joined [] qs a b = b
joined (p ∷ ps) qs a b =
    and_both (in_table p) (all in_table (ps ++ qs)) (and_left (in_table p) (all in_table ps) a) (joined ps qs (and_right (in_table p) (all in_table ps) a) b)

open_in_table : (s : Settings) → AllInTable (open_rows s)
unfolding open_rows plain_rows flood_rows ice_rows in_table
open_in_table s =
    joined (plain_rows s) (flood_rows s ++ ice_rows s) (by_method_lem (rows_to 1 8 ∷ []) (rows_to 21 30 ∷ []) tt tt)
    (joined (flood_rows s) (ice_rows s)
    (by_method_lem (by_zone s (rows_to 9 10) (rows_to 11 12)) (by_zone s (rows_to 31 35) (rows_to 36 40)) (by_zone_lem (rows_to 9 10) (rows_to 11 12) tt tt) (by_zone_lem (rows_to 31 35) (rows_to 36 40) tt tt))
    (by_method_lem (by_ice s (rows_to 13 15)) (by_ice s (rows_to 41 43)) (by_ice_lem (rows_to 13 15) tt) (by_ice_lem (rows_to 41 43) tt)))
  where
    by_method_lem : (ps qs : List Span) → AllInTable ps → AllInTable qs → AllInTable (cond (eqb s.method 1) ps (cond (eqb s.method 2) qs []))
    by_method_lem ps qs a b = of_both AllInTable (eqb s.method 1) ps (cond (eqb s.method 2) qs []) a (of_both AllInTable (eqb s.method 2) qs [] b tt)

    by_ice_lem : (p : Span) → AllInTable (p ∷ []) → AllInTable (by_ice s p)
    by_ice_lem p a = of_both AllInTable (eqb s.ice 1) (p ∷ []) [] a tt

    by_zone_lem : (p q : Span) → AllInTable (p ∷ []) → AllInTable (q ∷ []) → AllInTable (by_zone s p q)
    by_zone_lem p q a b = of_both AllInTable (eqb s.zone 1) (p ∷ []) (cond (eqb s.zone 2) (q ∷ []) []) a (of_both AllInTable (eqb s.zone 2) (q ∷ []) [] b tt)

-- the first row of the first span
pub record Begins (p : Span) (ps : List Span) : Type 0 where
  pub some : p.first ≤ p.last
  pub below : (r : ℕ) → T (in_spans (p ∷ ps) r) → r < row_count

spans_below : (ps : List Span) → AllInTable ps → (r : ℕ) → T (in_spans ps r) → r < row_count
unfolding in_table
spans_below [] a r t = absurd t
spans_below (p ∷ ps) a r t = go (spans_below ps (and_right (in_table p) (all in_table ps) a) r) (or_cases (within p r) (in_spans ps r) t)
  where
    go : (T (in_spans ps r) → r < row_count) → T (within p r) ⊎ T (in_spans ps r) → r < row_count
    go later (inl w) =
        omega (
          arith,
          leb→le r p.last (and_right (leb p.first r) (leb r p.last) w),
          ltb→lt p.last row_count (and_right (leb p.first p.last) (ltb p.last row_count) (and_left (in_table p) (all in_table ps) a)),
        )
    go later (inr w) = later w

pub begins : (s : Settings) (p : Span) (ps : List Span) → open_rows s ≡ p ∷ ps → Begins p ps
unfolding in_table
begins s p ps e =
    let a : AllInTable (p ∷ ps) = subst AllInTable e (open_in_table s) in
    record {
      some = leb→le p.first p.last (and_left (leb p.first p.last) (ltb p.last row_count) (and_left (in_table p) (all in_table ps) a));
      below = spans_below (p ∷ ps) a;
    }

-- the method opens some rows
some : List Span → Bool
some [] = false
some (p ∷ ps) = true

pub some_open : (s : Settings) → SettingsInRange s → open_rows s ≡ [] → ⊥
unfolding open_rows plain_rows some
some_open s h e = subst (λ (ps : List Span). T (some ps)) e (known (by_number s.method h.method))
  where
    by_number : (m : ℕ) → method_outside m ≡ false → (m ≡ 1) ⊎ (m ≡ 2)
    by_number zero q = absurd (false≢true (sym q))
    by_number (suc zero) q = inl refl
    by_number (suc (suc zero)) q = inr refl
    by_number (suc (suc (suc m))) q = absurd (omega (arith, ltb-false 2 (suc (suc (suc m))) (neither (eqb (suc (suc (suc m))) 0) (ltb 2 (suc (suc (suc m)))) q).1))

    known : (s.method ≡ 1) ⊎ (s.method ≡ 2) → T (some (open_rows s))
    known (inl q) = rw q tt
    known (inr q) = rw q tt

-- ---- the kinds of a row
-- the live option gives L another factor, and never takes it away
live_stays : (l : Line) (halved : Bool) (k : ℕ) → k < self_straining → ltb 0 (get_or (columns false l) k 0) ≡ ltb 0 (get_or (columns halved l) k 0)
live_stays l false k h = refl
live_stays l true k h =
    same_at (λ j. ltb 0 (get_or (columns false l) j 0)) (λ j. ltb 0 (get_or (columns true l) j 0)) 0 self_straining k (λ i. ltb 0 0
    ∷ ltb 0 l.dead ∷ ltb 0 l.fluid ∷ ltb 0 l.earth ∷ ltb 0 l.earth
    ∷ stays l.live i
    ∷ ltb 0 (roof_factor l.roof) ∷ ltb 0 (snow_factor l.roof) ∷ ltb 0 (roof_factor l.roof)
    ∷ ltb 0 l.wind ∷ ltb 0 l.quake ∷ ltb 0 l.flood ∷ ltb 0 l.ice ∷ ltb 0 l.icewind ∷ []) (omega arith) (omega arith)
  where
    stays : (v : Live) → ltb 0 (live_factor false v) ≡ ltb 0 (live_factor true v)
    stays (num x) = refl
    stays f = refl

-- nor does another factor of T
straining_stays : (none : Bool) (x y : ℕ) → 0 < x → 0 < y → ltb 0 (cond none 0 x) ≡ ltb 0 (cond none 0 y)
straining_stays true x y p q = refl
straining_stays false x y p q = lt-ltb 0 x p ∙ sym (lt-ltb 0 y q)

pub kind_in : (s : Settings) (r k : ℕ) → SettingsInRange s → k < kind_count → has (kinds_in r) k ≡ ltb 0 (factor_of s r k)
unfolding kinds_in factor_of
kind_in s r k range h =
    bit_in_mask kind_count (λ j. ltb 0 (factor_of fresh_settings r j)) k h
    ∙ eqb_cases k self_straining (λ t. ltb 0 (cond t (straining_in fresh_settings r) (table_factor false r k)) ≡ ltb 0 (cond t (straining_in s r) (table_factor (eqb s.live 1) r k)))
    (λ _. straining_stays (eqb r 1 || eqb r 21) 1000 s.straining (omega arith) (straining_limits s range).0)
    (λ ne. live_stays (get_or lines r blank) (eqb s.live 1) k (omega arith))

-- the kinds of a group that have a factor in a row have the same one
group_factor : Line → ℕ → ℕ
group_factor l g = get_or (snow_factor l.roof ∷ l.wind ∷ l.quake ∷ l.flood ∷ l.ice ∷ l.icewind ∷ []) g 0

shared_test : Line → Class → ℕ → Bool
shared_test l Always x = true
shared_test l Together x = true
shared_test l Subset x = true
shared_test l (OneOf g) x = eqb x 0 || eqb x (group_factor l g)
shared_test l Unknown x = true

shared_line : Bool → Line → Bool
shared_line halved l = all₂ (shared_test l) classes (columns halved l ++ (0 ∷ []))

shared_lines : (halved : Bool) → T (shared_line halved blank) × T (all (shared_line halved) lines)
unfolding shared_line shared_test group_factor
shared_lines true = (tt, tt)
shared_lines false = (tt, tt)

pub shared_factor : ℕ → ℕ → ℕ
shared_factor r g = group_factor (get_or lines r blank) g

pub shared_factor_lem : (s : Settings) (r k g : ℕ) → class_of k ≡ OneOf g → 0 < factor_of s r k → factor_of s r k ≡ shared_factor r g
unfolding shared_line shared_test shared_factor
shared_factor_lem s r k g c = by_kind (λ x. 0 < x → x ≡ group_factor l g) s r k
    (λ q. absurd (false≢true (ap alone (sym (straining_class k q) ∙ c))))
    (λ h. go h (or_cases (eqb x 0) (eqb x (group_factor l g)) test))
  where
    l : Line
    l = get_or lines r blank

    halved : Bool
    halved = eqb s.live 1

    x : ℕ
    x = table_factor halved r k

    test : T (shared_test l (OneOf g) x)
    test =
        subst (λ (q : Class). T (shared_test l q x)) c
        (by_columns (shared_test l) halved l tt (all_at (shared_line halved) lines blank (shared_lines halved).0 (shared_lines halved).1 r) k)

    alone : Class → Bool
    alone Always = false
    alone Together = false
    alone Subset = false
    alone (OneOf g) = true
    alone Unknown = false

    go : 0 < x → T (eqb x 0) ⊎ T (eqb x (group_factor l g)) → x ≡ group_factor l g
    go h (inl t) = absurd (omega (arith, eqb→eq x 0 t))
    go h (inr t) = eqb→eq x (group_factor l g) t
