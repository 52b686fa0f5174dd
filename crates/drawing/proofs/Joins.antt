-- A file in two parts, of which the first ends where its whole fields do: its fields are those of the first part and then those of the
-- second, so a name in the second part stands, and where that has none the name in the first.
-- Assumes nothing.
use Prim.Native.Nat.{ℕ, zero, suc, ◌+◌, ◌-◌, ◌≤◌}
use mathlib.Core.Path.{◌≡◌, refl, sym, ◌∙◌, ap}
use mathlib.Core.List.{List, [], ◌++◌}
use mathlib.Core.Bool.{Bool, true, false, cond}
use mathlib.Core.Logic.{⊎_elim}
use native.Mathlib.Nat.{add-zero}
use native.Mathlib.Omega.{arith}
use borrow.Author.Tests.{ne_eqb, lt-ltb}
use lib.ListN.{length, take, drop, length-drop, take-append-drop}
use lib.Seq.{length-take-le, take-append-le, drop-append-le, drop-append-add}
use lib.Dec.{eqb}
use Rattle.wire.proofs.Cases.{either, both}
use Rattle.refusals.specs.Refusals.{case_outside}
use Rattle.headers.specs.Headers.{length_in, is_cut}
use Rattle.drawing.specs.declared.NamePlace.{NamePlace}
use Rattle.drawing.specs.Names.{places_of, names_case, name_at, no_name, last_of, name_place, case_name, whole_end}
use Rattle.drawing.proofs.Ends.{Reached, reached_start, reached_next, reached_end}
use Rattle.drawing.proofs.Names.{Named, named_start, named_next, named_end, names_length, name_within}
use Rattle.headers.proofs.Following.{stays_whole, was_whole}
use Rattle.drawing.proofs.Following.{names_same}

-- the walk over a file comes to a place, and the last name up to there is the one found
data Comes (file : List ℕ) (case : ℕ) : ℕ → NamePlace → Type 0 where
  start : Comes file case 0 no_name
  next : {at : ℕ} {found : NamePlace} → Comes file case at found → is_cut (drop at file) ≡ false →
      Comes file case (at + (3 + length_in (drop at file))) (cond (names_case case (drop at file)) (name_at file at) found)

module _ {file : List ℕ} {case : ℕ} where
  reached : {at : ℕ} {p : NamePlace} → Comes file case at p → Reached file at
  reached start = reached_start file
  reached (next c e) = reached_next (reached c) e

  named : {at : ℕ} {p : NamePlace} → Comes file case at p → Named file case at p
  named start = named_start file case
  named (next c e) = named_next (named c) e

  within : {at : ℕ} {p : NamePlace} → Comes file case at p → at ≤ length file
  within c = (reached c).ahead.within

  next_so : {at i : ℕ} {found p : NamePlace} → Comes file case at found → is_cut (drop at file) ≡ false → i ≡ at + (3 + length_in (drop at file)) →
      p ≡ cond (names_case case (drop at file)) (name_at file at) found → Comes file case i p
  next_so c e f g = rw (f, g) (next c e)

-- the walk ends at a field that is cut
record Last (file : List ℕ) (case : ℕ) : Type 0 where
  at : ℕ
  found : NamePlace
  comes : Comes file case at found
  cut : is_cut (drop at file) ≡ true

none_cut : (file : List ℕ) (at : ℕ) → length file ≤ at → is_cut (drop at file) ≡ true
none_cut file at h = let l : length (drop at file) ≡ length file - at = length-drop at file in rw (lt-ltb (length (drop at file)) 3 (omega arith))

on : (n : ℕ) {file : List ℕ} {case at : ℕ} {p : NamePlace} → Comes file case at p → length file ≤ at + n → Last file case
on zero {file} {case} {at} {p} c h = record { at = at; found = p; comes = c; cut = none_cut file at (omega arith) }
on (suc n) {file} {case} {at} {p} c h =
    ⊎_elim
    (λ e. record { at = at; found = p; comes = c; cut = e })
    (λ e. on n (next c e) (omega arith))
    (either (is_cut (drop at file)))

last : (file : List ℕ) (case : ℕ) → Last file case
last file case = on (length file) start (omega arith)

module _ {file : List ℕ} {case : ℕ} (x : Last file case) where
  last_at : x.at ≡ whole_end file
  last_at = reached_end (reached x.comes) x.cut

  last_found : x.found ≡ last_of case file (places_of file) no_name
  last_found = named_end (named x.comes) x.cut

-- the whole fields reach no further than the file, and a field that is cut follows them
pub end_within : (file : List ℕ) → whole_end file ≤ length file
end_within file = let x = last file 0 in rw (sym (last_at x)) (within x.comes)

pub rest_cut : (file : List ℕ) → is_cut (drop (whole_end file) file) ≡ true
rest_cut file = let x = last file 0 in rw (sym (last_at x)) x.cut

module _ (a b : List ℕ) (case : ℕ) where
  -- the walk over the first part goes on as in it alone
  carried : {at : ℕ} {p : NamePlace} → Comes a case at p → Comes (a ++ b) case at p
  carried start = start
  carried (next {at} {found} c e) =
      let d : drop at (a ++ b) ≡ drop at a ++ b = drop-append-le at a b (within c) in
      let x = stays_whole (drop at a) b e in
      next_so (carried c) (rw d x.0) (rw (d, x.1)) (rw (d, names_same (drop at a) b case e, x.1))

  -- as far as it comes there
  carried_back : {at : ℕ} {p : NamePlace} → Comes (a ++ b) case at p → at ≤ length a → Comes a case at p
  carried_back start h = start
  carried_back (next {at} {found} c e) h =
      let g : at ≤ length a = omega arith in
      let d : drop at (a ++ b) ≡ drop at a ++ b = drop-append-le at a b g in
      let l : length (drop at a) ≡ length a - at = length-drop at a in
      let k : at + (3 + length_in (drop at a ++ b)) ≤ length a = rw d at h in
      let x = was_whole (drop at a) b (rw d at e) (omega arith) in
      next_so (carried_back c g) x.0 (rw (d, x.1)) (rw (d, names_same (drop at a) b case x.0, x.1))

-- the name found in the second part, by its place in the file, or else the one in the first
abbrev either_part : List ℕ → NamePlace → NamePlace → NamePlace
either_part a q p = cond (eqb q.len 0) p (record { from = length a + q.from; len = q.len })

part_step : (a : List ℕ) (t : Bool) (at len : ℕ) (q p : NamePlace) → (t ≡ true → 2 ≤ len) →
    either_part a (cond t (record { from = at + 4; len = len - 1 }) q) p ≡ cond t (record { from = length a + at + 4; len = len - 1 }) (either_part a q p)
part_step a true at len q p h =
    let l = h refl in
    let e : length a + (at + 4) ≡ length a + at + 4 = omega arith in
    rw (ne_eqb (len - 1) 0 (λ z. omega arith), e)
part_step a false at len q p h = refl

module _ (a b : List ℕ) (case : ℕ) where
  -- from the end of the first part on it goes as over the second alone
  shifted : {p : NamePlace} → Comes a case (length a) p → {at : ℕ} {q : NamePlace} → Comes b case at q → Comes (a ++ b) case (length a + at) (either_part a q p)
  shifted c start = rw add-zero (carried a b case c)
  shifted {p} c (next {at} {found} d e) =
      let g : drop (length a + at) (a ++ b) ≡ drop at b = drop-append-add a b at in
      let l : length a + (at + (3 + length_in (drop at b))) ≡ length a + at + (3 + length_in (drop at b)) = omega arith in
      next_so (shifted c d) (rw g e) (rw g l)
      (rw g
      (part_step a (names_case case (drop at b)) at (length_in (drop at b)) found p
      (λ t. (names_length case (drop at b) t).0)))

bytes_of : (t : Bool) (w : List ℕ) (p q : NamePlace) {x y : List ℕ} → take p.len (drop p.from w) ≡ x → take q.len (drop q.from w) ≡ y →
    take (cond t p q).len (drop (cond t p q).from w) ≡ cond t x y
bytes_of true w p q e f = e
bytes_of false w p q e f = f

-- the bytes of that name
joined_bytes : (a b : List ℕ) (p q : NamePlace) → p.from + p.len ≤ length a → q.from + q.len ≤ length b →
    take (either_part a q p).len (drop (either_part a q p).from (a ++ b))
    ≡ cond (eqb (length (take q.len (drop q.from b))) 0) (take p.len (drop p.from a)) (take q.len (drop q.from b))
joined_bytes a b p q h g =
    let i : p.from ≤ length a = omega arith in
    let k : p.len ≤ length (drop p.from a) = rw length-drop (omega arith) in
    let m : q.len ≤ length (drop q.from b) = rw length-drop (omega arith) in
    let l : length (take q.len (drop q.from b)) ≡ q.len = length-take-le q.len (drop q.from b) m in
    rw l
    (bytes_of (eqb q.len 0) (a ++ b) p (record { from = length a + q.from; len = q.len })
    (ap (take p.len) (drop-append-le p.from a b i) ∙ take-append-le p.len (drop p.from a) b k)
    (ap (take q.len) (drop-append-add a b q.from)))

-- the walk over bytes that end where their whole fields do comes to their end
to_end : (a : List ℕ) (case : ℕ) → whole_end a ≡ length a → Comes a case (length a) (last a case).found
to_end a case e = rw (sym e, sym (last_at (last a case))) (last a case).comes

module _ (a b : List ℕ) (e : whole_end a ≡ length a) where
  both_parts : (case : ℕ) → Last (a ++ b) case
  both_parts case =
      let x = last b case in
      record {
        at = length a + x.at;
        found = either_part a x.found (last a case).found;
        comes = shifted a b case (to_end a case e) x.comes;
        cut = rw (drop-append-add a b x.at) x.cut;
      }

  pub ends_joined : whole_end (a ++ b) ≡ length a + whole_end b
  unfolding both_parts
  ends_joined = sym (last_at (both_parts 0)) ∙ ap (λ (n : ℕ). length a + n) (last_at (last b 0))

  place_joined : (case : ℕ) → name_place (a ++ b) case ≡ either_part a (name_place b case) (name_place a case)
  unfolding both_parts name_place
  place_joined case =
      ⊎_elim
      (λ o. rw o)
      (λ o. rw o (sym (last_found (both_parts case)) ∙ rw (last_found (last a case), last_found (last b case))))
      (either (case_outside case))

  pub names_joined : (case : ℕ) → case_name (a ++ b) case ≡ cond (eqb (length (case_name b case)) 0) (case_name a case) (case_name b case)
  names_joined case = rw (place_joined case) (joined_bytes a b (name_place a case) (name_place b case) (name_within a case) (name_within b case))

-- bytes that begin with a field that is cut have no name
pub cut_nameless : (file : List ℕ) (case : ℕ) → is_cut file ≡ true → case_name file case ≡ []
unfolding name_place
cut_nameless file case e =
    let x : Last file case = record { at = 0; found = no_name; comes = start; cut = e } in
    both (λ (p : NamePlace). take p.len (drop p.from file) ≡ []) (case_outside case) refl (rw (sym (last_found x)))

-- as far as the whole fields of a file reach, it has no others
pub whole_part : (file : List ℕ) → whole_end (take (whole_end file) file) ≡ length (take (whole_end file) file)
whole_part file =
    let n = whole_end file in
    let x = last file 0 in
    let l : length (take n file) ≡ n = length-take-le n file (end_within file) in
    let c : Comes file 0 n x.found = rw (sym (last_at x)) x.comes in
    let d : Comes (take n file ++ drop n file) 0 n x.found = rw (take-append-drop n file) c in
    let y : Comes (take n file) 0 n x.found = carried_back (take n file) (drop n file) 0 d (omega arith) in
    sym (rw l (reached_end (reached y) (none_cut (take n file) n (omega arith))))
