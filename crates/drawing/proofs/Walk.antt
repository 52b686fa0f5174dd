-- The walk over the whole fields of a file: a field that is cut ends it, and after a whole one it goes on where that one ends.
-- Assumes nothing.
use Prim.Native.Nat.{ℕ, zero, suc, ◌+◌, ◌-◌, ◌≤◌}
use mathlib.Core.Path.{◌≡◌, refl, sym, ap, ◌∙◌}
use Rattle.std.specs.Option.{option_map_or}
use mathlib.Core.List.{List, [], ◌∷◌}
use mathlib.Core.Bool.{true, false}
use mathlib.Core.Logic.{⊎_elim}
use native.Mathlib.Omega.{arith}
use lib.ListN.{length, take, drop, length-drop}
use Rattle.std.specs.Prelude.{Option, Some, None}
use Rattle.headers.specs.Headers.{Header, tag_of, length_in, is_cut, header, header_of}
use Rattle.headers.proofs.Whole.{by_header, whole_long, header_fits, part_from}
use Rattle.drawing.specs.Names.{places_from, places_of}

-- a field without a header is cut
pub header_cut : (file : List ℕ) (at : ℕ) {o : Option Header} → o ≡ header_of (take (length file - at) (drop at file)) → o ≡ None → is_cut (drop at file) ≡ true
header_cut file at e s =
    let g : header_of (drop at file) ≡ None = sym (rw (part_from file at) at e) ∙ s in
    ⊎_elim
    (λ p. p.0)
    (λ p. absurd (let z : ◌≡◌ {A = ℕ} 0 1 = cc p.1 in omega arith))
    (by_header (drop at file))

-- the header of a whole field says its tag and its length
pub record Whole (file : List ℕ) (at tag len : ℕ) : Type 0 where
  pub uncut : is_cut (drop at file) ≡ false
  pub tag_of_lem : tag ≡ tag_of (drop at file)
  pub length_in_lem : len ≡ length_in (drop at file)
  pub fits : at + (3 + len) ≤ length file

pub header_whole : (file : List ℕ) (at : ℕ) (h : Header) {o : Option Header} → o ≡ header_of (take (length file - at) (drop at file)) → o ≡ Some h → Whole file at h.tag h.len
header_whole file at h e f =
    let g : header_of (drop at file) ≡ Some h = sym (rw (part_from file at) at e) ∙ f in
    let l : length (drop at file) ≡ length file - at = length-drop at file in
    let fits = header_fits (drop at file) h (sym g) refl in
    let same = λ (e : Some h ≡ Some (header (tag_of (drop at file)) (length_in (drop at file)))). ap (λ o. option_map_or (λ (x : Header). x) o h) e in
    ⊎_elim
    (λ p. absurd (let z : ◌≡◌ {A = ℕ} 0 1 = cc p.1 in omega arith))
    (λ p. record { uncut = p.0; tag_of_lem = ap (λ (x : Header). x.tag) (same (sym g ∙ p.1)); length_in_lem = ap (λ (x : Header). x.len) (same (sym g ∙ p.1)); fits = omega arith })
    (by_header (drop at file))

-- a field that is not cut lies in the file
pub uncut_fits : (file : List ℕ) (at : ℕ) → is_cut (drop at file) ≡ false → at + (3 + length_in (drop at file)) ≤ length file
uncut_fits file at e =
    let l : length (drop at file) ≡ length file - at = length-drop at file in
    omega (arith, whole_long (drop at file) e)

-- the walk has come to a place, and n is enough for the fields that are left
pub record Left (file : List ℕ) (at : ℕ) : Type 0 where
  pub n : ℕ
  pub within : at ≤ length file
  pub enough : length file ≤ at + n

abbrev pub left : {file : List ℕ} {at : ℕ} → Left file at → List ℕ
left {file} {at} l = places_from l.n at file

pub left_all : (file : List ℕ) → Left file 0
left_all file = record { n = length file; within = omega arith; enough = omega arith }

pub all_left : (file : List ℕ) → left (left_all file) ≡ places_of file
unfolding left_all
all_left file = refl

-- a field that is cut ends the walk
pub none_from : (n at : ℕ) (file : List ℕ) → is_cut (drop at file) ≡ true → places_from n at file ≡ []
unfolding places_from
none_from zero at file e = refl
none_from (suc n) at file e = rw e

pub left_none : {file : List ℕ} {at : ℕ} (l : Left file at) → is_cut (drop at file) ≡ true → left l ≡ []
left_none {file} {at} l e = none_from l.n at file e

-- a whole one stands at the place, and those that are left begin where it ends
pub record Next (file : List ℕ) (at : ℕ) (places : List ℕ) : Type 0 where
  pub later : Left file (at + (3 + length_in (drop at file)))
  pub split : places ≡ at ∷ left later

-- and after a whole one it goes on
pub one_from : (n at : ℕ) (file : List ℕ) → is_cut (drop at file) ≡ false → places_from (suc n) at file ≡ at ∷ places_from n (at + (3 + length_in (drop at file))) file
unfolding places_from
one_from n at file e = rw e

next : (n at : ℕ) (file : List ℕ) → length file ≤ at + n → is_cut (drop at file) ≡ false → Next file at (places_from n at file)
next zero at file g e = let f = uncut_fits file at e in absurd (omega arith)
next (suc n) at file g e =
    let f = uncut_fits file at e in
    record { later = record { n = n; within = f; enough = omega arith }; split = one_from n at file e }

pub left_next : {file : List ℕ} {at : ℕ} (l : Left file at) → is_cut (drop at file) ≡ false → Next file at (left l)
left_next {file} {at} l e = next l.n at file l.enough e
