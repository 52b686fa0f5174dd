-- The name found: as the walk has it so far, in the file, and of 1 to 24 bytes.
-- Assumes nothing.
use Prim.Native.Nat.{ℕ, zero, suc, ◌+◌, ◌-◌, ◌≤◌, ◌<◌}
use mathlib.Core.Path.{◌≡◌, refl, sym, ◌∙◌, ap}
use mathlib.Core.List.{List, [], ◌∷◌}
use mathlib.Core.Bool.{Bool, true, false, cond, ◌&&◌}
use mathlib.Core.Logic.{◌⊎◌, inl, inr}
use native.Mathlib.Omega.{arith}
use borrow.Author.Tests.{leb-true}
use lib.ListN.{length, take, drop}
use lib.Seq.{get_or-take, get_or-drop}
use lib.Dec.{eqb, leb}
use Rattle.std.specs.Prelude.{Some, None}
use Rattle.std.specs.Option.{unwrap_or}
use Rattle.wire.specs.Bytes.{byte_at}
use Rattle.wire.proofs.Cases.{both}
use Rattle.refusals.specs.Refusals.{case_outside}
use Rattle.headers.specs.Headers.{tag_of, length_in, is_cut, name_number, name_length}
use Rattle.drawing.specs.declared.NamePlace.{NamePlace}
use Rattle.drawing.specs.declared.fields.Field.{Field}
use Rattle.drawing.specs.Fields.{FieldOf, is_name_of, name_in}
use Rattle.drawing.specs.Names.{places_from, places_of, names_case, name_at, no_name, last_of, name_place, case_name}
use Rattle.drawing.proofs.Walk.{Left, left, left_all, all_left, left_none, left_next, uncut_fits}

-- the walk has come to a place, and the last name up to there is the one found
pub record Named (file : List ℕ) (case at : ℕ) (found : NamePlace) : Type 0 where
  pub ahead : Left file at
  pub last : last_of case file (places_of file) no_name ≡ last_of case file (left ahead) found

pub named_start : (file : List ℕ) (case : ℕ) → Named file case 0 no_name
named_start file case = record { ahead = left_all file; last = ap (λ (ps : List ℕ). last_of case file ps no_name) (sym (all_left file)) }

pub named_next : {file : List ℕ} {case at : ℕ} {found : NamePlace} → Named file case at found → is_cut (drop at file) ≡ false →
    Named file case (at + (3 + length_in (drop at file))) (cond (names_case case (drop at file)) (name_at file at) found)
unfolding last_of
named_next {file} {case} {at} {found} h e =
    let x = left_next h.ahead e in
    record { ahead = x.later; last = h.last ∙ ap (λ (ps : List ℕ). last_of case file ps found) x.split }

-- the name of the field, or the one found before
pub found_or : (t : Bool) (name found : NamePlace) → unwrap_or (cond t (Some name) None) found ≡ cond t name found
found_or true name found = refl
found_or false name found = refl

pub named_end : {file : List ℕ} {case at : ℕ} {found : NamePlace} → Named file case at found → is_cut (drop at file) ≡ true → found ≡ last_of case file (places_of file) no_name
unfolding last_of
named_end {file} {case} {at} {found} h e = sym (h.last ∙ ap (λ (ps : List ℕ). last_of case file ps found) (left_none h.ahead e))

pub and_true : (a b : Bool) → (a && b) ≡ true → (a ≡ true) × (b ≡ true)
and_true true b e = (refl, e)
and_true false b e = absurd (let z : ◌≡◌ {A = ℕ} 0 1 = cc in omega arith)

-- what holds of the name found before, and of the name in each whole field that names the case, holds of the last one
module _ (P : NamePlace → Type 0) (file : List ℕ) (case : ℕ)
    (each : (at : ℕ) → is_cut (drop at file) ≡ false → names_case case (drop at file) ≡ true → P (name_at file at)) where
  one : (t : Bool) (at : ℕ) {found : NamePlace} → is_cut (drop at file) ≡ false → names_case case (drop at file) ≡ t → P found → P (cond t (name_at file at) found)
  one true at e f p = each at e f
  one false at e f p = p

  next_keeps : (t : Bool) (n at : ℕ) {found : NamePlace} → is_cut (drop at file) ≡ t → P found →
      ((f : NamePlace) → P f → P (last_of case file (places_from n (at + (3 + length_in (drop at file))) file) f)) →
      P (last_of case file (cond t [] (at ∷ places_from n (at + (3 + length_in (drop at file))) file)) found)
  unfolding last_of
  next_keeps true n at e p later = p
  next_keeps false n at e p later = later _ (one (names_case case (drop at file)) at e refl p)

  last_keeps : (n at : ℕ) (found : NamePlace) → P found → P (last_of case file (places_from n at file) found)
  unfolding last_of places_from
  last_keeps zero at found p = p
  last_keeps (suc n) at found p = next_keeps (is_cut (drop at file)) n at refl p (last_keeps n (at + (3 + length_in (drop at file))))

  pub place_keeps : P no_name → P (name_place file case)
  unfolding name_place
  place_keeps p = both P (case_outside case) p (last_keeps (length file) 0 no_name p)

-- the case in the field at a place, as a byte of the file
pub case_byte : (file : List ℕ) (at : ℕ) {b : ℕ} → b ≡ byte_at file (at + 3) → byte_at (drop at file) 3 ≡ b
case_byte file at e = get_or-drop at file 3 0 ∙ sym e

-- the lengths that a case byte and a name may have together
pub name_lengths : (len : ℕ) → name_length len ≡ true → (2 ≤ len) × (len ≤ 25)
name_lengths len e = let p = and_true (leb 2 len) (leb len 25) e in (leb-true 2 len p.0, leb-true len 25 p.1)

-- a field that names a case has such a length
pub names_length : (case : ℕ) (field : List ℕ) → names_case case field ≡ true → (2 ≤ length_in field) × (length_in field ≤ 25)
names_length case field e =
    let p = and_true (eqb (tag_of field) name_number) _ e in
    let q = and_true (name_length (length_in field)) _ p.1 in
    name_lengths (length_in field) q.0

-- two tests behind another, which are the same where that one holds
pub and_same : (a b : Bool) {c c' : Bool} → (b ≡ true → c ≡ c') → (a && (b && c)) ≡ (a && (b && c'))
and_same false b h = refl
and_same true false h = refl
and_same true true h = h refl

-- by its tag and its body, a field of the file names the case that it names by its bytes
module _ (file : List ℕ) (case : ℕ) {at : ℕ} {field : Field} (w : FieldOf file at field) where
  abbrev s : List ℕ
  s = drop at file

  names_by : is_name_of case field ≡ names_case case s
  names_by =
      rw (w.tag_is, w.length_is)
      (and_same (eqb (tag_of s) name_number) (name_length (length_in s))
      (λ n.
      let some : 0 < length_in s = omega (arith, (name_lengths (length_in s) n).0) in
      ap (λ (b : ℕ). eqb b case) (ap (λ (b : List ℕ). byte_at b 0) w.body_is ∙ get_or-take (length_in s) (drop 3 s) 0 0 some ∙ get_or-drop 3 s 0 0)))

  name_by : name_in field ≡ name_at file at
  name_by = rw (w.begins, w.length_is)

  pub name_of_field : cond (is_name_of case field) (Some (name_in field)) None ≡ cond (names_case case s) (Some (name_at file at)) None
  name_of_field = rw (names_by, name_by)

-- the name found lies in the file
pub name_within : (file : List ℕ) (case : ℕ) → (name_place file case).from + (name_place file case).len ≤ length file
name_within file case =
    place_keeps
    (λ (p : NamePlace). p.from + p.len ≤ length file)
    file
    case
    (λ at e f. let l = uncut_fits file at e in let g = names_length case (drop at file) f in omega arith)
    (omega arith)

-- it has 1 to 24 bytes, or there is none
pub name_len : (file : List ℕ) (case : ℕ) → (name_place file case ≡ no_name) ⊎ ((1 ≤ (name_place file case).len) × ((name_place file case).len ≤ 24))
name_len file case =
    place_keeps
    (λ (p : NamePlace). (p ≡ no_name) ⊎ ((1 ≤ p.len) × (p.len ≤ 24)))
    file
    case
    (λ at e f. let g = names_length case (drop at file) f in inr (omega arith, omega arith))
    (inl refl)

-- the part of the file from the name's first byte to its end
pub name_part : (file : List ℕ) (case : ℕ) {p : NamePlace} → p ≡ name_place file case → take (p.from + p.len - p.from) (drop p.from file) ≡ case_name file case
name_part file case {p} e = let l : p.from + p.len - p.from ≡ p.len = omega arith in rw (l, e)
