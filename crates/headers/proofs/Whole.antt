-- A field that is not cut has the header that it begins with and lies in the input, and a reading consumes some of it and no more than
-- there is.
-- Assumes nothing.
use Prim.Native.Nat.{ℕ, ◌+◌, ◌-◌, ◌≤◌, ◌<◌}
use mathlib.Core.Path.{◌≡◌, refl, sym, ◌∙◌, ap}
use mathlib.Core.List.{List}
use mathlib.Core.Bool.{Bool, true, false, false≢true, cond, ◌||◌}
use mathlib.Core.Logic.{⊎_elim, ◌⊎◌, inl, inr}
use native.Mathlib.Omega.{arith}
use borrow.Author.Tests.{ltb-false}
use lib.ListN.{length, take, drop, length-drop}
use lib.Seq.{take_all}
use lib.Dec.{ltb}
use Rattle.wire.specs.Bytes.{byte_at, word_at}
use Rattle.std.specs.Prelude.{Option, Some, None}
use Rattle.std.specs.Option.{option_map_or}
use Rattle.headers.specs.Headers.{Header, longest_body, tag_of, length_in, is_cut, header, header_of, consumed_of, consumed_by}

not_short : (t : Bool) (o : Option Header) (h : Header) → cond t None o ≡ Some h → (t ≡ false) × (o ≡ Some h)
not_short true o h e = absurd (let z : ◌≡◌ {A = ℕ} 0 1 = cc in omega arith)
not_short false o h e = (refl, e)

-- a whole field's body lies in the input
pub header_fits : (s : List ℕ) (h : Header) {o : Option Header} → o ≡ header_of s → o ≡ Some h → 3 + h.len ≤ length s
unfolding header_of
header_fits s h g e =
    let p = not_short (ltb (length s) 3) _ h (sym g ∙ e) in
    let q = not_short (ltb longest_body (word_at s 1)) _ h p.1 in
    let r = not_short (ltb (length s - 3) (word_at s 1)) _ h q.1 in
    let f : word_at s 1 ≡ h.len = ap (λ o. option_map_or (λ (x : Header). x.len) o 0) r.1 in
    let a : 3 ≤ length s = ltb-false (length s) 3 p.0 in
    let b : word_at s 1 ≤ length s - 3 = ltb-false (length s - 3) (word_at s 1) r.0 in
    let d : h.len ≤ length s - 3 = rw f at b in
    omega arith

header_cases : (a b c : Bool) (h : Option Header) →
    (((a || (b || c)) ≡ true) × (cond a None (cond b None (cond c None h)) ≡ None))
    ⊎ (((a || (b || c)) ≡ false) × (cond a None (cond b None (cond c None h)) ≡ h))
header_cases true b c h = inl (refl, refl)
header_cases false true c h = inl (refl, refl)
header_cases false false true h = inl (refl, refl)
header_cases false false false h = inr (refl, refl)

-- a field is cut, or whole with its tag and its length
pub by_header : (input : List ℕ) → ((is_cut input ≡ true) × (header_of input ≡ None)) ⊎ ((is_cut input ≡ false) × (header_of input ≡ Some (header (tag_of input) (length_in input))))
unfolding header_of
by_header input =
    header_cases (ltb (length input) 3) (ltb longest_body (word_at input 1)) (ltb (length input - 3) (word_at input 1)) (Some (header (byte_at input 0) (word_at input 1)))

pub cut_header : (input : List ℕ) → is_cut input ≡ true → header_of input ≡ None
cut_header input c = ⊎_elim (λ h. h.1) (λ h. absurd (false≢true (sym h.0 ∙ c))) (by_header input)

pub whole_header : (input : List ℕ) → is_cut input ≡ false → header_of input ≡ Some (header (tag_of input) (length_in input))
whole_header input c = ⊎_elim (λ h. absurd (false≢true (sym c ∙ h.0))) (λ h. h.1) (by_header input)

pub whole_long : (input : List ℕ) → is_cut input ≡ false → 3 + length_in input ≤ length input
whole_long input c = header_fits input (header (tag_of input) (length_in input)) refl (whole_header input c)

within_header : (h : Option Header) (input : List ℕ) → h ≡ header_of input → consumed_of h input ≤ length input
within_header None input e = omega arith
within_header (Some h) input e = header_fits input h e refl

some_header : (h : Option Header) (input : List ℕ) → 0 < length input → 0 < consumed_of h input
some_header None input g = g
some_header (Some h) input g = omega arith

-- a part of a slice that goes to its end
pub part_from : (w : List ℕ) (i : ℕ) → take (length w - i) (drop i w) ≡ drop i w
part_from w i = take_all (length w - i) (drop i w) (rw length-drop (omega arith))

pub consumed_within : (input : List ℕ) → consumed_by input ≤ length input
consumed_within input = within_header (header_of input) input refl

pub consumed_some : (input : List ℕ) → 0 < length input → 0 < consumed_by input
consumed_some input g = some_header (header_of input) input g
