-- A list of fields is read from field to field: the fields that are left at a place, the next one, and the end.
-- Assumes nothing.
use Prim.Native.Nat.{ℕ, zero, suc, ◌+◌, ◌-◌, ◌≤◌, ◌<◌}
use mathlib.Core.Path.{◌≡◌, refl, sym, ◌∙◌, ap}
use mathlib.Core.List.{List, [], ◌∷◌}
use native.Mathlib.Omega.{arith}
use lib.ListN.{length, drop, length-drop, drop_of_length-le}
use lib.Seq.{drop-drop, drop-length}
use Rattle.headers.specs.Headers.{consumed_by}
use Rattle.headers.proofs.Whole.{consumed_within, consumed_some}
use Rattle.lists.specs.Lists.{fields_from, fields_of}

-- fs are the fields of the input from place i on
pub record Left (input : List ℕ) (i : ℕ) (fs : List (List ℕ)) : Type 0 where
  pub n : ℕ
  pub within : i ≤ length input
  pub enough : length input ≤ i + n
  pub fields : fs ≡ fields_from n (drop i input)

pub left_all : (input : List ℕ) → Left input 0 (fields_of input)
left_all input = record { n = length input; within = omega arith; enough = omega arith; fields = refl }

-- the bytes from place i on, taken apart
from_place : (input : List ℕ) (i : ℕ) → i < length input → (b : ℕ) × ((bs : List ℕ) × (drop i input ≡ b ∷ bs))
from_place [] i h = absurd (omega arith)
from_place (b ∷ bs) zero h = (b, (bs, refl))
from_place (b ∷ bs) (suc i) h = from_place bs i (omega arith)

pub no_fields : (n : ℕ) → fields_from n [] ≡ []
unfolding fields_from
no_fields zero = refl
no_fields (suc n) = refl

-- no bytes have no fields
pub no_bytes : (w : List ℕ) → length w ≡ 0 → fields_of w ≡ []
unfolding fields_from
no_bytes [] h = refl
no_bytes (b ∷ bs) h = absurd (omega arith)

-- the end of the input leaves no field
pub left_none : {input : List ℕ} {i : ℕ} {fs : List (List ℕ)} → Left input i fs → length input ≤ i → fs ≡ []
left_none {input} {i} h e = h.fields ∙ (ap (fields_from h.n) (drop_of_length-le input e) ∙ no_fields h.n)

-- before the end one field follows, and then those that are left after it
pub record Next (input : List ℕ) (i : ℕ) (fs : List (List ℕ)) : Type 0 where
  pub rest : List (List ℕ)
  pub split : fs ≡ drop i input ∷ rest
  pub later : Left input (i + consumed_by (drop i input)) rest
  pub further : 0 < consumed_by (drop i input)

one_field : (n : ℕ) (w : List ℕ) → (b : ℕ) × ((bs : List ℕ) × (w ≡ b ∷ bs)) → fields_from (suc n) w ≡ w ∷ fields_from n (drop (consumed_by w) w)
unfolding fields_from
one_field n w x = rw x.1.1

next : (input : List ℕ) (i n : ℕ) {fs : List (List ℕ)} → i < length input → length input ≤ i + n → fs ≡ fields_from n (drop i input) → Next input i fs
next input i zero g e f = absurd (omega arith)
next input i (suc n) g e f =
    let w = drop i input in
    let l : length w ≡ length input - i = length-drop i input in
    let c = consumed_within w in
    let some : 0 < consumed_by w = consumed_some w (omega arith) in
    record {
      rest = fields_from n (drop (consumed_by w) w);
      split = f ∙ one_field n w (from_place input i g);
      later = record {
        n = n;
        within = omega arith;
        enough = omega arith;
        fields = ap (fields_from n) (drop-drop (consumed_by w) i input);
      };
      further = some;
    }

pub left_next : {input : List ℕ} {i : ℕ} {fs : List (List ℕ)} → Left input i fs → i < length input → Next input i fs
left_next {input} {i} h g = next input i h.n g h.enough h.fields

-- as a number of fields at most, any that is at least that of the bytes will do
same_fields : (n m : ℕ) (w : List ℕ) → length w ≤ n → length w ≤ m → fields_from n w ≡ fields_from m w
unfolding fields_from
same_fields zero m [] h g = sym (no_fields m)
same_fields zero m (b ∷ bs) h g = absurd (omega arith)
same_fields (suc n) m [] h g = sym (no_fields m)
same_fields (suc n) zero (b ∷ bs) h g = absurd (omega arith)
same_fields (suc n) (suc m) (b ∷ bs) h g =
    let w : List ℕ = b ∷ bs in
    let c = consumed_some w (omega arith) in
    let l : length (drop (consumed_by w) w) ≡ length w - consumed_by w = length-drop (consumed_by w) w in
    ap (λ (fs : List (List ℕ)). w ∷ fs) (same_fields n m (drop (consumed_by w) w) (omega arith) (omega arith))

-- the fields of bytes are the first, and those of the bytes after it
pub first_field : (w : List ℕ) → 0 < length w → fields_of w ≡ w ∷ fields_of (drop (consumed_by w) w)
unfolding fields_from
first_field [] g = absurd (omega arith)
first_field (b ∷ bs) g =
    let w : List ℕ = b ∷ bs in
    let c = consumed_some w g in
    let l : length (drop (consumed_by w) w) ≡ length w - consumed_by w = length-drop (consumed_by w) w in
    ap (λ (fs : List (List ℕ)). w ∷ fs)
    (same_fields (length bs) (length (drop (consumed_by w) w)) (drop (consumed_by w) w) (omega arith) (omega arith))

-- one that takes all the bytes is the only one
pub only_field : (w : List ℕ) → 0 < length w → consumed_by w ≡ length w → fields_of w ≡ w ∷ []
unfolding fields_from
only_field w g e =
    let d : drop (consumed_by w) w ≡ [] = ap (λ (n : ℕ). drop n w) e ∙ drop-length w in
    first_field w g ∙ ap (λ (v : List ℕ). w ∷ fields_of v) d

-- each has a byte at least
few : (n : ℕ) (w : List ℕ) → length (fields_from n w) ≤ n
unfolding fields_from
few zero w = omega arith
few (suc n) [] = omega arith
few (suc n) (b ∷ bs) = let m = few n (drop (consumed_by (b ∷ bs)) (b ∷ bs)) in omega arith

pub fields_few : (w : List ℕ) → length (fields_of w) ≤ length w
fields_few w = few (length w) w
