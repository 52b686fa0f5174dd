-- The text of bytes, names and cases: what it is by the tests of the code, how long it is at most, and a name's text byte by byte.
-- Assumes nothing.
use Prim.Native.Nat.{ℕ, ◌+◌, ◌*◌, ◌/◌, ◌%◌, ◌≤◌, ◌<◌}
use mathlib.Core.Path.{◌≡◌, refl, sym, ◌∙◌, ap}
use mathlib.Core.List.{List, [], ◌∷◌, ◌++◌, append_assoc, append-nil}
use mathlib.Core.Bool.{Bool, true, false}
use native.Mathlib.Numerals.{add-one}
use native.Mathlib.Omega.{arith}
use lib.ListN.{length, get_or, take, length-append}
use lib.Seq.{take-suc, length-take-le}
use lib.Dec.{ltb}
use Rattle.wire.specs.Bytes.{Put}
use Rattle.wire.proofs.Cases.{both}
use Rattle.wire.proofs.Stores.{put_two}
use Rattle.case_names.specs.Text.{hex_digit, escaped, byte_text, name_text, case_text, line_text}

pub escaped_text : (b : ℕ) {t : Bool} {x y : ℕ} → t ≡ escaped b → t ≡ true → x ≡ hex_digit (b / 16) → y ≡ hex_digit (b % 16) →
    byte_text b ≡ 0x5C ∷ 0x78 ∷ x ∷ y ∷ []
unfolding byte_text
escaped_text b e t p q = let f = sym e ∙ t in rw (f, p, q)

pub plain_text : (b : ℕ) {t : Bool} → t ≡ escaped b → t ≡ false → byte_text b ≡ b ∷ []
unfolding byte_text
plain_text b e t = let f = sym e ∙ t in rw f

pub one_digit : (case : ℕ) {x : ℕ} → ltb case 10 ≡ true → x ≡ hex_digit case → case_text case ≡ x ∷ []
unfolding case_text
one_digit case e p = rw (p, e)

pub two_digits : (case : ℕ) {x y : ℕ} → ltb case 10 ≡ false → x ≡ hex_digit (case / 10) → y ≡ hex_digit (case % 10) → case_text case ≡ x ∷ y ∷ []
unfolding case_text
two_digits case e p q = rw (e, p, q)

pub byte_most : (b : ℕ) → length (byte_text b) ≤ 4
unfolding byte_text
byte_most b = both (λ (w : List ℕ). length w ≤ 4) (escaped b) (omega arith) (omega arith)

pub case_most_lem : (case : ℕ) → length (case_text case) ≤ 2
unfolding case_text
case_most_lem case = both (λ (w : List ℕ). length w ≤ 2) (ltb case 10) (omega arith) (omega arith)

pub name_most : (name : List ℕ) → length (name_text name) ≤ 4 * length name
unfolding name_text
name_most [] = omega arith
name_most (b ∷ bs) = rw length-append (omega (arith, byte_most b, name_most bs))

name_append : (v w : List ℕ) → name_text (v ++ w) ≡ name_text v ++ name_text w
unfolding name_text
name_append [] w = refl
name_append (b ∷ v) w = ap (λ (x : List ℕ). byte_text b ++ x) (name_append v w) ∙ sym (append_assoc (byte_text b) (name_text v) (name_text w))

name_one : (b : ℕ) → name_text (b ∷ []) ≡ byte_text b
unfolding name_text
name_one b = append-nil (byte_text b)

-- one more byte of a name
pub name_more : (name : List ℕ) (i : ℕ) → i < length name → name_text (take (i + 1) name) ≡ name_text (take i name) ++ byte_text (get_or name i 0)
name_more name i h =
    let e : take (i + 1) name ≡ take i name ++ (get_or name i 0 ∷ []) = ap (λ (n : ℕ). take n name) (add-one i) ∙ take-suc name i 0 h in
    ap name_text e ∙ (name_append (take i name) (get_or name i 0 ∷ []) ∙ ap (λ (x : List ℕ). name_text (take i name) ++ x) (name_one (get_or name i 0)))

pub name_so_far : (name : List ℕ) (i : ℕ) → i < length name → length (name_text (take i name)) + 4 ≤ 4 * length name
name_so_far name i h =
    let long : length (take i name) ≡ i = length-take-le i name (omega arith) in
    omega (arith, name_most (take i name))

-- a line is its four runs of bytes
pub line_put : (case : ℕ) (name o : List ℕ) (at : ℕ) {o₁ o₂ o₃ o₄ : List ℕ} {i j k e : ℕ} → Put o at (case_text case) i o₁ → Put o₁ i (0x20 ∷ []) j o₂ →
    Put o₂ j (name_text name) k o₃ → Put o₃ k (0x0A ∷ []) e o₄ → Put o at (line_text case name) e o₄
unfolding line_text
line_put case name o at {o₁} {o₂} {o₃} {o₄} {i} {j} {k} {e} p q r s =
    put_two (case_text case) ((0x20 ∷ []) ++ (name_text name ++ (0x0A ∷ []))) o at p
    (put_two (0x20 ∷ []) (name_text name ++ (0x0A ∷ [])) o₁ i q (put_two (name_text name) (0x0A ∷ []) o₂ j r s))
