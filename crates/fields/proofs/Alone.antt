-- A whole field at the front of other bytes is the same field, and a reading goes by the bytes of its field alone.
-- Assumes nothing.
use Prim.Native.Nat.{ℕ, ◌+◌, ◌<◌}
use native.Mathlib.Omega.{arith}
use mathlib.Core.Path.{◌≡◌, refl, sym, ap, ◌∙◌}
use mathlib.Core.Bool.{true, false}
use mathlib.Core.List.{List, ◌++◌}
use mathlib.Core.Logic.{⊎_elim}
use lib.ListN.{length, take, drop, take-append-drop}
use lib.Seq.{length-take-le, take-length, get_or-take, take-append_seam, drop-append_seam}
use Rattle.wire.specs.Bytes.{byte_at}
use Rattle.wire.proofs.Cases.{either}
use Rattle.sheet.specs.declared.Sheet.{Sheet}
use Rattle.headers.specs.Headers.{length_in, is_cut, consumed_by, field_in}
use Rattle.headers.proofs.Whole.{cut_header, whole_header, whole_long}
use Rattle.headers.proofs.Following.{byte_same, stays_whole, was_whole, whole_ready}
use Rattle.fields.specs.Field.{read_field}
use Rattle.fields.proofs.Ready.{ready_same}

-- two inputs give the same answer and the same sheet
pub record SameRead (x y : List ℕ) (room : ℕ) (s : Sheet) : Type 0 where
  pub answer : (read_field x room s).answer ≡ (read_field y room s).answer
  pub sheet : (read_field x room s).sheet ≡ (read_field y room s).sheet

-- ---- a whole field at the front of other bytes
module _ (x : List ℕ) (c : is_cut x ≡ false) where
  abbrev size : ℕ
  size = 3 + length_in x

  field_is : field_in x ≡ take size x
  field_is = rw (whole_header x c)

  pub field_long : length (field_in x) ≡ 3 + length_in x
  field_long = rw field_is (length-take-le size x (whole_long x c))

  pub all_of : field_in x ++ drop (consumed_by x) x ≡ x
  all_of = take-append-drop (consumed_by x) x

  -- the field is whole by itself
  field_whole : (is_cut (field_in x) ≡ false) × (length_in x ≡ length_in (field_in x))
  field_whole =
      let w = was_whole (field_in x) (drop (consumed_by x) x) (rw all_of c) (rw (all_of, field_long) (omega arith)) in
      (w.0, rw all_of at w.1)

  module _ (t : List ℕ) where
    pub whole_front : is_cut (field_in x ++ t) ≡ false
    whole_front = (stays_whole (field_in x) t field_whole.0).0

    pub length_front : length_in (field_in x ++ t) ≡ length_in x
    length_front = (stays_whole (field_in x) t field_whole.0).1 ∙ sym field_whole.1

    pub byte_front : (i : ℕ) → i < 3 + length_in x → byte_at (field_in x ++ t) i ≡ byte_at x i
    byte_front i l =
        let in_field : i < length (field_in x) = rw field_long l in
        byte_same (field_in x) t i in_field ∙ (ap (λ (y : List ℕ). byte_at y i) field_is ∙ get_or-take size x i 0 l)

    consumed_front : consumed_by (field_in x ++ t) ≡ length (field_in x)
    consumed_front = rw (whole_header (field_in x ++ t) whole_front, length_front) (sym field_long)

    pub field_front : field_in (field_in x ++ t) ≡ field_in x
    field_front = ap (λ (n : ℕ). take n (field_in x ++ t)) consumed_front ∙ take-append_seam (field_in x) t

    pub rest_front : drop (consumed_by (field_in x ++ t)) (field_in x ++ t) ≡ t
    rest_front = ap (λ (n : ℕ). drop n (field_in x ++ t)) consumed_front ∙ drop-append_seam (field_in x) t

-- ---- a reading
module _ (room : ℕ) (s : Sheet) where
  cut_alone : (x : List ℕ) → is_cut x ≡ true → SameRead x (field_in x) room s
  cut_alone x e =
      let f : field_in x ≡ x = rw (cut_header x e) (take-length x) in
      rw f (record { answer = refl; sheet = refl })

  whole_alone : (x : List ℕ) → is_cut x ≡ false → SameRead x (field_in x) room s
  whole_alone x c =
      let all = all_of x c in
      let r = ready_same (field_in x) (drop (consumed_by x) x) room s (whole_ready (field_in x) (field_whole x c).0) in
      record {
        answer = ap (λ (y : List ℕ). (read_field y room s).answer) (sym all) ∙ r.answer;
        sheet = ap (λ (y : List ℕ). (read_field y room s).sheet) (sym all) ∙ r.sheet;
      }

  pub field_alone : (x : List ℕ) → SameRead x (field_in x) room s
  field_alone x = ⊎_elim (cut_alone x) (whole_alone x) (either (is_cut x))

  -- so what follows a field makes no difference
  pub same_field : (x y : List ℕ) → field_in x ≡ field_in y → SameRead x y room s
  same_field x y e =
      let p = field_alone x in
      let q = field_alone y in
      record {
        answer = p.answer ∙ (ap (λ (z : List ℕ). (read_field z room s).answer) e ∙ sym q.answer);
        sheet = p.sheet ∙ (ap (λ (z : List ℕ). (read_field z room s).sheet) e ∙ sym q.sheet);
      }
