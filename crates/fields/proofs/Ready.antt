-- A field that can be read now is read the same whatever bytes follow it, and only a 3 consumes them too. One that cannot takes all
-- the bytes.
-- Assumes nothing.
use Prim.Native.Nat.{ℕ, ◌+◌, ◌-◌, ◌≤◌}
use mathlib.Core.Path.{◌≡◌, refl, sym, ◌∙◌, ap, subst}
use mathlib.Core.List.{List, ◌++◌}
use mathlib.Core.Bool.{Bool, true, false, cond}
use mathlib.Core.Logic.{⊎_elim, ◌⊎◌, inl, inr}
use native.Mathlib.Omega.{arith}
use borrow.Author.Tests.{ltb-false, le-ltb}
use lib.ListN.{length, take, drop, length-append, length-drop}
use lib.Seq.{take-append-le, drop-append-le}
use lib.Dec.{ltb}
use Rattle.wire.specs.Bytes.{byte_at, word_at}
use Rattle.sheet.specs.declared.Sheet.{Sheet}
use Rattle.std.specs.Prelude.{Option, Some, None}
use Rattle.fields.specs.declared.Reading.{Reading}
use Rattle.headers.specs.Headers.{Header, longest_body, header, header_of, consumed_of, consumed_by, ready_of}
use Rattle.answers.specs.Answers.{last_of, answer_room}
use Rattle.fields.specs.Field.{read_field}
use Rattle.fields.specs.Order.{read_header, read_in_order}
use Rattle.fields.proofs.InOrder.{read_is}
use Rattle.headers.proofs.Whole.{header_fits}
use Rattle.headers.proofs.Following.{byte_same, length_same}

-- the second reading has the first one's answer and sheet, and consumes as much unless it is a 3
pub record SameReading (r r' : Reading) : Type 0 where
  pub answer : r'.answer ≡ r.answer
  pub sheet : r'.sheet ≡ r.sheet
  pub consumed : last_of r.answer ≡ false → r'.consumed ≡ r.consumed

ready_tests : (a b c : Bool) → cond a false (cond b true (cond c false true)) ≡ true → (a ≡ false) × ((b ≡ true) ⊎ ((b ≡ false) × (c ≡ false)))
ready_tests true b c e = absurd (let z : ◌≡◌ {A = ℕ} 0 1 = cc in omega arith)
ready_tests false true c e = (refl, inl refl)
ready_tests false false true e = absurd (let z : ◌≡◌ {A = ℕ} 0 1 = cc in omega arith)
ready_tests false false false e = (refl, inr (refl, refl))

later_tests : (b c c' : Bool) (h : Option Header) → (b ≡ true) ⊎ (c ≡ c') → cond b None (cond c None h) ≡ cond b None (cond c' None h)
later_tests b c c' h = ⊎_elim (λ e. rw e) (λ e. rw e)

by_room : (full : Bool) (a r r' : Reading) → SameReading r r' → SameReading (cond full a r) (cond full a r')
by_room true a r r' h = record { answer = refl; sheet = refl; consumed = λ _. refl }
by_room false a r r' h = h

module _ (s t : List ℕ) where
  pub header_same : ready_of s ≡ true → header_of (s ++ t) ≡ header_of s
  unfolding header_of ready_of
  header_same e =
      let x = ready_tests (ltb (length s) 3) (ltb longest_body (word_at s 1)) (ltb (length s - 3) (word_at s 1)) e in
      let a : 3 ≤ length s = ltb-false (length s) 3 x.0 in
      let l = length-append s t in
      let a' : 3 ≤ length (s ++ t) = omega arith in
      let c : (ltb longest_body (word_at s 1) ≡ true) ⊎ (ltb (length (s ++ t) - 3) (word_at s 1) ≡ ltb (length s - 3) (word_at s 1)) =
      ⊎_elim inl
      (λ b.
      let k : word_at s 1 ≤ length s - 3 = ltb-false (length s - 3) (word_at s 1) b.1 in
      let k' : word_at s 1 ≤ length (s ++ t) - 3 = omega arith in
      inr (le-ltb (length (s ++ t) - 3) (word_at s 1) k' ∙ sym b.1))
      x.1 in
      rw (le-ltb (length (s ++ t)) 3 a', x.0, length_same s t a, byte_same s t 0 (omega arith))
      (later_tests (ltb longest_body (word_at s 1)) (ltb (length (s ++ t) - 3) (word_at s 1)) (ltb (length s - 3) (word_at s 1)) (Some (header (byte_at s 0) (word_at s 1))) c)

  body_same : (len : ℕ) → 3 + len ≤ length s → take len (drop 3 (s ++ t)) ≡ take len (drop 3 s)
  body_same len h =
      let a : 3 ≤ length s = omega arith in
      let b : len ≤ length (drop 3 s) = rw length-drop (omega arith) in
      ap (take len) (drop-append-le 3 s t a) ∙ take-append-le len (drop 3 s) t b

  header_read : (h : Option Header) (sheet : Sheet) → h ≡ header_of s → SameReading (read_header h s sheet) (read_header h (s ++ t) sheet)
  unfolding read_header
  header_read None sheet e = record { answer = refl; sheet = refl; consumed = λ x. absurd (let z : ◌≡◌ {A = ℕ} 0 1 = cc in omega arith) }
  header_read (Some h) sheet e =
      let b = body_same h.len (header_fits s h e refl) in
      record { answer = rw b; sheet = rw b; consumed = λ _. refl }

  order_same : (room : ℕ) (sheet : Sheet) → ready_of s ≡ true → SameReading (read_in_order s room sheet) (read_in_order (s ++ t) room sheet)
  unfolding read_in_order
  order_same room sheet e = by_room (ltb room answer_room) _ _ _ (rw (header_same e) (header_read (header_of s) sheet refl))

  pub ready_same : (room : ℕ) (sheet : Sheet) → ready_of s ≡ true → SameReading (read_field s room sheet) (read_field (s ++ t) room sheet)
  ready_same room sheet e =
      subst (λ (f : List ℕ → Reading). SameReading (f s) (f (s ++ t))) (λ i x. sym (read_is x room sheet) i) (order_same room sheet e)

cut_tests : (a b c : Bool) (h : Option Header) → cond a false (cond b true (cond c false true)) ≡ false → cond a None (cond b None (cond c None h)) ≡ None
cut_tests true b c h e = refl
cut_tests false true c h e = refl
cut_tests false false true h e = refl
cut_tests false false false h e = absurd (let z : ◌≡◌ {A = ℕ} 0 1 = cc in omega arith)

pub cut_all : (s : List ℕ) → ready_of s ≡ false → consumed_by s ≡ length s
unfolding header_of ready_of
cut_all s e =
    ap (λ (h : Option Header). consumed_of h s)
    (cut_tests (ltb (length s) 3) (ltb longest_body (word_at s 1)) (ltb (length s - 3) (word_at s 1)) (Some (header (byte_at s 0) (word_at s 1))) e)
