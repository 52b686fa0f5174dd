-- A field at the front of bytes is read by itself, and runs of fields follow one another.
-- Assumes nothing.
use Prim.Native.Nat.{ℕ, zero, suc, ◌+◌, ◌-◌, ◌≤◌, ◌<◌}
use mathlib.Core.Path.{◌≡◌, refl, ap, ◌∙◌}
use mathlib.Core.List.{List, [], ◌∷◌, ◌++◌, append_assoc}
use mathlib.Core.Bool.{Bool, true, false, cond}
use native.Mathlib.Omega.{arith}
use borrow.Author.Tests.{le-ltb}
use lib.ListN.{length, drop, length-append}
use lib.Seq.{take-append_seam, drop-append_seam}
use Rattle.wire.specs.Bytes.{word_at}
use Rattle.sheet.specs.declared.Sheet.{Sheet}
use Rattle.sheet.specs.declared.Answer.TheVariants.{Accepted}
use Rattle.sheet.specs.declared.Answered.{Answered}
use Rattle.std.specs.Prelude.{Some}
use Rattle.fields.specs.declared.Reading.{Reading}
use Rattle.headers.specs.Headers.{longest_body, header, header_of}
use Rattle.fields.specs.Field.{read_field}
use Rattle.fields.specs.Order.{read_in_order, field_of, read_header, reading}
use Rattle.fields.specs.Readings.{ReadThrough, field}
use Rattle.fields.proofs.InOrder.{read_is}
use Rattle.saved_fields.specs.Saved.{up_to}
use Rattle.answers.specs.Answers.{answer_room}

-- whatever follows, these bytes lead from s to s'
abbrev pub Takes : List ℕ → Sheet → Sheet → Type 0
Takes w s s' = (rest : List ℕ) (s'' : Sheet) → ReadThrough rest s' s'' → ReadThrough (w ++ rest) s s''

abbrev pub accepted : Sheet → Answered
accepted s = record { answer = Accepted; sheet = s }

module _ (tag : ℕ) (body rest : List ℕ) where
  abbrev bytes : List ℕ
  bytes = tag ∷ 0 ∷ length body ∷ (body ++ rest)

  whole_header : length body < 256 → header_of bytes ≡ Some (header tag (length body))
  unfolding header_of
  whole_header h =
      let a : 3 ≤ length bytes = omega arith in
      let w : word_at bytes 1 ≡ length body = omega arith in
      let b : length body ≤ longest_body = omega arith in
      let l : length (body ++ rest) ≡ length body + length rest = length-append body rest in
      let c : length body ≤ length bytes - 3 = omega arith in
      rw (le-ltb (length bytes) 3 a, w, le-ltb longest_body (length body) b, le-ltb (length bytes - 3) (length body) c)

  front_in_order : (room : ℕ) (s : Sheet) {a : Answered} → answer_room ≤ room → length body < 256 → field_of s tag body ≡ a → read_in_order bytes room s ≡ reading (3 + length body) a
  unfolding read_in_order read_header
  front_in_order room s g h e = rw (le-ltb room answer_room g, whole_header h, take-append_seam body rest, e)

  pub front_read : (room : ℕ) (s : Sheet) {a : Answered} → answer_room ≤ room → length body < 256 → field_of s tag body ≡ a → read_field bytes room s ≡ reading (3 + length body) a
  front_read room s g h e = read_is bytes room s ∙ front_in_order room s g h e

  rest_left : drop (3 + length body) bytes ≡ rest
  rest_left =
      let e : 3 + length body ≡ suc (suc (suc (length body))) = omega arith in
      rw e (drop-append_seam body rest)

pub takes_field : (tag : ℕ) (body : List ℕ) (s s' : Sheet) → length body < 256 → field_of s tag body ≡ accepted s' → Takes (tag ∷ 0 ∷ length body ∷ body) s s'
takes_field tag body s s' h e rest s'' r =
    let g : answer_room ≤ answer_room = omega arith in
    let p = front_read tag body rest answer_room s g h e in
    field {b = tag} {bs = 0 ∷ length body ∷ (body ++ rest)} {s = s} {s' = s''} (ap (λ (x : Reading). x.answer) p) (rw (p, rest_left tag body rest) r)

-- from any sheet that has the first property, these bytes lead to one that has the second
pub record Leads (P : Sheet → Type 0) (w : List ℕ) (Q : Sheet → Type 0) : Type 0 where
  pub from : (s : Sheet) → P s → (s' : Sheet) × (Q s' × Takes w s s')

pub leads_field : {P Q : Sheet → Type 0} (tag : ℕ) (body : List ℕ) (f : Sheet → Sheet) → length body < 256 →
    ((s : Sheet) → P s → field_of s tag body ≡ accepted (f s)) → ((s : Sheet) → P s → Q (f s)) → Leads P (tag ∷ 0 ∷ length body ∷ body) Q
leads_field tag body f h e q = record { from = λ s p. (f s, (q s p, takes_field tag body s (f s) h (e s p))) }

pub leads_none : {P Q : Sheet → Type 0} → ((s : Sheet) → P s → Q s) → Leads P [] Q
leads_none h = record { from = λ s p. (s, (h s p, λ rest s'' r. r)) }

pub leads_then : {P Q R : Sheet → Type 0} {v w : List ℕ} → Leads P v Q → Leads Q w R → Leads P (v ++ w) R
leads_then {w = w} a b = record {
  from = λ s p.
      let x = a.from s p in
      let y = b.from x.0 x.1.0 in
      (y.0, (y.1.0, λ rest s'' r. rw append_assoc (x.1.1 (w ++ rest) s'' (y.1.1 rest s'' r))));
}

pub leads_so : {P Q R : Sheet → Type 0} {w : List ℕ} → Leads P w Q → ((s : Sheet) → Q s → R s) → Leads P w R
leads_so a f = record { from = λ s p. let x = a.from s p in (x.0, (f x.0 x.1.0, x.1.1)) }

-- bytes that are left out where a test holds
pub leads_unless : {P Q : Sheet → Type 0} {w : List ℕ} (t : Bool) → (t ≡ true → (s : Sheet) → P s → Q s) → (t ≡ false → Leads P w Q) → Leads P (cond t [] w) Q
leads_unless true a b = leads_none (a refl)
leads_unless false a b = b refl

pub leads_up_to : {P : ℕ → Sheet → Type 0} {f : ℕ → List ℕ} (n : ℕ) → ((k : ℕ) → k < n → Leads (P k) (f k) (P (suc k))) → Leads (P 0) (up_to f n) (P n)
unfolding up_to
leads_up_to zero h = leads_none (λ s p. p)
leads_up_to (suc n) h = leads_then (leads_up_to n (λ k g. h k (omega arith))) (h n (omega arith))
