-- Fields answered one after the other: none, one, and some after others.
-- Assumes nothing.
use Prim.Native.Nat.{ℕ, ◌+◌, ◌-◌, ◌≤◌, ◌<◌}
use mathlib.Core.Path.{◌≡◌, refl, sym, ◌∙◌, ap}
use mathlib.Core.List.{List, [], ◌∷◌, ◌++◌, append-nil}
use mathlib.Core.Bool.{Bool, true, false, ◌&&◌, ◌||◌}
use native.Mathlib.Nat.{add-zero}
use native.Mathlib.Omega.{arith}
use borrow.Author.Tests.{ltb-true, leb-true}
use borrow.Rule.Slice.PartMut.{put_mid}
use lib.ListN.{length, take, drop, length-append}
use lib.Dec.{ltb, leb}
use Rattle.wire.proofs.Stores.{sets_append}
use Rattle.sheet.specs.declared.Sheet.{Sheet}
use Rattle.sheet.specs.declared.Answer.{Answer}
use Rattle.fields.specs.declared.Outcome.{Outcome}
use Rattle.fields.specs.Field.{read_field}
use Rattle.answers.specs.Answers.{answer_bytes, last_of, answer_room}
use Rattle.headers.specs.Headers.{ready_of}
use Rattle.fields.specs.Readings.{FieldRead, with_sheet}
use Rattle.lists.specs.Lists.{span_of, sheet_after, answers_to, bytes_of}
use Rattle.lists.proofs.Joins.{sheet_join, answers_join, bytes_join, span_join}
use Rattle.lists.proofs.Placed.{read_at}
use Rattle.stream.specs.declared.Progress.{Progress}
use Rattle.stream.specs.Answering.{is_next, any_last, Progressed}

pub or_false : (a : Bool) → (a || false) ≡ a
or_false true = refl
or_false false = refl

or_assoc : (a b c : Bool) → ((a || b) || c) ≡ (a || (b || c))
or_assoc true b c = refl
or_assoc false b c = refl

pub and_parts : (a b : Bool) → (a && b) ≡ true → (a ≡ true) × (b ≡ true)
and_parts true b e = (refl, e)
and_parts false b e = absurd (let z : ◌≡◌ {A = ℕ} 0 1 = cc in omega arith)

last_join : (xs ys : List Answer) → any_last (xs ++ ys) ≡ (any_last xs || any_last ys)
unfolding any_last
last_join [] ys = refl
last_join (a ∷ xs) ys = ap (λ (t : Bool). last_of a || t) (last_join xs ys) ∙ sym (or_assoc (last_of a) (any_last xs) (any_last ys))

-- a field that is answered now has bytes, and its answer has room
pub next_parts : (ended : Bool) (room : ℕ) (f : List ℕ) → is_next ended room f ≡ true → (0 < length f) × (answer_room ≤ room)
unfolding is_next
next_parts ended room f e =
    let x = and_parts (ltb 0 (length f) && (ended || ready_of f)) (leb answer_room room) e in
    let y = and_parts (ltb 0 (length f)) (ended || ready_of f) x.0 in
    (ltb-true 0 (length f) y.0, leb-true answer_room room x.1)

pub progressed_none : (p : Progress) (s : Sheet) (o : List ℕ) → Progressed [] p s o p s o
unfolding sheet_after span_of answers_to bytes_of any_last
progressed_none p s o = record { sheet = refl; consumed = omega arith; written = omega arith; output = refl; stop = sym (or_false p.stop) }

pub progressed_join : (fs gs : List (List ℕ)) {p q r : Progress} {s₀ s₁ s₂ : Sheet} {o₀ o₁ o₂ : List ℕ} →
    Progressed fs p s₀ o₀ q s₁ o₁ → Progressed gs q s₁ o₁ r s₂ o₂ → Progressed (fs ++ gs) p s₀ o₀ r s₂ o₂
progressed_join fs gs {p} {q} {r} {s₀} {o₀ = o₀} x y =
    let v = bytes_of (answers_to fs s₀) in
    let w = bytes_of (answers_to gs (sheet_after fs s₀)) in
    let b : bytes_of (answers_to (fs ++ gs) s₀) ≡ v ++ w = rw answers_join (bytes_join (answers_to fs s₀) (answers_to gs (sheet_after fs s₀))) in
    let n : r.written ≡ q.written + length w = rw x.sheet at y.written in
    let m = x.written in
    let c = x.consumed in
    let d = y.consumed in
    let z : r.stop ≡ (q.stop || any_last (answers_to gs (sheet_after fs s₀))) = rw x.sheet at y.stop in
    record {
      sheet = rw (sheet_join, ← x.sheet) y.sheet;
      consumed = rw span_join (omega arith);
      written = rw (b, length-append) (omega arith);
      output = rw b ((rw (x.sheet, x.output, x.written) at y.output) ∙ sets_append v w o₀ p.written);
      stop = z ∙ rw (x.stop, answers_join, last_join) (or_assoc p.stop (any_last (answers_to fs s₀)) (any_last (answers_to gs (sheet_after fs s₀))));
    }

pub progressed_one : (p : Progress) (s : Sheet) (input o : List ℕ) → p.written + answer_room ≤ length o →
    {r : Outcome} {s' : Sheet} {part : List ℕ} {stop : Bool} →
    FieldRead (take (length input - p.consumed) (drop p.consumed input)) (take (length o - p.written) (drop p.written o)) s (with_sheet r s') part →
    stop ≡ (p.stop || last_of r.answer) →
    Progressed (drop p.consumed input ∷ []) p s o (record { consumed = p.consumed + r.consumed; written = p.written + r.written; stop = stop }) s'
    (put_mid p.written (length o - p.written) o part)
unfolding sheet_after span_of answers_to bytes_of any_last
progressed_one p s input o h f l =
    let field = drop p.consumed input in
    let x = read_at input o p.consumed p.written s h f in
    let b = append-nil (answer_bytes (read_field field answer_room s).answer) in
    record {
      sheet = x.sheet;
      consumed = rw (x.consumed, add-zero);
      written = rw (x.written, b);
      output = rw b x.output;
      stop = l ∙ rw (x.answer, or_false);
    }
