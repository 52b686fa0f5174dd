-- Whatever pieces the input comes in, what a service hands on are the answers due to the whole of it.
-- Assumes nothing.
use Prim.Native.Nat.{ℕ}
use mathlib.Core.Path.{◌≡◌, refl, sym, ◌∙◌, ap}
use mathlib.Core.List.{List, [], ◌++◌, append-nil, append_assoc}
use mathlib.Core.Bool.{Bool, true, false, cond, not, ◌&&◌}
use mathlib.Core.Logic.{⊎_elim}
use native.Mathlib.Omega.{arith}
use borrow.Author.Tests.{not-true}
use lib.ListN.{length}
use lib.Dec.{eqb}
use Rattle.wire.proofs.Cases.{either}
use Rattle.sheet.specs.declared.Sheet.{Sheet}
use Rattle.lists.specs.Lists.{fields_of, sheet_after, answers_to, bytes_of}
use Rattle.lists.proofs.Joins.{sheet_join, answers_join, bytes_join}
use Rattle.stream.specs.Answering.{answered_of, any_last}
use Rattle.pieces.specs.Turns.{Turned, Turns, none, turn, Due, Stopped, at_end, at_3, at_failure}
use Rattle.stream.proofs.Fields.{and_parts}
use Rattle.pieces.proofs.Pieces.{Alike, split_now}

-- fields answered as fs and then gs: what is handed on for fs, and what is left
due_alike : (input : List ℕ) (fs gs : List (List ℕ)) (s : Sheet) → Alike s (fields_of input) (fs ++ gs) →
    Due s input (bytes_of (answers_to fs s)) (sheet_after fs s) gs
due_alike input fs gs s x = record {
  answers = ap bytes_of (x.answers ∙ answers_join fs gs s) ∙ bytes_join (answers_to fs s) (answers_to gs (sheet_after fs s));
  sheet = x.sheet ∙ sheet_join fs gs s;
}

due_join : {s s₁ s₂ : Sheet} {input out out₁ : List ℕ} (v : List ℕ) (left : List (List ℕ)) → Due s input out s₁ (fields_of v) → Due s₁ v out₁ s₂ left →
    Due s input (out ++ out₁) s₂ left
due_join {s₂ = s₂} {out = out} {out₁} v left x y = record {
  answers = x.answers ∙ (ap (λ (w : List ℕ). out ++ w) y.answers ∙ sym (append_assoc out out₁ (bytes_of (answers_to left s₂))));
  sheet = x.sheet ∙ y.sheet;
}

module _ {room : ℕ} {s : Sheet} {held out : List ℕ} {taken : ℕ} {s' : Sheet} {held' : List ℕ} {more : Bool} (x : Turned room s held out taken s' held' more) where
  abbrev last : Bool
  last = any_last (answers_to x.fields s)

  -- before the end of input
  turn_due : x.ended ≡ false → (t : List ℕ) → Due s ((held ++ x.new) ++ t) out s' (cond last [] (fields_of (held' ++ t)))
  turn_due e t =
      let got = held ++ x.new in
      let w : x.fields ≡ answered_of false room (fields_of got) s = rw e at x.which in
      let y : Alike s (fields_of (got ++ t)) (x.fields ++ cond last [] (fields_of (held' ++ t))) =
      rw (x.left, w) (split_now t (length got) room got s) in
      rw (x.handed, x.sheet) (due_alike (got ++ t) x.fields (cond last [] (fields_of (held' ++ t))) s y)

  -- at the end of input
  end_due : x.ended ≡ true → Due s (held ++ x.new) out s' []
  unfolding answers_to sheet_after bytes_of
  end_due e =
      let a = x.all e in
      record {
        answers = rw (x.handed, a, append-nil);
        sheet = rw (x.sheet, a);
      }

  going : more ≡ true → (x.ended ≡ false) × (last ≡ false)
  going m =
      let y = and_parts ((not x.ended && not x.failed) && eqb taken (length out)) (not last) (sym x.goes_on ∙ m) in
      let z = and_parts (not x.ended && not x.failed) (eqb taken (length out)) y.0 in
      (not-true x.ended (and_parts (not x.ended) (not x.failed) z.0).0, not-true last y.1)

  -- after turns that went on
  module _ {s₀ : Sheet} (read : List ℕ) {out₀ : List ℕ} (h : (t : List ℕ) → Due s₀ (read ++ t) out₀ s (fields_of (held ++ t))) where
    after_due : (b : Bool) → last ≡ b → x.ended ≡ false → (t : List ℕ) →
        Due s₀ ((read ++ x.new) ++ t) (out₀ ++ out) s' (cond b [] (fields_of (held' ++ t)))
    after_due b l e t =
        let y : Due s₀ (read ++ (x.new ++ t)) out₀ s (fields_of ((held ++ x.new) ++ t)) = rw append_assoc (h (x.new ++ t)) in
        rw (append_assoc read x.new t, ← l) (due_join ((held ++ x.new) ++ t) (cond last [] (fields_of (held' ++ t))) y (turn_due e t))

    after_end : x.ended ≡ true → Due s₀ (read ++ x.new) (out₀ ++ out) s' []
    after_end e = due_join (held ++ x.new) [] (h x.new) (end_due e)

    before_end : x.ended ≡ false → Stopped s₀ (read ++ x.new) (out₀ ++ out) s'
    before_end e =
        ⊎_elim {A = last ≡ true} {B = last ≡ false} (λ l. at_3 (after_due true l e)) (λ l. at_failure held' (after_due false l e)) (either last)

    stopped : Stopped s₀ (read ++ x.new) (out₀ ++ out) s'
    stopped = ⊎_elim (λ e. at_end (after_end e)) before_end (either x.ended)

-- a service that goes on: whatever follows, what it has yet to hand on are the answers due to the bytes held with what follows
pub run_due : {room : ℕ} {s : Sheet} {n : ℕ} {read out : List ℕ} {s' : Sheet} {held : List ℕ} {more : Bool} → Turns room s n read out s' held more →
    more ≡ true → (t : List ℕ) → Due s (read ++ t) out s' (fields_of (held ++ t))
unfolding answers_to bytes_of
run_due none m t = record { answers = refl; sheet = refl }
run_due (turn {read = read} r x) m t =
    let g = going x m in
    after_due x read (λ u. run_due r refl u) false g.1 g.0 t

-- and one that has stopped
pub run_stopped : {room : ℕ} {s : Sheet} {n : ℕ} {read out : List ℕ} {s' : Sheet} {held : List ℕ} {more : Bool} → Turns room s n read out s' held more →
    more ≡ false → Stopped s read out s'
run_stopped none m = absurd (let z : ◌≡◌ {A = ℕ} 0 1 = cc in omega arith)
run_stopped (turn {read = read} r x) m = stopped x read (run_due r refl)
