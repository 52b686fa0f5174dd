-- The loop over the fields at hand: those answered so far and those that are answered after them are all.
-- Assumes nothing.
use Prim.Native.Nat.{ℕ, ◌+◌, ◌-◌, ◌≤◌, ◌<◌}
use mathlib.Core.Path.{◌≡◌, refl, sym, ◌∙◌, ap}
use mathlib.Core.List.{List, [], ◌∷◌, ◌++◌, append-nil, append_assoc}
use mathlib.Core.Bool.{Bool, true, false, cond, not, ◌&&◌}
use mathlib.Core.Logic.{⊎_elim}
use native.Mathlib.Omega.{arith}
use lib.ListN.{length, drop, length-drop}
use lib.Seq.{length-sets}
use Rattle.wire.proofs.Cases.{lt_or_ge}
use Rattle.sheet.specs.declared.Sheet.{Sheet}
use Rattle.sheet.specs.Range.{InRange}
use Rattle.headers.specs.Headers.{consumed_by}
use Rattle.fields.specs.Field.{read_field}
use Rattle.answers.specs.Answers.{answer_bytes, last_of, answer_room}
use Rattle.lists.specs.Lists.{fields_of, span_of, sheet_after, answers_to, bytes_of}
use Rattle.lists.proofs.Left.{Left, left_all, left_none, left_next}
use Rattle.lists.proofs.Joins.{kept_after, answers_long}
use Rattle.stream.specs.declared.Progress.{Progress}
use Rattle.stream.specs.Answering.{is_next, answered_of, any_last, begun, Progressed, Within}
use Rattle.stream.proofs.Fields.{or_false, and_parts, next_parts, progressed_none, progressed_join}

pub record Going (ended : Bool) (input : List ℕ) (s₀ : Sheet) (o₀ : List ℕ) (p : Progress) (s : Sheet) (o : List ℕ) : Type 0 where
  pub done : List (List ℕ)
  pub next : List (List ℕ)
  pub answered : Progressed done begun s₀ o₀ p s o
  pub left : Left input p.consumed next
  pub all : answered_of ended (length o₀) (fields_of input) s₀ ≡ done ++ cond p.stop [] (answered_of ended (length o₀ - p.written) next s)
  pub within : Within s p.consumed p.written input o₀ o

not_true : (t : Bool) → not t ≡ true → t ≡ false
not_true true e = absurd (let z : ◌≡◌ {A = ℕ} 0 1 = cc in omega arith)
not_true false e = refl

none_left : (stop next : Bool) (fs : List (List ℕ)) → (not stop && next) ≡ false → (next ≡ false → fs ≡ []) → cond stop [] fs ≡ []
none_left true next fs e h = refl
none_left false next fs e h = h e

-- one more, and those after it unless it is the last
one_more : (done rest : List (List ℕ)) (f : List ℕ) (last : Bool) → done ++ (f ∷ cond last [] rest) ≡ (done ++ (f ∷ [])) ++ cond last [] rest
one_more done rest f last = sym (append_assoc done (f ∷ []) (cond last [] rest))

pub going_start : (ended : Bool) (input : List ℕ) (s : Sheet) (o : List ℕ) → InRange s → answer_room ≤ length o → Going ended input s o begun s o
going_start ended input s o h g = record {
  done = [];
  next = fields_of input;
  answered = progressed_none begun s o;
  left = left_all input;
  all = let z : length o - 0 ≡ length o = omega arith in rw z;
  within = record { in_range = h; consumed = omega arith; written = omega arith; room = g; same = refl };
}

module _ {ended : Bool} {input : List ℕ} {s₀ : Sheet} {o₀ : List ℕ} {p : Progress} {s : Sheet} {o : List ℕ} (h : Going ended input s₀ o₀ p s o) where
  abbrev f : List ℕ
  f = drop p.consumed input

  abbrev room : ℕ
  room = length o₀ - p.written

  module _ {t : Bool} (test : t ≡ (not p.stop && is_next ended (length o - p.written) f)) (e : t ≡ true) where
    parts : (p.stop ≡ false) × (is_next ended room f ≡ true)
    parts =
        let x = and_parts (not p.stop) (is_next ended (length o - p.written) f) (sym test ∙ e) in
        (not_true p.stop x.0, rw h.within.same at x.1)

    pub going_room : Within s p.consumed p.written input o o × (p.written + answer_room ≤ length o) × (p.stop ≡ false)
    going_room =
        let w = h.within in
        let g = (next_parts ended room f parts.1).1 in
        let e' = w.same in
        (record { in_range = w.in_range; consumed = w.consumed; written = omega (arith, w.written); room = omega (arith, w.room); same = refl }, omega (arith, w.written), parts.0)

    before_end : p.consumed < length input
    before_end =
        let x = (next_parts ended room f parts.1).0 in
        let l = length-drop p.consumed input in
        omega arith

    module _ {r : Progress} {s' : Sheet} {o' : List ℕ} (a : Progressed (f ∷ []) p s o r s' o') where
      further : r.consumed ≡ p.consumed + consumed_by f
      unfolding span_of
      further = omega (arith, a.consumed)

      pub going_next : Going ended input s₀ o₀ r s' o'
      unfolding answered_of sheet_after span_of answers_to bytes_of any_last
      going_next =
          let n = left_next h.left before_end in
          let answer = (read_field f answer_room s).answer in
          let b = append-nil (answer_bytes answer) in
          let w : r.written ≡ p.written + length (answer_bytes answer) = rw b at a.written in
          let v : length o₀ - r.written ≡ room - length (answer_bytes answer) = omega arith in
          let g = (next_parts ended room f parts.1).1 in
          let k = answers_long (f ∷ []) s in
          let later : Left input r.consumed n.rest = rw further n.later in
          let stop : r.stop ≡ last_of answer = (rw parts.0 at a.stop) ∙ or_false (last_of answer) in
          record {
            done = h.done ++ (f ∷ []);
            next = n.rest;
            answered = progressed_join h.done (f ∷ []) h.answered a;
            left = later;
            all = (rw (parts.0, n.split, parts.1) at h.all)
                ∙ rw (stop, v, a.sheet) (one_more h.done (answered_of ended (room - length (answer_bytes answer)) n.rest (read_field f answer_room s).sheet) f (last_of answer));
            within = record {
              in_range = rw a.sheet (kept_after (f ∷ []) s h.within.in_range);
              consumed = later.within;
              written = omega (arith, h.within.written);
              room = h.within.room;
              same = ap length a.output ∙ (length-sets o p.written (bytes_of (answers_to (f ∷ []) s)) ∙ h.within.same);
            };
          }

      pub going_fewer : length input - r.consumed < length input - p.consumed
      going_fewer =
          let x = (left_next h.left before_end).further in
          let g = before_end in
          let c = further in
          omega arith

  module _ {t : Bool} (test : t ≡ (not p.stop && is_next ended (length o - p.written) f)) (e : t ≡ false) where
    none_next : is_next ended room f ≡ false → answered_of ended room h.next s ≡ []
    unfolding answered_of
    none_next n =
        ⊎_elim (λ l. rw ((left_next h.left l).split, n)) (λ l. rw (left_none h.left l)) (lt_or_ge p.consumed (length input))

    no_more : cond p.stop [] (answered_of ended room h.next s) ≡ []
    no_more = none_left p.stop (is_next ended room f) (answered_of ended room h.next s) (sym (rw h.within.same at test) ∙ e) none_next

    pub going_end : Progressed (answered_of ended (length o₀) (fields_of input) s₀) begun s₀ o₀ p s o
    going_end =
        let a = rw (no_more, append-nil) at h.all in
        rw a h.answered
