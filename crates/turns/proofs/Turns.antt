-- One turn of the service: it hands on the answers, and holds what the fields answered leave of the bytes held before and those read
-- after them.
-- Assumes nothing.
use Prim.Native.Nat.{ℕ, ◌-◌, ◌≤◌}
use mathlib.Core.Path.{◌≡◌, refl, sym, ◌∙◌, ap}
use mathlib.Core.List.{List, ◌++◌}
use mathlib.Core.Bool.{Bool, true, false, not, ◌&&◌}
use native.Mathlib.Omega.{arith}
use lib.ListN.{length, take, drop, take-append-drop}
use lib.Dec.{eqb}
use lib.Seq.{slice, length-slice, length-sets, take_at, take-take}
use Rattle.wire.specs.Bytes.{over}
use Rattle.wire.proofs.Stores.{front}
use Rattle.sheet.specs.declared.Sheet.{Sheet}
use Rattle.headers.specs.Headers.{ready_of}
use Rattle.lists.specs.Lists.{fields_of, span_of, answers_to, bytes_of}
use Rattle.stream.specs.declared.Progress.{Progress}
use Rattle.stream.specs.Answering.{answered_of, begun, Progressed}
use Rattle.pieces.specs.Turns.{Turned}
use Rattle.pieces.proofs.Ends.{end_fields}
use Rattle.transfers.specs.Filled.{Filled}
use Rattle.answers.specs.Answers.{answer_room}

-- the bytes at hand after a read: those held, and those read after them
at_hand : {held count : ℕ} {ended failed : Bool} {i i₁ : List ℕ} → Filled held count ended failed i i₁ → take count i₁ ≡ take held i ++ slice held count i₁
at_hand {held} {count} {i₁ = i₁} h =
    sym (take-append-drop held (take count i₁))
    ∙ ap (λ (w : List ℕ). w ++ slice held count i₁) (take-take held count i₁ h.least ∙ h.kept)

-- moved to the front, the bytes from a place to another are those before the second without those before the first
held_is : (i : List ℕ) (from to : ℕ) → to ≤ length i → take (to - from) (over (slice from to i) i) ≡ drop from (take to i)
unfolding over
held_is i from to h = take_at (slice from to i) _ (to - from) (length-slice from to i h)

pub moved_long : (from : ℕ) {held count : ℕ} {ended failed : Bool} {i i₁ i₂ : List ℕ} → Filled held count ended failed i i₁ → i₂ ≡ over (slice from count i₁) i₁ → length i₂ ≡ length i
moved_long from {count = count} {i₁ = i₁} h e =
    let w = slice from count i₁ in
    let l : count ≤ length i₁ = omega (arith, h.most, h.same) in
    let k : length w ≤ length i₁ = rw (length-slice from count i₁ l) (omega arith) in
    ap length (e ∙ sym (front w i₁ k)) ∙ (length-sets i₁ 0 w ∙ h.same)

-- the front of an output that holds the bytes w from its start on
handed_is : (w o : List ℕ) {o' : List ℕ} {written given : ℕ} → o' ≡ over w o → written ≡ length w → given ≡ length (take written o') → (take given o' ≡ w) × (given ≡ length w)
unfolding over
handed_is w o {o'} {written} {given} e n g =
    let h : take written o' ≡ w = rw (n, e) (take_at w (drop (length w) o) (length w) refl) in
    let m : given ≡ length w = g ∙ ap length h in
    ((rw (m ∙ sym n) h), m)

ended_all : (ended : Bool) (w : List ℕ) (room : ℕ) (s : Sheet) → ended ≡ true → ready_of w ≡ false → answer_room ≤ room → answered_of ended room (fields_of w) s ≡ fields_of w
ended_all ended w room s y e h = rw y (end_fields w room s e h)

pub turned : (held : ℕ) (s : Sheet) (i o : List ℕ) (ended failed : Bool) {count given taken : ℕ} {p : Progress} {s' : Sheet} {i₁ i₂ o' : List ℕ} →
    answer_room ≤ length o → Filled held count ended failed i i₁ →
    Progressed (answered_of ended (length o) (fields_of (take count i₁)) s) begun s o p s' o' →
    p.written ≤ length o →
    (given ≡ length (take p.written o')) × (taken ≤ length (take p.written o')) →
    i₂ ≡ over (slice p.consumed count i₁) i₁ →
    Turned (length o) s (take held i) (take given o') taken s' (take (count - p.consumed) i₂)
    (((not ended && not failed) && eqb taken given) && not p.stop)
turned held s i o ended failed {count} {given} {taken} {p} {s'} {i₁} {i₂} {o'} g h a r w m =
    let e = at_hand h in
    let got = take held i ++ slice held count i₁ in
    let fs = answered_of ended (length o) (fields_of got) s in
    let b = bytes_of (answers_to fs s) in
    let x : Progressed fs begun s o p s' o' = rw e at a in
    let c : p.consumed ≡ span_of fs = omega (arith, x.consumed) in
    let l : count ≤ length i₁ = omega (arith, h.most, h.same) in
    let n : p.written ≡ length b = omega (arith, x.written) in
    let k : length b ≤ length o = omega arith in
    let q = handed_is b o (x.output ∙ front b o k) n w.0 in
    record {
      new = slice held count i₁;
      ended = ended;
      failed = failed;
      fields = fs;
      which = refl;
      all = λ y.
          let d = h.at_end y in
          let v : got ≡ take held i = sym e ∙ (ap (λ (j : ℕ). take j i₁) d.0 ∙ h.kept) in
          ended_all ended got (length o) s y (ap ready_of v ∙ d.1) g;
      sheet = x.sheet;
      handed = q.0;
      most = rw q.0 (omega (arith, q.1, w.0, w.1));
      left = rw m (held_is i₁ p.consumed count l ∙ (ap (λ (j : ℕ). drop j (take count i₁)) c ∙ ap (drop (span_of fs)) e));
      unended = h.unended;
      goes_on = rw (x.stop, q.0, q.1);
    }
