-- The file as far as it is read: one more read goes on with its whole fields, and at the end the names are those of all that was read.
-- Assumes nothing.
use Prim.Native.Nat.{ℕ, ◌+◌, ◌-◌, ◌≤◌}
use mathlib.Core.Path.{◌≡◌, refl, sym, ◌∙◌, ap}
use mathlib.Core.List.{List, [], ◌++◌, append_assoc}
use native.Mathlib.Omega.{arith}
use lib.ListN.{length, take, drop, length-append, length-drop, take-append-drop}
use lib.Seq.{slice, length-slice, length-take-le, take-take, take_at}
use Rattle.wire.specs.Bytes.{over}
use Rattle.drawing.specs.Names.{places_from, end_of, whole_end, case_name}
use Rattle.drawing.proofs.Joins.{end_within, rest_cut, ends_joined, names_joined, cut_nameless, whole_part}
use Rattle.case_names.specs.Table.{Fits, AllKept, NamesOf}
use Rattle.transfers.specs.Filled.{ReadAfter}
use Rattle.case_names.specs.Reading.{Progress, Further, Turned, Collected}

-- the whole fields of the bytes at hand reach no further than they
pub reach : {held count : ℕ} {before after : List ℕ} → ReadAfter held count before after → {e : ℕ} → e ≡ whole_end (take count after) →
    (e ≤ count) × (count ≤ length after)
reach {held} {count} {before} {after} r e =
    let h : count ≤ length after = omega (arith, r.most, r.same) in
    let l : length (take count after) ≡ count = length-take-le count after h in
    (omega (arith, end_within (take count after)), h)

pub front_long : {held count : ℕ} {before after : List ℕ} → ReadAfter held count before after → {e : ℕ} → e ≡ whole_end (take count after) →
    e ≡ length (take e after)
front_long {after = after} r {e} f = let h = reach r f in sym (length-take-le e after (omega (arith, h.0, h.1)))

-- bytes written over the front of others
over_long : (v o : List ℕ) → length v ≤ length o → length (over v o) ≡ length o
unfolding over
over_long v o h = rw (length-append, length-drop) (omega arith)

over_front : (v o : List ℕ) (n : ℕ) → length v ≡ n → take n (over v o) ≡ v
unfolding over
over_front v o n e = take_at v (drop (length v) o) n e

module _ (held count : ℕ) (input input₁ : List ℕ) (names names' : List (List ℕ)) (r : ReadAfter held count input input₁)
    (k : AllKept (take (whole_end (take count input₁)) input₁) names names') where
  abbrev w : List ℕ
  w = take count input₁

  abbrev e : ℕ
  e = whole_end w

  long : length w ≡ count
  long = length-take-le count input₁ (omega (arith, r.most, r.same))

  ended : e ≤ count
  ended = let l = long in omega (arith, end_within w)

  same_part : take e input₁ ≡ take e w
  same_part = sym (take-take e count input₁ ended)

  all_read : (all : List ℕ) (p : Progress all (take held input) names) → all ++ drop held w ≡ (p.done ++ take e w) ++ drop e w
  all_read all p =
      let h : take held input ≡ take held w = sym r.kept ∙ sym (take-take held count input₁ r.least) in
      ap (λ (x : List ℕ). x ++ drop held w) (p.split ∙ ap (λ (x : List ℕ). p.done ++ x) h)
      ∙ (append_assoc p.done (take held w) (drop held w)
      ∙ (ap (λ (x : List ℕ). p.done ++ x) (take-append-drop held w ∙ sym (take-append-drop e w))
      ∙ sym (append_assoc p.done (take e w) (drop e w))))

  further : (all : List ℕ) → Progress all (take held input) names → Further all (drop e w) names'
  further all p = record {
    more = drop held w;
    progress = record {
      done = p.done ++ take e w;
      split = all_read all p;
      whole = ends_joined p.done (take e w) p.whole ∙ (ap (λ (n : ℕ). length p.done + n) (whole_part w) ∙ sym (length-append p.done (take e w)));
      names_of = record {
        fits = k.fits;
        each = λ j b. k.each j b ∙ rw (p.names_of.each j b, same_part) (sym (names_joined p.done (take e w) p.whole j));
      };
      cut = rest_cut w;
    };
  }

  turned_so : {input₂ : List ℕ} → input₂ ≡ over (slice e count input₁) input₁ → Turned held input names (count - e) input₂ names'
  turned_so {input₂} o =
      let n : count ≤ length input₁ = omega (arith, r.most, r.same) in
      let l : length (slice e count input₁) ≡ count - e = length-slice e count input₁ n in
      let m : length (slice e count input₁) ≤ length input₁ = omega arith in
      let f : take (count - e) input₂ ≡ slice e count input₁ = ap (take (count - e)) o ∙ over_front (slice e count input₁) input₁ (count - e) l in
      record {
        within = omega (arith, r.most);
        same = ap length o ∙ (over_long (slice e count input₁) input₁ m ∙ r.same);
        fits = k.fits;
        goes_on = λ all p. rw f (further all p);
      }

pub turned : (held count : ℕ) (input input₁ : List ℕ) (names names' : List (List ℕ)) {e : ℕ} {input₂ : List ℕ} → ReadAfter held count input input₁ →
    e ≡ whole_end (take count input₁) → AllKept (take e input₁) names names' →
    input₂ ≡ over (slice e count input₁) input₁ → Turned held input names (count - e) input₂ names'
turned held count input input₁ names names' {e} r f k o =
    rw f (turned_so held count input input₁ names names' r (rw f at k) (rw f at o))

-- at the end of the file the names are those of all that was read
names_read : {all held : List ℕ} {names : List (List ℕ)} → Progress all held names → NamesOf all names
names_read {all} {held} p = record {
  fits = p.names_of.fits;
  each = λ j b.
      p.names_of.each j b
      ∙ sym (ap (λ (x : List ℕ). case_name x j) p.split ∙ (names_joined p.done held p.whole j ∙ rw (cut_nameless held j p.cut)));
}

-- what holds between the reads
pub record Collecting (held : ℕ) (input : List ℕ) (names : List (List ℕ)) : Type 0 where
  pub within : held ≤ length input
  pub fits : Fits names
  pub all : List ℕ
  pub progress : Progress all (take held input) names

pub collecting_none : (input : List ℕ) (names : List (List ℕ)) → NamesOf [] names → Collecting 0 input names
unfolding whole_end places_from end_of
collecting_none input names n = record {
  within = omega arith;
  fits = n.fits;
  all = [];
  progress = record { done = []; split = refl; whole = refl; names_of = n; cut = refl };
}

pub collecting_next : {held : ℕ} {input : List ℕ} {names : List (List ℕ)} → Collecting held input names → {held' : ℕ} {input' : List ℕ} {names' : List (List ℕ)} →
    Turned held input names held' input' names' → Collecting held' input' names'
collecting_next h t =
    let f = t.goes_on h.all h.progress in
    record { within = omega (arith, t.within, t.same); fits = t.fits; all = h.all ++ f.more; progress = f.progress }

pub collected : {held : ℕ} {input : List ℕ} {names : List (List ℕ)} → Collecting held input names → Collected names
collected h = record { file = h.all; names_of = names_read h.progress }
