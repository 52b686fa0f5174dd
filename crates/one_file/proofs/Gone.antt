-- The drawing office finds no name in a file without its names.
-- Assumes nothing.
use Prim.Native.Nat.{ℕ, zero, suc, ◌+◌, ◌≤◌}
use mathlib.Core.Path.{◌≡◌, refl, sym, ◌∙◌, ap, subst}
use mathlib.Core.Bool.{Bool, true, false, cond, not, ◌&&◌}
use mathlib.Core.List.{List, [], ◌∷◌, ◌++◌, append_assoc}
use mathlib.Core.Logic.{⊎_elim}
use native.Mathlib.Omega.{arith}
use borrow.Author.Tests.{eqb-true}
use lib.Dec.{eqb}
use lib.ListN.{length, drop, length-append}
use lib.Seq.{drop-append_seam}
use Rattle.wire.specs.Bytes.{byte_at}
use Rattle.wire.proofs.Cases.{either}
use Rattle.refusals.specs.Refusals.{case_outside}
use Rattle.headers.specs.Headers.{tag_of, length_in, is_cut, name_number, name_length, consumed_by, field_in}
use Rattle.drawing.specs.declared.NamePlace.{NamePlace}
use Rattle.drawing.specs.Names.{places_from, names_case, name_at, no_name, last_of, name_place}
use Rattle.drawing.proofs.Names.{name_lengths}
use Rattle.drawing.proofs.Walk.{none_from, one_from}
use Rattle.fields.proofs.Alone.{field_long, whole_front, byte_front, length_front}
use Rattle.one_file.specs.OneFile.{is_name, without_from, without_names}
use Rattle.one_file.proofs.Bytes.{rest_shorter}

-- what is no name names no case
by_tests : (a b o e : Bool) → (b ≡ true → e ≡ true → o ≡ false) → (a && (b && not o)) ≡ false → (a && (b && e)) ≡ false
by_tests false b o e h n = refl
by_tests true false o e h n = refl
by_tests true true o false h n = refl
by_tests true true true true h n = h refl refl
by_tests true true false true h n = n

module _ (case : ℕ) (some : case_outside case ≡ false) where
  -- the field of w at the front of x
  not_named : (x w : List ℕ) → tag_of x ≡ tag_of w → length_in x ≡ length_in w → (2 ≤ length_in w → byte_at x 3 ≡ byte_at w 3) → is_name w ≡ false → names_case case x ≡ false
  not_named x w t l third n =
      rw (t, l)
      (by_tests (eqb (tag_of w) name_number) (name_length (length_in w)) (case_outside (byte_at w 3)) (eqb (byte_at x 3) case)
      (λ right same. ap case_outside (sym (third (name_lengths (length_in w) right).0) ∙ eqb-true (byte_at x 3) case same) ∙ some) n)

  ends : (f : List ℕ) (at m : ℕ) (found : NamePlace) → is_cut (drop at f) ≡ true → last_of case f (places_from m at f) found ≡ found
  unfolding last_of
  ends f at m found c = rw (none_from m at f c)

  passes : (f : List ℕ) (at m : ℕ) (found : NamePlace) → is_cut (drop at f) ≡ false → names_case case (drop at f) ≡ false →
      ((k : ℕ) → last_of case f (places_from k (at + (3 + length_in (drop at f))) f) found ≡ found) → last_of case f (places_from m at f) found ≡ found
  unfolding last_of places_from
  passes f at zero found c n later = refl
  passes f at (suc m) found c n later =
      let same : cond (names_case case (drop at f)) (name_at f at) found ≡ found = rw n in
      ap (λ (places : List ℕ). last_of case f places found) (one_from m at f c)
      ∙ (ap (λ (x : NamePlace). last_of case f (places_from m (at + (3 + length_in (drop at f))) f) x) same ∙ later m)

  -- a field that stays is passed by, wherever it stands
  stays : (p w v : List ℕ) (m : ℕ) (found : NamePlace) → is_cut w ≡ false → is_name w ≡ false →
      ((k : ℕ) → last_of case ((p ++ field_in w) ++ v) (places_from k (length (p ++ field_in w)) ((p ++ field_in w) ++ v)) found ≡ found) →
      last_of case (p ++ (field_in w ++ v)) (places_from m (length p) (p ++ (field_in w ++ v))) found ≡ found
  stays p w v m found c n later =
      let x : List ℕ = field_in w ++ v in
      let f : List ℕ = p ++ x in
      let at_front : drop (length p) f ≡ x = drop-append_seam p x in
      let long : length (p ++ field_in w) ≡ length p + (3 + length_in w) = length-append p (field_in w) ∙ ap (λ (k : ℕ). length p + k) (field_long w c) in
      let next : length p + (3 + length_in (drop (length p) f)) ≡ length (p ++ field_in w) = rw (at_front, length_front w c v) (sym long) in
      passes f (length p) m found (rw at_front (whole_front w c v))
      (rw at_front (not_named x w (byte_front w c v 0 (omega arith)) (length_front w c v) (λ two. byte_front w c v 3 (omega (arith, two))) n))
      (λ k.
      rw next
      (subst (λ (y : List ℕ). last_of case y (places_from k (length (p ++ field_in w)) y) found ≡ found) (append_assoc p (field_in w) v) (later k)))

  -- the file from w on, after p
  abbrev None : List ℕ → List ℕ → Type 0
  None p v = (m : ℕ) (found : NamePlace) → last_of case (p ++ v) (places_from m (length p) (p ++ v)) found ≡ found

  whole : (p w v : List ℕ) (t : Bool) → is_cut w ≡ false → is_name w ≡ t → ((q : List ℕ) → None q v) → None p (cond t [] (field_in w) ++ v)
  whole p w v true c e later m found = later p m found
  whole p w v false c e later m found = stays p w v m found c e (λ k. later (p ++ field_in w) k found)

  gone : (n : ℕ) (w : List ℕ) → length w ≤ n → (p : List ℕ) → None p (without_from is_name n w)
  unfolding without_from
  gone zero [] h p m found = ends (p ++ []) (length p) m found (rw (drop-append_seam p []) refl)
  gone zero (b ∷ bs) h p m found = absurd (omega arith)
  gone (suc n) w h p m found =
      ⊎_elim (λ c. rw c (ends (p ++ w) (length p) m found (rw (drop-append_seam p w) c)))
      (λ c. rw c (whole p w (without_from is_name n (drop (consumed_by w) w)) (is_name w) c refl (gone n (drop (consumed_by w) w) (rest_shorter w n c h)) m found))
      (either (is_cut w))

pub names_gone : (file : List ℕ) (case : ℕ) → name_place (without_names file) case ≡ no_name
unfolding name_place
names_gone file case =
    ⊎_elim (λ o. rw o) (λ o. rw o (gone case o (length file) file (omega arith) [] (length (without_names file)) no_name)) (either (case_outside case))
