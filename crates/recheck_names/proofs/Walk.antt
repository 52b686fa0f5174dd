-- The walk over the fields of a file: what is left is the file from the place of the next field on, and where it ends no later name is found.
use Rattle.std.proofs.Common.{◌≡◌, refl, Option, Some, None, sym, ap, ◌∙◌, List, Bool, true, false, cond, ◌&&◌, ℕ, zero, suc, ◌+◌, ◌*◌, ◌-◌, ◌≤◌, ◌<◌, eqb, ltb, ltb-true, ltb-false, lt-ltb, le-ltb, length, length-drop, drop, add-one, arith}
use Rattle.std.proofs.Math.Bool.{and-eq-true_iff}
use Rattle.std.proofs.Math.Nat.{add-zero, add-suc}
use Rattle.std.proofs.lemmas.List.{get_or-drop, drop-drop}
use Rattle.std.specs.Option.{option_or}
use Rattle.recheck_bytes.specs.Bytes.{byte_at, pair_at}
use Rattle.recheck_names.specs.declared.Name.{Name}
use Rattle.recheck_names.specs.Names.{is_whole, after_field, field_place, is_name_length, is_tag60, names_case, name_at, name_here, last_name}

-- a number after some is below as many more as it was
shifted : (at x n : ℕ) → at ≤ n → ltb x (n - at) ≡ ltb (at + x) n
shifted at x n h = by_test (ltb x (n - at)) refl
  where
    by_test : (t : Bool) → ltb x (n - at) ≡ t → t ≡ ltb (at + x) n
    by_test true p = let l = ltb-true x (n - at) p in sym (lt-ltb (at + x) n (omega arith))
    by_test false p = let l = ltb-false x (n - at) p in sym (le-ltb (at + x) n (omega arith))

-- ---- the file from a place on
module _ (file : List ℕ) (at : ℕ) where
  pub byte_from : (k : ℕ) → byte_at (drop at file) k ≡ byte_at file (at + k)
  byte_from k = get_or-drop at file k 0

  pub pair_from : pair_at (drop at file) 1 ≡ pair_at file (at + 1)
  pair_from =
      let next : at + 2 ≡ at + 1 + 1 = omega arith in
      (λ i. byte_from 1 i * 256 + byte_from 2 i) ∙ ap (λ (k : ℕ). byte_at file (at + 1) * 256 + byte_at file k) next

  module _ (in_file : at ≤ length file) where
    pub whole_from : is_whole (drop at file) 0 ≡ is_whole file at
    unfolding is_whole
    whole_from =
        let assoc : at + (2 + pair_at file (at + 1)) ≡ at + 2 + pair_at file (at + 1) = omega arith in
        rw (pair_from, length-drop, shifted at (2 + pair_at file (at + 1)) (length file) in_file, assoc) refl

    pub tag60_from : is_tag60 (drop at file) 0 ≡ is_tag60 file at
    unfolding is_tag60
    tag60_from = let tag = byte_from 0 ∙ ap (byte_at file) (add-zero at) in rw (whole_from, tag) refl

    pub names_from : (case : ℕ) → names_case (drop at file) 0 case ≡ names_case file at case
    unfolding names_case
    names_from case = rw (tag60_from, pair_from, byte_from 3) refl

    pub after_from : after_field file at ≡ at + after_field (drop at file) 0
    unfolding after_field
    after_from = rw (whole_from, pair_from) (moved (is_whole file at))
      where
        moved : (whole : Bool) → cond whole (at + 3 + pair_at file (at + 1)) at ≡ at + cond whole (3 + pair_at file (at + 1)) 0
        moved true = omega arith
        moved false = omega arith

module _ (file : List ℕ) where
  pub whole_in : (at : ℕ) → is_whole file at ≡ true → at + 2 + pair_at file (at + 1) < length file
  unfolding is_whole
  whole_in at h =
      let body = pair_at file (at + 1) in
      ltb-true (at + 2 + body) (length file) ((and-eq-true_iff (ltb body 60001) (ltb (at + 2 + body) (length file))).0 h).1

  pub after_whole : (at : ℕ) → is_whole file at ≡ true → after_field file at ≡ at + 3 + pair_at file (at + 1)
  unfolding after_field
  after_whole at h = rw h refl

  pub after_stays : (at : ℕ) → is_whole file at ≡ false → after_field file at ≡ at
  unfolding after_field
  after_stays at h = rw h refl

  pub after_least : (at : ℕ) → at ≤ after_field file at
  unfolding after_field
  after_least at = further (is_whole file at)
    where
      further : (whole : Bool) → at ≤ cond whole (at + 3 + pair_at file (at + 1)) at
      further true = omega arith
      further false = omega arith

  -- what is left of the file after so many fields
  pub record Left (n : ℕ) (left : List ℕ) : Type 0 where
    pub is : left ≡ drop (field_place file n) file
    pub in_file : field_place file n ≤ length file
    pub counted : n ≤ field_place file n

  pub left_first : Left 0 file
  unfolding field_place
  left_first = record { is = refl; in_file = omega arith; counted = omega arith }

  module _ (n : ℕ) {left : List ℕ} (l : Left n left) where
    pub whole_left : is_whole left 0 ≡ is_whole (file) (field_place file n)
    whole_left = rw l.is (whole_from file (field_place file n) l.in_file)

    pub names_left : (case : ℕ) → names_case left 0 case ≡ names_case file (field_place file n) case
    names_left case = rw l.is (names_from file (field_place file n) l.in_file case)

    -- one field more
    pub left_more : {left' : List ℕ} → is_whole left 0 ≡ true → left' ≡ drop (after_field left 0) left → Left (n + 1) left'
    unfolding field_place
    left_more {left'} h p =
        let at = field_place file n in
        let whole = sym whole_left ∙ h in
        let inside = whole_in at whole in
        let after = after_whole at whole in
        rw add-one
        (record {
          is = p ∙ rw l.is (drop-drop (after_field (drop at file) 0) at file ∙ ap (λ (k : ℕ). drop k file) (sym (after_from file at l.in_file)));
          in_file = let h' = l.in_file in omega arith;
          counted = let c = l.counted in omega arith;
        })

    long_left : length left ≡ length file - field_place file n
    long_left = rw l.is (length-drop (field_place file n) file)

    pub short_left : length left ≤ length file
    short_left = rw long_left (omega arith)

    -- the place is what the file has before
    pub place_left : length file - length left ≡ field_place file n
    place_left = let h = l.in_file in rw long_left (omega arith)

    pub from_place : left ≡ drop (length file - length left) file
    from_place = rw place_left l.is

  -- from a place on where no whole field begins the walk stays
  pub stays : (i k : ℕ) → is_whole file (field_place file i) ≡ false → field_place file (i + k) ≡ field_place file i
  unfolding field_place
  stays i zero h = rw add-zero refl
  stays i (suc k) h = rw add-suc (ap (after_field file) (stays i k h) ∙ after_stays (field_place file i) h)

  -- so that the last place is reached
  pub place_ended : {n : ℕ} {left : List ℕ} → Left n left → is_whole left 0 ≡ false → field_place file n ≡ field_place file (length file)
  place_ended {n} l h =
      let c = l.counted in
      let f = l.in_file in
      let e : n + (length file - n) ≡ length file = omega arith in
      sym (stays n (length file - n) (sym (whole_left n l) ∙ h)) ∙ ap (field_place file) e

  -- ---- the name of a case
  -- a name is in a whole field, and has a byte at least
  pub name_long : (at case : ℕ) → names_case file at case ≡ true → 1 < pair_at file (at + 1)
  unfolding names_case
  name_long at case h =
      let body = pair_at file (at + 1) in
      let right = is_name_length body in
      let named = ((and-eq-true_iff (is_tag60 file at && right) (eqb (byte_at file (at + 3)) case)).0 h).0 in
      ltb-true 1 body ((and-eq-true_iff (ltb 1 body) (ltb body 26)).0 ((and-eq-true_iff (is_tag60 file at) right).0 named).1).0

  not_whole : (at case : ℕ) → is_whole file at ≡ false → names_case file at case ≡ false
  unfolding names_case is_tag60
  not_whole at case h = rw h refl

  named : (b : Bool) (name : Name) (found : Option Name) → option_or (cond b (Some name) None) found ≡ cond b (Some name) found
  named true name found = refl
  named false name found = refl

  -- the name in the last of the fields passed
  pub record Found (case : ℕ) (left : List ℕ) (found : Option Name) : Type 0 where
    pub passed : ℕ
    pub at : Left passed left
    pub last : found ≡ last_name file case passed

  pub found_first : (case : ℕ) → Found case file None
  unfolding last_name
  found_first case = record { passed = 0; at = left_first; last = refl }

  pub found_more : (case : ℕ) {left left' : List ℕ} {found here r : Option Name} → Found case left found → is_whole left 0 ≡ true → left' ≡ drop (after_field left 0) left → here ≡ name_here file (length file - length left) case → r ≡ option_or here found → Found case left' r
  unfolding last_name
  found_more case {left} {found = found} f h p e q =
      let n = f.passed in
      let at = field_place file n in
      let here = e ∙ ap (λ (k : ℕ). name_here file k case) (place_left n f.at) in
      record {
        passed = n + 1;
        at = left_more n f.at h p;
        last = q ∙ rw (add-one, here, named (names_case file at case) (name_at file at) found, f.last) refl;
      }

  -- where no whole field is left there is no later one
  no_later : (case i k : ℕ) → is_whole file (field_place file i) ≡ false → last_name file case (i + k) ≡ last_name file case i
  unfolding last_name
  no_later case i zero h = rw add-zero refl
  no_later case i (suc k) h = rw (add-suc, stays i k h, not_whole (field_place file i) case h) (no_later case i k h)

  pub found_all : (case : ℕ) {left : List ℕ} {found : Option Name} → Found case left found → is_whole left 0 ≡ false → found ≡ last_name file case (length file)
  found_all case f h =
      let n = f.passed in
      let c = f.at.counted in
      let i = f.at.in_file in
      let e : n + (length file - n) ≡ length file = omega arith in
      f.last ∙ sym (no_later case n (length file - n) (sym (whole_left n f.at) ∙ h)) ∙ ap (last_name file case) e
