-- The file without its names, field by field.
use Rattle.std.proofs.Common.{◌≡◌, refl, sym, ap, ◌∙◌, List, [], ◌++◌, append-nil, length-append, true, false, ℕ, zero, suc, ◌+◌, ◌-◌, ◌≤◌, length, take, drop, add-one, arith}
use Rattle.std.proofs.Math.Nat.{add-zero, add-suc}
use Rattle.recheck_names.specs.declared.LeftOut.{LeftOut}
use Rattle.recheck_names.specs.Names.{is_whole, after_field, field_place, is_left_out, is_tag60, kept_at, kept_up_to, without_names}
use Rattle.recheck_names.specs.Results.{Split}
use Rattle.recheck_names.proofs.Walk.{byte_from, pair_from, tag60_from, after_from, after_stays, stays, whole_left, Left, left_first, left_more, place_ended}

module _ (file : List ℕ) (left_out : LeftOut) where
  pub left_out_from : (at : ℕ) → at ≤ length file → is_left_out (drop at file) left_out 0 ≡ is_left_out file left_out at
  unfolding is_left_out
  left_out_from at h = rw (tag60_from file at h, pair_from file at, byte_from file at 3) refl

  -- where no whole field begins nothing is kept
  none_kept : (at : ℕ) → is_whole file at ≡ false → kept_at file left_out at ≡ []
  unfolding kept_at is_left_out is_tag60
  none_kept at h = let same : at - at ≡ 0 = omega arith in rw (h, after_stays file at h, same) refl

  kept_stays : (i k : ℕ) → is_whole file (field_place file i) ≡ false → kept_up_to file left_out (i + k) ≡ kept_up_to file left_out i
  unfolding kept_up_to
  kept_stays i zero h = rw add-zero refl
  kept_stays i (suc k) h = rw (add-suc, stays file i k h, none_kept (field_place file i) h, kept_stays i k h) (append-nil (kept_up_to file left_out i))

  -- the output is what is kept of the fields passed, and has no more bytes than they have
  pub record Passed (left out : List ℕ) : Type 0 where
    pub passed : ℕ
    pub at : Left file passed left
    pub kept : out ≡ kept_up_to file left_out passed
    pub no_further : length out + length left ≤ length file

  pub passed_first : Passed file []
  unfolding kept_up_to
  passed_first = record { passed = 0; at = left_first file; kept = refl; no_further = omega arith }

  module _ {left out field rest : List ℕ} (p : Passed left out) (s : Split left field rest) where
    more : (out' : List ℕ) → out' ≡ out ++ kept_at file left_out (field_place file p.passed) → length out' + length rest ≤ length file → Passed rest out'
    unfolding kept_up_to
    more out' k f =
        record {
          passed = p.passed + 1;
          at = left_more file p.passed p.at s.whole s.rest_is;
          kept = k ∙ rw (add-one, p.kept) refl;
          no_further = f;
        }

    out_of_place : is_left_out left left_out 0 ≡ is_left_out file left_out (field_place file p.passed)
    out_of_place = rw p.at.is (left_out_from (field_place file p.passed) p.at.in_file)

    -- a field that is left out leaves the output
    pub passed_out : is_left_out left left_out 0 ≡ true → Passed rest out
    unfolding kept_at
    passed_out h =
        let here = sym out_of_place ∙ h in
        let size = s.size in
        let f = p.no_further in
        more out (rw here (sym (append-nil out))) (omega arith)

    -- any other stands in it
    pub passed_kept : {out' : List ℕ} → is_left_out left left_out 0 ≡ false → out' ≡ out ++ field → Passed rest out'
    unfolding kept_at
    passed_kept {out'} h k =
        let here = sym out_of_place ∙ h in
        let at = field_place file p.passed in
        let size = s.size in
        let f = p.no_further in
        let after = after_from file at p.at.in_file in
        let n : after_field file at - at ≡ after_field (drop at file) 0 = omega arith in
        let part : field ≡ take (after_field file at - at) (drop at file) = rw n (rw p.at.is at s.field_is) in
        let long : length out' ≡ length out + length field = rw k (length-append out field) in
        more out' (k ∙ rw (here, part) refl) (omega arith)

  -- and what follows the fields
  module _ {left out out' : List ℕ} (p : Passed left out) (k : out' ≡ out ++ left) where
    pub passed_all : is_whole left 0 ≡ false → out' ≡ without_names file left_out
    unfolding without_names
    passed_all h =
        let n = p.passed in
        let c = p.at.counted in
        let f = p.at.in_file in
        let e : n + (length file - n) ≡ length file = omega arith in
        let ended = sym (whole_left file n p.at) ∙ h in
        let kept = sym (kept_stays n (length file - n) ended) ∙ ap (kept_up_to file left_out) e in
        k ∙ rw (p.kept, p.at.is, place_ended file p.at h, kept) refl

    pub all_in : length out' ≤ length file
    all_in =
        let f = p.no_further in
        let long : length out' ≡ length out + length left = rw k (length-append out left) in
        omega arith
