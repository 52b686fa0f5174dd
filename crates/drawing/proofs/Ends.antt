-- As far as the whole fields of a file reach: as the walk has it so far, and within the file.
-- Assumes nothing.
use Prim.Native.Nat.{ℕ, ◌+◌}
use mathlib.Core.Path.{◌≡◌, sym, ◌∙◌, ap}
use mathlib.Core.List.{List}
use mathlib.Core.Bool.{true, false}
use lib.ListN.{drop}
use Rattle.headers.specs.Headers.{length_in, is_cut}
use Rattle.drawing.specs.Names.{end_of, whole_end}
use Rattle.drawing.proofs.Walk.{Left, left, left_all, all_left, left_none, left_next}

-- the walk has come to a place, where the whole fields end if no other follows
pub record Reached (file : List ℕ) (at : ℕ) : Type 0 where
  pub ahead : Left file at
  pub end : whole_end file ≡ end_of file (left ahead) at

pub reached_start : (file : List ℕ) → Reached file 0
unfolding whole_end
reached_start file = record { ahead = left_all file; end = ap (λ (ps : List ℕ). end_of file ps 0) (sym (all_left file)) }

pub reached_next : {file : List ℕ} {at : ℕ} → Reached file at → is_cut (drop at file) ≡ false → Reached file (at + (3 + length_in (drop at file)))
unfolding end_of
reached_next {file} {at} h e =
    let x = left_next h.ahead e in
    record { ahead = x.later; end = h.end ∙ ap (λ (ps : List ℕ). end_of file ps at) x.split }

pub reached_end : {file : List ℕ} {at : ℕ} → Reached file at → is_cut (drop at file) ≡ true → at ≡ whole_end file
unfolding end_of
reached_end {file} {at} h e = sym (h.end ∙ ap (λ (ps : List ℕ). end_of file ps at) (left_none h.ahead e))
