-- A field that the end of input cuts takes all the bytes, and is answered.
-- Assumes nothing.
use Prim.Native.Nat.{ℕ, ◌≤◌, ◌<◌}
use mathlib.Core.Path.{◌≡◌, refl, sym, ◌∙◌, ap}
use mathlib.Core.List.{List, [], ◌∷◌}
use mathlib.Core.Bool.{Bool, true, false, cond}
use native.Mathlib.Omega.{arith}
use borrow.Author.Tests.{lt-ltb, le-leb}
use lib.ListN.{length}
use Rattle.sheet.specs.declared.Sheet.{Sheet}
use Rattle.fields.specs.Field.{read_field}
use Rattle.answers.specs.Answers.{last_of, answer_room}
use Rattle.headers.specs.Headers.{ready_of}
use Rattle.lists.specs.Lists.{fields_from, fields_of}
use Rattle.fields.proofs.Ready.{cut_all}
use Rattle.lists.proofs.Left.{only_field}
use Rattle.stream.specs.Answering.{is_next, answered_of}

none_after : (t : Bool) → ◌≡◌ {A = List (List ℕ)} (cond t [] []) []
none_after true = refl
none_after false = refl

next_at_end : (room : ℕ) (w : List ℕ) → 0 < length w → answer_room ≤ room → is_next true room w ≡ true
unfolding is_next
next_at_end room w g h = rw (lt-ltb 0 (length w) g, le-leb answer_room room h)

one_answered : (w : List ℕ) (room : ℕ) (s : Sheet) → 0 < length w → answer_room ≤ room → answered_of true room (w ∷ []) s ≡ w ∷ []
unfolding answered_of
one_answered w room s g h =
    rw (next_at_end room w g h) (ap (λ (fs : List (List ℕ)). w ∷ fs) (none_after (last_of (read_field w answer_room s).answer)))

pub end_fields : (w : List ℕ) (room : ℕ) (s : Sheet) → ready_of w ≡ false → answer_room ≤ room → answered_of true room (fields_of w) s ≡ fields_of w
unfolding answered_of fields_from
end_fields [] room s e h = refl
end_fields (b ∷ bs) room s e h =
    let g : 0 < length (b ∷ bs) = omega arith in
    let f = only_field (b ∷ bs) g (cut_all (b ∷ bs) e) in
    ap (λ (fs : List (List ℕ)). answered_of true room fs s) f ∙ (one_answered (b ∷ bs) room s g h ∙ sym f)
