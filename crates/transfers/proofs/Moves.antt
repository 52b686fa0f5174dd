-- A run of bytes moved down to the start.
-- Assumes nothing.
use Prim.Native.Nat.{ℕ, ◌+◌, ◌-◌, ◌≤◌}
use mathlib.Core.Path.{◌≡◌, sym, ◌∙◌, ap}
use mathlib.Core.List.{List, ◌++◌}
use native.Mathlib.Nat.{zero-add}
use lib.ListN.{length, drop, take-append-drop}
use lib.Seq.{slice, length-slice, length-take-le}
use Rattle.std.specs.List.{copy_within}
use Rattle.std.proofs.lemmas.Slice.{between_is}
use Rattle.wire.specs.Bytes.{over}

pub moved : (b : List ℕ) (from to : ℕ) → to ≤ length b → copy_within b from to 0 ≡ over (slice from to b) b
unfolding over
moved b from to h =
    ap (λ front. front ++ drop (0 + (to - from)) b) (between_is b from to)
    ∙ ap (λ n. slice from to b ++ drop n b) (zero-add (to - from) ∙ sym (length-slice from to b h))

-- a run that is at the start stays there
pub unmoved : (b : List ℕ) (to : ℕ) → to ≤ length b → b ≡ over (slice 0 to b) b
unfolding over
unmoved b to h = rw (length-take-le to b h) (sym (take-append-drop to b))
