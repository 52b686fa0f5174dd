-- How many bytes a reading consumes and writes, and that more room than an answer takes changes nothing.
-- Assumes nothing.
use Prim.Native.Nat.{ℕ, ◌≤◌}
use mathlib.Core.Path.{◌≡◌, refl, sym, ◌∙◌}
use mathlib.Core.List.{List}
use native.Mathlib.Omega.{arith}
use borrow.Author.Tests.{le-ltb}
use lib.ListN.{length}
use Rattle.sheet.specs.declared.Sheet.{Sheet}
use Rattle.std.specs.Prelude.{Option, Some, None}
use Rattle.headers.specs.Headers.{Header, header_of, consumed_of, consumed_by}
use Rattle.fields.specs.Field.{read_field}
use Rattle.fields.specs.Order.{read_header, read_in_order}
use Rattle.fields.proofs.InOrder.{read_is}
use Rattle.answers.specs.Answers.{answer_bytes, answer_room}

header_consumed : (h : Option Header) (input : List ℕ) (s : Sheet) → (read_header h input s).consumed ≡ consumed_of h input
unfolding read_header
header_consumed None input s = refl
header_consumed (Some h) input s = refl

header_written : (h : Option Header) (input : List ℕ) (s : Sheet) → (read_header h input s).written ≡ length (answer_bytes (read_header h input s).answer)
unfolding read_header
header_written None input s = refl
header_written (Some h) input s = refl

module _ (input : List ℕ) (s : Sheet) where
  in_order : (room : ℕ) → answer_room ≤ room → read_in_order input room s ≡ read_header (header_of input) input s
  unfolding read_in_order
  in_order room h = rw (le-ltb room answer_room h)

  roomy : (room : ℕ) → answer_room ≤ room → read_field input room s ≡ read_header (header_of input) input s
  roomy room h = read_is input room s ∙ in_order room h

  pub same_with_room : (room : ℕ) → answer_room ≤ room → read_field input room s ≡ read_field input answer_room s
  same_with_room room h = roomy room h ∙ sym (roomy answer_room (omega arith))

  pub read_consumed : (read_field input answer_room s).consumed ≡ consumed_by input
  read_consumed = rw (roomy answer_room (omega arith)) (header_consumed (header_of input) input s)

  pub read_written : (read_field input answer_room s).written ≡ length (answer_bytes (read_field input answer_room s).answer)
  read_written = rw (roomy answer_room (omega arith)) (header_written (header_of input) input s)
