-- SCOPE 8.2: what saving answers and writes.
use Rattle.std.specs.Prelude.{ℕ, List, cond, length, ltb, Result, Ok, Err}
use Rattle.wire.specs.Bytes.{over}
use Rattle.refusals.specs.declared.Refusal.{Refusal}
use Rattle.refusals.specs.declared.Refusal.TheVariants.{ShortOutput}
use Rattle.sheet.specs.declared.Sheet.{Sheet}
use Rattle.saved_fields.specs.Saved.{saved_bytes}

-- the count of bytes written, or the refusal 14
unfoldable pub saved_answer : Sheet → ℕ → Result ℕ Refusal
saved_answer s room = cond (ltb room (length (saved_bytes s))) (Err ShortOutput) (Ok (length (saved_bytes s)))

-- the output after it: the saved bytes over its front, or what stood there where they do not fit
unfoldable pub saved_over : Sheet → List ℕ → List ℕ
saved_over s o = cond (ltb (length o) (length (saved_bytes s))) o (over (saved_bytes s) o)
