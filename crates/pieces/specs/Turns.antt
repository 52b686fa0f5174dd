-- The turns of a service, whatever pieces its input comes in: the bytes read, those handed to the writing call, and what is kept from
-- turn to turn.
use Rattle.std.specs.Prelude.{ℕ, zero, suc, ◌≤◌, ◌≡◌, List, [], ◌++◌, Bool, true, false, not, ◌&&◌, length, drop, eqb}
use Rattle.sheet.specs.declared.Sheet.{Sheet}
use Rattle.lists.specs.Lists.{fields_of, span_of, sheet_after, answers_to, bytes_of}
use Rattle.stream.specs.Answering.{answered_of, any_last}

-- one turn, with so much room for answers, from a sheet and the bytes held: the bytes handed to the writing call and how many of them it
-- took, the sheet and the bytes held afterwards, and whether the service goes on
pub record Turned (room : ℕ) (s : Sheet) (held out : List ℕ) (taken : ℕ) (s' : Sheet) (held' : List ℕ) (more : Bool) : Type 0 where
  -- the bytes read, whether the input is at its end, and whether the read failed
  pub new : List ℕ
  pub ended : Bool
  pub failed : Bool
  pub fields : List (List ℕ)
  pub which : fields ≡ answered_of ended room (fields_of (held ++ new)) s
  -- at the end of input every field that is left
  pub all : ended ≡ true → fields ≡ fields_of (held ++ new)
  pub sheet : s' ≡ sheet_after fields s
  pub handed : out ≡ bytes_of (answers_to fields s)
  pub most : taken ≤ length out
  pub left : held' ≡ drop (span_of fields) (held ++ new)
  -- a failed read is no end of input
  pub unended : failed ≡ true → ended ≡ false
  -- more may follow, all answers are taken, and none is a 3 (SCOPE 9.4)
  pub goes_on : more ≡ (((not ended && not failed) && eqb taken (length out)) && not (any_last (answers_to fields s)))

-- so many turns, the first from a sheet with no bytes held: all bytes read in them, all handed on, and what is kept after the last
pub data Turns : ℕ → Sheet → ℕ → List ℕ → List ℕ → Sheet → List ℕ → Bool → Type 0 where
  none : {room : ℕ} {s : Sheet} → Turns room s zero [] [] s [] true
  turn : {room : ℕ} {s : Sheet} {n : ℕ} {read out : List ℕ} {s₁ : Sheet} {held : List ℕ} {out₁ : List ℕ} {taken : ℕ} {s₂ : Sheet} {held₂ : List ℕ} {more : Bool} →
      Turns room s n read out s₁ held true → (x : Turned room s₁ held out₁ taken s₂ held₂ more) → Turns room s (suc n) (read ++ x.new) (out ++ out₁) s₂ held₂ more

-- the answers due to an input on a sheet are those handed on, and then those due to the fields that are left
pub record Due (s : Sheet) (input out : List ℕ) (s' : Sheet) (left : List (List ℕ)) : Type 0 where
  pub answers : bytes_of (answers_to (fields_of input) s) ≡ out ++ bytes_of (answers_to left s')
  pub sheet : sheet_after (fields_of input) s ≡ sheet_after left s'

-- how a service stops: all of its input is answered; or a 3, after which nothing is due, whatever follows; or a read or a write that
-- failed, after which the bytes held are due with whatever follows them (SCOPE 9.4)
pub data Stopped : Sheet → List ℕ → List ℕ → Sheet → Type 0 where
  at_end : {s s' : Sheet} {read out : List ℕ} → Due s read out s' [] → Stopped s read out s'
  at_3 : {s s' : Sheet} {read out : List ℕ} → ((t : List ℕ) → Due s (read ++ t) out s' []) → Stopped s read out s'
  at_failure : {s s' : Sheet} {read out : List ℕ} (held : List ℕ) → ((t : List ℕ) → Due s (read ++ t) out s' (fields_of (held ++ t))) → Stopped s read out s'

-- a service that ran: its turns, and that it goes on only where they are used up
pub record Served (room : ℕ) (s s' : Sheet) (held : List ℕ) (more : Bool) : Type 0 where
  pub count : ℕ
  pub read : List ℕ
  pub out : List ℕ
  pub turns : Turns room s count read out s' held more
  pub used : more ≡ true → count ≡ 18446744073709551615
