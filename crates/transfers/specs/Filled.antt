-- A read into the input after the bytes held.
use Rattle.std.specs.Prelude.{ℕ, ◌≤◌, ◌≡◌, List, Bool, true, false, length, take}
use Rattle.headers.specs.Headers.{ready_of}
use Rattle.transfers.specs.declared.Source.{Source}
use Rattle.transfers.specs.declared.Source.TheVariants.{Open, Ended, Failed}

abbrev pub is_ended : Source → Bool
is_ended Open = false
is_ended Ended = true
is_ended Failed = false

abbrev pub is_failed : Source → Bool
is_failed Open = false
is_failed Ended = false
is_failed Failed = true

-- how many bytes are at hand after a read, the held ones as they were
pub record ReadAfter (held count : ℕ) (before after : List ℕ) : Type 0 where
  pub least : held ≤ count
  pub most : count ≤ length before
  pub same : length after ≡ length before
  pub kept : take held after ≡ take held before

-- how many bytes are there then, the held ones as they were; the input is at its end only where none were read and the held ones cannot be
-- read yet, and a failed read is no end of input
pub record Filled (held count : ℕ) (ended failed : Bool) (before after : List ℕ) : Type 0 where
  pub least : held ≤ count
  pub most : count ≤ length before
  pub same : length after ≡ length before
  pub kept : take held after ≡ take held before
  pub at_end : ended ≡ true → (count ≡ held) × (ready_of (take held before) ≡ false)
  pub unended : failed ≡ true → ended ≡ false
