-- SCOPE 5.2: the tags by their first bytes.
use Rattle.std.specs.Prelude.{ℕ, ◌≡◌, Result, Ok, Err}
use Rattle.refusals.specs.declared.Refusal.{Refusal}
use Rattle.refusals.specs.Numbers.{number}
use Rattle.headers.specs.Headers.{name_number, due_header}
use Rattle.headers.specs.declared.Tag.{Tag}
use Rattle.headers.specs.declared.Tag.TheVariants.{Restart, Fill, Effects, Empty, Capacities, Extremes, Utilisation, Ice, Straining, Name}

abbrev pub number_of_tag : Tag → ℕ
number_of_tag Restart = 1
number_of_tag Fill = 2
number_of_tag Effects = 3
number_of_tag Empty = 4
number_of_tag Capacities = 5
number_of_tag Extremes = 6
number_of_tag Utilisation = 7
number_of_tag Ice = 8
number_of_tag Straining = 9
number_of_tag Name = name_number

-- a byte is the number of its tag; one that is no tag's is refused as is due, whatever the length (SCOPE 7.2)
abbrev pub TagOf : ℕ → Result Tag Refusal → Type 0
TagOf byte (Ok tag) = number_of_tag tag ≡ byte
TagOf byte (Err refusal) = (len : ℕ) → due_header byte len ≡ number refusal
