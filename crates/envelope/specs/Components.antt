-- SCOPE 2.4: the components by their numbers.
use Rattle.std.specs.Prelude.{ℕ, ◌≡◌, ◌≤◌, Result, Ok, Err}
use Rattle.envelope.specs.declared.component.Component.{Component}
use Rattle.envelope.specs.declared.component.Component.TheVariants.{N, Y, Z}
use Rattle.envelope.specs.declared.component.NoComponent.{NoComponent}
use Rattle.envelope.specs.Range.{component_count}

-- N, My and Mz are 0, 1 and 2 (SCOPE 2.4)
abbrev pub number_of_component : Component → ℕ
number_of_component N = 0
number_of_component Y = 1
number_of_component Z = 2

-- the component of a byte, none from 3 on (SCOPE 2.4)
abbrev pub ComponentOf : ℕ → Result Component NoComponent → Type 0
ComponentOf byte (Ok component) = number_of_component component ≡ byte
ComponentOf byte (Err none) = component_count ≤ byte
