-- SCOPE 2.4: the components of an effect, and the byte that stands for one.
use Rattle.std.specs.Prelude.{◌≡◌, ℕ, ◌<◌, ℤ, Result, MatchResult}
use Rattle.recheck_combinations.specs.declared.figure.Component.{Component}
use Rattle.recheck_combinations.specs.declared.figure.Component.TheVariants.{N, My, Mz}
use Rattle.recheck_combinations.specs.declared.figure.Effects.{Effects}
use Rattle.recheck_combinations.specs.declared.figure.NoComponent.{NoComponent}

-- the effect on a component
abbrev pub component_of : Effects → Component → ℤ
component_of effects N = effects.n
component_of effects My = effects.my
component_of effects Mz = effects.mz

-- the byte of a component
abbrev pub byte_of : Component → ℕ
byte_of N = 0
byte_of My = 1
byte_of Mz = 2

-- the component of this byte, or none where the byte stands for none
abbrev pub Decodes : ℕ → Result Component NoComponent → Type 0
Decodes byte r = MatchResult r (λ component. byte_of component ≡ byte) (λ _. 2 < byte)
