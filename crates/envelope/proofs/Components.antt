-- A component's number is below their count.
-- Assumes nothing.
use Prim.Native.Nat.{◌<◌}
use native.Mathlib.Omega.{arith}
use Rattle.envelope.specs.declared.component.Component.{Component}
use Rattle.envelope.specs.declared.component.Component.TheVariants.{N, Y, Z}
use Rattle.envelope.specs.Range.{component_count}
use Rattle.envelope.specs.Components.{number_of_component}

pub component_below : (component : Component) → number_of_component component < component_count
component_below N = omega arith
component_below Y = omega arith
component_below Z = omega arith
