-- The numbers of the direction, with its sign.
use Prim.Native.Nat.{ℕ, ◌<◌}
use native.Mathlib.Omega.{arith}
use mathlib.Core.List.{List, []}
use mathlib.Core.Path.{◌≡◌, ◌∙◌, sym, ap}
use lib.ListN.{length, get_or}
use Rattle.std.proofs.lemmas.List.{get_or_default}
use Rattle.envelope.specs.declared.Sign.{Sign}
use Rattle.sums.specs.Sums.{held_at, fluid_acts}
use Rattle.directions.specs.Four.{direction_of, sign_of, held_along, fluid_in}
use Rattle.directions.proofs.Sizes.{below_four}
use Rattle.directions.proofs.fluid_in_numbers.Goals as goal

told : (numbers : List (List (List ℕ))) (z : List (List ℕ)) (pattern : ℕ) {direction : ℕ} {sign : Sign} → direction < length numbers →
    direction ≡ direction_of pattern → sign ≡ sign_of pattern →
    fluid_acts (held_at (get_or numbers direction z)) sign ≡ fluid_in (held_along numbers) pattern
told numbers z pattern {direction} {sign} l d s =
    ap (λ (by_kind : List (List ℕ)). fluid_acts (held_at by_kind) sign) (get_or_default numbers direction z [] l)
    ∙ (λ i. fluid_acts (held_along numbers (d i)) (s i))

pub returns-in-Plus : goal.returns-in-Plus
returns-in-Plus c =
    let way = c.way_of-direction in
    let l : way.result.0 < 4 = omega (arith, way.ensures.direction, below_four c.args.pattern c.requires) in
    c.fluid_acts.ensures
    ∙ told c.args.numbers.now _ c.args.pattern (omega arith) way.ensures.direction (sym c.in-Plus.is ∙ way.ensures.sign)

pub returns-in-Minus : goal.returns-in-Minus
returns-in-Minus c =
    let way = c.way_of-direction in
    let l : way.result.0 < 4 = omega (arith, way.ensures.direction, below_four c.args.pattern c.requires) in
    c.fluid_acts-in-Minus.ensures
    ∙ told c.args.numbers.now _ c.args.pattern (omega arith) way.ensures.direction (sym c.in-Minus.is ∙ way.ensures.sign)
