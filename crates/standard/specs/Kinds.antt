-- SCOPE 2.3 and 4.2: kinds of load, and how the cases of a kind may act.
use Rattle.std.specs.Prelude.{ℕ, Bool, true, false, List, [], ◌∷◌, get_or}
use Rattle.standard.specs.declared.Kind.{Kind}
use Rattle.standard.specs.declared.Kind.TheVariants.{Dead, Fluid, EarthPermanent, EarthOther, Live, RoofLive, Snow, Rain, Wind, Earthquake, Flood, Ice, WindOnIce, SelfStraining}
use Rattle.standard.specs.declared.Class.{Class}
use Rattle.standard.specs.declared.Class.TheVariants.{Always, Together, Subset, OneOf, Unknown}

-- By kind, from 0, an empty place: D, F, Hp, Hv, L, Lr, S, R, W, E, Fa, Di, Wi, T.
-- All D and Hp cases act; the F cases all together or not at all; any subset of Hv, of L and of T; at most one among Lr, S and R together; at
-- most one W, one E, one Fa, one Di, one Wi (SCOPE 4.2).
abbrev pub classes : List Class
classes =
    Unknown
    ∷ Always ∷ Together ∷ Always
    ∷ Subset ∷ Subset
    ∷ OneOf 0 ∷ OneOf 0 ∷ OneOf 0
    ∷ OneOf 1 ∷ OneOf 2 ∷ OneOf 3
    ∷ OneOf 4 ∷ OneOf 5
    ∷ Subset
    ∷ []

unfoldable pub class_of : ℕ → Class
class_of kind = get_or classes kind Unknown

-- a number that is no kind has no class; as a kind it is refused (SCOPE 7.1)
abbrev pub unknown : Class → Bool
unknown Always = false
unknown Together = false
unknown Subset = false
unknown (OneOf g) = false
unknown Unknown = true

-- the number of groups (SCOPE 4.2), and of kinds with the empty place (SCOPE 2.3)
abbrev pub group_count : ℕ
group_count = 6

abbrev pub kind_count : ℕ
kind_count = 15

-- F, whose cases are absent while the tank is empty (SCOPE 2.3, 4.2)
abbrev pub fluid : ℕ
fluid = 2

-- Hp, whose cases may take the low factor (SCOPE 2.3, 4.3)
abbrev pub permanent_earth : ℕ
permanent_earth = 3

-- T, the self-straining loads, whose factor is the sheet's (SCOPE 2.3, 3.9)
abbrev pub self_straining : ℕ
self_straining = 14

-- the number of a kind (SCOPE 2.3)
abbrev pub number_of : Kind → ℕ
number_of Dead = 1
number_of Fluid = fluid
number_of EarthPermanent = permanent_earth
number_of EarthOther = 4
number_of Live = 5
number_of RoofLive = 6
number_of Snow = 7
number_of Rain = 8
number_of Wind = 9
number_of Earthquake = 10
number_of Flood = 11
number_of Ice = 12
number_of WindOnIce = 13
number_of SelfStraining = self_straining
