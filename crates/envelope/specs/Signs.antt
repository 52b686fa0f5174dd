-- Effects as they are, or with their signs turned.
use Rattle.std.specs.Prelude.{ℕ, ℤ, neg_ℤ}
use Rattle.envelope.specs.declared.Sign.{Sign}
use Rattle.envelope.specs.declared.Sign.TheVariants.{Plus, Minus}

abbrev pub signed : Sign → ℤ → ℤ
signed Plus x = x
signed Minus x = neg_ℤ x

-- of the parts of effects, 0 above zero and 1 below: which one is above zero with this sign, and which one is below
abbrev pub over : Sign → ℕ
over Plus = 0
over Minus = 1

abbrev pub under : Sign → ℕ
under Plus = 1
under Minus = 0

abbrev pub opposite : Sign → Sign
opposite Plus = Minus
opposite Minus = Plus
