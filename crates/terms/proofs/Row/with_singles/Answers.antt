-- Each group of one kind joins a total that is small by the sizes of the terms before it.
use Prim.Native.Nat.{ℕ, ◌+◌, ◌*◌, ◌<◌, ◌^◌}
use native.Mathlib.Omega.{arith}
use mathlib.Core.Path.{refl, ◌∙◌}
use lib.IntN.{ℤ, pos, ◌+ℤ◌, ◌*ℤ◌, nat_abs}
use mir.Syntax.{w64}
use mir.Val.{to_z, of_z}
use Rattle.terms.specs.declared.Terms.{Terms}
use Rattle.terms.specs.Value.{factor_most, Gained, singles_size, singles_of}
use Rattle.terms.proofs.Scaled.{Total, room, joined, told}
use Rattle.terms.proofs.Row.with_singles.Goals as goal

-- with the first three groups
three : (total : ℤ) (t : Terms) → nat_abs total + factor_most * singles_size t < 2 ^ 63 → {wind quake flood : ℤ} {w q f : ℕ} →
    Gained wind (to_z w64 (of_z w64 total)) w (to_z w64 (of_z w64 t.wind)) → Gained quake (to_z w64 (of_z w64 wind)) q (to_z w64 (of_z w64 t.quake)) →
    Gained flood (to_z w64 (of_z w64 quake)) f (to_z w64 (of_z w64 t.flood)) →
    Total flood (nat_abs total + factor_most * nat_abs t.wind + factor_most * nat_abs t.quake + factor_most * nat_abs t.flood)
    (total +ℤ pos w *ℤ t.wind +ℤ pos q *ℤ t.quake +ℤ pos f *ℤ t.flood)
three total t h wind quake flood =
    let none : Total total (nat_abs total) total = record { is = refl; small = omega arith } in
    let one = joined none t.wind (omega arith) wind in
    let two = joined one t.quake (omega arith) quake in
    joined two t.flood (omega arith) flood

pub with_term-ice-requires-clause-room : goal.with_term-ice-requires-clause-room
with_term-ice-requires-clause-room c =
    let flood = three c.args.total c.args.t c.requires c.with_term-wind.ensures c.with_term-quake.ensures c.with_term-flood.ensures in
    room flood c.args.t.ice (omega (arith, c.requires))

pub with_term-requires-clause-room : goal.with_term-requires-clause-room
with_term-requires-clause-room c =
    let flood = three c.args.total c.args.t c.requires c.with_term-wind.ensures c.with_term-quake.ensures c.with_term-flood.ensures in
    let ice = joined flood c.args.t.ice (omega (arith, c.requires)) c.with_term-ice.ensures in
    room ice c.args.t.icewind (omega (arith, c.requires))

pub returns : goal.returns
unfolding singles_of
returns c =
    let t = c.args.t in
    let flood = three c.args.total t c.requires c.with_term-wind.ensures c.with_term-quake.ensures c.with_term-flood.ensures in
    let ice = joined flood t.ice (omega (arith, c.requires)) c.with_term-ice.ensures in
    (told c.with_term.type_inv (joined ice t.icewind (omega (arith, c.requires)) c.with_term.ensures)).is
    ∙ (λ i. c.args.total +ℤ pos (c.factor.ensures.is i) *ℤ t.wind +ℤ pos (c.factor-2.ensures.is i) *ℤ t.quake +ℤ pos (c.factor-3.ensures.is i) *ℤ t.flood
    +ℤ pos (c.factor-4.ensures.is i) *ℤ t.ice +ℤ pos (c.factor-5.ensures.is i) *ℤ t.icewind)
