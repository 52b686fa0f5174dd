-- Each station's effects are turned.
use Rattle.std.proofs.Common.{◌≡◌, map, rules}
use Rattle.recheck_pairs.specs.Turned.{turned_place, turned_triple}
use Rattle.recheck_sheet.specs.Sheet.{no_effect}
use Rattle.recheck_pairs.proofs.Mapped.{mapped}
use Rattle.recheck_pairs.proofs.turned_place.Goals as goal

pub returns : goal.returns
unfolding turned_place
returns c =
    let effects = c.args.place.effects in
    let calls = c.map.ensures.items in
    let all : c.map.result ≡ map turned_triple effects = mapped turned_triple effects c.map.result no_effect (search rules) (λ i below. let call = calls.at i no_effect (turned_triple no_effect) (search rules) in search rules) in
    rw all
