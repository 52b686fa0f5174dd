-- Each place is turned.
use Rattle.std.proofs.Common.{rules, None}
use Rattle.recheck_pairs.specs.Turned.{turned_place}
use Rattle.recheck_sheet.specs.Sheet.{of_kind}
use Rattle.recheck_pairs.proofs.Mapped.{mapped}
use Rattle.recheck_pairs.proofs.all_turned.Goals as goal

pub returns : goal.returns
returns c =
    let calls = c.map.ensures.items in
    mapped turned_place c.args.places c.map.result (of_kind None) (search rules) (λ i below. let call = calls.at i (of_kind None) (turned_place (of_kind None)) (search rules) in search rules)
