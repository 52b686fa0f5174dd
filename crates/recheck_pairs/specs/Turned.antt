-- SCOPE 4.7: the working sheet with the sign of every effect turned: all places, stations and components. The rest is as it was.
use Rattle.std.specs.Prelude.{ℕ, ◌-◌, ◌%◌, map}
use Rattle.recheck_sheet.specs.declared.Triple.{Triple}
use Rattle.recheck_sheet.specs.declared.Place.{Place}
use Rattle.recheck_sheet.specs.declared.WorkingSheet.{WorkingSheet}

-- minus an effect, in 16 bits of two's complement
abbrev pub negated : ℕ → ℕ
negated effect = (65536 - effect) % 65536

abbrev pub turned_triple : Triple → Triple
turned_triple t = record { n = negated t.n; my = negated t.my; mz = negated t.mz }

unfoldable pub turned_place : Place → Place
turned_place p = record p { effects = map turned_triple p.effects }

unfoldable pub turned : WorkingSheet → WorkingSheet
turned w = record w { places = map turned_place w.places }
