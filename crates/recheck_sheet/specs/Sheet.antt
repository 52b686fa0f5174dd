-- SCOPE 5.2: what becomes of the working sheet under tags 01 to 05, 08 and 09. Case and station are taken within 32 and 16.
use Rattle.std.specs.Prelude.{ℕ, ◌+◌, ◌%◌, List, Option, None, Some, Result, Ok, Err, if◌then◌else◌, ◌==◌, replicate, set, slice_index_or}
use Rattle.recheck_bytes.specs.Bytes.{byte_at, pair_at}
use Rattle.recheck_sheet.specs.declared.Triple.{Triple}
use Rattle.recheck_sheet.specs.declared.Place.{Place}
use Rattle.recheck_sheet.specs.declared.WorkingSheet.{WorkingSheet}
use Rattle.recheck_sheet.specs.declared.tag.Tag.{Tag}
use Rattle.recheck_sheet.specs.declared.tag.Tag.TheVariants.{Restart, Fill, Effects, Empty, Capacities, Extremes, Utilisation, Ice, Straining, Name}
use Rattle.recheck_sheet.specs.declared.tag.UnknownTag.{UnknownTag}

abbrev pub no_effect : Triple
no_effect = record { n = 0; my = 0; mz = 0 }

-- SCOPE 2.4: the number of a component, 0 for N, 1 for My, and else Mz
abbrev pub component_of : Triple → ℕ → ℕ
component_of t component = if component == 0 then t.n else if component == 1 then t.my else t.mz

-- a place of this kind with no effect at any station
abbrev pub of_kind : Option ℕ → Place
of_kind kind = record { kind = kind; effects = replicate 16 no_effect }

-- the kind that a byte gives a place: none is 0, as kinds are numbered from 1 on (SCOPE 2.3)
abbrev pub kind_in : ℕ → Option ℕ
kind_in byte = if byte == 0 then None else Some byte

-- the capacities that three numbers give a station: none where the first is 0, as capacities are 1 or more (SCOPE 2.5)
abbrev pub capacities_in : Triple → Option Triple
capacities_in t = if t.n == 0 then None else Some t

unfoldable pub blank_of : ℕ → ℕ → ℕ → WorkingSheet
blank_of method live zone = record { options = record { method = method; live = live; zone = zone; ice = 0; straining = 1000 }; places = replicate 32 (of_kind None); capacities = replicate 16 None }

unfoldable pub with_kind : WorkingSheet → ℕ → Option ℕ → WorkingSheet
with_kind w case kind = record w { places = set w.places (case % 32) (of_kind kind) }

-- the three numbers from a position on
abbrev pub triple_at : List ℕ → ℕ → Triple
triple_at f at = record { n = pair_at f at; my = pair_at f (at + 2); mz = pair_at f (at + 4) }

-- the place with these effects at a station
abbrev pub with_triple : Place → ℕ → Triple → Place
with_triple p station t = record p { effects = set p.effects station t }

unfoldable pub with_effects : WorkingSheet → List ℕ → WorkingSheet
with_effects w f = let case = byte_at f 3 % 32 in record w { places = set w.places case (with_triple (slice_index_or w.places case (of_kind None)) (byte_at f 4 % 16) (triple_at f 5)) }

unfoldable pub with_capacities : WorkingSheet → List ℕ → WorkingSheet
with_capacities w f = record w { capacities = set w.capacities (byte_at f 3 % 16) (capacities_in (triple_at f 4)) }

-- by the field's tag
abbrev pub changed_by : Result Tag UnknownTag → WorkingSheet → List ℕ → WorkingSheet
changed_by (Ok Restart) w f = blank_of (byte_at f 3) (byte_at f 4) (byte_at f 5)
changed_by (Ok Fill) w f = with_kind w (byte_at f 3) (kind_in (byte_at f 4))
changed_by (Ok Effects) w f = with_effects w f
changed_by (Ok Empty) w f = with_kind w (byte_at f 3) None
changed_by (Ok Capacities) w f = with_capacities w f
changed_by (Ok Ice) w f = record w { options = record (w.options) { ice = byte_at f 3 } }
changed_by (Ok Straining) w f = record w { options = record (w.options) { straining = pair_at f 3 } }
changed_by (Ok Extremes) w f = w
changed_by (Ok Utilisation) w f = w
changed_by (Ok Name) w f = w
changed_by (Err unknown) w f = w
