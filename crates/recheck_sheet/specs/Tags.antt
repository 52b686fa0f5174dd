-- SCOPE 5.2: the tags by their bytes, and how many bytes the body of each may have.
use Rattle.std.specs.Prelude.{ℕ, ◌+◌, Bool, ◌&&◌, List, length, Option, Some, None, Result, Ok, Err, if◌then◌else◌, ◌==◌}
use Rattle.recheck_bytes.specs.Bytes.{byte_at, pair_at}
use Rattle.recheck_names.specs.Names.{is_name_length}
use Rattle.recheck_sheet.specs.declared.tag.Tag.{Tag}
use Rattle.recheck_sheet.specs.declared.tag.Tag.TheVariants.{Restart, Fill, Effects, Empty, Capacities, Extremes, Utilisation, Ice, Straining, Name}
use Rattle.recheck_sheet.specs.declared.tag.UnknownTag.{UnknownTag}

abbrev pub tag_of : ℕ → Result Tag UnknownTag
tag_of code =
    if code == 1 then Ok Restart
    else if code == 2 then Ok Fill
    else if code == 3 then Ok Effects
    else if code == 4 then Ok Empty
    else if code == 5 then Ok Capacities
    else if code == 6 then Ok Extremes
    else if code == 7 then Ok Utilisation
    else if code == 8 then Ok Ice
    else if code == 9 then Ok Straining
    else if code == 96 then Ok Name
    else Err (record { 0 = code })

abbrev pub takes : Tag → ℕ → Bool
takes Restart length = length == 3
takes Fill length = length == 2
takes Effects length = length == 8
takes Empty length = length == 1
takes Capacities length = length == 7
takes Extremes length = length == 2
takes Utilisation length = length == 1
takes Ice length = length == 1
takes Straining length = length == 2
takes Name length = is_name_length length

-- SCOPE 5.1: the tag of a field that ends where its header says, with a body of a length that the tag takes
abbrev pub tag_where : Result Tag UnknownTag → List ℕ → Option Tag
tag_where (Ok tag) field = if takes tag (pair_at field 1) && (length field == 3 + pair_at field 1) then Some tag else None
tag_where (Err unknown) field = None

abbrev pub whole_tag : List ℕ → Option Tag
whole_tag field = tag_where (tag_of (byte_at field 0)) field
