-- The three parts are appended one after the other.
use Rattle.std.proofs.Common.{append_assoc}
use Rattle.sheet.specs.Sheet.{effect_at, capacity_at}
use Rattle.saved_fields.specs.Saved.{saved_by, saved_bytes}
use Rattle.saving.proofs.push_fields.Goals as goal

pub returns : goal.returns
unfolding saved_bytes saved_by effect_at capacity_at
returns c = rw (c.push_capacities.ensures, c.push_cases.ensures.bytes, c.push_settings.ensures.bytes, c.requires, append_assoc)
