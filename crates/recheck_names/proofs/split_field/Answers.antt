-- Where a field is whole its last byte is there.
use Rattle.std.proofs.Common.{sym, ◌∙◌, arith}
use Rattle.recheck_names.proofs.Walk.{whole_in, after_whole}
use Rattle.recheck_names.proofs.split_field.Goals as goal

pub split_at-requires : goal.split_at-requires
split_at-requires c =
    let h = whole_in c.args.here.now 0 (sym c.is_whole.ensures ∙ c.if-is_whole.true) in
    let e = c.from.ensures ∙ c.body.ensures in
    omega arith

pub returns-then-is_whole : goal.returns-then-is_whole
returns-then-is_whole c =
    let here = c.args.here.now in
    let whole = sym c.is_whole.ensures ∙ c.if-is_whole.true in
    let h = whole_in here 0 whole in
    let e = c.from.ensures ∙ c.body.ensures in
    let after = after_whole here 0 whole in
    let parts = c.split_at.ensures in
    record {
      whole = whole;
      field_is = rw (after, ← e) parts.front;
      rest_is = rw (after, ← e) parts.back;
      size = let f = parts.front_len in let b = parts.back_len in omega arith;
      some = let f = parts.front_len in omega arith;
    }
