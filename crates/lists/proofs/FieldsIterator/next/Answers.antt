-- The bytes left are a field, and those after it have the others; no bytes have none.
use Rattle.std.proofs.Common.{rules, ◌≡◌, ◌≤◌, ◌<◌, ◌∷◌, length, ◌-◌, ap, take, drop}
use Rattle.headers.proofs.Whole.{consumed_within, part_from}
use Rattle.lists.specs.Lists.{fields_of}
use Rattle.lists.proofs.Left.{no_bytes, first_field}
use Rattle.lists.proofs.FieldsIterator.next.Goals.{After-consumed_by}
use Rattle.lists.proofs.FieldsIterator.next.Goals as goal

pub returns-then-is_empty-clause-steps : goal.returns-then-is_empty-clause-steps
returns-then-is_empty-clause-steps c =
    let none = no_bytes c.args.self.now.0.now (search rules) in
    (none, none)

within : (c : After-consumed_by) → c.consumed_by.result ≤ length c.args.self.now.0.now
within c = rw c.consumed_by.ensures (consumed_within c.args.self.now.0.now)

-- the fields left are the first and the others
others : (c : After-consumed_by) →
    fields_of c.args.self.now.0.now
    ≡ c.args.self.now.0.now ∷ fields_of (take (length c.args.self.now.0.now - c.consumed_by.result) (drop c.consumed_by.result c.args.self.now.0.now))
others c =
    let some : 0 < length c.args.self.now.0.now = search rules in
    rw (part_from, c.consumed_by.ensures) (first_field c.args.self.now.0.now some)

pub slice_bounds-self-count : goal.slice_bounds-self-count
slice_bounds-self-count c = within (goal.at.slice_bounds-self-count c).After-consumed_by

pub slice_bounds-self-start : goal.slice_bounds-self-start
slice_bounds-self-start c = within (goal.at.slice_bounds-self-start c).After-consumed_by

pub returns-clause-steps : goal.returns-clause-steps
returns-clause-steps c = others (goal.at.returns-clause-steps c).After-consumed_by

pub returns-clause-goes : goal.returns-clause-goes
returns-clause-goes c =
    let fewer = ap length (others (goal.at.returns-clause-goes c).After-consumed_by) in
    search (rules, fewer)
