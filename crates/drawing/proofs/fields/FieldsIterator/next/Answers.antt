-- The header of a whole field says its tag and its length, and none says that the field is cut.
use Rattle.std.proofs.Common.{◌≡◌, Some, None, refl, ap, rules, sym, ◌+◌}
use Rattle.headers.proofs.Whole.{part_from}
use Rattle.drawing.proofs.Walk.{header_cut, header_whole}
use Rattle.drawing.proofs.fields.FieldsIterator.next.Goals as goal

pub returns-in_err-whole-clause-steps : goal.returns-in_err-whole-clause-steps
returns-in_err-whole-clause-steps c =
    let none : c.from_residual.result ≡ None = search rules in
    let cut : c.field_of.result ≡ None = search rules in
    let fields = c.args.self.now in
    let front = rw cut at c.field_of.ensures.field in
    rw none (record { here = header_cut fields.file.now fields.at (sym front) refl; file = refl; at = refl })

pub returns-clause-steps : goal.returns-clause-steps
returns-clause-steps c =
    let fields = c.args.self.now in
    let whole : c.field_of.result ≡ Some c.in_ok-whole.whole = search rules in
    let front = rw whole at c.field_of.ensures.field in
    let w = header_whole fields.file.now fields.at _ (sym front.0) refl in
    record {
      here = record {
        whole = w.uncut;
        begins = refl;
        tag_is = w.tag_of_lem;
        length_is = w.length_in_lem;
        body_is = rw (sym w.length_in_lem) (rw (part_from fields.file.now fields.at) at front.1);
        ends = ap (λ n. fields.at + (3 + n)) w.length_in_lem;
        fits = w.fits;
      };
      file = refl;
      at = refl;
    }
