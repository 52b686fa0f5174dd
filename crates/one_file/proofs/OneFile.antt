-- One file for the service and the drawing office.
-- Assumes nothing.
use borrow.Author.Tests.{eqb-true}
use lib.Dec.{eqb}
use Rattle.headers.specs.Headers.{tag_of, name_number}
use Rattle.drawing.proofs.Names.{and_true}
use Rattle.one_file.specs.OneFile.{is_name, PicksNames, OneFileForBoth}
use Rattle.one_file.proofs.Bytes.{same_without}
use Rattle.one_file.proofs.Gone.{names_gone}

-- a name has tag 60
name_picked : PicksNames is_name
name_picked field e = eqb-true (tag_of field) name_number (and_true (eqb (tag_of field) name_number) _ e).0

pub one_file_for_both : OneFileForBoth
one_file_for_both file =
    record {
      service = same_without is_name name_picked file;
      drawing_office = names_gone file;
      any_names = λ picks only. same_without picks only file;
    }
