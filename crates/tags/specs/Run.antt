-- A field of known tag and right length.
use Rattle.std.specs.Prelude.{ℕ, List, cond, eqb}
use Rattle.refusals.specs.Refusals.{first_due}
use Rattle.sheet.specs.declared.Sheet.{Sheet}
use Rattle.sheet.specs.declared.Answered.{Answered}
use Rattle.sheet.specs.Looks.{unless_due}
use Rattle.tags.specs.Tags.{Tag, tag_at}

-- the first of the tag's refusals that is due, or else its answer and the sheet after it
abbrev pub ran_by : Tag → Sheet → List ℕ → Answered
ran_by t s b =
    record {
      answer = unless_due (first_due (t.refusals s b)) (t.answer s b);
      sheet = cond (eqb (first_due (t.refusals s b)) 0) (t.after s b) s;
    }

unfoldable pub run_of : Sheet → ℕ → List ℕ → Answered
run_of s tag b = ran_by (tag_at tag) s b
