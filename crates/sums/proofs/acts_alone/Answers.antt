-- The kinds of groups are those from 6 to 13; a number that no kind has is of no group.
use Rattle.std.proofs.Common.{ℕ, ◌≤◌, ◌≡◌, true, false, refl, sym, ap, arith}
use lib.ListN.{get_or-eq_default}
use Rattle.integers.proofs.Sums.{ltb_cases}
use Rattle.standard.specs.declared.Class.TheVariants.{Unknown}
use Rattle.standard.specs.Kinds.{classes, class_of, kind_count}
use Rattle.standard.proofs.Table.{same_at}
use Rattle.sums.specs.Sums.{alone}
use Rattle.sums.proofs.acts_alone.Goals as goal

past_groups : (k : ℕ) → 14 ≤ k → false ≡ alone (class_of k)
unfolding class_of
past_groups k h =
    ltb_cases k kind_count (λ _. false ≡ alone (class_of k))
    (λ l. same_at (λ j. false) (λ j. alone (class_of j)) 14 1 k refl h (omega arith))
    (λ l. sym (ap alone (get_or-eq_default classes Unknown {n = k} (omega arith))))

pub returns-in-6-to-13 : goal.returns-in-6-to-13
unfolding class_of
returns-in-6-to-13 c = same_at (λ j. true) (λ j. alone (class_of j)) 6 8 c.args.kind refl (omega arith) (omega arith)

pub returns-in_default : goal.returns-in_default
unfolding class_of
returns-in_default c = same_at (λ j. false) (λ j. alone (class_of j)) 0 6 c.args.kind refl (omega arith) (omega arith)

pub returns-in_default-2 : goal.returns-in_default-2
returns-in_default-2 c = past_groups c.args.kind (omega arith)
