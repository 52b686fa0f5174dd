-- The greater of roof and snow joins what acts together, and then the groups of one kind each.
use Prim.Native.Nat.{ℕ, ◌+◌, ◌*◌, ◌<◌, ◌≤◌, ◌^◌, max}
use native.Mathlib.Omega.{arith}
use mathlib.Core.Path.{◌≡◌, ◌∙◌, ap, sym}
use lib.IntN.{ℤ, pos, negsuc, ◌+ℤ◌, ◌*ℤ◌, nat_abs}
use lib.Signed.{mag}
use mir.Syntax.{w64}
use mir.Val.{to_z, of_z, SFits}
use Rattle.std.specs.Int.{int_max}
use Rattle.integers.specs.Sums.{up, down}
use Rattle.integers.proofs.Machine.{read, small, back}
use Rattle.integers.proofs.Signs.{abs_parts, abs_add}
use Rattle.sums.proofs.Held.{greatest}
use Rattle.terms.specs.declared.Terms.{Terms}
use Rattle.terms.specs.Value.{factor_most, Gained, TermsInRange, own_of, singles_of, value_of}
use Rattle.terms.proofs.Scaled.{Total, nothing, joined, told}
use Rattle.terms.proofs.Row.value_of.Goals as goal

-- what acts together
own_told : {r z : ℤ} {m : ℕ} → mag r < 2 ^ 63 → r ≡ z → nat_abs r ≤ m → Total (to_z w64 (of_z w64 r)) m z
own_told h is small = told h (record { is = is; small = small })

-- a term that is not negative makes none that is
not_negative : {z : ℤ} (f : ℕ) (x : ℤ) → x ≡ pos (up x) → z ≡ pos 0 +ℤ pos f *ℤ x → z ≡ pos (up z)
not_negative f (pos n) h e = e ∙ ap (λ (y : ℤ). pos (up y)) (sym e)
not_negative f (negsuc n) h e = absurd (omega (arith, ap down h))

-- the greater of the terms of roof and snow
higher : {t : Terms} (range : TermsInRange t) {roof snow top : ℤ} {r s : ℕ} →
    mag roof < 2 ^ 63 → Gained roof (pos 0) r (to_z w64 (of_z w64 t.roof)) → mag snow < 2 ^ 63 → Gained snow (pos 0) s (to_z w64 (of_z w64 t.snow)) →
    mag top < 2 ^ 63 → top ≡ int_max (to_z w64 (of_z w64 roof)) (to_z w64 (of_z w64 snow)) →
    Total (to_z w64 (of_z w64 top)) (factor_most * (nat_abs t.roof + nat_abs t.snow)) (pos (max (up (pos 0 +ℤ pos r *ℤ t.roof)) (up (pos 0 +ℤ pos s *ℤ t.snow))))
higher {t} range {roof} {snow} {top} {r} fr g fs h ft e =
    let over = told fr (joined nothing t.roof (omega (arith, range.small)) g) in
    let under = told fs (joined nothing t.snow (omega (arith, range.small)) h) in
    let q : top ≡ pos (max (up (to_z w64 (of_z w64 roof))) (up (to_z w64 (of_z w64 snow)))) =
    e ∙ greatest (to_z w64 (of_z w64 roof)) (to_z w64 (of_z w64 snow)) (not_negative r t.roof range.roof_up over.is) in
    told ft (record {
      is = q ∙ (λ i. pos (max (up (over.is i)) (up (under.is i))));
      small = omega (
        arith,
        ap nat_abs q,
        abs_parts (to_z w64 (of_z w64 roof)),
        abs_parts (to_z w64 (of_z w64 snow)),
        over.small,
        under.small,
      );
    })

-- the sum of the two
module _ {a b u v : ℤ} {m n : ℕ} (x : Total a m u) (y : Total b n v) (h : m + n < 2 ^ 63) where
  both_fit : SFits w64 (a +ℤ b)
  both_fit = small (a +ℤ b) (omega (arith, abs_add a b, x.small, y.small))

  both : Total (to_z w64 (of_z w64 (a +ℤ b))) (m + n) (u +ℤ v)
  both = rw (back (a +ℤ b) (omega (arith, abs_add a b, x.small, y.small))) (record { is = λ i. x.is i +ℤ y.is i; small = omega (arith, abs_add a b, x.small, y.small) })

pub overflow_add-own : goal.overflow_add-own
overflow_add-own c =
    let own = own_told c.own_value-own.type_inv c.own_value-own.ensures.is c.own_value-own.ensures.small in
    let top = higher c.requires c.with_term-roof.type_inv c.with_term-roof.ensures c.with_term-snow.type_inv c.with_term-snow.ensures
    c.max.type_inv c.max.ensures.value in
    both_fit own top (omega (arith, c.requires.small))

pub with_singles-requires : goal.with_singles-requires
with_singles-requires c =
    let own = own_told c.own_value-own.type_inv c.own_value-own.ensures.is c.own_value-own.ensures.small in
    let top = higher c.requires c.with_term-roof.type_inv c.with_term-roof.ensures c.with_term-snow.type_inv c.with_term-snow.ensures
    c.max.type_inv c.max.ensures.value in
    omega (arith, (both own top (omega (arith, c.requires.small))).small, c.requires.small)

pub returns : goal.returns
unfolding value_of
returns c =
    let own = own_told c.own_value-own.type_inv c.own_value-own.ensures.is c.own_value-own.ensures.small in
    let top = higher c.requires c.with_term-roof.type_inv c.with_term-roof.ensures c.with_term-snow.type_inv c.with_term-snow.ensures
    c.max.type_inv c.max.ensures.value in
    let all = both own top (omega (arith, c.requires.small)) in
    let t = c.args.t in
    read c.with_singles.result c.with_singles.type_inv ∙ c.with_singles.ensures
    ∙ ap (λ (z : ℤ). singles_of c.args.self.settings c.args.self.number z t) all.is
    ∙ (λ i. singles_of c.args.self.settings c.args.self.number (own_of c.args.self.settings c.args.self.number t
    +ℤ pos (max (up (pos 0 +ℤ pos (c.factor.ensures.is i) *ℤ t.roof)) (up (pos 0 +ℤ pos (c.factor-2.ensures.is i) *ℤ t.snow)))) t)
