-- Each turn goes on from the sheet and the bytes that the one before left.
use Rattle.std.proofs.Common.{rules, arith, refl, ◌≡◌, ℕ, ◌∙◌, ap}
use Rattle.sheet.specs.Sheet.{fresh}
use Rattle.sheet.proofs.Kept.{fresh_kept}
use Rattle.service.proofs.Serving.{serving_start, serving_next, served}
use Rattle.service.proofs.serve.Goals as goal

pub loop-init : goal.loop-init
loop-init g c =
    let e = c.fresh.ensures ∙ ap fresh c.fresh_settings.ensures in
    (rw e (serving_start _ _), refl, rw e fresh_kept, search rules, c.requires, search rules, search rules)

pub turn-s-requires : goal.turn-s-requires
turn-s-requires g c =
    let i = c.loop.invariant in
    (i.2, search rules, search rules)

pub returns-then-not-s : goal.returns-then-not-s
returns-then-not-s g c =
    let i = c.loop.invariant in
    let t = rw i.6 at c.turn-s.ensures.turned in
    served (serving_next (rw i.1 at i.0) t) (λ y. search rules)

pub loop-preserved : goal.loop-preserved
loop-preserved g c =
    let i = c.loop.invariant in
    let t = rw i.6 at c.turn-s.ensures.turned in
    (serving_next (rw i.1 at i.0) t, search rules, search rules, search rules, search rules, search rules, search rules)

pub returns : goal.returns
returns g c =
    let i = c.loop.invariant in
    served i.0 (λ y. search rules)
