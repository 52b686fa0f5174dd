-- What is answered is written and the sheet after it is saved, unless a refusal is due.
use Rattle.std.proofs.Common.{◌≡◌, ◌∙◌, ℕ, ap, refl, Result, Ok, Err}
use borrow.Author.Tests.{lt-ltb, le-ltb}
use Rattle.std.specs.Result.{result_unwrap_or}
use Rattle.refusals.specs.declared.Refusal.{Refusal}
use Rattle.frames_c.specs.Calls.{count_of}
use Rattle.frames_c.proofs.Calls.{small_place, run_done, run_refused}
use Rattle.frames_c.proofs.frames_run.Goals as goal

or_0 : (r : Result ℕ Refusal) → result_unwrap_or r 0 ≡ count_of r
or_0 (Ok n) = refl
or_0 (Err refusal) = refl

pub returns-then-saved-lt-PLACE_ROOM : goal.returns-then-saved-lt-PLACE_ROOM
returns-then-saved-lt-PLACE_ROOM c =
    let a = c.args in
    rw (c.from-then-saved-lt-PLACE_ROOM.ensures, c.from.ensures) (small_place a.state.now a.input.now a.output.now a.saved.now (lt-ltb _ _ c.if-saved-lt-PLACE_ROOM.true))

pub returns-in-Ok : goal.returns-in-Ok
returns-in-Ok c =
    let a = c.args in
    let s = c.save_in.ensures in
    run_done a.state.now a.input.now a.output.now a.saved.now (le-ltb _ _ c.if-saved-lt-PLACE_ROOM.false) c.in-Ok.ensures
    (c.unwrap_or.ensures ∙ (or_0 c.save_in.result ∙ ap count_of s.0)) s.1

pub returns-in-Err : goal.returns-in-Err
returns-in-Err c =
    let a = c.args in
    rw c.from-in-Err.ensures (run_refused a.state.now a.input.now a.output.now a.saved.now (le-ltb _ _ c.if-saved-lt-PLACE_ROOM.false) c.in-Err.ensures)
