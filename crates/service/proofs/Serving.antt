-- The loop of the service: the turns so far, of which each goes on.
-- Assumes nothing.
use Prim.Native.Nat.{ℕ, suc, ◌+◌}
use mathlib.Core.Path.{◌≡◌}
use mathlib.Core.List.{List, [], ◌++◌}
use mathlib.Core.Bool.{Bool, true}
use native.Mathlib.Omega.{arith}
use Rattle.sheet.specs.declared.Sheet.{Sheet}
use Rattle.pieces.specs.Turns.{Turned, Turns, none, turn, Served}

pub record Serving (room : ℕ) (s₀ s : Sheet) (held : List ℕ) (more : Bool) (count : ℕ) : Type 0 where
  pub read : List ℕ
  pub out : List ℕ
  pub turns : Turns room s₀ count read out s held more

pub serving_start : (room : ℕ) (s : Sheet) → Serving room s s [] true 0
serving_start room s = record { read = []; out = []; turns = none }

module _ {room : ℕ} {s₀ s : Sheet} {held : List ℕ} {count : ℕ} where
  pub serving_next : Serving room s₀ s held true count → {out : List ℕ} {taken : ℕ} {s' : Sheet} {held' : List ℕ} {more : Bool} →
      Turned room s held out taken s' held' more → Serving room s₀ s' held' more (count + 1)
  serving_next h {out} x =
      let e : count + 1 ≡ suc count = omega arith in
      rw e (record { read = h.read ++ x.new; out = h.out ++ out; turns = turn h.turns x })

  pub served : {more : Bool} → Serving room s₀ s held more count → (more ≡ true → count ≡ 18446744073709551615) → Served room s₀ s held more
  served h u = record { count = count; read = h.read; out = h.out; turns = h.turns; used = u }
