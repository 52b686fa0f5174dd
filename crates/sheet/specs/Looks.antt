-- SCOPE 5.2: tags 06 and 07 answer the extremes and the utilisation, and change nothing.
use Rattle.std.specs.Prelude.{ℕ, List, cond, ◌≡◌, eqb, ℤ, Result, Ok, Err}
use Rattle.standard.specs.declared.Capacities.{Capacities}
use Rattle.envelope.specs.declared.Extremes as extremes
use Rattle.envelope.specs.declared.Utilised.{Utilised}
use Rattle.envelope.specs.Range.{effect_of}
use Rattle.envelope.specs.Envelope.{extremes_of, utilised_of}
use Rattle.station.specs.Promises.{ExtremesGovern, UtilisationGoverns}
use Rattle.refusals.specs.declared.Refusal.{Refusal}
use Rattle.refusals.specs.Numbers.{number}
use Rattle.refusals.specs.Refusals.{due_extremes, due_utilisation_at}
use Rattle.effects.specs.Effects.{station_in}
use Rattle.sheet.specs.declared.Sheet.{Sheet}
use Rattle.sheet.specs.declared.Answer.{Answer}
use Rattle.sheet.specs.declared.Answer.TheVariants as answer
use Rattle.sheet.specs.declared.Answered.{Answered}
use Rattle.sheet.specs.Sheet.{kind_at, effect_at, capacity_at}
use Rattle.sheet.specs.Edits.{Edited}

-- the effects of a station, three of each case
unfoldable pub station_effects : Sheet → ℕ → List ℤ
station_effects s station = station_in s.effects station

unfoldable pub capacities_at : Sheet → ℕ → Capacities
capacities_at s station = record { n = capacity_at s station 0; y = capacity_at s station 1; z = capacity_at s station 2 }

-- the extremes of a component at a station, and the utilisation there (SCOPE 4.6)
unfoldable pub extremes_at : Sheet → ℕ → ℕ → extremes.Extremes
extremes_at s station j = extremes_of s.settings (kind_at s) (λ k. effect_of (station_effects s station) k j)

unfoldable pub utilisation_at : Sheet → ℕ → Utilised
utilisation_at s station = utilised_of s.settings (kind_at s) (effect_of (station_effects s station)) (capacities_at s station)

-- tag 07, whose refusals look at the station's capacities (SCOPE 7.2)
abbrev pub due_utilisation : Sheet → ℕ → ℕ
due_utilisation s station = due_utilisation_at (capacity_at s station 0) station

-- a refusal that is due, or the answer (SCOPE 7.2)
abbrev pub unless_due : ℕ → Answer → Answer
unless_due due a = cond (eqb due 0) a (answer.Refused due)

-- tags 06 and 07 (SCOPE 5.2)
unfoldable pub looked_extremes : Sheet → ℕ → ℕ → Answered
looked_extremes s station component = record { answer = unless_due (due_extremes station component) (answer.Extremes (extremes_at s station component)); sheet = s }

unfoldable pub looked_utilisation : Sheet → ℕ → Answered
looked_utilisation s station = record { answer = unless_due (due_utilisation s station) (answer.Utilisation (utilisation_at s station)); sheet = s }

-- what an edit answers: 0 is accepted (SCOPE 6.1, 7.2)
abbrev pub answer_of : ℕ → Answer
answer_of due = unless_due due answer.Accepted

-- what a field in place replies, as its answer: a refusal by its number (SCOPE 7.1)
abbrev pub as_answer : Result Answer Refusal → Answer
as_answer (Ok a) = a
as_answer (Err refusal) = answer.Refused (number refusal)

-- this answer with the sheet after it
abbrev pub answered : Result Answer Refusal → Sheet → Answered
answered replied s = record { answer = as_answer replied; sheet = s }

-- an edit's answer: accepted, or its refusal
abbrev pub edited : Edited → Answered
edited e = record { answer = answer_of e.refusal; sheet = e.sheet }

-- what a look promises in the standard's words, beside its equation: an answer that is no refusal governs (SCOPE 4.6)
pub record ExtremesPromised (s : Sheet) (station component : ℕ) (a : Answer) : Type 0 where
  pub govern : (x : extremes.Extremes) → a ≡ answer.Extremes x → ExtremesGovern s.settings (kind_at s) (λ k. effect_at s k station component) x

pub record UtilisationPromised (s : Sheet) (station : ℕ) (a : Answer) : Type 0 where
  pub governs : (x : Utilised) → a ≡ answer.Utilisation x →
      UtilisationGoverns s.settings (kind_at s) (λ k j. effect_at s k station j) (capacities_at s station) x
