-- How far a preparation has come. No public clause cites this file.
use Rattle.std.specs.Prelude.{◌≡◌, ◌≢◌, ◌<◌, ◌≤◌, ◌-◌, ⊤, ℕ, suc, All, Bool, true, false, map, length, slice_index_or, List, Option, Some, None, Result, Ok, Err}
use Rattle.dz_algebra.specs.Polynomial.{Polynomial}
use Rattle.dz_rank.specs.Rankings.{RankingValue}
use Rattle.dz_rank.specs.declared.symbols.Symbol.{Symbol}
use Rattle.dz_terms.specs.Entries.{IsEntry}
use Rattle.dz_terms.specs.Entries.{EntryValue}
use Rattle.dz_diff.specs.Operations.{setting_of}
use Rattle.dz_diff.specs.State.{State}
use Rattle.dz_step.specs.declared.Step.{Step}
use Rattle.dz_step.specs.declared.attempts.AttemptStop.{AttemptStop}
use Rattle.dz_step.specs.declared.attempts.AttemptStop.TheVariants.{Memory, Wide, Large, Spent}
use Rattle.dz_ask.specs.Attempts.{IsStopOf, Names}
use Rattle.dz_algebra.specs.Size.{wide, large}
use Rattle.dz_step.specs.Step.{Stop, refused}
use Rattle.dz_step.specs.declared.stepping.StepStop.{StepStop}
use Rattle.dz_step.specs.declared.stepping.StepStop.TheVariants as stops
use Rattle.dz_ask.specs.Preparation.{Prepared, Term}
use Rattle.dz_ask.specs.Turns.{coefficient_terms, finished, next_turn, preparation, preparation_from}
use Rattle.dz_ask.specs.Working.{AreEntries, terms_in, turn_by}
use Rattle.dz_ask.specs.declared.preparing.TurnStop.{TurnStop}
use Rattle.dz_ask.specs.declared.preparing.Working.{Working}
use Rattle.dz_ask.specs.declared.working.WorkingTerm.{WorkingTerm}

-- the polynomials of entries
abbrev pub polynomials_of : List EntryValue → List (Polynomial Symbol)
polynomials_of es = map (λ (e : EntryValue). e.terms) es

-- each is an entry
abbrev pub AreFactors : RankingValue → List EntryValue → Type 0
AreFactors r es = All (λ (e : EntryValue). IsEntry r e) es

-- the factors and the terms so far
abbrev pub working_in : Working → Prepared
working_in w = record { factors = polynomials_of w.factors.items; terms = terms_in w.terms.items }

-- each polynomial is an entry
pub record AreWorking (r : RankingValue) (w : Working) : Type 0 where
  pub factors : AreFactors r w.factors.items
  pub terms : AreEntries r w.terms.items

-- a preparation of f has come so far, with rounds enough for what is left of its budget
abbrev pub IsAt : RankingValue → State → ℕ → Polynomial Symbol → Working → Type 0
IsAt r s budget f w =
    (k : ℕ) × (w.left ≤ k) × (w.left ≤ budget) × (preparation (setting_of r) s budget f ≡ preparation_from (setting_of r) s budget (suc k) (working_in w) (budget - w.left))

-- the next turn is at this term, with this step, and stops the preparation
pub record IsTurnStop (r : RankingValue) (s : State) (budget : ℕ) (f : Polynomial Symbol) (w : Working) (stop : TurnStop) : Type 0 where
  pub term : WorkingTerm
  pub step : Step
  pub inside : stop.index < length w.terms.items
  pub is_there : term ≡ slice_index_or w.terms.items stop.index term
  pub next : next_turn (setting_of r) s (terms_in w.terms.items) ≡ Some (turn_by w.terms.items stop.index term step)
  pub names : Names stop.stop step
  pub stops : IsStopOf (preparation (setting_of r) s budget f) (working_in w) stop.stop

-- a stop that is no want of memory is at one of the terms
abbrev pub IsInside : Working → TurnStop → Type 0
IsInside w stop = stop.stop ≢ Memory → stop.index < length w.terms.items

-- want of memory says nothing
abbrev pub IsHalt : RankingValue → State → ℕ → Polynomial Symbol → Working → TurnStop → AttemptStop → Type 0
IsHalt r s budget f w stop Memory = ⊤
IsHalt r s budget f w stop (Wide step) = IsTurnStop r s budget f w stop
IsHalt r s budget f w stop (Large limit step) = IsTurnStop r s budget f w stop
IsHalt r s budget f w stop (Spent step) = IsTurnStop r s budget f w stop

-- it made a turn, is at its end, or stopped
abbrev pub IsAdvance : RankingValue → State → ℕ → Polynomial Symbol → Working → Result Bool TurnStop → Type 0
IsAdvance r s budget f new (Ok true) = IsAt r s budget f new
IsAdvance r s budget f new (Ok false) = preparation (setting_of r) s budget f ≡ finished (working_in new)
IsAdvance r s budget f new (Err stop) = IsHalt r s budget f new stop stop.stop

-- the turns came to their end, or stopped
abbrev pub IsOutcome : RankingValue → State → ℕ → Polynomial Symbol → Working → Option TurnStop → Type 0
IsOutcome r s budget f w None = preparation (setting_of r) s budget f ≡ finished (working_in w)
IsOutcome r s budget f w (Some stop) = IsHalt r s budget f w stop stop.stop

-- ---- one turn
-- why a step has no result, as the stop of its turn
abbrev pub attempt_stop : Step → StepStop → AttemptStop
attempt_stop step stops.Memory = Memory
attempt_stop step stops.Wide = Wide step
attempt_stop step (stops.Large limit) = Large limit step
attempt_stop step stops.NotStep = Memory

-- a turn is refused, or passes what is left of the budget; memory may run out
abbrev pub IsTurnFault : ℕ → Step → Result (Polynomial Symbol × List Term) Stop → AttemptStop → Type 0
IsTurnFault left step answer Memory = ⊤
IsTurnFault left step answer (Wide st) = (st ≡ step) × (answer ≡ Err (refused wide))
IsTurnFault left step answer (Large limit st) = (st ≡ step) × (answer ≡ Err (refused (large limit)))
IsTurnFault left step answer (Spent st) = (st ≡ step) × ((y : Polynomial Symbol × List Term) × (answer ≡ Ok y) × (left ≤ coefficient_terms y.1))
