-- What the calls answer that perform actions.
use Rattle.std.specs.Prelude.{◌≡◌, ◌⊎◌, ℕ, ◌-◌, ◌^◌, min, List, [], ◌∷◌, Option, Some, None, Result, Ok, Err}
use Rattle.dz_algebra.specs.Size.{wide, large}
use Rattle.dz_poly.specs.Books.{BookValue}
use Rattle.dz_monomials.specs.declared.PolyStop.{PolyStop}
use Rattle.dz_monomials.specs.declared.PolyStop.TheVariants as stops
use Rattle.dz_diff.specs.State.{State}
use Rattle.dz_diff.specs.States.{StateValue, StandsIn, state_in}
use Rattle.dz_step.specs.declared.replaying.ReplayFault.{ReplayFault}
use Rattle.dz_step.specs.declared.replaying.ReplayFault.TheVariants as replays
use Rattle.dz_move.specs.declared.Rule.TheVariants as rules
use Rattle.dz_move.specs.declared.fault.MoveFault.{MoveFault}
use Rattle.dz_move.specs.declared.fault.MoveFault.TheVariants.{Memory, Wide, Large, NotPermitted}
use Rattle.dz_move.specs.declared.fault.ActionStop.{ActionStop}
use Rattle.dz_move.specs.declared.drafts.Draft.{Draft}
use Rattle.dz_move.specs.declared.drafts.Drafts.{Drafts}
use Rattle.dz_move.specs.declared.drafts.Drafts.TheVariants as drafts
use Rattle.dz_move.specs.declared.drafts.Drafted.{Drafted}
use Rattle.dz_move.specs.declared.drafts.Reached.{Reached}
use Rattle.dz_move.specs.declared.drafts.Reached.TheVariants as reached
use Rattle.dz_move.specs.declared.drafts.Performed.{Performed}
use Rattle.dz_move.specs.Fault.{Fault, refusal, rule}
use Rattle.dz_move.specs.Moves.{Done, settled}

-- ---- faults
-- a fault as that of a call
abbrev pub move_fault : Fault → MoveFault
move_fault (refusal wide) = Wide
move_fault (refusal (large limit)) = Large limit
move_fault (rule r) = NotPermitted r

-- why an answer is none, as the fault of a call
abbrev pub fault_in : {A : Type 0} → Result A (ℕ × Fault) → Option MoveFault
fault_in (Ok x) = None
fault_in (Err e) = Some (move_fault e.1)

-- a fault is the one that the definition answers; want of memory may come instead
abbrev pub IsMoveFault : {A : Type 0} → MoveFault → Result A (ℕ × Fault) → Type 0
IsMoveFault fault answer = (fault ≡ Memory) ⊎ (fault_in answer ≡ Some fault)

-- a result has the states that the definition answers, by a view of it, or a fault
abbrev pub GivesStates : {X : Type 0} → (X → List State) → Result X MoveFault → Result Done (ℕ × Fault) → Type 0
GivesStates view (Ok x) (Ok d) = view x ≡ d.after
GivesStates view (Ok x) (Err e) = ⊥
GivesStates view (Err fault) answer = IsMoveFault fault answer

-- ---- with the number of steps before
-- why an answer is none, with the number of steps
abbrev pub stop_in : {A : Type 0} → Result A (ℕ × Fault) → Option ActionStop
stop_in (Ok x) = None
stop_in (Err e) = Some (record { steps = e.0; fault = move_fault e.1 })

-- a stop is the one that the definition answers; want of memory may come instead
abbrev pub IsActionStop : {A : Type 0} → ActionStop → Result A (ℕ × Fault) → Type 0
IsActionStop stop answer = (stop.fault ≡ Memory) ⊎ (stop_in answer ≡ Some stop)

-- the stop of an operation before any step
abbrev pub operation_stop : PolyStop → ActionStop
operation_stop stops.Memory = record { steps = 0; fault = Memory }
operation_stop stops.Wide = record { steps = 0; fault = Wide }
operation_stop (stops.Large limit) = record { steps = 0; fault = Large limit }

-- the stop of a run
abbrev pub replay_stop : ReplayFault → ActionStop
replay_stop replays.Memory = record { steps = 0; fault = Memory }
replay_stop (replays.Wide n) = record { steps = n; fault = Wide }
replay_stop (replays.Large n limit) = record { steps = n; fault = Large limit }
replay_stop (replays.NotStep n) = record { steps = n; fault = NotPermitted rules.Step }

-- ---- drafts of states
-- a draft by the numbers of its polynomials
abbrev pub draft_value : Draft → StateValue
draft_value d = record { equations = (d.equations).items; inequations = (d.inequations).items; splits = d.splits }

-- the state of a draft
abbrev pub draft_in : BookValue → Draft → State
draft_in book d = state_in book (draft_value d)

-- the states of one draft or two
abbrev pub drafts_in : BookValue → Drafts → List State
drafts_in book (drafts.One d) = draft_in book d ∷ []
drafts_in book (drafts.Two d e) = draft_in book d ∷ draft_in book e ∷ []

-- their polynomials stand in the book
abbrev pub DraftsStand : BookValue → Drafts → Type 0
DraftsStand book (drafts.One d) = StandsIn book (draft_value d)
DraftsStand book (drafts.Two d e) = StandsIn book (draft_value d) × StandsIn book (draft_value e)

-- they are those of states, and stand in the book
pub record AreDrafts (book : BookValue) (x : Drafts) (states : List State) : Type 0 where
  pub are : drafts_in book x ≡ states
  pub stand : DraftsStand book x

-- a weight, up to the greatest number of a usize
abbrev pub IsWeight : ℕ → ℕ → Type 0
IsWeight w n = w ≡ min n (2 ^ 64 - 1)

-- an action leads to these drafts, if they are within the limits
pub record IsDrafted (book : BookValue) (x : Drafted) (answer : Result Done (ℕ × Fault)) : Type 0 where
  pub weight : ℕ
  pub is : answer ≡ settled x.steps (drafts_in book x.after) weight
  pub weighs : IsWeight x.weight weight
  pub stand : DraftsStand book x.after

-- ---- states
-- the states after a move or a fork
abbrev pub reached_in : BookValue → Reached → List State
reached_in book (reached.One s) = state_in book s ∷ []
reached_in book (reached.Two s t) = state_in book s ∷ state_in book t ∷ []

-- their polynomials stand in the book
abbrev pub ReachedStand : BookValue → Reached → Type 0
ReachedStand book (reached.One s) = StandsIn book s
ReachedStand book (reached.Two s t) = StandsIn book s × StandsIn book t

-- an action leads to these states
pub record IsPerformed (book : BookValue) (x : Performed) (answer : Result Done (ℕ × Fault)) : Type 0 where
  pub weight : ℕ
  pub is : answer ≡ Ok (record { after = reached_in book x.after; weight = weight })
  pub weighs : IsWeight x.weight weight
  pub stand : ReachedStand book x.after
