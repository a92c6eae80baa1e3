-- The walks over a tree for the states of its chains. No public clause cites this file.
use Rattle.std.specs.Prelude.{◌≡◌, ℕ, cond, List, [], ◌∷◌, ◌++◌, All, map, length, Option, Some, None, Ok}
use Rattle.dz_poly.specs.Books.{BookValue, IsKept}
use Rattle.dz_monomials.specs.Ranked.{symbols_under}
use Rattle.dz_monomials.specs.Lists.{AllOf}
use Rattle.dz_diff.specs.Operations.{Setting}
use Rattle.dz_diff.specs.State.{State}
use Rattle.dz_diff.specs.States.{IsStateOf, StandsIn, StateValue, state_in}
use Rattle.dz_check.specs.declared.entering.Left.{Left}
use Rattle.dz_check.specs.Leaving.{LeftStand, states_left}
use Rattle.dz_move.specs.Lines.{Evidence, Line, grouped, is_chain_line}
use Rattle.dz_check.specs.Pending.{PendingValue, StackedIn, pending_states}
use Rattle.dz_check.specs.Walk.{Below, End, chains_of, entered, walk}

-- the entry of a line holds at a state, with some evidence and at some weight
pub record Holds (g : Setting) (s : State) (line : Line) : Type 0 where
  pub budget : ℕ
  pub weight : ℕ
  pub evidence : List Evidence
  pub below : Below
  pub is : entered g budget weight s line evidence ≡ Ok below

-- the states that such an entry leaves, which stand in the book and have the facts of a state
pub record LeavesAgain (book : BookValue) (g : Setting) (s : State) (line : Line) (left : Left) : Type 0 where
  pub same : (h : Holds g s line) → (h.below).states ≡ states_left book left
  pub stand : LeftStand book left
  pub facts : AllOf (IsStateOf (symbols_under book.ranking)) (states_left book left)

-- a pending state with another mark
abbrev pub marked : ℕ → PendingValue → PendingValue
marked mark p = record { state = p.state; mark = mark }

-- states stand in a book that keeps another, have the facts of a state, and are these
pub record AreCollected (base book : BookValue) (whole : List State) (taken : List StateValue) : Type 0 where
  pub keeps : IsKept base book
  pub stand : All (StandsIn book) taken
  pub facts : All (λ s. IsStateOf (symbols_under book.ranking) (state_in book s)) taken
  pub are : map (state_in book) taken ≡ whole

-- A walk that has taken some of the states of all chains stands at some lines. The book up to a mark, the floor, has the states
-- that were taken; those that are pending stand above it; and the lines come to their ends.
pub record IsCollecting (base : BookValue) (g : Setting) (whole : List State) (book : BookValue) (mark : ℕ) (stack : List PendingValue) (taken : List StateValue) (lines : List Line) : Type 0 where
  pub floor : BookValue
  pub is_mark : mark ≡ length floor.polynomials
  pub stacked : StackedIn floor book stack
  pub budget : ℕ
  pub weight : ℕ
  pub place : ℕ
  pub ends : List End
  pub is : walk g budget weight place (pending_states book stack) (grouped lines).1 ≡ Ok ends
  pub before : List State
  pub taken_are : AreCollected base floor before taken
  pub all_are : before ++ chains_of ends ≡ whole

-- so it stands, at some mark
pub record Collects (base : BookValue) (g : Setting) (whole : List State) (book : BookValue) (stack : List PendingValue) (taken : List StateValue) (lines : List Line) : Type 0 where
  pub mark : ℕ
  pub is : IsCollecting base g whole book mark stack taken lines

-- the state at a line, where this is a chain
abbrev pub chain_at : Line → StateValue → Option StateValue
chain_at line s = cond (is_chain_line line) (Some s) None

-- so a walk stands as soon as a chain, if there is one, is taken: its state with the others, and no mark is below what the book
-- has
abbrev pub CollectsOn : BookValue → Setting → List State → BookValue → List PendingValue → List StateValue → Option StateValue → List Line → Type 0
CollectsOn base g whole book stack taken None lines = Collects base g whole book stack taken lines
CollectsOn base g whole book stack taken (Some s) lines = Collects base g whole book (map (marked (length book.polynomials)) stack) (taken ++ s ∷ []) lines

-- the second stack stands in the book wherever the first one does, with the same states
pub record StandsFor (book : BookValue) (old new : List PendingValue) : Type 0 where
  pub stands : (base : BookValue) → StackedIn base book old → StackedIn base book new
  pub same : (base : BookValue) → StackedIn base book old → pending_states book new ≡ pending_states book old
  pub count : length new ≡ length old
