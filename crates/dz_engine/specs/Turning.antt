-- How far a tree has come that is made. No public clause cites this file.
use Rattle.std.specs.Prelude.{◌≡◌, ⊤, ℕ, ◌+◌, ◌*◌, ◌≤◌, List, [], ◌∷◌, ◌++◌, length, map, Ok, Option, Some, None}
use Rattle.dz_poly.specs.Books.{BookValue}
use Rattle.dz_diff.specs.Operations.{Setting}
use Rattle.dz_diff.specs.State.{State}
use Rattle.dz_move.specs.declared.lines.Line.{Line as ProgramLine}
use Rattle.dz_move.specs.Lines.{Entry, Line, lines_of, lines_of_entry}
use Rattle.dz_check.specs.Pending.{PendingValue, StackedIn, cut, pending_states}
use Rattle.dz_move.specs.declared.drafts.Reached.{Reached}
use Rattle.dz_engine.specs.declared.facts.Facts.{Facts}
use Rattle.dz_engine.specs.Facts.{AreKnown}
use Rattle.dz_move.specs.TreeLines.{line_of}
use Rattle.dz_check.specs.Walk.{Below, entered}
use Rattle.dz_engine.specs.declared.decomposing.Pending.{Pending}
use Rattle.dz_engine.specs.declared.decomposing.Progress.{Progress}
use Rattle.dz_engine.specs.Order.{next_entry}
use Rattle.dz_engine.specs.Worked.{IsWorkedFrom}

-- ---- the stack of the program, whose top is last
-- a pending state
abbrev pub pending_value : Pending → PendingValue
pending_value p = record { state = p.state; mark = p.mark }

-- the pending states, the next first
abbrev pub stacked : List Pending → List PendingValue
stacked [] = []
stacked (p ∷ ps) = stacked ps ++ pending_value p ∷ []

-- these states stand on a stack, above those that it had, and below them the book is as it was
pub record ArePushed (book : BookValue) (old new : List Pending) (states : List State) : Type 0 where
  pub stand : (base : BookValue) → StackedIn base book (stacked old) → StackedIn base book (stacked new)
  pub are : pending_states book (stacked new) ≡ states ++ pending_states book (stacked old)
  pub count : length new ≡ length states + length old

-- the state on top was put there when the book was as it is now
abbrev pub IsTopOf : BookValue → List PendingValue → Type 0
IsTopOf book [] = ⊥
IsTopOf book (p ∷ ps) = p.mark ≡ length book.polynomials

abbrev pub IsTopNew : BookValue → List Pending → Type 0
IsTopNew book ps = IsTopOf book (stacked ps)

-- and so it is where an entry leaves a state
abbrev pub IsTopAfter : BookValue → Option Reached → List Pending → Type 0
IsTopAfter book None ps = ⊤
IsTopAfter book (Some reached) ps = IsTopNew book ps

-- what is found out is right as soon as the state on top is taken up
abbrev pub AreKnownBelow : BookValue → List PendingValue → List Facts → Type 0
AreKnownBelow book [] fs = ⊤
AreKnownBelow book (p ∷ ps) fs = AreKnown (cut p.mark book) fs

abbrev pub AreKnownOnTop : BookValue → List Pending → List Facts → Type 0
AreKnownOnTop book ps fs = AreKnownBelow book (stacked ps) fs

-- ---- a turn
-- at a state the entry that is named is written down, and the states below it stand on the stack
pub record IsTurn (g : Setting) (budget : ℕ) (s : State) (old_book new_book : BookValue) (old new : Progress) : Type 0 where
  pub below : Below
  pub holds : entered g budget old.weight s (next_entry g budget old.weight s).line (next_entry g budget old.weight s).evidence ≡ Ok below
  pub are : map line_of (new.lines).items ≡ map line_of (old.lines).items ++ lines_of_entry (next_entry g budget old.weight s)
  pub weighs : new.weight ≡ old.weight + below.weight
  pub low : new.weight ≤ budget
  pub few : length below.states ≤ 2 * below.weight
  pub count : length (new.pending).items ≡ length below.states + length (old.pending).items
  pub stand : (base : BookValue) → StackedIn base old_book (stacked (old.pending).items) → StackedIn base new_book (stacked (new.pending).items)
  pub states : (base : BookValue) → StackedIn base old_book (stacked (old.pending).items) → pending_states new_book (stacked (new.pending).items) ≡ below.states ++ pending_states old_book (stacked (old.pending).items)

-- ---- the tree so far
-- the lines are those of entries, which are worked if those of the pending states are
pub record HasCome (g : Setting) (budget : ℕ) (root : State) (lines : List Line) (w : ℕ) (pending : List State) : Type 0 where
  pub entries : List Entry
  pub are : lines ≡ lines_of entries
  pub goes_on : (es : List Entry) → IsWorkedFrom g budget w pending es → IsWorkedFrom g budget 0 (root ∷ []) (entries ++ es)

-- the lines are those of the worked entries
pub record AreWorkedLines (g : Setting) (budget : ℕ) (root : State) (lines : List ProgramLine) : Type 0 where
  pub entries : List Entry
  pub are : map line_of lines ≡ lines_of entries
  pub worked : IsWorkedFrom g budget 0 (root ∷ []) entries
