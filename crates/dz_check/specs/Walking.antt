-- Where a walk over the lines of a tree stands. No public clause cites this file.
use Rattle.std.specs.Prelude.{◌≡◌, ◌≤◌, ◌⊎◌, ℕ, ◌+◌, Bool, true, not, ◌&&◌, cond, List, [], ◌∷◌, length, Option, Some, None, Result, Ok, Err}
use Rattle.dz_poly.specs.Books.{BookValue}
use Rattle.dz_diff.specs.Operations.{Setting}
use Rattle.dz_move.specs.declared.Rule.{Rule as TreeRule}
use Rattle.dz_move.specs.declared.drafts.Reached.TheVariants as reached
use Rattle.dz_check.specs.declared.entering.Left.{Left}
use Rattle.dz_check.specs.declared.entering.Left.TheVariants as kinds
use Rattle.dz_tree.specs.declared.entry_fault.EntryFault.{EntryFault}
use Rattle.dz_tree.specs.declared.entry_fault.EntryFault.TheVariants as faults
use Rattle.dz_tree.specs.declared.forming.Expected.{Expected}
use Rattle.dz_tree.specs.Counting.{form_trees}
use Rattle.dz_move.specs.Lines.{Line, grouped}
use Rattle.dz_check.specs.Pending.{PendingValue, StackedIn, pending_states}
use Rattle.dz_check.specs.Walk.{End, Verdict, accepted, partial, rejected, all_chains, walk}

-- what is told of a tree by the answer for its lines from some line on; an end before them may be open
abbrev pub judged_after : Bool → Result (List End) (ℕ × TreeRule) → Verdict
judged_after is_open (Ok ends) = cond (not is_open && all_chains ends) accepted partial
judged_after is_open (Err r) = rejected r.0 r.1

-- what is told of a tree where a walk has come to some lines, the first of which has this number
abbrev pub verdict_from : Setting → ℕ → ℕ → Bool → ℕ → BookValue → List PendingValue → List Line → Verdict
verdict_from g budget weight is_open place book stack lines =
    judged_after is_open (walk g budget weight (place + length (grouped lines).0) (pending_states book stack) (grouped lines).1)

-- The stack of a walk stands in the book, the running weight is within the budget, and the lines that are left form as many
-- trees as states are pending.
pub record IsWalking (base book : BookValue) (budget weight : ℕ) (stack : List PendingValue) (lines : List Line) : Type 0 where
  pub within : weight ≤ budget
  pub stacked : StackedIn base book stack
  pub next : Expected
  pub formed : form_trees (length stack) next lines ≡ true

-- the states that are left, with a mark
abbrev pub pending_left : ℕ → Left → List PendingValue
pending_left mark kinds.Nothing = []
pending_left mark kinds.End = []
pending_left mark (kinds.States (reached.One s)) = record { state = s; mark = mark } ∷ []
pending_left mark (kinds.States (reached.Two s t)) = record { state = s; mark = mark } ∷ record { state = t; mark = mark } ∷ []

-- the number of the line of a fault in its entry
abbrev pub line_in : EntryFault → ℕ
line_in faults.Memory = 0
line_in (faults.Rule n r) = n

-- what a fault tells of a tree, where the entry's own line has this number
abbrev pub rejection : ℕ → EntryFault → Option Verdict
rejection place faults.Memory = None
rejection place (faults.Rule n r) = Some (rejected (place + n) r)

-- a fault tells this of a tree; want of memory may come instead
abbrev pub IsRejection : ℕ → EntryFault → Verdict → Type 0
IsRejection place fault v = (fault ≡ faults.Memory) ⊎ (rejection place fault ≡ Some v)
