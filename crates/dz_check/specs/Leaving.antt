-- What calls tell of entries: what one leaves below its state. No public clause cites this file.
use Rattle.std.specs.Prelude.{◌≡◌, ⊤, ℕ, Bool, true, false, List, [], ◌∷◌, Result, Ok}
use Rattle.dz_poly.specs.Books.{BookValue}
use Rattle.dz_monomials.specs.Ranked.{symbols_under}
use Rattle.dz_monomials.specs.Lists.{AllOf}
use Rattle.dz_diff.specs.State.{State}
use Rattle.dz_diff.specs.States.{IsStateOf}
use Rattle.dz_move.specs.declared.Rule.{Rule}
use Rattle.dz_check.specs.declared.entering.Outcome.{Outcome}
use Rattle.dz_check.specs.declared.entering.Left.{Left}
use Rattle.dz_check.specs.declared.entering.Left.TheVariants as kinds
use Rattle.dz_move.specs.Actions.{ReachedStand, reached_in}
use Rattle.dz_move.specs.Lines.{Line, spent, spent_pairs, open_wide, open_separant, open_large}
use Rattle.dz_check.specs.Walk.{Below, End}

-- the states that are left
abbrev pub states_left : BookValue → Left → List State
states_left book kinds.Nothing = []
states_left book kinds.End = []
states_left book (kinds.States after) = reached_in book after

-- the ends that are left by this line at a state
abbrev pub ends_left : Line → State → Left → List End
ends_left line s kinds.Nothing = []
ends_left line s kinds.End = record { line = line; state = s } ∷ []
ends_left line s (kinds.States after) = []

-- the polynomials of the states that are left stand in the book
abbrev pub LeftStand : BookValue → Left → Type 0
LeftStand book kinds.Nothing = ⊤
LeftStand book kinds.End = ⊤
LeftStand book (kinds.States after) = ReachedStand book after

-- what an entry with this line left below a state, as the definition has it
abbrev pub below_in : BookValue → Line → State → Outcome → Below
below_in book line s x = record { states = states_left book x.left; ends = ends_left line s x.left; weight = x.weight }

-- the answer is what an entry left, and its states stand in the book and have the facts of a state
pub record Leaves (book : BookValue) (line : Line) (s : State) (x : Outcome) (answer : Result Below (ℕ × Rule)) : Type 0 where
  pub is : answer ≡ Ok (below_in book line s x)
  pub stand : LeftStand book x.left
  pub facts : AllOf (IsStateOf (symbols_under book.ranking)) (states_left book x.left)

-- the line is an open end
abbrev pub is_open_line : Line → Bool
is_open_line (spent action) = true
is_open_line spent_pairs = true
is_open_line (open_wide action) = true
is_open_line (open_separant i) = true
is_open_line (open_large limit action) = true
is_open_line line = false
