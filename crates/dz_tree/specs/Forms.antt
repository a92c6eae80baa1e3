-- Lines that form one tree, each of which can be spelled (this project).
use Rattle.std.specs.Prelude.{◌≡◌, ◌≤◌, ℕ, nat_lt, nat_le, sum, Bool, true, false, not, ◌&&◌, List, [], ◌∷◌, ◌++◌}
use Rattle.std.specs.List.{list_all}
use Rattle.dz_rank.specs.declared.symbols.Operator.{Operator}
use Rattle.dz_rank.specs.declared.symbols.Symbol.{Symbol}
use Rattle.dz_rank.specs.declared.symbols.Symbol.TheVariants.{Independent, Derivative}
use Rattle.dz_step.specs.declared.Step.{Step}
use Rattle.dz_move.specs.Moves.{Action, reduce, weed, add, divide, split, factor, is_fork}
use Rattle.dz_move.specs.Lines.{Evidence, Line, act, closed, chain, pair, spent, spent_pairs, open_wide, open_separant, open_large, lines_of_entry}
use Rattle.dz_tree.specs.Trees.{Tree}

-- ---- lines that can be spelled, whatever the names are
-- places count from 1
abbrev pub is_place : ℕ → Bool
is_place i = nat_lt 0 i

-- at most 60 derivations are taken
abbrev pub is_spelled_operator : Operator → Bool
is_spelled_operator t = nat_le (sum t.counts) 60

-- there are at most four independents and sixteen dependents
abbrev pub is_spelled_symbol : Symbol → Bool
is_spelled_symbol (Independent i) = nat_lt i 4
is_spelled_symbol (Derivative u t) = nat_lt u 16 && is_spelled_operator t

-- a step
abbrev pub is_spelled_step : Step → Bool
is_spelled_step st = is_place st.place && is_spelled_operator st.operator

-- there is none
abbrev pub is_empty : {A : Type 0} → List A → Bool
is_empty [] = true
is_empty (x ∷ xs) = false

-- an action; a reduce and a weed have at least one step
abbrev pub is_spelled_action : Action → Bool
is_spelled_action (reduce i steps) = is_place i && (not (is_empty steps) && list_all is_spelled_step steps)
is_spelled_action (weed j steps) = is_place j && (not (is_empty steps) && list_all is_spelled_step steps)
is_spelled_action (add i j steps) = is_place i && (is_place j && list_all is_spelled_step steps)
is_spelled_action (divide i v) = is_place i && is_spelled_symbol v
is_spelled_action (split i which) = is_place i
is_spelled_action (factor i v) = is_place i && is_spelled_symbol v

-- the action adds the end of a run
abbrev pub is_add : Action → Bool
is_add (add i j steps) = true
is_add action = false

-- the action takes a symbol out
abbrev pub takes_out : Action → Bool
takes_out (divide i v) = true
takes_out (factor i v) = true
takes_out action = false

-- a line: an add is never named as spent, since several pairs are, and what takes a symbol out is never wide
abbrev pub is_spelled : Line → Bool
is_spelled (act action) = is_spelled_action action
is_spelled closed = true
is_spelled chain = true
is_spelled (pair e) = is_place e.first && (is_place e.second && list_all is_spelled_step e.steps)
is_spelled (spent action) = not (is_add action) && is_spelled_action action
is_spelled spent_pairs = true
is_spelled (open_wide action) = not (takes_out action) && is_spelled_action action
is_spelled (open_separant i) = is_place i
is_spelled (open_large limit action) = is_spelled_action action

-- ---- one tree
-- a tree: an end with the evidence after it, a move before a tree, or a fork before two
pub data Node : Type 0 where
  end : Line → List Evidence → Node
  move : Action → Node → Node
  fork : Action → Node → Node → Node

-- the lines of a tree in document order
abbrev pub lines_in : Node → List Line
lines_in (end line es) = lines_of_entry (record { line = line; evidence = es })
lines_in (move action t) = act action ∷ lines_in t
lines_in (fork action t u) = act action ∷ lines_in t ++ lines_in u

-- a line is an end that may have this evidence after it: a chain any, spent pairs some, and every other end none
abbrev pub is_end_with : List Evidence → Line → Bool
is_end_with es (act action) = false
is_end_with es (pair e) = false
is_end_with es chain = true
is_end_with es spent_pairs = not (is_empty es)
is_end_with es line = is_empty es

-- ends, moves and forks stand where they may
abbrev pub IsOrdered : Node → Type 0
IsOrdered (end line es) = is_end_with es line ≡ true
IsOrdered (move action t) = (is_fork action ≡ false) × IsOrdered t
IsOrdered (fork action t u) = (is_fork action ≡ true) × IsOrdered t × IsOrdered u

-- the lines are those of one tree, and each can be spelled
pub record FormTree (lines : List Line) : Type 0 where
  pub tree : Node
  pub ordered : IsOrdered tree
  pub are : lines_in tree ≡ lines
  pub spelled : list_all is_spelled lines ≡ true

-- a budget is at most 20,000,000, and its lines form one tree
pub record IsTree (t : Tree) : Type 0 where
  pub budget : t.budget ≤ 20000000
  pub lines : FormTree t.lines
