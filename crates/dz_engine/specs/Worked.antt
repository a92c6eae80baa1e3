-- Worked trees: each line is the one that the order of work names (this project).
use Rattle.std.specs.Prelude.{◌≡◌, ⊤, ℕ, zero, suc, ◌+◌, ◌*◌, List, [], ◌∷◌, ◌++◌, Ok, Err, MatchResult}
use Rattle.dz_diff.specs.Operations.{Setting}
use Rattle.dz_diff.specs.State.{State}
use Rattle.dz_move.specs.Root.{System, root_of}
use Rattle.dz_move.specs.Lines.{Line, Entry, entries_of, lines_of}
use Rattle.dz_tree.specs.Forms.{IsTree}
use Rattle.dz_tree.specs.Trees.{Tree}
use Rattle.dz_check.specs.Walk.{entered}
use Rattle.dz_engine.specs.Order.{next_entry}

-- each entry is the one that is named at its state and running weight, and holds there
abbrev pub IsWorkedFrom : Setting → ℕ → ℕ → List State → List Entry → Type 0
IsWorkedFrom g budget w [] [] = ⊤
IsWorkedFrom g budget w [] (e ∷ es) = ⊥
IsWorkedFrom g budget w (s ∷ pending) [] = ⊥
IsWorkedFrom g budget w (s ∷ pending) (e ∷ es) =
    (e ≡ next_entry g budget w s) × MatchResult (entered g budget w s e.line e.evidence) (λ b. IsWorkedFrom g budget (w + b.weight) (b.states ++ pending) es) (λ r. ⊥)

-- a tree is worked for a system and its budget: its lines form one tree, and each entry is the one that is named
pub record IsWorked (g : Setting) (system : System) (tree : Tree) : Type 0 where
  pub formed : IsTree tree
  pub named : IsWorkedFrom g tree.budget 0 (root_of g.symbols system ∷ []) (entries_of tree.lines)

-- the worked entries, computed in at most so many rounds
abbrev pub worked_from : Setting → ℕ → ℕ → ℕ → List State → List Entry
worked_from g budget zero w pending = []
worked_from g budget (suc n) w [] = []
worked_from g budget (suc n) w (s ∷ pending) =
    let e = next_entry g budget w s in
    elim (entered g budget w s e.line e.evidence) [
      | Ok b ↦ e ∷ worked_from g budget n (w + b.weight) (b.states ++ pending)
      | Err r ↦ e ∷ []
    ]

-- the lines of the worked tree of a system and a budget, computed in at most so many rounds
abbrev pub worked_lines : Setting → ℕ → ℕ → System → List Line
worked_lines g budget rounds system = lines_of (worked_from g budget rounds 0 (root_of g.symbols system ∷ []))

-- the worked tree of a system and a budget
abbrev pub worked_tree : Setting → ℕ → System → Tree
worked_tree g budget system = record { budget = budget; lines = worked_lines g budget (2 * budget + 1) system }
