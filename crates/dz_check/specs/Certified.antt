-- Certified trees, line by line: each is a move or a fork that holds, or an end that holds (this project).
use Rattle.std.specs.Prelude.{◌≡◌, ⊤, ℕ, ◌+◌, ◌≤◌, nat_le, true, List, [], ◌∷◌, ◌++◌, Ok}
use Rattle.dz_diff.specs.Operations.{Setting}
use Rattle.dz_diff.specs.State.{State}
use Rattle.dz_move.specs.Root.{System, is_closed, root_of}
use Rattle.dz_move.specs.Moves.{perform}
use Rattle.dz_tree.specs.Chain.{chain_weight}
use Rattle.dz_move.specs.Lines.{Evidence, Line, act, closed, chain, pair, Entry, entries_of}
use Rattle.dz_check.specs.Reasons.{reason_holds}
use Rattle.dz_tree.specs.Trees.{Tree}
use Rattle.dz_tree.specs.Forms.{IsTree}

-- an end without weight holds by a test, and leaves no state
pub record EndsBy (test : Type 0) (after : List State) (k : ℕ) : Type 0 where
  pub holds : test
  pub none : after ≡ []
  pub free : k ≡ 0

-- an entry holds at a state with the running weight w, leaves these states and weighs k
abbrev pub HoldsAt : Setting → ℕ → ℕ → State → Line → List Evidence → List State → ℕ → Type 0
HoldsAt g budget w s (act action) es after k = (perform g s action ≡ Ok (record { after = after; weight = k })) × (w + k ≤ budget)
HoldsAt g budget w s closed es after k = EndsBy (is_closed g.symbols s ≡ true) after k
HoldsAt g budget w s chain es after k = (chain_weight g s (λ n. nat_le (w + n) budget) es ≡ Ok k) × (after ≡ [])
HoldsAt g budget w s (pair e) es after k = ⊥
HoldsAt g budget w s line es after k = EndsBy (reason_holds g budget w s line es ≡ true) after k

-- each entry holds at its state: the first at the first pending state, and the next where it leaves off
abbrev pub IsCertifiedFrom : Setting → ℕ → ℕ → List State → List Entry → Type 0
IsCertifiedFrom g budget w [] [] = ⊤
IsCertifiedFrom g budget w [] (e ∷ es) = ⊥
IsCertifiedFrom g budget w (s ∷ pending) [] = ⊥
IsCertifiedFrom g budget w (s ∷ pending) (e ∷ es) =
    (after : List State) × (k : ℕ) × HoldsAt g budget w s e.line e.evidence after k × IsCertifiedFrom g budget (w + k) (after ++ pending) es

-- a tree is certified for a system: its lines form one tree, and each entry of them holds
pub record IsCertified (g : Setting) (system : System) (tree : Tree) : Type 0 where
  pub formed : IsTree tree
  pub holds : IsCertifiedFrom g tree.budget 0 (root_of g.symbols system ∷ []) (entries_of tree.lines)
