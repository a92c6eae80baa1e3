-- The laws of trees; the crate's law functions ask for their proofs.
use Rattle.std.specs.Prelude.{◌≡◌, ◌≤◌, true, false, cond, length, Ok, IsOk, ◌↔◌}
use Rattle.dz_diff.specs.Operations.{Setting}
use Rattle.dz_diff.specs.State.{State}
use Rattle.dz_move.specs.Root.{System}
use Rattle.dz_move.specs.Moves.{Action, Done, is_fork, perform}
use Rattle.dz_tree.specs.Trees.{Tree}
use Rattle.dz_check.specs.Walk.{accepted, partial, all_chains, ends_in, ends_of, verdict_of}
use Rattle.dz_check.specs.Certified.{IsCertified}
use Rattle.dz_tree.specs.Forms.{IsTree}

-- moves, forks and verdicts
pub record TreeLaws (g : Setting) : Type 0 where
  -- a move leads to one state and a fork to two, and each weighs something
  pub states : (s : State) (action : Action) (d : Done) → perform g s action ≡ Ok d → length d.after ≡ cond (is_fork action) 2 1
  pub weight : (s : State) (action : Action) (d : Done) → perform g s action ≡ Ok d → 1 ≤ d.weight
  -- the walk over a tree comes to its end exactly where the tree is certified
  pub certified : (system : System) (tree : Tree) → IsTree tree → IsOk (ends_of g system tree) ↔ IsCertified g system tree
  -- the verdict is accepted exactly on a certified tree whose open and chain ends are all chains, and partial exactly on
  -- another certified one
  pub accepts : (system : System) (tree : Tree) → IsTree tree → (verdict_of g system tree ≡ accepted) ↔ (IsCertified g system tree × (all_chains (ends_in (ends_of g system tree)) ≡ true))
  pub is_partial : (system : System) (tree : Tree) → IsTree tree → (verdict_of g system tree ≡ partial) ↔ (IsCertified g system tree × (all_chains (ends_in (ends_of g system tree)) ≡ false))
