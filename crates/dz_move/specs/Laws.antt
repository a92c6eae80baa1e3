-- The laws of the states of trees; the crate's law function asks for their proof.
use Rattle.std.specs.Prelude.{◌≡◌, None, Ok}
use Rattle.dz_rank.specs.Rankings.{RankingValue}
use Rattle.dz_monomials.specs.Ranked.{symbols_under}
use Rattle.dz_monomials.specs.Lists.{AllOf}
use Rattle.dz_diff.specs.Operations.{setting_of}
use Rattle.dz_diff.specs.State.{State}
use Rattle.dz_move.specs.Root.{System, root_of}
use Rattle.dz_move.specs.Moves.{Action, Done, perform}
use Rattle.dz_move.specs.Systems.{system_limit}
use Rattle.dz_move.specs.Standing.{IsStateOver, MayStand}

-- over a ranking, the states of a tree have the facts of a state
pub record StateLaws (r : RankingValue) : Type 0 where
  -- the root has them, where the polynomials of its system may stand in a book, and it passes no limit
  pub root : (system : System) → MayStand r system.equations system.inequations → system_limit system ≡ None → IsStateOver r (root_of (symbols_under r) system)
  -- and moves and forks keep them, so that all states on a path from the root have them
  pub kept : (s : State) (action : Action) (d : Done) → IsStateOver r s → perform (setting_of r) s action ≡ Ok d → AllOf (IsStateOver r) d.after
