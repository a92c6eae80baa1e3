-- What may stand in a book, and the facts of the states of a tree over a ranking.
use Rattle.dz_rank.specs.Rankings.{RankingValue}
use Rattle.dz_monomials.specs.Keeping.{IsKeepable}
use Rattle.dz_monomials.specs.Ranked.{symbols_under}
use Rattle.dz_monomials.specs.Lists.{AllOf}
use Rattle.dz_diff.specs.State.{State}
use Rattle.dz_diff.specs.States.{IsStateOf}
use Rattle.dz_diff.specs.Tests.{Polynomials}

-- all polynomials of two lists may stand in a book
pub record MayStand (r : RankingValue) (equations inequations : Polynomials) : Type 0 where
  pub equations_keepable : AllOf (IsKeepable r) equations
  pub inequations_keepable : AllOf (IsKeepable r) inequations

-- the facts of a state over a ranking: its members may stand in a book, and it has the facts of a state
pub record IsStateOver (r : RankingValue) (s : State) : Type 0 where
  pub stands : MayStand r s.equations s.inequations
  pub facts : IsStateOf (symbols_under r) s
