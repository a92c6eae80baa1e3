-- Chains: autoreduced and coherent systems of equations, with inequations (Ritt, Rosenfeld; the conditions on inequations are
-- this project's).
use Rattle.std.specs.Prelude.{◌≡◌, ℕ, true, List, [], Ok, Some}
use Rattle.std.specs.List.{list_all}
use Rattle.dz_algebra.specs.Polynomial.{Polynomial}
use Rattle.dz_rank.specs.declared.symbols.Symbol.{Symbol}
use Rattle.dz_monomials.specs.Lists.{AllOf}
use Rattle.dz_diff.specs.Operations.{Setting}
use Rattle.dz_diff.specs.State.{State, at_place}
use Rattle.dz_step.specs.declared.Role.TheVariants.{Free}
use Rattle.dz_step.specs.declared.Step.{Step}
use Rattle.dz_step.specs.Run.{run}
use Rattle.dz_pair.specs.Pair.{common, critical_pairs, delta_answer}
use Rattle.dz_tree.specs.Chain.{has_leaders, has_permitted, is_autoreduced, is_below, is_reduced}

-- The equations at two places cohere: their Delta-polynomial has a free run to zero by the state, and the leaders of the
-- divisors of this run, derived as its steps derive them, are below the least common derivative of the two leaders.
pub record Cohere (g : Setting) (s : State) (places : ℕ × ℕ) : Type 0 where
  pub first : Polynomial Symbol
  pub second : Polynomial Symbol
  pub first_is : at_place places.0 s.equations ≡ Some first
  pub second_is : at_place places.1 s.equations ≡ Some second
  pub delta : Polynomial Symbol
  pub delta_is : delta_answer g first second ≡ Ok delta
  pub steps : List Step
  pub count : ℕ
  pub to_zero : run g s Free delta steps ≡ Ok (record { end = []; count = count })
  pub least_common : Symbol
  pub least_common_is : common g.symbols first second ≡ Some least_common
  pub below : list_all (is_below g.symbols s least_common) steps ≡ true

-- A state is a chain: its equations have distinct leaders, none of them is reducible by another, and each critical pair of them
-- coheres. The initial and the separant of each are ground and not zero, or have an inequation as their norm. No inequation is
-- zero, and none has a proper derivative of a leader.
pub record IsChain (g : Setting) (s : State) : Type 0 where
  pub leaders : has_leaders g.symbols s.equations ≡ true
  pub autoreduced : is_autoreduced g.symbols s.equations ≡ true
  pub coherent : AllOf (Cohere g s) (critical_pairs g.symbols s)
  pub multipliers : list_all (has_permitted g.symbols s) s.equations ≡ true
  pub inequations : list_all (is_reduced g.symbols s) s.inequations ≡ true
