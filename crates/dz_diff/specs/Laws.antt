-- The law of leaders of derivatives; the crate's law functions ask for its proof.
use Rattle.std.specs.Prelude.{◌≡◌, ◌⊎◌, true, Ok, Some}
use Rattle.std.specs.declared.cmp.Ordering.TheVariants.{Less}
use Rattle.dz_algebra.specs.Parts.{degree, initial, leader}
use Rattle.dz_algebra.specs.Polynomial.{Polynomial, PolynomialIn}
use Rattle.dz_rank.specs.Rankings.{RankingValue, ranking_cmp}
use Rattle.dz_rank.specs.Symbols.{IsOperatorOf}
use Rattle.dz_rank.specs.declared.symbols.Operator.{Operator}
use Rattle.dz_rank.specs.declared.symbols.Symbol.{Symbol}
use Rattle.dz_monomials.specs.Ranked.{symbols_under}
use Rattle.dz_diff.specs.Operations.{operator_answer, setting_of}
use Rattle.dz_diff.specs.Operators.{is_proper}
use Rattle.dz_diff.specs.Over.{IsOver}

-- p is what a proper operator t makes of q, whose leader is l
pub record IsProperDerivative (r : RankingValue) (t : Operator) (q : Polynomial Symbol) (l : Symbol) (p : Polynomial Symbol) : Type 0 where
  pub over : IsOver r q
  pub leads : leader (symbols_under r) q ≡ Some l
  pub operator : IsOperatorOf r.signature.independents t
  pub proper : is_proper t ≡ true
  pub answer : operator_answer (setting_of r) t q ≡ Ok p

-- p has the leader v, with degree 1 and the initial m, and every other symbol of p is less
pub record IsLinearIn (r : RankingValue) (v : Symbol) (m p : Polynomial Symbol) : Type 0 where
  pub leads : leader (symbols_under r) p ≡ Some v
  pub linear : degree (ranking_cmp r) v p ≡ 1
  pub initial_is : initial (ranking_cmp r) v p ≡ m
  pub below : PolynomialIn (λ s. (ranking_cmp r s v ≡ Less) ⊎ (s ≡ v)) p
