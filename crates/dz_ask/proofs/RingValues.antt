-- Values of polynomials in a ring: of the operations, of reductions, and of sums of terms.
use Rattle.std.proofs.Common.{◌≡◌, ◌∙◌, [], ◌∷◌, pos, sym, ap, Ok}
use Rattle.dz_algebra.specs.Monomial.{monomial_cmp}
use Rattle.dz_algebra.specs.Polynomial.{Polynomial, Contributions, collect, negated, polynomial_one, polynomial_sum, polynomial_product}
use Rattle.dz_algebra.specs.Ring.{Ring, right_neutral}
use Rattle.dz_algebra.specs.Size.{operation, difference_answer, product_answer, sum_answer}
use Rattle.dz_algebra.specs.Value.{value}
use Rattle.dz_algebra.proofs.Operations.{operation_is}
use Rattle.dz_algebra.proofs.Orders.{same_monomial}
use Rattle.dz_algebra.proofs.Values.{collect_value, negated_value, pairs_value, value-append}
use Rattle.dz_rank.specs.Rankings.{RankingValue, ranking_cmp}
use Rattle.dz_rank.specs.declared.symbols.Symbol.{Symbol}
use Rattle.dz_monomials.specs.Ranked.{symbols_under}
use Rattle.dz_monomials.proofs.SymbolLaws.{ranking_order}

module _ {R : Type 0} (ring : Ring R) (r : RankingValue) (at : Symbol → R) where
  -- the value of contributions
  abbrev pub val : Contributions Symbol → R
  val ts = value ring.arithmetic at ts

  -- collecting keeps the value
  collected : (ts : Contributions Symbol) → val (collect (monomial_cmp (ranking_cmp r)) ts) ≡ val ts
  collected ts = collect_value ring (ranking_cmp r) (ranking_order r).same at (monomial_cmp (ranking_cmp r)) (same_monomial (ranking_order r)) ts

  -- the value of what an operation makes
  value_operation : (ts : Contributions Symbol) (a : Polynomial Symbol) → operation (symbols_under r) ts ≡ Ok a → val a ≡ val ts
  value_operation ts a e = ap val (sym (operation_is (symbols_under r) ts a e)) ∙ collected ts

  -- of a product
  pub value_product : (a b c : Polynomial Symbol) → product_answer (symbols_under r) a b ≡ Ok c → val c ≡ ring.product (val a) (val b)
  value_product a b c e = value_operation _ c e ∙ pairs_value ring (ranking_cmp r) (ranking_order r).same at a b

  -- of a sum
  pub value_sum : (a b c : Polynomial Symbol) → sum_answer (symbols_under r) a b ≡ Ok c → val c ≡ ring.sum (val a) (val b)
  value_sum a b c e = value_operation _ c e ∙ value-append ring (ranking_cmp r) (ranking_order r).same at a b

  -- of a difference
  pub value_difference : (a b c : Polynomial Symbol) → difference_answer (symbols_under r) a b ≡ Ok c → val c ≡ ring.sum (val a) (ring.negative (val b))
  value_difference a b c e =
      value_operation _ c e ∙ value-append ring (ranking_cmp r) (ranking_order r).same at a (negated b)
      ∙ ap (ring.sum _) (negated_value ring (ranking_cmp r) (ranking_order r).same at b)

  -- of polynomials of any size
  pub of_product : (a b : Polynomial Symbol) → val (polynomial_product (ranking_cmp r) a b) ≡ ring.product (val a) (val b)
  unfolding polynomial_product
  of_product a b = collected _ ∙ pairs_value ring (ranking_cmp r) (ranking_order r).same at a b

  pub of_sum : (a b : Polynomial Symbol) → val (polynomial_sum (ranking_cmp r) a b) ≡ ring.sum (val a) (val b)
  unfolding polynomial_sum
  of_sum a b = collected _ ∙ value-append ring (ranking_cmp r) (ranking_order r).same at a b

  -- of one
  pub of_number_one : val (([], pos 1) ∷ []) ≡ ring.one
  of_number_one = right_neutral ring _ ∙ ap (λ x. ring.product x ring.one) (right_neutral ring ring.one) ∙ ring.one_is_neutral ring.one

  pub of_one : val polynomial_one ≡ ring.one
  unfolding polynomial_one
  of_one = of_number_one
