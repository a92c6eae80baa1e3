-- Functions put for the dependents of a differential polynomial (this project).
use Rattle.std.specs.Prelude.{◌≡◌, ℕ, zero, suc, take, get_or, List, [], ◌∷◌, length, IsTrue}
use Rattle.std.specs.declared.cmp.Ordering.{Ordering}
use Rattle.dz_algebra.specs.Domain.{Arithmetic}
use Rattle.dz_algebra.specs.Derivation.{polynomial_derivative}
use Rattle.dz_algebra.specs.Parts.{is_ground}
use Rattle.dz_algebra.specs.Polynomial.{Polynomial, polynomial_one, polynomial_sum, polynomial_negative, polynomial_product, symbol_polynomial}
use Rattle.dz_algebra.specs.Value.{value}
use Rattle.dz_rank.specs.declared.symbols.Symbol.{Symbol}
use Rattle.dz_rank.specs.declared.symbols.Symbol.TheVariants.{Independent, Derivative}
use Rattle.dz_rank.specs.Rankings.{RankingValue, ranking_cmp}
use Rattle.dz_monomials.specs.Ranked.{symbol_rate, symbols_under}
use Rattle.dz_poly.specs.Books.{BookValue}
use Rattle.dz_monomials.specs.Lists.{AllOf}
use Rattle.dz_diff.specs.States.{LiveAll, polynomials}
use Rattle.dz_diff.specs.Tests.{Polynomials}

-- the ring operations of polynomials
abbrev pub polynomial_arithmetic : {S : Type 0} → (S → S → Ordering) → Arithmetic (Polynomial S)
polynomial_arithmetic cmp = record {
  zero = [];
  one = polynomial_one;
  sum = polynomial_sum cmp;
  negative = polynomial_negative;
  product = polynomial_product cmp;
}

-- the i-th derivation of a polynomial taken k times
abbrev pub iterated_polynomial : RankingValue → ℕ → ℕ → Polynomial Symbol → Polynomial Symbol
iterated_polynomial r i zero a = a
iterated_polynomial r i (suc k) a =
    polynomial_derivative (ranking_cmp r) (symbol_rate i) (iterated_polynomial r i k a)

-- the derivations from the i-th on, each as often as its exponent says, the first first
abbrev pub operator_polynomial : RankingValue → ℕ → List ℕ → Polynomial Symbol → Polynomial Symbol
operator_polynomial r i [] a = a
operator_polynomial r i (k ∷ ks) a = operator_polynomial r (suc i) ks (iterated_polynomial r i k a)

-- what is put for a symbol: an independent stands for itself, and a derivative for what its operator
-- makes of the function of its dependent
abbrev pub put_for : RankingValue → Polynomials → Symbol → Polynomial Symbol
put_for r functions (Independent j) = symbol_polynomial (Independent j)
put_for r functions (Derivative u t) =
    operator_polynomial r 0 (take r.signature.independents t.counts) (get_or functions u [])

-- the substitution of a polynomial: its value in the ring of polynomials, each symbol having as value
-- what is put for it
unfoldable pub substitution : RankingValue → Polynomials → Polynomial Symbol → Polynomial Symbol
substitution r functions p = value (polynomial_arithmetic (ranking_cmp r)) (put_for r functions) p

-- ---- in a book
-- a polynomial in independents alone for each dependent
pub record AreFunctions (book : BookValue) (functions : List ℕ) : Type 0 where
  pub live : LiveAll book functions
  pub one_each : length functions ≡ book.ranking.signature.dependents
  pub no_derivatives : AllOf (λ f. IsTrue (is_ground (symbols_under book.ranking) f)) (polynomials book functions)
