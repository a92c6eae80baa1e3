-- Functions of a book are ground polynomials over its ranking.
use Rattle.std.proofs.Common.{ℕ, suc, List, [], ◌∷◌, arith}
use Rattle.dz_algebra.specs.Polynomial.{IsPolynomial, PolynomialIn}
use Rattle.dz_rank.specs.Rankings.{ranking_cmp}
use Rattle.dz_rank.specs.Symbols.{BelongsTo}
use Rattle.dz_poly.specs.Books.{BookValue, IsBook}
use Rattle.dz_domain.proofs.PointValues.{keepable}
use Rattle.dz_monomials.specs.Lists.{AllOf}
use Rattle.dz_diff.specs.States.{LiveAll, polynomials}
use Rattle.dz_solution.specs.Substitution.{AreFunctions}
use Rattle.dz_solution.proofs.FunctionValues.{AreGround}

module _ (book : BookValue) (is : IsBook book) where
  each_canonical : (fs : List ℕ) → LiveAll book fs → AllOf (IsPolynomial (ranking_cmp book.ranking)) (polynomials book fs)
  each_canonical [] h = tt
  each_canonical (f ∷ fs) h = ((keepable book f is (h 0 0 (omega arith))).canonical, each_canonical fs (λ k d l. h (suc k) d (omega arith)))

  each_belongs : (fs : List ℕ) → LiveAll book fs → AllOf (PolynomialIn (BelongsTo book.ranking.signature)) (polynomials book fs)
  each_belongs [] h = tt
  each_belongs (f ∷ fs) h = ((keepable book f is (h 0 0 (omega arith))).belongs, each_belongs fs (λ k d l. h (suc k) d (omega arith)))

  pub functions_are_ground : (fs : List ℕ) → AreFunctions book fs → AreGround book.ranking (polynomials book fs)
  functions_are_ground fs h = record {
    canonical = each_canonical fs h.live;
    belong = each_belongs fs h.live;
    no_derivatives = h.no_derivatives;
  }
