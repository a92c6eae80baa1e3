-- The laws of the definitions, each stated once; the crate's law functions ask for their proofs.
use Rattle.std.specs.Prelude.{◌≡◌, ◌≢◌, ◌↔◌, ◌<◌, ◌+◌, Some, None, ℕ, [], ℤ, pos, Bool, false, Err, IsTrue, Ok}
use Rattle.std.specs.Int.{IsGcd}
use Rattle.std.specs.declared.cmp.Ordering.{Ordering}
use Rattle.std.specs.declared.cmp.Ordering.TheVariants.{Greater}
use Rattle.std.specs.Ordering.{match_ordering}
use Rattle.dz_algebra.specs.Domain.{Operations}
use Rattle.dz_algebra.specs.Order.{IsOrder}
use Rattle.dz_algebra.specs.Monomial.{Monomial, IsMonomial, monomial_cmp, exponent, without, IsLarger, monomial_product}
use Rattle.dz_algebra.specs.Polynomial.{Polynomial, Contributions, IsPolynomial, AreMonomials, PolynomialIn, coefficient_at, collect, pairs, scaled, symbol_polynomial, polynomial_one, polynomial_sum, polynomial_difference, polynomial_negative, polynomial_product}
use Rattle.dz_algebra.specs.Derivation.{Rate, RateIn, RatesCommute, rate_polynomial, polynomial_derivative}
use Rattle.dz_algebra.specs.Symbols.{Symbols}
use Rattle.dz_algebra.specs.Parts.{degree, coefficient_of, initial, is_ground, leader}
use Rattle.dz_algebra.specs.Norm.{gcd, signed_content, norm}
use Rattle.dz_algebra.specs.Amount.{amounts, add_amounts, gathered, nonzero}
use Rattle.dz_algebra.specs.Gather.{landed}
use Rattle.dz_algebra.specs.Size.{IsSmall, limit_of, support, fits, wide, large, operation}
use Rattle.dz_algebra.specs.declared.Limit.{Limit}
use Rattle.dz_algebra.specs.Value.{value, whole_in, rate_value}

-- the order of monomials is a total order in which only equal monomials tie; the greater has the larger exponent at the
-- greatest symbol at which they differ; and multiplying keeps it
pub record MonomialLaws {S : Type 0} (cmp : S → S → Ordering) : Type 0 where
  pub order : IsOrder (monomial_cmp cmp)
  pub greater : (m n : Monomial S) → IsMonomial cmp m → IsMonomial cmp n → monomial_cmp cmp m n ≡ Greater
      → (s : S) × IsLarger cmp m n s
  pub product_is : (m n : Monomial S) → IsMonomial cmp m → IsMonomial cmp n → IsMonomial cmp (monomial_product cmp m n)
  pub exponents_add : (s : S) (m n : Monomial S)
      → exponent cmp s (monomial_product cmp m n) ≡ exponent cmp s m + exponent cmp s n
  pub product_keeps : (k m n : Monomial S) → IsMonomial cmp k → IsMonomial cmp m → IsMonomial cmp n
      → monomial_cmp cmp (monomial_product cmp k m) (monomial_product cmp k n) ≡ monomial_cmp cmp m n

-- a polynomial is the finite map of its coefficients, and contributions make the one of their sums
pub record CoefficientLaws {S : Type 0} (cmp : S → S → Ordering) : Type 0 where
  pub made : (ts : Contributions S) → AreMonomials cmp ts → IsPolynomial cmp (collect (monomial_cmp cmp) ts)
  pub coefficient : (ts : Contributions S) (n : Monomial S)
      → coefficient_at (monomial_cmp cmp) n (collect (monomial_cmp cmp) ts) ≡ coefficient_at (monomial_cmp cmp) n ts
  pub same : (p q : Polynomial S) → IsPolynomial cmp p → IsPolynomial cmp q
      → ((n : Monomial S) → coefficient_at (monomial_cmp cmp) n p ≡ coefficient_at (monomial_cmp cmp) n q) → p ≡ q

-- polynomials are closed under the operations of a ring
pub record ClosureLaws {S : Type 0} (cmp : S → S → Ordering) : Type 0 where
  pub one_is : IsPolynomial cmp polynomial_one
  pub sum_is : (p q : Polynomial S) → IsPolynomial cmp p → IsPolynomial cmp q
      → IsPolynomial cmp (polynomial_sum cmp p q)
  pub difference_is : (p q : Polynomial S) → IsPolynomial cmp p → IsPolynomial cmp q
      → IsPolynomial cmp (polynomial_difference cmp p q)
  pub negative_is : (p : Polynomial S) → IsPolynomial cmp p → IsPolynomial cmp (polynomial_negative p)
  pub product_is : (p q : Polynomial S) → IsPolynomial cmp p → IsPolynomial cmp q
      → IsPolynomial cmp (polynomial_product cmp p q)

-- polynomials are a commutative ring
pub record RingLaws {S : Type 0} (cmp : S → S → Ordering) : Type 0 where
  pub sum_commutes : (p q : Polynomial S) → IsPolynomial cmp p → IsPolynomial cmp q
      → polynomial_sum cmp p q ≡ polynomial_sum cmp q p
  pub sum_associates : (p q s : Polynomial S) → IsPolynomial cmp p → IsPolynomial cmp q → IsPolynomial cmp s
      → polynomial_sum cmp (polynomial_sum cmp p q) s ≡ polynomial_sum cmp p (polynomial_sum cmp q s)
  pub zero_is_neutral : (p : Polynomial S) → IsPolynomial cmp p → polynomial_sum cmp [] p ≡ p
  pub negative_is_inverse : (p : Polynomial S) → IsPolynomial cmp p
      → polynomial_sum cmp (polynomial_negative p) p ≡ []
  pub difference_is : (p q : Polynomial S)
      → polynomial_difference cmp p q ≡ polynomial_sum cmp p (polynomial_negative q)
  pub product_commutes : (p q : Polynomial S) → IsPolynomial cmp p → IsPolynomial cmp q
      → polynomial_product cmp p q ≡ polynomial_product cmp q p
  pub product_associates : (p q s : Polynomial S) → IsPolynomial cmp p → IsPolynomial cmp q → IsPolynomial cmp s
      → polynomial_product cmp (polynomial_product cmp p q) s ≡ polynomial_product cmp p (polynomial_product cmp q s)
  pub one_is_neutral : (p : Polynomial S) → IsPolynomial cmp p → polynomial_product cmp polynomial_one p ≡ p
  pub product_distributes : (p q s : Polynomial S) → IsPolynomial cmp p → IsPolynomial cmp q → IsPolynomial cmp s
      → polynomial_product cmp p (polynomial_sum cmp q s)
      ≡ polynomial_sum cmp (polynomial_product cmp p q) (polynomial_product cmp p s)

-- a derivation is additive and obeys Leibniz' rule
pub record DerivationLaws {S : Type 0} (cmp : S → S → Ordering) (rate : S → Rate S) : Type 0 where
  pub derivative_is : (p : Polynomial S) → IsPolynomial cmp p → IsPolynomial cmp (polynomial_derivative cmp rate p)
  pub of_sum : (p q : Polynomial S) → IsPolynomial cmp p → IsPolynomial cmp q
      → polynomial_derivative cmp rate (polynomial_sum cmp p q)
      ≡ polynomial_sum cmp (polynomial_derivative cmp rate p) (polynomial_derivative cmp rate q)
  pub of_product : (p q : Polynomial S) → IsPolynomial cmp p → IsPolynomial cmp q
      → polynomial_derivative cmp rate (polynomial_product cmp p q)
      ≡ polynomial_sum cmp (polynomial_product cmp (polynomial_derivative cmp rate p) q)
      (polynomial_product cmp p (polynomial_derivative cmp rate q))
  pub of_symbol : (s : S) → polynomial_derivative cmp rate (symbol_polynomial s) ≡ rate_polynomial (rate s)

-- two derivations commute, if they do at each symbol
abbrev pub DerivationsCommute : {S : Type 0} → (S → S → Ordering) → Type 0
DerivationsCommute {S} cmp =
    (first second : S → Rate S) → RatesCommute first second → (p : Polynomial S) → IsPolynomial cmp p
    → polynomial_derivative cmp first (polynomial_derivative cmp second p)
    ≡ polynomial_derivative cmp second (polynomial_derivative cmp first p)

-- the coefficient of a power of s has the coefficients that stand at that power, and the initial is not zero
pub record PowerLaws {S : Type 0} (cmp : S → S → Ordering) (s : S) : Type 0 where
  pub coefficient_is : (k : ℕ) (p : Polynomial S) → IsPolynomial cmp p → IsPolynomial cmp (coefficient_of cmp s k p)
  pub coefficient : (n : Monomial S) (p : Polynomial S) → IsMonomial cmp n → IsPolynomial cmp p
      → coefficient_at (monomial_cmp cmp) (without cmp s n) (coefficient_of cmp s (exponent cmp s n) p)
      ≡ coefficient_at (monomial_cmp cmp) n p
  pub initial_not_zero : (p : Polynomial S) → p ≢ [] → initial cmp s p ≢ []

-- the leader is a derivative that occurs, and none that occurs is greater; there is none exactly where no derivative occurs
pub record LeaderLaws {S : Type 0} (g : Symbols S) : Type 0 where
  pub occurs : (p : Polynomial S) (v : S) → IsPolynomial g.cmp p → leader g p ≡ Some v
      → IsTrue (g.is_derivative v) × (0 < degree g.cmp v p)
  pub greatest : (p : Polynomial S) (v : S) → leader g p ≡ Some v
      → PolynomialIn (λ s. IsTrue (g.is_derivative s) → g.cmp s v ≢ Greater) p
  pub ground : (p : Polynomial S) → IsTrue (is_ground g p) ↔ (leader g p ≡ None)

-- the operations bring in no symbols: those of a result pass a test, if those of the operands do
pub record SymbolLaws {S : Type 0} (cmp : S → S → Ordering) (test : S → Bool) : Type 0 where
  pub of_sum : (p q : Polynomial S) → PolynomialIn (λ s. IsTrue (test s)) p → PolynomialIn (λ s. IsTrue (test s)) q
      → PolynomialIn (λ s. IsTrue (test s)) (polynomial_sum cmp p q)
  pub of_difference : (p q : Polynomial S) → PolynomialIn (λ s. IsTrue (test s)) p → PolynomialIn (λ s. IsTrue (test s)) q
      → PolynomialIn (λ s. IsTrue (test s)) (polynomial_difference cmp p q)
  pub of_product : (p q : Polynomial S) → PolynomialIn (λ s. IsTrue (test s)) p → PolynomialIn (λ s. IsTrue (test s)) q
      → PolynomialIn (λ s. IsTrue (test s)) (polynomial_product cmp p q)
  pub of_derivative : (rate : S → Rate S) → ((s : S) → IsTrue (test s) → RateIn (λ s. IsTrue (test s)) (rate s))
      → (p : Polynomial S) → PolynomialIn (λ s. IsTrue (test s)) p
      → PolynomialIn (λ s. IsTrue (test s)) (polynomial_derivative cmp rate p)

-- the norm of a polynomial that is not zero is its one multiple by a rational number whose coefficients have no common
-- divisor and whose first coefficient is positive
pub record NormLaws {S : Type 0} (cmp : S → S → Ordering) : Type 0 where
  pub divisor : (a b : ℕ) → IsGcd a b (gcd a b)
  pub norm_is : (p : Polynomial S) → IsPolynomial cmp p → IsPolynomial cmp (norm p)
  pub multiple : (p : Polynomial S) → IsPolynomial cmp p
      → (signed_content p ≢ pos 0) × (p ≡ scaled (signed_content p) (norm p))
  pub normal : (p : Polynomial S) → IsPolynomial cmp p → p ≢ [] → signed_content (norm p) ≡ pos 1
  pub idempotent : (p : Polynomial S) → IsPolynomial cmp p → norm (norm p) ≡ norm p
  pub of_multiple : (k : ℤ) (p : Polynomial S) → k ≢ pos 0 → IsPolynomial cmp p → norm (scaled k p) ≡ norm p

-- what an operation answers: large with the limit exactly where it is not small, wide exactly where it is small and does not
-- fit, and otherwise the polynomial that its contributions make; it depends only on what lands at each monomial, so on no
-- order of adding; a product with zero is never refused
pub record OperationLaws {S : Type 0} (g : Symbols S) : Type 0 where
  pub ok : (ts : Contributions S) → IsSmall g ts → IsTrue (fits g.cmp ts)
      → operation g ts ≡ Ok (collect (monomial_cmp g.cmp) ts)
  pub is_large : (ts : Contributions S) (l : Limit) → (operation g ts ≡ Err (large l)) ↔ (limit_of g (support g.cmp ts) ≡ Some l)
  pub is_wide : (ts : Contributions S) → (operation g ts ≡ Err wide) ↔ (IsSmall g ts × (fits g.cmp ts ≡ false))
  pub answer : (ts : Contributions S) (p : Polynomial S) → operation g ts ≡ Ok p → collect (monomial_cmp g.cmp) ts ≡ p
  pub canonical : (ts : Contributions S) (p : Polynomial S) → AreMonomials g.cmp ts → operation g ts ≡ Ok p
      → IsPolynomial g.cmp p
  pub amounts_make : (ts : Contributions S) → nonzero (gathered g.cmp ts) ≡ collect (monomial_cmp g.cmp) ts
  pub sums_alone : (ts us : Contributions S)
      → ((n : Monomial S) → landed (monomial_cmp g.cmp) add_amounts n (amounts ts)
      ≡ landed (monomial_cmp g.cmp) add_amounts n (amounts us))
      → operation g ts ≡ operation g us
  pub factors_swap : (p q : Polynomial S) → IsPolynomial g.cmp p → IsPolynomial g.cmp q
      → operation g (pairs g.cmp p q) ≡ operation g (pairs g.cmp q p)
  pub left_zero : (p : Polynomial S) → operation g (pairs g.cmp [] p) ≡ Ok []
  pub right_zero : (p : Polynomial S) → operation g (pairs g.cmp p []) ≡ Ok []

-- where the symbols have values in a domain, the value of a polynomial keeps the operations
pub record ValueLaws {S E : Type 0} (cmp : S → S → Ordering) (o : Operations E) (at : S → E) : Type 0 where
  pub is_value : (p : Polynomial S) → IsTrue (o.is_value (value o.arithmetic at p))
  pub of_sum : (p q : Polynomial S)
      → value o.arithmetic at (polynomial_sum cmp p q) ≡ o.sum (value o.arithmetic at p) (value o.arithmetic at q)
  pub of_difference : (p q : Polynomial S)
      → value o.arithmetic at (polynomial_difference cmp p q)
      ≡ o.sum (value o.arithmetic at p) (o.negative (value o.arithmetic at q))
  pub of_product : (p q : Polynomial S)
      → value o.arithmetic at (polynomial_product cmp p q)
      ≡ o.product (value o.arithmetic at p) (value o.arithmetic at q)
  pub of_norm : (p : Polynomial S)
      → value o.arithmetic at p
      ≡ o.product (whole_in o.arithmetic (signed_content p)) (value o.arithmetic at (norm p))
  pub of_derivative : (i : ℕ) (rate : S → Rate S) → i < o.derivations
      → ((s : S) → o.derivative i (at s) ≡ rate_value o.arithmetic at (rate s)) → (p : Polynomial S)
      → value o.arithmetic at (polynomial_derivative cmp rate p) ≡ o.derivative i (value o.arithmetic at p)

-- each symbol that passes a test has a derivation that takes its value to one, and those of the others to zero
pub record HaveDualDerivations {S E : Type 0} (cmp : S → S → Ordering) (o : Operations E) (at : S → E)
    (test : S → Bool) (place : S → ℕ) : Type 0 where
  pub below : (s : S) → IsTrue (test s) → place s < o.derivations
  pub rates : (s t : S) → IsTrue (test s) → IsTrue (test t)
      → o.derivative (place s) (at t) ≡ match_ordering (cmp s t) o.zero o.one o.zero
