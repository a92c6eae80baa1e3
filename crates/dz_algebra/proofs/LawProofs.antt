-- The laws of the definitions, put together from their lemmas.
use Rattle.std.proofs.Common.{◌≡◌, ◌≢◌, ℕ, Bool, [], ◌++◌, IsTrue, refl, sym, ap}
use Rattle.std.specs.declared.cmp.Ordering.{Ordering}
use Rattle.dz_algebra.specs.Domain.{Operations, DomainLaws}
use Rattle.dz_algebra.specs.Order.{IsOrder}
use Rattle.dz_algebra.specs.Monomial.{monomial_cmp}
use Rattle.dz_algebra.specs.Polynomial.{Polynomial, IsPolynomial, PolynomialIn, negated, polynomial_sum, polynomial_difference}
use Rattle.dz_algebra.specs.Derivation.{Rate}
use Rattle.dz_algebra.specs.Symbols.{Symbols}
use Rattle.dz_algebra.specs.Value.{value}
use Rattle.dz_algebra.specs.Laws.{MonomialLaws, CoefficientLaws, ClosureLaws, RingLaws, DerivationLaws, DerivationsCommute, PowerLaws, LeaderLaws, SymbolLaws, NormLaws, OperationLaws, ValueLaws, HaveDualDerivations}
use Rattle.dz_algebra.proofs.Orders.{same_monomial}
use Rattle.dz_algebra.proofs.Monomials.{product_is, exponent_product}
use Rattle.dz_algebra.proofs.MonomialOrder.{greater_is_larger, product_keeps_order}
use Rattle.dz_algebra.proofs.Canonical.{collect_is, are_monomials, monomials-append, coefficient_collect, same_polynomial, polynomial_sum_commutes}
use Rattle.dz_algebra.proofs.Products.{polynomial_sum_is, polynomial_product_is, polynomial_product_commutes, polynomial_product_associates, polynomial_product_distributes}
use Rattle.dz_algebra.proofs.PolynomialRing.{one_is, negated_is, sum_associates, zero_is_neutral, negative_is_inverse, one_is_neutral}
use Rattle.dz_algebra.proofs.Derivations.{polynomial_derivative_is, additive, leibniz, derivative_of_symbol, derivatives_commute}
use Rattle.dz_algebra.proofs.Coefficients.{coefficient_of_is, coefficient_there, initial_not_zero}
use Rattle.dz_algebra.proofs.Leaders.{leader_greatest, leader_occurs, ground_no_leader, no_leader_ground}
use Rattle.dz_algebra.proofs.Divisors.{gcd_is}
use Rattle.dz_algebra.proofs.Norms.{signed_content_nonzero, scaled_norm}
use Rattle.dz_algebra.proofs.NormLaws.{norm_content, norm_is, norm_idempotent, norm_of_scaled}
use Rattle.dz_algebra.proofs.Operations.{operation_ok, operation_large, operation_wide, monomial_order, operation_is, operation_canonical, nonzero_gathered, product_left_zero, product_right_zero}
use Rattle.dz_algebra.proofs.Inside.{in_sum, in_difference, in_polynomial_product, in_polynomial_derivative}
use Rattle.dz_algebra.proofs.OperationOrder.{same_operation, factors_swap}
use Rattle.dz_algebra.proofs.DomainValues.{value_is_value, value_of_sum, value_of_difference, value_of_product, value_of_norm, value_of_derivative, nonzero_value}

-- a difference is canonical
pub difference_is : {S : Type 0} {cmp : S → S → Ordering} → IsOrder cmp → (p q : Polynomial S) → IsPolynomial cmp p → IsPolynomial cmp q → IsPolynomial cmp (polynomial_difference cmp p q)
unfolding polynomial_difference
difference_is order p q h g = collect_is order (p ++ negated q) (monomials-append order p (negated q) (are_monomials order p h) (are_monomials order (negated q) (negated_is order q g)))

difference_is_sum : {S : Type 0} (cmp : S → S → Ordering) (p q : Polynomial S) → polynomial_difference cmp p q ≡ polynomial_sum cmp p (negated q)
unfolding polynomial_difference polynomial_sum
difference_is_sum cmp p q = refl

-- the order of monomials
pub monomial_laws : {S : Type 0} (cmp : S → S → Ordering) → IsOrder cmp → MonomialLaws cmp
monomial_laws cmp order = record {
  order = monomial_order order;
  greater = λ m n h g e. greater_is_larger order m n h g e;
  product_is = λ m n h g. product_is order m n h g;
  exponents_add = λ s m n. exponent_product order s m n;
  product_keeps = λ k m n h g l. product_keeps_order order k m n h g l;
}

-- polynomials as maps
pub coefficient_laws : {S : Type 0} (cmp : S → S → Ordering) → IsOrder cmp → CoefficientLaws cmp
coefficient_laws cmp order = record {
  made = λ ts h. collect_is order ts h;
  coefficient = λ ts n. coefficient_collect (monomial_cmp cmp) (same_monomial order) n ts;
  same = λ p q h g e. same_polynomial order p q h g e;
}

-- the operations make polynomials
pub closure_laws : {S : Type 0} (cmp : S → S → Ordering) → IsOrder cmp → ClosureLaws cmp
closure_laws cmp order = record {
  one_is = one_is order;
  sum_is = λ p q h g. polynomial_sum_is order p q h g;
  difference_is = λ p q h g. difference_is order p q h g;
  negative_is = λ p h. negated_is order p h;
  product_is = λ p q h g. polynomial_product_is order p q h g;
}

-- the ring of polynomials
pub ring_laws : {S : Type 0} (cmp : S → S → Ordering) → IsOrder cmp → RingLaws cmp
ring_laws cmp order = record {
  sum_commutes = λ p q h g. polynomial_sum_commutes order p q h g;
  sum_associates = λ p q s h g k. sum_associates order p q s h g k;
  zero_is_neutral = λ p h. zero_is_neutral order p h;
  negative_is_inverse = λ p h. negative_is_inverse order p h;
  difference_is = λ p q. difference_is_sum cmp p q;
  product_commutes = λ p q h g. polynomial_product_commutes order p q h g;
  product_associates = λ p q s h g k. polynomial_product_associates order p q s h g k;
  one_is_neutral = λ p h. one_is_neutral order p h;
  product_distributes = λ p q s h g k. polynomial_product_distributes order p q s h g k;
}

-- derivations
pub derivation_laws : {S : Type 0} (cmp : S → S → Ordering) (rate : S → Rate S) → IsOrder cmp → DerivationLaws cmp rate
derivation_laws cmp rate order = record {
  derivative_is = λ p h. polynomial_derivative_is order rate p h;
  of_sum = λ p q h g. ap (λ x. x.0) (additive order rate (p, h) (q, g));
  of_product = λ p q h g. ap (λ x. x.0) (leibniz order rate (p, h) (q, g));
  of_symbol = λ s. derivative_of_symbol order rate s;
}

-- derivations commute
pub commute_laws : {S : Type 0} (cmp : S → S → Ordering) → IsOrder cmp → DerivationsCommute cmp
commute_laws cmp order first second same p h = ap (λ x. x.0) (derivatives_commute order first second same (p, h))

-- coefficients of powers
pub power_laws : {S : Type 0} (cmp : S → S → Ordering) → IsOrder cmp → (s : S) → PowerLaws cmp s
power_laws cmp order s = record {
  coefficient_is = λ k p h. coefficient_of_is order s k p h;
  coefficient = λ n p h g. coefficient_there order s n p h g;
  initial_not_zero = λ p n. initial_not_zero order s p n;
}

-- leaders
pub leader_laws : {S : Type 0} (g : Symbols S) → IsOrder g.cmp → LeaderLaws g
leader_laws g order = record {
  occurs = λ p v h e. leader_occurs g order p v h e;
  greatest = λ p v e. leader_greatest g order p v e;
  ground = λ p. (ground_no_leader g p, no_leader_ground g p);
}

-- the operations bring in no symbols
pub symbol_laws : {S : Type 0} (cmp : S → S → Ordering) (test : S → Bool) → SymbolLaws cmp test
symbol_laws cmp test = record {
  of_sum = λ p q h g. in_sum cmp (λ s. IsTrue (test s)) p q h g;
  of_difference = λ p q h g. in_difference cmp (λ s. IsTrue (test s)) p q h g;
  of_product = λ p q h g. in_polynomial_product cmp (λ s. IsTrue (test s)) p q h g;
  of_derivative = λ rate keeps p h. in_polynomial_derivative cmp (λ s. IsTrue (test s)) rate keeps p h;
}

-- norms
pub norm_laws : {S : Type 0} (cmp : S → S → Ordering) → NormLaws cmp
norm_laws cmp = record {
  divisor = gcd_is;
  norm_is = λ p h. norm_is cmp p h;
  multiple = λ p h. (signed_content_nonzero cmp p h, sym (scaled_norm p));
  normal = λ p h n. norm_content cmp p h n;
  idempotent = λ p h. norm_idempotent cmp p h;
  of_multiple = λ k p n h. norm_of_scaled cmp k n p h;
}

-- answers of operations
pub operation_laws : {S : Type 0} (g : Symbols S) → IsOrder g.cmp → OperationLaws g
operation_laws g order = record {
  ok = λ ts h f. operation_ok g ts h f;
  is_large = λ ts l. operation_large g ts l;
  is_wide = λ ts. operation_wide g ts;
  answer = λ ts p e. operation_is g ts p e;
  canonical = λ ts p h e. operation_canonical g order ts h p e;
  amounts_make = λ ts. nonzero_gathered order ts;
  sums_alone = λ ts us e. same_operation g order ts us e;
  factors_swap = λ p q h k. factors_swap g order p q h k;
  left_zero = λ p. product_left_zero g p;
  right_zero = λ p. product_right_zero g p;
}

-- values in a domain
pub value_laws : {S E : Type 0} (cmp : S → S → Ordering) → IsOrder cmp → (o : Operations E) → DomainLaws o → (at : S → E) → ((s : S) → IsTrue (o.is_value (at s))) → ValueLaws cmp o at
value_laws cmp order o laws at values = record {
  is_value = λ p. value_is_value laws at values p;
  of_sum = λ p q. value_of_sum laws at values cmp order p q;
  of_difference = λ p q. value_of_difference laws at values cmp order p q;
  of_product = λ p q. value_of_product laws at values cmp order p q;
  of_norm = λ p. value_of_norm laws at values p;
  of_derivative = λ i rate h rates p. value_of_derivative laws at values cmp order i h rate rates p;
}

-- nonzero polynomials in symbols with dual derivations
pub nonzero_laws : {S E : Type 0} (cmp : S → S → Ordering) → IsOrder cmp → (o : Operations E) → DomainLaws o → (at : S → E) → ((s : S) → IsTrue (o.is_value (at s))) → (test : S → Bool) (place : S → ℕ) → HaveDualDerivations cmp o at test place → (p : Polynomial S) → IsPolynomial cmp p → PolynomialIn (λ s. IsTrue (test s)) p → p ≢ [] → value o.arithmetic at p ≢ o.zero
nonzero_laws cmp order o laws at values test place apart p h g n = nonzero_value laws at values cmp order (λ s. IsTrue (test s)) place apart.below apart.rates p h g n
