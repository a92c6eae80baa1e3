-- The two sides of the identity are canonical, and their values in a ring are those of their parts.
use Rattle.std.proofs.Common.{◌≡◌, ◌∙◌, ℕ, zero, suc, List, [], ◌∷◌, map, take, refl, sym, ap, ap₂, Some, None, Option}
use Rattle.dz_algebra.specs.Derivation.{polynomial_derivative}
use Rattle.dz_algebra.specs.Polynomial.{Polynomial, AreMonomials, IsPolynomial, polynomial_one, polynomial_product}
use Rattle.dz_algebra.specs.Ring.{Ring}
use Rattle.dz_algebra.specs.Value.{monomial_value, power}
use Rattle.dz_algebra.proofs.Canonical.{are_monomials, collect_is}
use Rattle.dz_algebra.proofs.Derivations.{monomials_derivative, own_value}
use Rattle.dz_algebra.proofs.Generic.{itself}
use Rattle.dz_algebra.proofs.PolynomialRing.{Canonical, polynomial_ring, one_is}
use Rattle.dz_algebra.proofs.Products.{monomials_pairs, polynomial_sum_is}
use Rattle.dz_rank.specs.Rankings.{RankingValue, ranking_cmp}
use Rattle.dz_rank.specs.declared.symbols.Symbol.{Symbol}
use Rattle.dz_monomials.specs.Ranked.{symbols_under}
use Rattle.dz_monomials.proofs.SymbolLaws.{ranking_order}
use Rattle.dz_monomials.specs.Lists.{AllOf}
use Rattle.dz_diff.specs.Operations.{setting_of}
use Rattle.dz_diff.specs.State.{State, at_place}
use Rattle.dz_step.specs.declared.Step.{Step}
use Rattle.dz_ask.specs.Derivatives.{derivative_at, iterated_derivative, mixed_derivative, operator_derivative}
use Rattle.dz_ask.specs.Preparation.{Term, polynomials_of, product_of, sum_of}
use Rattle.dz_ask.specs.Products.{Product}
use Rattle.dz_ask.proofs.RingValues.{val, of_product, of_sum, of_one}

-- ---- values
module _ {R : Type 0} (ring : Ring R) (r : RankingValue) (at : Symbol → R) (d : Step → Polynomial Symbol) where
  -- the value of a polynomial
  abbrev v : Polynomial Symbol → R
  v = val ring r at

  -- of a power
  of_power : (x : Polynomial Symbol) (k : ℕ) → v (power (polynomials_of (ranking_cmp r)) x k) ≡ power ring.arithmetic (v x) k
  of_power x zero = of_one ring r at
  of_power x (suc k) = of_product ring r at x _ ∙ ap (ring.product (v x)) (of_power x k)

  -- of a product
  of_monomial : (m : Product) → v (monomial_value (polynomials_of (ranking_cmp r)) d m) ≡ monomial_value ring.arithmetic (λ s. v (d s)) m
  of_monomial [] = of_one ring r at
  of_monomial (p ∷ m) = of_product ring r at _ _ ∙ ap₂ ring.product (of_power (d p.0) p.1) (of_monomial m)

  -- of a product
  pub of_product_of : (fs : List (Polynomial Symbol)) → v (product_of (polynomials_of (ranking_cmp r)) fs) ≡ product_of ring.arithmetic (map v fs)
  of_product_of [] = of_one ring r at
  of_product_of (f ∷ fs) = of_product ring r at f _ ∙ ap (ring.product (v f)) (of_product_of fs)

  -- of a sum of terms
  pub of_sum_of : (ts : List Term) → v (sum_of (polynomials_of (ranking_cmp r)) (λ c. c) d ts) ≡ sum_of ring.arithmetic v (λ s. v (d s)) ts
  of_sum_of [] = refl
  of_sum_of (t ∷ ts) = of_sum ring r at _ _ ∙ ap₂ ring.sum (of_product ring r at t.1 _ ∙ ap (ring.product (v t.1)) (of_monomial t.0)) (of_sum_of ts)

-- ---- canonical polynomials
module _ (r : RankingValue) where
  -- canonical, with the symbols of the ranking
  abbrev Terms : Polynomial Symbol → Type 0
  Terms = AreMonomials (ranking_cmp r)

  -- a product is canonical
  product_canonical : (a b : Polynomial Symbol) → Terms a → Terms b → IsPolynomial (ranking_cmp r) (polynomial_product (ranking_cmp r) a b)
  unfolding polynomial_product
  product_canonical a b h k = collect_is (ranking_order r) _ (monomials_pairs (ranking_order r) a b h k)

  -- and has such symbols
  product_terms : (a b : Polynomial Symbol) → Terms a → Terms b → Terms (polynomial_product (ranking_cmp r) a b)
  product_terms a b h k = are_monomials (ranking_order r) _ (product_canonical a b h k)

  -- so has one
  one_terms : Terms polynomial_one
  one_terms = are_monomials (ranking_order r) polynomial_one (one_is (ranking_order r))

  -- so has a product of several
  product_of_terms : (fs : List (Polynomial Symbol)) → AllOf Terms fs → Terms (product_of (polynomials_of (ranking_cmp r)) fs)
  product_of_terms [] h = one_terms
  product_of_terms (f ∷ fs) h = product_terms f _ h.0 (product_of_terms fs h.1)

  -- the left side
  pub left_canonical : (fs : List (Polynomial Symbol)) (f : Polynomial Symbol) → AllOf Terms fs → Terms f → IsPolynomial (ranking_cmp r) (polynomial_product (ranking_cmp r) (product_of (polynomials_of (ranking_cmp r)) fs) f)
  left_canonical fs f h k = product_canonical _ f (product_of_terms fs h) k

  -- so has a derivative
  derivative_terms : (i : ℕ) (a : Polynomial Symbol) → Terms a → Terms (polynomial_derivative (ranking_cmp r) ((symbols_under r).rate i) a)
  unfolding polynomial_derivative
  derivative_terms i a h = are_monomials (ranking_order r) _ (collect_is (ranking_order r) _ (monomials_derivative (ranking_order r) ((symbols_under r).rate i) a h))

  -- so have iterated ones
  iterated_terms : (i k : ℕ) (a : Polynomial Symbol) → Terms a → Terms (iterated_derivative (symbols_under r) i k a)
  iterated_terms i zero a h = h
  iterated_terms i (suc k) a h = derivative_terms i _ (iterated_terms i k a h)

  -- and those by an operator
  mixed_terms : (i : ℕ) (ks : List ℕ) (a : Polynomial Symbol) → Terms a → Terms (mixed_derivative (symbols_under r) i ks a)
  mixed_terms i [] a h = h
  mixed_terms i (k ∷ ks) a h = mixed_terms (suc i) ks _ (iterated_terms i k a h)

  module _ (s : State) (equations : (j : ℕ) (q : Polynomial Symbol) → at_place j s.equations ≡ Some q → Terms q) where
    -- and that of a step
    at_terms : (st : Step) → Terms (derivative_at (setting_of r) s st)
    at_terms st = by_place (at_place st.place s.equations) refl
      where
        by_place : (o : Option (Polynomial Symbol)) → at_place st.place s.equations ≡ o → Terms (elim o as (λ _. Polynomial Symbol) [ None ↦ [] | Some q ↦ operator_derivative (setting_of r) st.operator q ])
        by_place None e = tt
        by_place (Some q) e = mixed_terms 0 (take r.signature.independents st.operator.counts) q (equations st.place q e)

    -- so has a power
    power_terms : (x : Polynomial Symbol) (k : ℕ) → Terms x → Terms (power (polynomials_of (ranking_cmp r)) x k)
    power_terms x zero h = one_terms
    power_terms x (suc k) h = product_terms x _ h (power_terms x k h)

    -- and a product of powers
    monomial_terms : (m : Product) → Terms (monomial_value (polynomials_of (ranking_cmp r)) (derivative_at (setting_of r) s) m)
    monomial_terms [] = one_terms
    monomial_terms (p ∷ m) = product_terms _ _ (power_terms _ p.1 (at_terms p.0)) (monomial_terms m)

    -- the right side
    pub right_canonical : (ts : List Term) → AllOf (λ t. Terms t.1) ts → IsPolynomial (ranking_cmp r) (sum_of (polynomials_of (ranking_cmp r)) (λ c. c) (derivative_at (setting_of r) s) ts)
    right_canonical [] h = tt
    right_canonical (t ∷ ts) h = polynomial_sum_is (ranking_order r) _ _ (product_canonical t.1 _ h.0 (monomial_terms t.0)) (right_canonical ts h.1)

  -- ---- a polynomial is its own value
  abbrev pub ring : Ring (Canonical (ranking_order r))
  ring = polynomial_ring (ranking_order r)

  -- canonical polynomials with one value in the ring of polynomials are one
  pub same_by_value : (p q : Polynomial Symbol) → IsPolynomial (ranking_cmp r) p → IsPolynomial (ranking_cmp r) q → val ring r (itself (ranking_order r)) p ≡ val ring r (itself (ranking_order r)) q → p ≡ q
  same_by_value p q h k e = ap (λ (x : Canonical (ranking_order r)). x.0) (sym (own_value (ranking_order r) (p, h)) ∙ e ∙ own_value (ranking_order r) (q, k))
