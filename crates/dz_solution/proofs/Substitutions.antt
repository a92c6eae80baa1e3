-- What a substitution answers is the substitution.
use Rattle.std.proofs.Common.{◌≡◌, ◌∙◌, ℕ, zero, suc, List, [], ◌∷◌, take, get_or, ℤ, Ok, sym, ap}
use Rattle.dz_algebra.specs.Ring.{Ring}
use Rattle.dz_algebra.specs.Monomial.{Monomial}
use Rattle.dz_algebra.specs.Polynomial.{Polynomial, IsPolynomial, polynomial_sum, polynomial_product}
use Rattle.dz_algebra.specs.Derivation.{polynomial_derivative}
use Rattle.dz_algebra.specs.Size.{derivation_answer, product_answer, sum_answer}
use Rattle.dz_algebra.specs.Value.{whole_in, power, monomial_value, value}
use Rattle.dz_algebra.proofs.Derivations.{polynomial_derivative_is}
use Rattle.dz_algebra.proofs.Generic.{symbol_is}
use Rattle.dz_algebra.proofs.Operations.{operation_is}
use Rattle.dz_algebra.proofs.PolynomialRing.{Canonical, polynomial_ring}
use Rattle.dz_rank.specs.declared.symbols.Symbol.{Symbol}
use Rattle.dz_rank.specs.declared.symbols.Symbol.TheVariants.{Independent, Derivative}
use Rattle.dz_rank.specs.Rankings.{RankingValue, ranking_cmp}
use Rattle.dz_monomials.specs.Ranked.{symbol_rate, symbols_under}
use Rattle.dz_monomials.specs.Terms.{constant_polynomial}
use Rattle.dz_monomials.proofs.SymbolLaws.{ranking_order}
use Rattle.dz_monomials.specs.Lists.{AllOf}
use Rattle.dz_diff.specs.Operations.{iterated_answer, derivations_answer, setting_of}
use Rattle.dz_diff.specs.Tests.{Polynomials}
use Rattle.dz_algebra.proofs.Outcomes.{bind_ok}
use Rattle.dz_solution.specs.Evaluation.{symbol_answer, multiplied, power_answer, powers_answer, with_term, terms_answer, substitution_answer}
use Rattle.dz_solution.specs.Substitution.{iterated_polynomial, operator_polynomial, put_for, substitution}
use Rattle.dz_solution.proofs.CanonicalValues.{constant_there, value_there}

module _ (r : RankingValue) where
  -- canonical under the ranking
  abbrev pub IsCanonical : Polynomial Symbol → Type 0
  IsCanonical = IsPolynomial (ranking_cmp r)

  -- ---- derivations
  -- what a derivation answers
  derivation_is : (i : ℕ) (a b : Polynomial Symbol) → derivation_answer (symbols_under r) i a ≡ Ok b → b ≡ polynomial_derivative (ranking_cmp r) (symbol_rate i) a
  unfolding polynomial_derivative
  derivation_is i a b e = sym (operation_is (symbols_under r) _ b e)

  -- a derivation taken several times
  iterated_is : (i k : ℕ) (a b : Polynomial Symbol) → iterated_answer (symbols_under r) i k a ≡ Ok b → b ≡ iterated_polynomial r i k a
  iterated_is i zero a b e = cc
  iterated_is i (suc k) a b e =
      let parts = bind_ok (iterated_answer (symbols_under r) i k a) (derivation_answer (symbols_under r) i) b e in
      derivation_is i parts.0 b parts.2
      ∙ ap (polynomial_derivative (ranking_cmp r) (symbol_rate i)) (iterated_is i k a parts.0 parts.1)

  -- the derivations from one on
  derivations_are : (i : ℕ) (ks : List ℕ) (a b : Polynomial Symbol) → derivations_answer (symbols_under r) i ks a ≡ Ok b → b ≡ operator_polynomial r i ks a
  derivations_are i [] a b e = cc
  derivations_are i (k ∷ ks) a b e =
      let parts = bind_ok (iterated_answer (symbols_under r) i k a) (derivations_answer (symbols_under r) (suc i) ks) b e in
      derivations_are (suc i) ks parts.0 b parts.2 ∙ ap (operator_polynomial r (suc i) ks) (iterated_is i k a parts.0 parts.1)

  -- they make canonical polynomials
  iterated_canonical : (i k : ℕ) (a : Polynomial Symbol) → IsCanonical a → IsCanonical (iterated_polynomial r i k a)
  iterated_canonical i zero a h = h
  iterated_canonical i (suc k) a h = polynomial_derivative_is (ranking_order r) (symbol_rate i) _ (iterated_canonical i k a h)

  operator_canonical : (i : ℕ) (ks : List ℕ) (a : Polynomial Symbol) → IsCanonical a → IsCanonical (operator_polynomial r i ks a)
  operator_canonical i [] a h = h
  operator_canonical i (k ∷ ks) a h = operator_canonical (suc i) ks _ (iterated_canonical i k a h)

  -- a polynomial of a list, or zero
  at_or_zero : (fs : Polynomials) (u : ℕ) → AllOf IsCanonical fs → IsCanonical (get_or fs u [])
  at_or_zero [] u h = tt
  at_or_zero (f ∷ fs) zero h = h.0
  at_or_zero (f ∷ fs) (suc u) h = at_or_zero fs u h.1

  module _ (fs : Polynomials) (canonical : AllOf (IsPolynomial (ranking_cmp r)) fs) where
    -- what is put for a symbol is canonical
    pub put_canonical : (s : Symbol) → IsCanonical (put_for r fs s)
    put_canonical (Independent j) = symbol_is (ranking_order r) (Independent j)
    put_canonical (Derivative u t) = operator_canonical 0 (take r.signature.independents t.counts) _ (at_or_zero fs u canonical)

    -- and stands in the ring of canonical polynomials
    abbrev pub put : Symbol → Canonical (ranking_order r)
    put s = (put_for r fs s, put_canonical s)

    abbrev R : Ring (Canonical (ranking_order r))
    R = polynomial_ring (ranking_order r)

    -- the substitution is a value in that ring
    pub substitution_there : (p : Polynomial Symbol) → substitution r fs p ≡ (value R.arithmetic put p).0
    unfolding substitution
    substitution_there p = sym (value_there (ranking_order r) put p)

    -- ---- the operations
    -- what is put for a symbol
    symbol_answered : (s : Symbol) (b : Polynomial Symbol) → symbol_answer (setting_of r) fs s ≡ Ok b → b ≡ put_for r fs s
    symbol_answered (Independent j) b e = cc
    symbol_answered (Derivative u t) b e = derivations_are 0 (take r.signature.independents t.counts) (get_or fs u []) b e

    product_answered : (a v : Canonical (ranking_order r)) (c : Polynomial Symbol) → product_answer (symbols_under r) a.0 v.0 ≡ Ok c → c ≡ (R.product a v).0
    unfolding polynomial_product
    product_answered a v c e = sym (operation_is (symbols_under r) _ c e)

    sum_answered : (a v : Canonical (ranking_order r)) (c : Polynomial Symbol) → sum_answer (symbols_under r) a.0 v.0 ≡ Ok c → c ≡ (R.sum a v).0
    unfolding polynomial_sum
    sum_answered a v c e = sym (operation_is (symbols_under r) _ c e)

    -- factors make a power
    factors_answered : (v : Canonical (ranking_order r)) (e : ℕ) (a : Canonical (ranking_order r)) (b : Polynomial Symbol) → multiplied (symbols_under r) v.0 e a.0 ≡ Ok b → b ≡ (R.product a (power R.arithmetic v e)).0
    factors_answered v zero a b h =
        let same : b ≡ a.0 = cc in same ∙ ap (λ x. x.0) (sym (R.product_commutes a R.one ∙ R.one_is_neutral a))
    factors_answered v (suc e) a b h =
        let parts = bind_ok (product_answer (symbols_under r) a.0 v.0) (multiplied (symbols_under r) v.0 e) b h in
        factors_answered v e (R.product a v) b (ap (multiplied (symbols_under r) v.0 e) (sym (product_answered a v parts.0 parts.1)) ∙ parts.2)
        ∙ ap (λ x. x.0) (R.product_associates a v (power R.arithmetic v e))

    power_answered : (q : Symbol × ℕ) (a : Canonical (ranking_order r)) (b : Polynomial Symbol) → power_answer (setting_of r) fs q a.0 ≡ Ok b → b ≡ (R.product a (power R.arithmetic (put q.0) q.1)).0
    power_answered q a b h =
        let parts = bind_ok (symbol_answer (setting_of r) fs q.0) (λ v. multiplied (symbols_under r) v q.1 a.0) b h in
        factors_answered (put q.0) q.1 a b (ap (λ v. multiplied (symbols_under r) v q.1 a.0) (sym (symbol_answered q.0 parts.0 parts.1)) ∙ parts.2)

    -- the symbols of a monomial
    powers_answered : (m : Monomial Symbol) (a : Canonical (ranking_order r)) (b : Polynomial Symbol) → powers_answer (setting_of r) fs m a.0 ≡ Ok b → b ≡ (R.product a (monomial_value R.arithmetic put m)).0
    powers_answered [] a b h =
        let same : b ≡ a.0 = cc in same ∙ ap (λ x. x.0) (sym (R.product_commutes a R.one ∙ R.one_is_neutral a))
    powers_answered (q ∷ m) a b h =
        let parts = bind_ok (power_answer (setting_of r) fs q a.0) (powers_answer (setting_of r) fs m) b h in
        let x = power R.arithmetic (put q.0) q.1 in
        powers_answered m (R.product a x) b (ap (powers_answer (setting_of r) fs m) (sym (power_answered q a parts.0 parts.1)) ∙ parts.2)
        ∙ ap (λ y. y.0) (R.product_associates a x (monomial_value R.arithmetic put m))

    -- a term
    term_answered : (t : Monomial Symbol × ℤ) (a : Canonical (ranking_order r)) (b : Polynomial Symbol) → with_term (setting_of r) fs t a.0 ≡ Ok b → b ≡ (R.sum a (R.product (whole_in R.arithmetic t.1) (monomial_value R.arithmetic put t.0))).0
    term_answered t a b h =
        let parts = bind_ok (powers_answer (setting_of r) fs t.0 (constant_polynomial t.1)) (λ v. sum_answer (symbols_under r) a.0 v) b h in
        let k = whole_in R.arithmetic t.1 in
        let is = powers_answered t.0 k parts.0 (ap (powers_answer (setting_of r) fs t.0) (sym (constant_there (ranking_order r) t.1)) ∙ parts.1) in
        sum_answered a (R.product k (monomial_value R.arithmetic put t.0)) b (ap (sum_answer (symbols_under r) a.0) (sym is) ∙ parts.2)

    -- the terms
    terms_answered : (p : Polynomial Symbol) (a : Canonical (ranking_order r)) (b : Polynomial Symbol) → terms_answer (setting_of r) fs p a.0 ≡ Ok b → b ≡ (R.sum a (value R.arithmetic put p)).0
    terms_answered [] a b h =
        let same : b ≡ a.0 = cc in same ∙ ap (λ x. x.0) (sym (R.sum_commutes a R.zero ∙ R.zero_is_neutral a))
    terms_answered (t ∷ p) a b h =
        let parts = bind_ok (with_term (setting_of r) fs t a.0) (terms_answer (setting_of r) fs p) b h in
        let x = R.product (whole_in R.arithmetic t.1) (monomial_value R.arithmetic put t.0) in
        terms_answered p (R.sum a x) b (ap (terms_answer (setting_of r) fs p) (sym (term_answered t a parts.0 parts.1)) ∙ parts.2)
        ∙ ap (λ y. y.0) (R.sum_associates a x (value R.arithmetic put p))

    -- what the operations answer is the substitution
    pub substitution_answered : (p b : Polynomial Symbol) → substitution_answer (setting_of r) fs p ≡ Ok b → b ≡ substitution r fs p
    unfolding substitution_answer
    substitution_answered p b h = terms_answered p R.zero b h ∙ ap (λ x. x.0) (R.zero_is_neutral (value R.arithmetic put p)) ∙ sym (substitution_there p)
