-- The operations bring in no symbols: each symbol of a result passes a test, if those of the operands do.
use Rattle.std.proofs.Common.{◌≡◌, ◌≢◌, ℕ, zero, suc, ◌+◌, ◌==◌, true, false, cond, [], ◌∷◌, ◌++◌, ℤ, pos, ◌+ℤ◌, ◌*ℤ◌, refl, sym, ap, ◌∙◌, subst}
use Rattle.std.specs.declared.cmp.Ordering.{Ordering}
use Rattle.std.specs.declared.cmp.Ordering.TheVariants.{Less, Equal, Greater}
use Rattle.std.specs.Ordering.{match_ordering}
use Rattle.dz_algebra.specs.Whole.{whole_is_zero}
use Rattle.dz_algebra.specs.Order.{IsOrder}
use Rattle.dz_algebra.specs.Monomial.{Monomial, MonomialIn, monomial_cmp, exponent, with_power, without, monomial_product}
use Rattle.dz_algebra.specs.Polynomial.{Polynomial, Contributions, PolynomialIn, keep, add_term, collect, negated, scaled, term_times, pairs, polynomial_sum, polynomial_difference, polynomial_product}
use Rattle.dz_algebra.specs.Derivation.{Rate, RateIn, constant, unit, symbol, once_less, times_rate, each_with_power, term_derivative, derivative_contributions, polynomial_derivative}
use Rattle.dz_algebra.specs.Parts.{coefficient_of}
use Rattle.dz_algebra.specs.Norm.{divided, signed_content, norm}

-- ---- every symbol passes a test
module _ {S : Type 0} (cmp : S → S → Ordering) (P : S → Type 0) where
  -- two lists of contributions together
  pub in-append : (ts us : Contributions S) → PolynomialIn P ts → PolynomialIn P us → PolynomialIn P (ts ++ us)
  in-append [] us h g = g
  in-append (t ∷ ts) us h g = (h.0, in-append ts us h.1 g)

  -- a monomial times a power
  pub in_with_power : (s : S) (e : ℕ) (m : Monomial S) → P s → MonomialIn P m → MonomialIn P (with_power cmp s e m)
  in_with_power s e [] h g = (h, tt)
  in_with_power s e (p ∷ m) h g =
      elim (cmp s p.0) as (λ o. MonomialIn P (match_ordering o (p ∷ with_power cmp s e m) ((p.0, e + p.1) ∷ m) ((s, e) ∷ p ∷ m))) [
        | Less ↦ (g.0, in_with_power s e m h g.1)
        | Equal ↦ (g.0, g.1)
        | Greater ↦ (h, g)
      ]

  -- a product of monomials
  pub in_product : (m n : Monomial S) → MonomialIn P m → MonomialIn P n → MonomialIn P (monomial_product cmp m n)
  in_product [] n h g = g
  in_product (p ∷ m) n h g = in_with_power p.0 p.1 (monomial_product cmp m n) h.0 (in_product m n h.1 g)

  in_term_times : (m : Monomial S) (c : ℤ) (q : Polynomial S) → MonomialIn P m → PolynomialIn P q → PolynomialIn P (term_times cmp m c q)
  in_term_times m c [] h g = tt
  in_term_times m c (t ∷ q) h g = (in_product m t.0 h g.0, in_term_times m c q h g.1)

  -- the contributions of a product
  pub in_pairs : (p q : Polynomial S) → PolynomialIn P p → PolynomialIn P q → PolynomialIn P (pairs cmp p q)
  in_pairs [] q h g = tt
  in_pairs (t ∷ p) q h g = in-append (term_times cmp t.0 t.1 q) (pairs cmp p q) (in_term_times t.0 t.1 q h.0 g) (in_pairs p q h.1 g)

  in_keep : (m : Monomial S) (c : ℤ) (p : Polynomial S) → MonomialIn P m → PolynomialIn P p → PolynomialIn P (keep m c p)
  in_keep m c p h g = elim (whole_is_zero c) as (λ b. PolynomialIn P (cond b p ((m, c) ∷ p))) [ true ↦ g | false ↦ (h, g) ]

  in_add : (m : Monomial S) (c : ℤ) (p : Polynomial S) → MonomialIn P m → PolynomialIn P p → PolynomialIn P (add_term (monomial_cmp cmp) m c p)
  in_add m c [] h g = in_keep m c [] h g
  in_add m c (t ∷ p) h g =
      elim (monomial_cmp cmp m t.0) as (λ o. PolynomialIn P (match_ordering o (t ∷ add_term (monomial_cmp cmp) m c p) (keep m (c +ℤ t.1) p) (keep m c (t ∷ p)))) [
        | Less ↦ (g.0, in_add m c p h g.1)
        | Equal ↦ in_keep m (c +ℤ t.1) p h g.1
        | Greater ↦ in_keep m c (t ∷ p) h g
      ]

  -- what contributions make
  pub in_collect : (ts : Contributions S) → PolynomialIn P ts → PolynomialIn P (collect (monomial_cmp cmp) ts)
  in_collect [] h = tt
  in_collect (t ∷ ts) h = in_add t.0 t.1 (collect (monomial_cmp cmp) ts) h.0 (in_collect ts h.1)

  -- a monomial without a symbol
  pub in_without : (v : S) (m : Monomial S) → MonomialIn P m → MonomialIn P (without cmp v m)
  in_without v [] h = tt
  in_without v (p ∷ m) h =
      elim (cmp v p.0) as (λ o. MonomialIn P (match_ordering o (p ∷ without cmp v m) (without cmp v m) (p ∷ without cmp v m))) [
        | Less ↦ (h.0, in_without v m h.1)
        | Equal ↦ in_without v m h.1
        | Greater ↦ (h.0, in_without v m h.1)
      ]

  -- the coefficient of a power
  pub in_coefficient : (v : S) (k : ℕ) (p : Polynomial S) → PolynomialIn P p → PolynomialIn P (coefficient_of cmp v k p)
  in_coefficient v k [] h = tt
  in_coefficient v k (t ∷ p) h =
      let r = in_coefficient v k p h.1 in
      elim (exponent cmp v t.0 == k) as (λ b. PolynomialIn P (cond b ((without cmp v t.0, t.1) ∷ coefficient_of cmp v k p) (coefficient_of cmp v k p))) [ true ↦ (in_without v t.0 h.0, r) | false ↦ r ]

  -- a quotient by a whole number
  pub in_divided : (k : ℤ) (p : Polynomial S) → PolynomialIn P p → PolynomialIn P (divided k p)
  in_divided k [] h = tt
  in_divided k (t ∷ p) h = (h.0, in_divided k p h.1)

  -- the norm
  pub in_norm : (p : Polynomial S) → PolynomialIn P p → PolynomialIn P (norm p)
  unfolding norm
  in_norm p h = in_divided (signed_content p) p h

  -- a multiple
  pub in_scaled : (k : ℤ) (p : Polynomial S) → PolynomialIn P p → PolynomialIn P (scaled k p)
  in_scaled k [] h = tt
  in_scaled k (t ∷ p) h = (h.0, in_scaled k p h.1)

  -- the negatives
  pub in_negated : (p : Contributions S) → PolynomialIn P p → PolynomialIn P (negated p)
  in_negated [] h = tt
  in_negated (t ∷ p) h = (h.0, in_negated p h.1)

  -- ---- the operations
  pub in_sum : (p q : Polynomial S) → PolynomialIn P p → PolynomialIn P q → PolynomialIn P (polynomial_sum cmp p q)
  unfolding polynomial_sum
  in_sum p q h g = in_collect (p ++ q) (in-append p q h g)

  -- a difference
  pub in_difference : (p q : Polynomial S) → PolynomialIn P p → PolynomialIn P q → PolynomialIn P (polynomial_difference cmp p q)
  unfolding polynomial_difference
  in_difference p q h g = in_collect (p ++ negated q) (in-append p (negated q) h (in_negated q g))

  -- a product
  pub in_polynomial_product : (p q : Polynomial S) → PolynomialIn P p → PolynomialIn P q → PolynomialIn P (polynomial_product cmp p q)
  unfolding polynomial_product
  in_polynomial_product p q h g = in_collect (pairs cmp p q) (in_pairs p q h g)

  -- derivations, whose rates pass too
  pub in_once_less : (s : S) (e : ℕ) (m : Monomial S) → P s → MonomialIn P m → MonomialIn P (once_less s e m)
  in_once_less s zero m h g = g
  in_once_less s (suc zero) m h g = g
  in_once_less s (suc (suc e)) m h g = (h, g)

  in_times_rate : (x : Rate S) (m : Monomial S) (c : ℤ) → RateIn P x → MonomialIn P m → PolynomialIn P (times_rate cmp x m c)
  in_times_rate constant m c h g = tt
  in_times_rate unit m c h g = (g, tt)
  in_times_rate (symbol t) m c h g = (in_with_power t 1 m h g, tt)

  in_each : (s : S) (e : ℕ) (ts : Contributions S) → P s → PolynomialIn P ts → PolynomialIn P (each_with_power cmp s e ts)
  in_each s e [] h g = tt
  in_each s e (t ∷ ts) h g = (in_with_power s e t.0 h g.0, in_each s e ts h g.1)

  module _ (rate : S → Rate S) (keeps : (s : S) → P s → RateIn P (rate s)) where
    in_term_derivative : (m : Monomial S) (c : ℤ) → MonomialIn P m → PolynomialIn P (term_derivative cmp rate m c)
    in_term_derivative [] c h = tt
    in_term_derivative (p ∷ m) c h =
        in-append (times_rate cmp (rate p.0) (once_less p.0 p.1 m) (c *ℤ pos p.1)) (each_with_power cmp p.0 p.1 (term_derivative cmp rate m c))
        (in_times_rate (rate p.0) (once_less p.0 p.1 m) (c *ℤ pos p.1) (keeps p.0 h.0) (in_once_less p.0 p.1 m h.0 h.1))
        (in_each p.0 p.1 (term_derivative cmp rate m c) h.0 (in_term_derivative m c h.1))

    -- the contributions of a derivation
    pub in_derivative : (p : Polynomial S) → PolynomialIn P p → PolynomialIn P (derivative_contributions cmp rate p)
    in_derivative [] h = tt
    in_derivative (t ∷ p) h = in-append (term_derivative cmp rate t.0 t.1) (derivative_contributions cmp rate p) (in_term_derivative t.0 t.1 h.0) (in_derivative p h.1)

    -- a derivative
    pub in_polynomial_derivative : (p : Polynomial S) → PolynomialIn P p → PolynomialIn P (polynomial_derivative cmp rate p)
    unfolding polynomial_derivative
    in_polynomial_derivative p h = in_collect (derivative_contributions cmp rate p) (in_derivative p h)

module _ {S : Type 0} {cmp : S → S → Ordering} (order : IsOrder cmp) (P : S → Type 0) where
  -- a symbol with an exponent occurs
  pub occurs : (v : S) (m : Monomial S) → exponent cmp v m ≢ 0 → MonomialIn P m → P v
  occurs v [] n h = absurd (n refl)
  occurs v (p ∷ m) n h = by_order (cmp v p.0) refl (occurs v m)
    where
      by_order : (o : Ordering) → cmp v p.0 ≡ o → (exponent cmp v m ≢ 0 → MonomialIn P m → P v) → P v
      by_order Less e ih = ih (λ z. n (ap (λ o. match_ordering o (exponent cmp v m) (p.1 + exponent cmp v m) (exponent cmp v m)) e ∙ z)) h.1
      by_order Equal e ih = subst P (sym (order.same v p.0 e)) h.0
      by_order Greater e ih = ih (λ z. n (ap (λ o. match_ordering o (exponent cmp v m) (p.1 + exponent cmp v m) (exponent cmp v m)) e ∙ z)) h.1
