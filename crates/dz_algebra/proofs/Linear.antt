-- The separant of a polynomial that is linear in a symbol is the coefficient of that symbol.
use Rattle.std.proofs.Common.{◌≡◌, ◌≢◌, ◌≤◌, ◌<◌, ℕ, zero, suc, ◌+◌, max, Bool, true, false, cond, [], ◌∷◌, ◌++◌, ℤ, pos, ◌*ℤ◌, ◌==◌, refl, sym, ap, ap₂, ◌∙◌, arith, subst}
use Rattle.std.proofs.lemmas.Int.{ints}
use Rattle.std.specs.declared.cmp.Ordering.{Ordering}
use Rattle.std.specs.declared.cmp.Ordering.TheVariants.{Less, Equal, Greater}
use Rattle.std.specs.Cmp.{tied_itself}
use Rattle.std.specs.Ordering.{match_ordering}
use Rattle.dz_algebra.specs.Order.{IsOrder, IsAbove}
use Rattle.dz_algebra.specs.Monomial.{Monomial, IsMonomial, exponent, with_power, without, monomial_cmp}
use Rattle.dz_algebra.specs.Polynomial.{Contributions, Polynomial, IsPolynomial, collect}
use Rattle.dz_algebra.specs.Derivation.{constant, unit, rate_by, once_less, times_rate, each_with_power, term_derivative, derivative_contributions, polynomial_derivative}
use Rattle.dz_algebra.specs.Parts.{coefficient_of, degree, separant}
use Rattle.dz_algebra.proofs.Canonical.{collected}
use Rattle.dz_algebra.proofs.Coefficients.{coefficient_of_is, without_nothing}

module _ {S : Type 0} {cmp : S → S → Ordering} (order : IsOrder cmp) (v : S) where
  -- a power of a symbol that is above all others comes first
  power_first : (s : S) (e : ℕ) (m : Monomial S) → IsAbove cmp s m → with_power cmp s e m ≡ (s, e) ∷ m
  power_first s e [] a = refl
  power_first s e (q ∷ m) a = ap (λ o. match_ordering o (q ∷ with_power cmp s e m) ((q.0, e + q.1) ∷ m) ((s, e) ∷ q ∷ m)) a.0

  above_without : (s : S) (m : Monomial S) → IsAbove cmp s m → IsAbove cmp s (without cmp v m)
  above_without s [] a = tt
  above_without s (q ∷ m) a = by_order (cmp v q.0) (above_without s m a.1)
    where
      by_order : (o : Ordering) → IsAbove cmp s (without cmp v m) → IsAbove cmp s (match_ordering o (q ∷ without cmp v m) (without cmp v m) (q ∷ without cmp v m))
      by_order Less e = (a.0, e)
      by_order Equal e = e
      by_order Greater e = (a.0, e)

  tied_back : (s : S) → cmp s v ≡ Equal → cmp v s ≡ Equal
  tied_back s h = subst (λ x. cmp v x ≡ Equal) (sym (order.same s v h)) (tied_itself order.total v)

  tied_forth : (s : S) → cmp v s ≡ Equal → cmp s v ≡ Equal
  tied_forth s h = subst (λ x. cmp x v ≡ Equal) (order.same v s h) (tied_itself order.total v)

  -- a term without v contributes nothing
  absent : (m : Monomial S) (c : ℤ) → IsMonomial cmp m → exponent cmp v m ≡ 0 → term_derivative cmp (rate_by cmp v) m c ≡ []
  absent [] c h e = refl
  absent (p ∷ m) c h e = by_order (cmp v p.0) refl e (λ k. absent m c h.2 k)
    where
      other : cmp v p.0 ≢ Equal → term_derivative cmp (rate_by cmp v) m c ≡ [] → term_derivative cmp (rate_by cmp v) (p ∷ m) c ≡ []
      other n k = by_rate (cmp p.0 v) refl
        where
          by_rate : (o : Ordering) → cmp p.0 v ≡ o → (times_rate cmp (match_ordering o constant unit constant) (once_less p.0 p.1 m) (c *ℤ pos p.1) ++ each_with_power cmp p.0 p.1 (term_derivative cmp (rate_by cmp v) m c)) ≡ []
          by_rate Less g = ap (each_with_power cmp p.0 p.1) k
          by_rate Equal g = absurd (n (tied_back p.0 g))
          by_rate Greater g = ap (each_with_power cmp p.0 p.1) k

      by_order : (o : Ordering) → cmp v p.0 ≡ o → match_ordering o (exponent cmp v m) (p.1 + exponent cmp v m) (exponent cmp v m) ≡ 0
          → (exponent cmp v m ≡ 0 → term_derivative cmp (rate_by cmp v) m c ≡ []) → term_derivative cmp (rate_by cmp v) (p ∷ m) c ≡ []
      by_order Less g k more = other (λ x. cc) (more k)
      by_order Equal g k more = let positive : 0 < p.1 = h.0 in absurd (omega arith)
      by_order Greater g k more = other (λ x. cc) (more k)

  -- a term with v once contributes itself without v
  present : (m : Monomial S) (c : ℤ) → IsMonomial cmp m → exponent cmp v m ≡ 1 → term_derivative cmp (rate_by cmp v) m c ≡ (without cmp v m, c) ∷ []
  present [] c h e = absurd cc
  present (p ∷ m) c h e = by_order (cmp v p.0) refl e (λ k. present m c h.2 k)
    where
      other : cmp v p.0 ≢ Equal → term_derivative cmp (rate_by cmp v) m c ≡ (without cmp v m, c) ∷ [] → term_derivative cmp (rate_by cmp v) (p ∷ m) c ≡ (p ∷ without cmp v m, c) ∷ []
      other n k = by_rate (cmp p.0 v) refl
        where
          powered : each_with_power cmp p.0 p.1 (term_derivative cmp (rate_by cmp v) m c) ≡ (p ∷ without cmp v m, c) ∷ []
          powered = ap (each_with_power cmp p.0 p.1) k ∙ ap (λ n. (n, c) ∷ []) (power_first p.0 p.1 (without cmp v m) (above_without p.0 m h.1))

          by_rate : (o : Ordering) → cmp p.0 v ≡ o → (times_rate cmp (match_ordering o constant unit constant) (once_less p.0 p.1 m) (c *ℤ pos p.1) ++ each_with_power cmp p.0 p.1 (term_derivative cmp (rate_by cmp v) m c)) ≡ (p ∷ without cmp v m, c) ∷ []
          by_rate Less g = powered
          by_rate Equal g = absurd (n (tied_back p.0 g))
          by_rate Greater g = powered

      itself : cmp v p.0 ≡ Equal → p.1 ≡ 1 → exponent cmp v m ≡ 0 → term_derivative cmp (rate_by cmp v) (p ∷ m) c ≡ (without cmp v m, c) ∷ []
      itself g one none =
          let rate : cmp p.0 v ≡ Equal = tied_forth p.0 g in
          let same : c *ℤ pos 1 ≡ c = omega (arith, ints) in
          rw (rate, one, absent m c h.2 none, same, without_nothing order v m h.2 none) refl

      by_order : (o : Ordering) → cmp v p.0 ≡ o → match_ordering o (exponent cmp v m) (p.1 + exponent cmp v m) (exponent cmp v m) ≡ 1
          → (exponent cmp v m ≡ 1 → term_derivative cmp (rate_by cmp v) m c ≡ (without cmp v m, c) ∷ [])
          → term_derivative cmp (rate_by cmp v) (p ∷ m) c ≡ (match_ordering o (p ∷ without cmp v m) (without cmp v m) (p ∷ without cmp v m), c) ∷ []
      by_order Less g k more = other (λ x. cc) (more k)
      by_order Equal g k more = let positive : 0 < p.1 = h.0 in itself g (omega arith) (omega arith)
      by_order Greater g k more = other (λ x. cc) (more k)

  -- the contributions of a linear polynomial's separant are the terms of the coefficient
  linear_contributions : (p : Polynomial S) → IsPolynomial cmp p → degree cmp v p ≤ 1 → derivative_contributions cmp (rate_by cmp v) p ≡ coefficient_of cmp v 1 p
  linear_contributions [] h d = refl
  linear_contributions (t ∷ p) h d = by_exponent (exponent cmp v t.0) refl (linear_contributions p h.3 (omega arith))
    where
      by_exponent : (e : ℕ) → exponent cmp v t.0 ≡ e → derivative_contributions cmp (rate_by cmp v) p ≡ coefficient_of cmp v 1 p
          → (term_derivative cmp (rate_by cmp v) t.0 t.1 ++ derivative_contributions cmp (rate_by cmp v) p) ≡ cond (e == 1) ((without cmp v t.0, t.1) ∷ coefficient_of cmp v 1 p) (coefficient_of cmp v 1 p)
      by_exponent zero e more = ap₂ (λ a b. a ++ b) (absent t.0 t.1 h.1 e) more
      by_exponent (suc zero) e more = ap₂ (λ a b. a ++ b) (present t.0 t.1 h.1 e) more
      by_exponent (suc (suc n)) e more = absurd (omega arith)

  -- the separant of a linear polynomial is its coefficient of v
  pub separant_linear : (p : Polynomial S) → IsPolynomial cmp p → degree cmp v p ≤ 1 → separant cmp v p ≡ coefficient_of cmp v 1 p
  unfolding polynomial_derivative
  separant_linear p h d = ap (collect (monomial_cmp cmp)) (linear_contributions p h d) ∙ collected order (coefficient_of cmp v 1 p) (coefficient_of_is order v 1 p h)
