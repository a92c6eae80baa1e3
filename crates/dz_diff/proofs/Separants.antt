-- The separant of a polynomial that has a leader is not zero.
use Rattle.std.proofs.Common.{◌≡◌, ◌⊎◌, inl, inr, ◌≢◌, ℕ, zero, suc, ◌≤◌, ◌<◌, Bool, true, false, cond, [], ◌∷◌, ◌++◌, ℤ, pos, ◌+ℤ◌, ◌*ℤ◌, refl, sym, ap, ap₂, ◌∙◌, arith, subst, eqb, eqb-true, eq-eqb, ne_eqb}
use Rattle.std.specs.declared.cmp.Ordering.{Ordering}
use Rattle.std.specs.declared.cmp.Ordering.TheVariants.{Less}
use Rattle.std.specs.Ordering.{match_ordering}
use Rattle.std.specs.Cmp.{tied_itself}
use Rattle.dz_algebra.specs.Whole.{whole_ring, no_divisors}
use Rattle.dz_algebra.specs.Ring.{product_zero}
use Rattle.dz_algebra.specs.Order.{IsOrder, IsAbove}
use Rattle.dz_algebra.specs.Monomial.{Monomial, IsMonomial, MonomialIn, monomial_cmp, exponent, with_power, without}
use Rattle.dz_algebra.specs.Polynomial.{Polynomial, Contributions, AreMonomials, IsPolynomial, PolynomialIn, collect}
use Rattle.dz_algebra.specs.Derivation.{constant, unit, rate_by, once_less, times_rate, each_with_power, term_derivative, derivative_contributions}
use Rattle.dz_algebra.specs.Parts.{degree}
use Rattle.dz_algebra.proofs.Canonical.{are_monomials}
use Rattle.dz_algebra.proofs.Orders.{less_reversed}
use Rattle.dz_algebra.proofs.Totals.{total, total-append, total_collect}
use Rattle.dz_rank.specs.declared.symbols.Symbol.{Symbol}
use Rattle.dz_diff.proofs.Degrees.{kept_marked, none_only, fewer, AtMost}
use Rattle.dz_diff.proofs.LeaderBounds.{degree_most, most_degree}
use Rattle.dz_diff.proofs.MarkedSums.{marked, Free, exponent_free, exponent_top, without_free, without_top}

module _ {cmp : Symbol → Symbol → Ordering} (order : IsOrder cmp) (w : Symbol) where
  -- not above w
  abbrev pub IsNotAbove : Symbol → Type 0
  IsNotAbove s = (cmp s w ≡ Less) ⊎ (s ≡ w)

  -- a monomial without w contributes nothing
  free_contributes : (m : Monomial Symbol) (c : ℤ) → Free order w m → term_derivative cmp (rate_by cmp w) m c ≡ []
  free_contributes [] c h = refl
  free_contributes (p ∷ m) c h =
      ap₂ (λ (o : Ordering) (ts : Contributions Symbol). times_rate cmp (match_ordering o constant unit constant) (once_less p.0 p.1 m) (c *ℤ pos p.1) ++ each_with_power cmp p.0 p.1 ts) h.0 (free_contributes m c h.1)

  above_free : (m : Monomial Symbol) → IsAbove cmp w m → Free order w m
  above_free [] h = tt
  above_free (p ∷ m) h = (less_reversed order.total w p.0 h.0, above_free m h.1)

  below_free : (s : Symbol) (m : Monomial Symbol) → cmp s w ≡ Less → IsAbove cmp s m → Free order w m
  below_free s [] e h = tt
  below_free s (p ∷ m) e h = (order.total.trans p.0 s w (less_reversed order.total s p.0 h.0) e, below_free s m e h.1)

  -- f of the rest where the exponents are equal, else zero
  at_power : ℕ → ℕ → ℤ → ℤ
  at_power e k x = cond (eqb e k) x (pos 0)

  power_same : (e k : ℕ) (x : ℤ) → e ≡ k → at_power e k x ≡ x
  unfolding at_power
  power_same e k x h = ap (λ b. cond b x (pos 0)) (eq-eqb e k h)

  power_other : (e k : ℕ) (x : ℤ) → e ≢ k → at_power e k x ≡ pos 0
  unfolding at_power
  power_other e k x h = ap (λ b. cond b x (pos 0)) (ne_eqb e k h)

  marked_at : (k : ℕ) (f : Monomial Symbol → ℤ) (e : ℕ) (m n : Monomial Symbol) → exponent cmp w m ≡ e → without cmp w m ≡ n → marked cmp w k f m ≡ at_power e k (f n)
  unfolding at_power
  marked_at k f e m n h i = ap₂ (λ x y. cond (eqb x k) (f y) (pos 0)) h i

  -- w^(e+1) with w taken once less
  less_at : (k : ℕ) (f : Monomial Symbol → ℤ) (e : ℕ) (m : Monomial Symbol) → Free order w m → marked cmp w k f (once_less w (suc e) m) ≡ at_power e k (f m)
  less_at k f zero m h = marked_at k f 0 m m (exponent_free order w m h) (without_free order w m h)
  less_at k f (suc e) m h = marked_at k f (suc e) ((w, suc e) ∷ m) m (exponent_top order w (suc e) m h) (without_top order w (suc e) m h)

  both_zero : (a b c x y : ℤ) → x ≡ pos 0 → y ≡ pos 0 → a *ℤ x +ℤ pos 0 ≡ b *ℤ (c *ℤ y)
  both_zero a b c x y e f =
      ap (λ x. a *ℤ x +ℤ pos 0) e ∙ ap (λ z. z +ℤ pos 0) (product_zero whole_ring a)
      ∙ sym (ap (λ y. b *ℤ (c *ℤ y)) f ∙ ap (λ z. b *ℤ z) (product_zero whole_ring c) ∙ product_zero whole_ring b)

  both_same : (a b x y z : ℤ) → x ≡ z → y ≡ z → (a *ℤ b) *ℤ x +ℤ pos 0 ≡ a *ℤ (b *ℤ y)
  both_same a b x y z e f =
      ap (λ x. (a *ℤ b) *ℤ x +ℤ pos 0) e ∙ whole_ring.sum_commutes ((a *ℤ b) *ℤ z) (pos 0) ∙ whole_ring.zero_is_neutral ((a *ℤ b) *ℤ z) ∙ whole_ring.product_associates a b z
      ∙ sym (ap (λ y. a *ℤ (b *ℤ y)) f)

  -- the part with w^k of what a term contributes is k + 1 times the part with w^(k+1) of the term
  top_term : (k : ℕ) (f : Monomial Symbol → ℤ) (e : ℕ) (m : Monomial Symbol) (c : ℤ) → Free order w m → (c *ℤ pos (suc e)) *ℤ at_power e k (f m) +ℤ pos 0 ≡ c *ℤ (pos (suc k) *ℤ at_power (suc e) (suc k) (f m))
  top_term k f e m c h = by_test (eqb e k) refl
    where
      by_test : (b : Bool) → eqb e k ≡ b → (c *ℤ pos (suc e)) *ℤ at_power e k (f m) +ℤ pos 0 ≡ c *ℤ (pos (suc k) *ℤ at_power (suc e) (suc k) (f m))
      by_test true t =
          let same : e ≡ k = eqb-true e k t in
          both_same c (pos (suc e)) (at_power e k (f m)) (at_power (suc e) (suc k) (f m)) (f m) (power_same e k (f m) same) (power_same (suc e) (suc k) (f m) (ap suc same))
          ∙ ap (λ n. c *ℤ (pos (suc n) *ℤ at_power (suc e) (suc k) (f m))) same
      by_test false t =
          let other : e ≢ k = λ h. let z : eqb e k ≡ true = eq-eqb e k h in cc in
          both_zero (c *ℤ pos (suc e)) c (pos (suc k)) (at_power e k (f m)) (at_power (suc e) (suc k) (f m)) (power_other e k (f m) other) (power_other (suc e) (suc k) (f m) (λ h. other (omega (arith, h))))

  part_of_term : (k : ℕ) (f : Monomial Symbol → ℤ) (m : Monomial Symbol) (c : ℤ) → IsMonomial cmp m → MonomialIn IsNotAbove m → total (marked cmp w k f) (term_derivative cmp (rate_by cmp w) m c) ≡ c *ℤ (pos (suc k) *ℤ marked cmp w (suc k) f m)
  unfolding total
  part_of_term k f m c i u = by_first m i u
    where
      absent : (m : Monomial Symbol) → Free order w m → total (marked cmp w k f) (term_derivative cmp (rate_by cmp w) m c) ≡ c *ℤ (pos (suc k) *ℤ marked cmp w (suc k) f m)
      absent m h =
          ap (total (marked cmp w k f)) (free_contributes m c h)
          ∙ sym (ap (λ y. c *ℤ (pos (suc k) *ℤ y)) (marked_at (suc k) f 0 m m (exponent_free order w m h) (without_free order w m h) ∙ power_other 0 (suc k) (f m) (λ e. absurd (omega (arith, e))))
          ∙ ap (λ z. c *ℤ z) (product_zero whole_ring (pos (suc k))) ∙ product_zero whole_ring c)

      present : (e : ℕ) (m : Monomial Symbol) → Free order w m → total (marked cmp w k f) (term_derivative cmp (rate_by cmp w) ((w, suc e) ∷ m) c) ≡ c *ℤ (pos (suc k) *ℤ marked cmp w (suc k) f ((w, suc e) ∷ m))
      present e m h =
          ap₂ (λ (o : Ordering) (ts : Contributions Symbol). total (marked cmp w k f) (times_rate cmp (match_ordering o constant unit constant) (once_less w (suc e) m) (c *ℤ pos (suc e)) ++ each_with_power cmp w (suc e) ts)) (tied_itself order.total w) (free_contributes m c h)
          ∙ ap (λ x. (c *ℤ pos (suc e)) *ℤ x +ℤ pos 0) (less_at k f e m h)
          ∙ top_term k f e m c h
          ∙ ap (λ y. c *ℤ (pos (suc k) *ℤ y)) (sym (marked_at (suc k) f (suc e) ((w, suc e) ∷ m) m (exponent_top order w (suc e) m h) (without_top order w (suc e) m h)))

      by_first : (m : Monomial Symbol) → IsMonomial cmp m → MonomialIn IsNotAbove m → total (marked cmp w k f) (term_derivative cmp (rate_by cmp w) m c) ≡ c *ℤ (pos (suc k) *ℤ marked cmp w (suc k) f m)
      by_first [] i u = absent [] tt
      by_first ((s, e) ∷ m) i (inl l, v) = absent ((s, e) ∷ m) (l, below_free s m l i.1)
      by_first ((s, zero) ∷ m) i (inr l, v) = absurd (omega (arith, i.0))
      by_first ((s, suc e) ∷ m) i (inr l, v) =
          subst (λ s. total (marked cmp w k f) (term_derivative cmp (rate_by cmp w) ((s, suc e) ∷ m) c) ≡ c *ℤ (pos (suc k) *ℤ marked cmp w (suc k) f ((s, suc e) ∷ m))) (sym l) (present e m (above_free m (subst (λ s. IsAbove cmp s m) l i.1)))

  swapped : (a b x y : ℤ) → a *ℤ (b *ℤ x) +ℤ b *ℤ y ≡ b *ℤ (a *ℤ x +ℤ y)
  swapped a b x y =
      ap (λ z. z +ℤ b *ℤ y) (sym (whole_ring.product_associates a b x) ∙ ap (λ z. z *ℤ x) (whole_ring.product_commutes a b) ∙ whole_ring.product_associates b a x)
      ∙ sym (whole_ring.product_distributes b (a *ℤ x) y)

  part_of_terms : (k : ℕ) (f : Monomial Symbol → ℤ) (p : Polynomial Symbol) → AreMonomials cmp p → PolynomialIn IsNotAbove p → total (marked cmp w k f) (derivative_contributions cmp (rate_by cmp w) p) ≡ pos (suc k) *ℤ total (marked cmp w (suc k) f) p
  unfolding total
  part_of_terms k f [] i u = sym (product_zero whole_ring (pos (suc k)))
  part_of_terms k f (t ∷ p) i u =
      total-append (marked cmp w k f) (term_derivative cmp (rate_by cmp w) t.0 t.1) (derivative_contributions cmp (rate_by cmp w) p)
      ∙ ap₂ (λ x y. x +ℤ y) (part_of_term k f t.0 t.1 i.0 u.0) (part_of_terms k f p i.1 u.1)
      ∙ swapped t.1 (pos (suc k)) (marked cmp w (suc k) f t.0) (total (marked cmp w (suc k) f) p)

  -- where w occurs and nothing is above it, the derivative by w is not zero
  pub separant_nonzero : (q : Polynomial Symbol) → IsPolynomial cmp q → PolynomialIn IsNotAbove q → 0 < degree cmp w q → collect (monomial_cmp cmp) (derivative_contributions cmp (rate_by cmp w) q) ≢ []
  unfolding total
  separant_nonzero q i u some none = by_degree (degree cmp w q) (degree_most cmp w q) refl
    where
      vanishes : (k : ℕ) (f : Monomial Symbol → ℤ) → total (marked cmp w (suc k) f) q ≡ pos 0
      vanishes k f =
          let sum : pos (suc k) *ℤ total (marked cmp w (suc k) f) q ≡ pos 0 =
          sym (part_of_terms k f q (are_monomials order q i) u) ∙ sym (total_collect order (marked cmp w k f) (derivative_contributions cmp (rate_by cmp w) q)) ∙ ap (total (marked cmp w k f)) none in
          elim (no_divisors (pos (suc k)) (total (marked cmp w (suc k) f) q) sum) [ inl e ↦ absurd cc | inr e ↦ e ]

      by_degree : (d : ℕ) → AtMost cmp w d q → degree cmp w q ≡ d → ⊥
      by_degree zero a e = omega (arith, some, e)
      by_degree (suc d) a e =
          let gone = none_only order w (suc d) q i (λ f. kept_marked order w d f q (are_monomials order q i) ∙ vanishes d (λ n. f (with_power cmp w (suc d) n))) in
          let less : degree cmp w q ≤ d = most_degree cmp w d q (fewer order w d q a gone) in
          omega (arith, less, e)
