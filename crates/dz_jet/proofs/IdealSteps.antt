-- A step leads back into the ideals of polynomials whose derivatives vanish: where its end and its divisor lie in
-- one, so does what it began with.
use Rattle.std.proofs.Common.{◌≡◌, ◌∙◌, ℕ, List, [], ◌∷◌, ◌++◌, ℤ, pos, ◌*ℤ◌, refl, sym, ap, ap₂, subst, append-nil, Ok, unsigned_abs}
use Rattle.dz_algebra.specs.Monomial.{Monomial, monomial_cmp, monomial_product}
use Rattle.dz_algebra.specs.Norm.{divided, norm, signed_content}
use Rattle.dz_algebra.specs.Polynomial.{Polynomial, Contributions, IsPolynomial, AreMonomials, collect, negated, pairs, term_times, scaled, polynomial_product, polynomial_sum}
use Rattle.dz_algebra.specs.Ring.{negative_negative}
use Rattle.dz_algebra.specs.Size.{difference_answer, product_answer}
use Rattle.dz_algebra.proofs.Canonical.{are_monomials, collect_is, collected}
use Rattle.dz_algebra.proofs.Norms.{Divides, exact, scaled_norm}
use Rattle.dz_algebra.proofs.Operations.{operation_is}
use Rattle.dz_algebra.proofs.PolynomialRing.{same_canonical, polynomial_ring}
use Rattle.dz_algebra.proofs.Products.{monomials_pairs}
use Rattle.dz_algebra.proofs.Totals.{total, total_collect, total_pairs, same_by_totals}
use Rattle.dz_rank.specs.Rankings.{RankingValue, ranking_cmp}
use Rattle.dz_rank.specs.declared.symbols.Symbol.{Symbol}
use Rattle.dz_monomials.specs.Ranked.{symbols_under}
use Rattle.dz_monomials.proofs.SymbolLaws.{ranking_order}
use Rattle.dz_jet.proofs.Ideals.{IsPrimeIdeal, Along, along_multiple, along_negative, along_other, along_prime}
use Rattle.dz_jet.proofs.Operators.{Poly, derivation, is_derivation}

module _ (r : RankingValue) where
  -- ---- products of what contributions make
  abbrev pub made : (ts : Contributions Symbol) → AreMonomials (ranking_cmp r) ts → Poly r
  made ts h = (collect (monomial_cmp (ranking_cmp r)) ts, collect_is (ranking_order r) ts h)

  pub made_itself : (p : Polynomial Symbol) (h : IsPolynomial (ranking_cmp r) p) (k : AreMonomials (ranking_cmp r) p) → made p k ≡ (p, h)
  made_itself p h k = same_canonical (ranking_order r) _ _ (collected (ranking_order r) p h)

  product_made : (a b : Contributions Symbol) (h : AreMonomials (ranking_cmp r) a) (k : AreMonomials (ranking_cmp r) b)
      → made (pairs (ranking_cmp r) a b) (monomials_pairs (ranking_order r) a b h k) ≡ (polynomial_ring (ranking_order r)).product (made a h) (made b k)
  unfolding polynomial_product
  product_made a b h k =
      let cmp = ranking_cmp r in
      let ca = collect (monomial_cmp (ranking_cmp r)) a in
      let cb = collect (monomial_cmp (ranking_cmp r)) b in
      same_canonical (ranking_order r) _ _
      (same_by_totals (ranking_order r) (pairs cmp a b) (pairs cmp ca cb) (monomials_pairs (ranking_order r) a b h k)
      (monomials_pairs (ranking_order r) ca cb (are_monomials (ranking_order r) ca (made a h).1) (are_monomials (ranking_order r) cb (made b k).1))
      (λ f. total_pairs (ranking_order r) f a b ∙ sym (total_pairs (ranking_order r) f ca cb ∙ total_collect (ranking_order r) (λ m. total (λ n. f (monomial_product cmp m n)) cb) a
      ∙ ap (λ (g : Monomial Symbol → ℤ). total g a) (λ i m. total_collect (ranking_order r) (λ n. f (monomial_product cmp m n)) b i))))

  -- ---- multiples by whole numbers
  whole : ℤ → Contributions Symbol
  whole k = ([], k) ∷ []

  term_times_none : (k : ℤ) (p : Contributions Symbol) → term_times (ranking_cmp r) [] k p ≡ scaled k p
  term_times_none k [] = refl
  term_times_none k (t ∷ p) = ap (λ q. (t.0, k *ℤ t.1) ∷ q) (term_times_none k p)

  whole_times : (k : ℤ) (p : Contributions Symbol) → pairs (ranking_cmp r) (whole k) p ≡ scaled k p
  unfolding whole
  whole_times k p = append-nil (term_times (ranking_cmp r) [] k p) ∙ term_times_none k p

  multiple_is : (k : ℤ) (p q : Polynomial Symbol) (h : IsPolynomial (ranking_cmp r) q) (m : AreMonomials (ranking_cmp r) p) → scaled k p ≡ q
      → (c : Poly r) × ((polynomial_ring (ranking_order r)).product c (made p m) ≡ (q, h))
  unfolding whole
  multiple_is k p q h m e =
      (made (whole k) (tt, tt), sym (product_made (whole k) p (tt, tt) m) ∙ same_canonical (ranking_order r) _ _ (ap (collect (monomial_cmp (ranking_cmp r))) (whole_times k p ∙ e) ∙ collected (ranking_order r) q h))

  scaled_divided : (k : ℤ) (g : ℕ) → unsigned_abs k ≡ g → (p : Contributions Symbol) → Divides g p → scaled k (divided k p) ≡ p
  scaled_divided k g e [] h = refl
  scaled_divided k g e (t ∷ p) h = ap₂ (λ (c : ℤ) (q : Contributions Symbol). (t.0, c) ∷ q) (sym (exact t.1 k g e h.0)) (scaled_divided k g e p h.1)

  module _ (I : Poly r → Type 0) (ideal : IsPrimeIdeal (polynomial_ring (ranking_order r)) I) where
    abbrev In : List ℕ → Poly r → Type 0
    In is p = Along (polynomial_ring (ranking_order r)) (derivation r) (is_derivation r) I ideal is p

    -- ---- the operations
    product_is : (a b c : Polynomial Symbol) (m : AreMonomials (ranking_cmp r) a) (h : IsPolynomial (ranking_cmp r) b) (k : IsPolynomial (ranking_cmp r) c)
        → product_answer (symbols_under r) a b ≡ Ok c → (polynomial_ring (ranking_order r)).product (made a m) (b, h) ≡ (c, k)
    product_is a b c m h k e =
        let n = are_monomials (ranking_order r) b h in
        ap ((polynomial_ring (ranking_order r)).product (made a m)) (sym (made_itself b h n)) ∙ sym (product_made a b m n)
        ∙ same_canonical (ranking_order r) _ _ (operation_is (symbols_under r) (pairs (ranking_cmp r) a b) c e)

    -- a product lies in it with its second factor
    pub in_product : (is : List ℕ) (a b c : Polynomial Symbol) → AreMonomials (ranking_cmp r) a → (h : IsPolynomial (ranking_cmp r) b) (k : IsPolynomial (ranking_cmp r) c)
        → product_answer (symbols_under r) a b ≡ Ok c → In is (b, h) → In is (c, k)
    in_product is a b c m h k e x =
        subst (In is) (product_is a b c m h k e) (along_multiple (polynomial_ring (ranking_order r)) (derivation r) (is_derivation r) I ideal is (made a m) (b, h) x)

    -- and the second factor with the product, where the first is not in the ideal
    pub in_factor : (is : List ℕ) (a b c : Polynomial Symbol) (m : AreMonomials (ranking_cmp r) a) (h : IsPolynomial (ranking_cmp r) b) (k : IsPolynomial (ranking_cmp r) c)
        → product_answer (symbols_under r) a b ≡ Ok c → (I (made a m) → ⊥) → In is (c, k) → In is (b, h)
    in_factor is a b c m h k e n x =
        along_prime (polynomial_ring (ranking_order r)) (derivation r) (is_derivation r) I ideal is (made a m) (b, h) n (subst (In is) (sym (product_is a b c m h k e)) x)

    difference_is : (a b c : Polynomial Symbol) (h : IsPolynomial (ranking_cmp r) a) (i : IsPolynomial (ranking_cmp r) b) (k : IsPolynomial (ranking_cmp r) c)
        → difference_answer (symbols_under r) a b ≡ Ok c → (polynomial_ring (ranking_order r)).sum (a, h) ((polynomial_ring (ranking_order r)).negative (b, i)) ≡ (c, k)
    unfolding polynomial_sum
    difference_is a b c h i k e = same_canonical (ranking_order r) _ _ (operation_is (symbols_under r) (a ++ negated b) c e)

    -- the first of two lies in it with the second and their difference
    pub in_minuend : (is : List ℕ) (a b c : Polynomial Symbol) (h : IsPolynomial (ranking_cmp r) a) (i : IsPolynomial (ranking_cmp r) b) (k : IsPolynomial (ranking_cmp r) c)
        → difference_answer (symbols_under r) a b ≡ Ok c → In is (b, i) → In is (c, k) → In is (a, h)
    in_minuend is a b c h i k e x y =
        let ring = polynomial_ring (ranking_order r) in
        along_other ring (derivation r) (is_derivation r) I ideal is (ring.negative (b, i)) (a, h)
        (along_negative ring (derivation r) (is_derivation r) I ideal is (b, i) x)
        (subst (In is) (sym (ring.sum_commutes (ring.negative (b, i)) (a, h) ∙ difference_is a b c h i k e)) y)

    -- and the second with the first and their difference
    pub in_subtrahend : (is : List ℕ) (a b c : Polynomial Symbol) (h : IsPolynomial (ranking_cmp r) a) (i : IsPolynomial (ranking_cmp r) b) (k : IsPolynomial (ranking_cmp r) c)
        → difference_answer (symbols_under r) a b ≡ Ok c → In is (a, h) → In is (c, k) → In is (b, i)
    in_subtrahend is a b c h i k e x y =
        let ring = polynomial_ring (ranking_order r) in
        subst (In is) (negative_negative ring (b, i))
        (along_negative ring (derivation r) (is_derivation r) I ideal is (ring.negative (b, i))
        (along_other ring (derivation r) (is_derivation r) I ideal is (a, h) (ring.negative (b, i)) x (subst (In is) (sym (difference_is a b c h i k e)) y)))

    -- a polynomial lies in it with its norm
    pub in_norm : (is : List ℕ) (p x : Polynomial Symbol) (h : IsPolynomial (ranking_cmp r) p) (k : IsPolynomial (ranking_cmp r) x) → norm p ≡ x → In is (x, k) → In is (p, h)
    in_norm is p x h k e y =
        let m = are_monomials (ranking_order r) x k in
        let c = multiple_is (signed_content p) x p h m (ap (scaled (signed_content p)) (sym e) ∙ scaled_norm p) in
        subst (In is) c.1 (along_multiple (polynomial_ring (ranking_order r)) (derivation r) (is_derivation r) I ideal is c.0 (made x m) (subst (In is) (sym (made_itself x k m)) y))

    -- a multiplier divided by a number that divides it is not in the ideal, if the multiplier is not
    pub quotient_outside : (k : ℕ) (a : Polynomial Symbol) (h : IsPolynomial (ranking_cmp r) a) (m : AreMonomials (ranking_cmp r) (divided (pos k) a)) → Divides k a → (I (a, h) → ⊥) → I (made (divided (pos k) a) m) → ⊥
    quotient_outside k a h m d n x =
        let c = multiple_is (pos k) (divided (pos k) a) a h m (scaled_divided (pos k) k refl a d) in
        n (subst I c.1 (ideal.multiple c.0 (made (divided (pos k) a) m) x))
