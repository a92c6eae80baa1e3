-- A polynomial is its own value in the ring of polynomials, where each symbol stands for itself.
use Rattle.std.proofs.Common.{◌≡◌, ◌<◌, ◌+◌, ℕ, zero, suc, [], ◌∷◌, ℤ, pos, negsuc, ◌+ℤ◌, ◌*ℤ◌, refl, sym, ap, ap₂, ◌∙◌, arith}
use Rattle.std.proofs.lemmas.Int.{ints}
use Rattle.std.specs.declared.cmp.Ordering.{Ordering}
use Rattle.std.specs.Cmp.{tied_itself}
use Rattle.std.specs.Ordering.{match_ordering}
use Rattle.dz_algebra.specs.Domain.{copies}
use Rattle.dz_algebra.specs.Ring.{Ring}
use Rattle.dz_algebra.specs.Order.{IsOrder, IsAbove}
use Rattle.dz_algebra.specs.Monomial.{Monomial, IsMonomial, monomial_cmp, with_power, monomial_product}
use Rattle.dz_algebra.specs.Polynomial.{Contributions, IsPolynomial, AreMonomials, collect, symbol_polynomial, polynomial_one, polynomial_sum, polynomial_product}
use Rattle.dz_algebra.specs.Value.{whole_in, power, monomial_value, value}
use Rattle.dz_algebra.proofs.Canonical.{are_monomials, collected}
use Rattle.dz_algebra.proofs.Totals.{total, total-append, total_collect, total_pairs, same_by_totals}
use Rattle.dz_algebra.proofs.PolynomialRing.{Canonical, polynomial_ring, total_negated}

module _ {S : Type 0} {cmp : S → S → Ordering} (order : IsOrder cmp) where
  abbrev R : Ring (Canonical order)
  R = polynomial_ring order

  -- a symbol is a canonical polynomial
  pub symbol_is : (s : S) → IsPolynomial cmp (symbol_polynomial s)
  symbol_is s = (λ e. cc, (omega arith, tt, tt), tt, tt)

  -- each symbol as a polynomial
  abbrev pub itself : S → Canonical order
  itself s = (symbol_polynomial s, symbol_is s)

  total_of_sum : (f : Monomial S → ℤ) (p q : Canonical order) → total f (R.sum p q).0 ≡ total f p.0 +ℤ total f q.0
  unfolding polynomial_sum
  total_of_sum f p q = total_collect order f _ ∙ total-append f p.0 q.0

  total_of_product : (f : Monomial S → ℤ) (p q : Canonical order) → total f (R.product p q).0 ≡ total (λ m. total (λ n. f (monomial_product cmp m n)) q.0) p.0
  unfolding polynomial_product
  total_of_product f p q = total_collect order f _ ∙ total_pairs order f p.0 q.0

  -- whole numbers stand at the monomial without symbols
  total_of_copies : (f : Monomial S → ℤ) (n : ℕ) → total f (copies R.arithmetic n R.one).0 ≡ pos n *ℤ f []
  unfolding total polynomial_one
  total_of_copies f zero = sym (zero_times (f []))
    where
      zero_times : (x : ℤ) → pos 0 *ℤ x ≡ pos 0
      zero_times x = omega (arith, ints)
  total_of_copies f (suc n) = total_of_sum f R.one (copies R.arithmetic n R.one) ∙ ap (λ x. (pos 1 *ℤ f [] +ℤ pos 0) +ℤ x) (total_of_copies f n) ∙ once_more n (f [])
    where
      once_more : (n : ℕ) (x : ℤ) → (pos 1 *ℤ x +ℤ pos 0) +ℤ pos n *ℤ x ≡ pos (suc n) *ℤ x
      once_more n x = omega (arith, ints)

  total_of_whole : (f : Monomial S → ℤ) (c : ℤ) → total f (whole_in R.arithmetic c).0 ≡ c *ℤ f []
  total_of_whole f (pos n) = total_of_copies f n
  total_of_whole f (negsuc n) = turned n (f []) _ _ (total_of_copies f (suc n)) (total_negated order f (copies R.arithmetic (suc n) R.one).0)
    where
      turned : (n : ℕ) (x y z : ℤ) → y ≡ pos (suc n) *ℤ x → z +ℤ y ≡ pos 0 → z ≡ negsuc n *ℤ x
      turned n x y z e g = omega (arith, ints)

  -- a power of a symbol stands at one monomial
  abbrev power_monomial : S → ℕ → Monomial S
  power_monomial s zero = []
  power_monomial s (suc e) = (s, suc e) ∷ []

  total_of_one : (f : Monomial S → ℤ) → total f R.one.0 ≡ f []
  unfolding total polynomial_one
  total_of_one f = single (f [])
    where
      single : (x : ℤ) → pos 1 *ℤ x +ℤ pos 0 ≡ x
      single x = omega (arith, ints)

  total_of_symbol : (f : Monomial S → ℤ) (s : S) → total f (itself s).0 ≡ f ((s, 1) ∷ [])
  unfolding total
  total_of_symbol f s = single (f ((s, 1) ∷ []))
    where
      single : (x : ℤ) → pos 1 *ℤ x +ℤ pos 0 ≡ x
      single x = omega (arith, ints)

  once_more : (s : S) (e : ℕ) → with_power cmp s 1 (power_monomial s e) ≡ power_monomial s (suc e)
  once_more s zero = refl
  once_more s (suc e) =
      let k : 1 + suc e ≡ suc (suc e) = omega arith in
      ap (λ o. match_ordering o ((s, suc e) ∷ (s, 1) ∷ []) ((s, 1 + suc e) ∷ []) ((s, 1) ∷ (s, suc e) ∷ [])) (tied_itself order.total s) ∙ ap (λ n. (s, n) ∷ []) k

  total_of_power : (f : Monomial S → ℤ) (s : S) (e : ℕ) → total f (power R.arithmetic (itself s) e).0 ≡ f (power_monomial s e)
  total_of_power f s zero = total_of_one f
  total_of_power f s (suc e) =
      total_of_product f (itself s) (power R.arithmetic (itself s) e)
      ∙ total_of_symbol (λ m. total (λ n. f (monomial_product cmp m n)) (power R.arithmetic (itself s) e).0) s
      ∙ total_of_power (λ n. f (monomial_product cmp ((s, 1) ∷ []) n)) s e
      ∙ ap f (once_more s e)

  with_power_above : (s : S) (e : ℕ) (m : Monomial S) → IsAbove cmp s m → with_power cmp s e m ≡ (s, e) ∷ m
  with_power_above s e [] a = refl
  with_power_above s e (p ∷ m) a = ap (λ o. match_ordering o (p ∷ with_power cmp s e m) ((p.0, e + p.1) ∷ m) ((s, e) ∷ p ∷ m)) a.0

  power_times : (s : S) (e : ℕ) (m : Monomial S) → 0 < e → IsAbove cmp s m → monomial_product cmp (power_monomial s e) m ≡ (s, e) ∷ m
  power_times s zero m h a = absurd (omega arith)
  power_times s (suc e) m h a = with_power_above s (suc e) m a

  total_of_monomial : (f : Monomial S → ℤ) (m : Monomial S) → IsMonomial cmp m → total f (monomial_value R.arithmetic itself m).0 ≡ f m
  total_of_monomial f [] h = total_of_one f
  total_of_monomial f (p ∷ m) h =
      total_of_product f (power R.arithmetic (itself p.0) p.1) (monomial_value R.arithmetic itself m)
      ∙ total_of_power (λ k. total (λ n. f (monomial_product cmp k n)) (monomial_value R.arithmetic itself m).0) p.0 p.1
      ∙ total_of_monomial (λ n. f (monomial_product cmp (power_monomial p.0 p.1) n)) m h.2
      ∙ ap f (power_times p.0 p.1 m h.0 h.1)

  total_of_value : (f : Monomial S → ℤ) (ts : Contributions S) → AreMonomials cmp ts → total f (value R.arithmetic itself ts).0 ≡ total f ts
  unfolding total
  total_of_value f [] h = refl
  total_of_value f (t ∷ ts) h =
      total_of_sum f (R.product (whole_in R.arithmetic t.1) (monomial_value R.arithmetic itself t.0)) (value R.arithmetic itself ts)
      ∙ ap₂ (λ x y. x +ℤ y)
      (total_of_product f (whole_in R.arithmetic t.1) (monomial_value R.arithmetic itself t.0)
      ∙ total_of_whole (λ k. total (λ n. f (monomial_product cmp k n)) (monomial_value R.arithmetic itself t.0).0) t.1
      ∙ ap (λ x. t.1 *ℤ x) (total_of_monomial f t.0 h.0))
      (total_of_value f ts h.1)

  -- contributions have the polynomial that they make as their value
  pub generic_value : (ts : Contributions S) → AreMonomials cmp ts → (value R.arithmetic itself ts).0 ≡ collect (monomial_cmp cmp) ts
  generic_value ts h =
      let v = value R.arithmetic itself ts in
      sym (collected order v.0 v.1) ∙ same_by_totals order v.0 ts (are_monomials order v.0 v.1) h (λ f. total_of_value f ts h)
