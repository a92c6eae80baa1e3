-- A polynomial is its signed content times its norm.
use Rattle.std.proofs.Common.{◌≡◌, ◌≢◌, ℕ, zero, suc, ◌%◌, ◌<◌, Bool, true, false, cond, List, [], ◌∷◌, ℤ, pos, negsuc, ◌+ℤ◌, ◌*ℤ◌, neg_ℤ, refl, sym, ap, ap₂, ◌∙◌, arith, subst, int_div, int_rem, unsigned_abs, int_lt}
use Rattle.std.proofs.lemmas.Int.{ints, quot-rem}
use Rattle.std.proofs.lemmas.Nat.Gcd.{dvd_trans, mod-eq-zero_of_dvd}
use Rattle.dz_algebra.specs.Ring.{Ring, product_zero}
use Rattle.dz_algebra.specs.Polynomial.{Polynomial, scaled, IsPolynomial}
use Rattle.dz_algebra.specs.Value.{whole_in, monomial_value, value}
use Rattle.dz_algebra.specs.Norm.{content, divided, signed_content, norm}
use Rattle.dz_algebra.proofs.Divisors.{gcd_is}
use Rattle.dz_algebra.proofs.Values.{whole_in-*ℤ}
use Prim.Native.Nat.{◌∣◌}
use Rattle.std.specs.declared.cmp.Ordering.{Ordering}
use Rattle.std.proofs.Math.Nat.{eq-zero_of_zero-dvd}

-- each coefficient is a multiple of g
abbrev pub Divides : {M : Type 0} → ℕ → List (M × ℤ) → Type 0
Divides g [] = Unit {0}
Divides g (t ∷ p) = (g ∣ unsigned_abs t.1) × Divides g p

-- a divisor of a divisor divides
pub divides_more : {M : Type 0} (g k : ℕ) (p : List (M × ℤ)) → g ∣ k → Divides k p → Divides g p
divides_more g k [] h a = tt
divides_more g k (t ∷ p) h a = (dvd_trans g h a.0, divides_more g k p h a.1)

-- the content divides each coefficient
pub content_divides : {M : Type 0} (p : List (M × ℤ)) → Divides (content p) p
content_divides [] = tt
content_divides (t ∷ p) =
    let g = gcd_is (unsigned_abs t.1) (content p) in
    (g.0, divides_more (content (t ∷ p)) (content p) p g.1 (content_divides p))

remainder_zero : (c k : ℤ) → unsigned_abs c % unsigned_abs k ≡ 0 → int_rem c k ≡ pos 0
remainder_zero (pos a) k e = ap pos e
remainder_zero (negsuc a) k e = ap (λ x. neg_ℤ (pos x)) e

-- a division without remainder is exact
pub exact : (c k : ℤ) (g : ℕ) → unsigned_abs k ≡ g → g ∣ unsigned_abs c → c ≡ k *ℤ int_div c k
exact c k g e h =
    let f : g ≡ unsigned_abs k = sym e in
    let divides : unsigned_abs k ∣ unsigned_abs c = subst (λ x. x ∣ unsigned_abs c) f h in
    let none : int_rem c k ≡ pos 0 = remainder_zero c k (mod-eq-zero_of_dvd (unsigned_abs k) divides) in
    sym (quot-rem c k) ∙ ap (λ x. int_div c k *ℤ k +ℤ x) none ∙ omega (arith, ints)

size_by_sign : (b : Bool) (g : ℕ) → unsigned_abs (cond b (neg_ℤ (pos g)) (pos g)) ≡ g
size_by_sign true zero = refl
size_by_sign true (suc g) = refl
size_by_sign false g = refl

-- the absolute value of the signed content is the content
pub signed_content_size : {M : Type 0} (t : M × ℤ) (p : List (M × ℤ)) → unsigned_abs (signed_content (t ∷ p)) ≡ content (t ∷ p)
signed_content_size t p = size_by_sign (int_lt t.1 (pos 0)) (content (t ∷ p))

-- ---- a polynomial is its signed content times its norm
scaled_divided : {M : Type 0} (k : ℤ) (g : ℕ) → unsigned_abs k ≡ g → (p : List (M × ℤ)) → Divides g p → scaled k (divided k p) ≡ p
scaled_divided k g e [] h = refl
scaled_divided {M} k g e (t ∷ p) h = ap₂ (λ (c : ℤ) (q : List (M × ℤ)). (t.0, c) ∷ q) (sym (exact t.1 k g e h.0)) (scaled_divided k g e p h.1)

-- the norm times the signed content is the polynomial
pub scaled_norm : {M : Type 0} (p : List (M × ℤ)) → scaled (signed_content p) (norm p) ≡ p
unfolding norm
scaled_norm [] = refl
scaled_norm (t ∷ p) = scaled_divided (signed_content (t ∷ p)) (content (t ∷ p)) (signed_content_size t p) (t ∷ p) (content_divides (t ∷ p))

size_zero : (c : ℤ) → unsigned_abs c ≡ 0 → c ≡ pos 0
size_zero (pos n) e = ap pos e
size_zero (negsuc n) e = absurd (omega arith)

-- the content is positive, if the first coefficient is not zero
pub content_positive : {M : Type 0} (t : M × ℤ) (p : List (M × ℤ)) → t.1 ≢ pos 0 → 0 < content (t ∷ p)
content_positive t p h = by_content (content (t ∷ p)) (content_divides (t ∷ p)).0
  where
    by_content : (g : ℕ) → g ∣ unsigned_abs t.1 → 0 < g
    by_content zero d = absurd (h (size_zero t.1 (eq-zero_of_zero-dvd d)))
    by_content (suc g) d = omega arith

nonzero_size : (k : ℤ) (g : ℕ) → unsigned_abs k ≡ g → 0 < g → k ≢ pos 0
nonzero_size (pos n) g e h f = let a : n ≡ 0 = cc in omega arith
nonzero_size (negsuc n) g e h f = cc

-- the signed content of a polynomial is not zero
pub signed_content_nonzero : {S : Type 0} (cmp : S → S → Ordering) (p : Polynomial S) → IsPolynomial cmp p → signed_content p ≢ pos 0
signed_content_nonzero cmp [] h = λ e. cc
signed_content_nonzero cmp (t ∷ p) h = nonzero_size (signed_content (t ∷ p)) (content (t ∷ p)) (signed_content_size t p) (content_positive t p h.0)

module _ {R S : Type 0} (r : Ring R) (at : S → R) where
  -- a value is the divisor times the value of the quotient
  pub value_divided : (k : ℤ) (g : ℕ) → unsigned_abs k ≡ g → (p : Polynomial S) → Divides g p → value r.arithmetic at p ≡ r.product (whole_in r.arithmetic k) (value r.arithmetic at (divided k p))
  value_divided k g e [] h = sym (product_zero r _)
  value_divided k g e (t ∷ p) h =
      ap₂ r.sum (ap (λ x. r.product x (monomial_value r.arithmetic at t.0)) (ap (whole_in r.arithmetic) (exact t.1 k g e h.0) ∙ whole_in-*ℤ r k (int_div t.1 k)) ∙ r.product_associates _ _ _) (value_divided k g e p h.1)
      ∙ sym (r.product_distributes _ _ _)

  -- so a value is zero exactly where that of the norm is
  pub value_norm : (p : Polynomial S) → value r.arithmetic at p ≡ r.product (whole_in r.arithmetic (signed_content p)) (value r.arithmetic at (norm p))
  unfolding norm
  value_norm [] = sym (product_zero r _)
  value_norm (t ∷ p) = value_divided (signed_content (t ∷ p)) (content (t ∷ p)) (signed_content_size t p) (t ∷ p) (content_divides (t ∷ p))
