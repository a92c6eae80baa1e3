-- The reduced fractions are a domain.
use Rattle.std.proofs.Common.{◌≡◌, inl, inr, ◌↔◌, ◌<◌, ◌*◌, ◌/◌, ◌==◌, ◌∙◌, ℕ, zero, suc, nat_lt, ◌&&◌, IsTrue, ℤ, pos, negsuc, ◌+ℤ◌, ◌*ℤ◌, neg_ℤ, unsigned_abs, refl, sym, ap, ap₂, subst, arith, eqb-true}
use Rattle.std.proofs.lemmas.Bool.{eq-eqb, lt-ltb, ltb-true}
use Rattle.std.proofs.Math.Nat.{one-dvd}
use Rattle.std.proofs.lemmas.Int.{ints}
use Rattle.std.specs.Int.{IsGcd, is_negative}
use Rattle.dz_algebra.specs.Domain.{DomainLaws, copies}
use Rattle.dz_algebra.specs.Ring.{Ring, product_swaps, sum_times, negative_product, zero_product}
use Rattle.dz_algebra.specs.Whole.{whole_is_zero, whole_ring, no_divisors}
use Rattle.dz_algebra.specs.Norm.{gcd}
use Rattle.dz_int.specs.Fractions.{Fraction, IsReduced, HasValue}
use Rattle.dz_algebra.proofs.Divisors.{gcd_is}
use Rattle.dz_int.proofs.Reduced.{coprime_gcd, quotients_coprime, quotient_of_denominator, reduced_value}
use Rattle.dz_int.proofs.Signs.{by_sign, unsigned_abs_signed, neg_by_sign, cancel_pos, factors_swap}
use Rattle.dz_int.proofs.Unique.{same_fraction}
use Rattle.dz_algebra.proofs.Outcomes.{both}
use Rattle.dz_jet.specs.Fractions.{reduced, whole, fraction_sum, fraction_product, fraction_negative, is_reduced, fraction_arithmetic, fraction_operations}

-- a reduced fraction with the value n over d
pub record Is (f : Fraction) (n : ℤ) (d : ℕ) : Type 0 where
  pub lowest : IsReduced f
  pub value : HasValue f n d
  pub positive : 0 < d

-- ---- the test
pub is_lowest : (f : Fraction) → IsTrue (is_reduced f) → IsReduced f
is_lowest f h =
    let b = both (nat_lt 0 f.denominator) (gcd (unsigned_abs f.numerator) f.denominator == 1) h in
    record { positive = ltb-true 0 f.denominator b.0; coprime = subst (IsGcd (unsigned_abs f.numerator) f.denominator) (eqb-true _ 1 b.1) (gcd_is (unsigned_abs f.numerator) f.denominator) }

pub passes_lowest : (f : Fraction) → IsReduced f → IsTrue (is_reduced f)
passes_lowest f h = ap₂ (λ a b. a && b) (lt-ltb 0 f.denominator h.positive) (eq-eqb _ 1 (coprime_gcd (unsigned_abs f.numerator) (unsigned_abs f.numerator) f.denominator refl h.coprime))

-- ---- the values of operations
both_positive : (d e : ℕ) → 0 < d → 0 < e → 0 < d * e
both_positive d e h k = grind arith

lowest_terms : (n : ℤ) (d : ℕ) → 0 < d → Is (reduced n d) n d
lowest_terms n d h =
    let g = gcd (unsigned_abs n) d in
    record {
      lowest = record {
        positive = quotient_of_denominator (unsigned_abs n) d g h refl;
        coprime = subst (λ k. IsGcd k (d / g) 1) (sym (unsigned_abs_signed (is_negative n) (unsigned_abs n / g)))
            (subst (IsGcd (unsigned_abs n / g) (d / g)) (quotients_coprime (unsigned_abs n) d g h refl) (gcd_is (unsigned_abs n / g) (d / g)));
      };
      value = subst (λ z. HasValue (reduced n d) z d) (sym (by_sign n)) (reduced_value (unsigned_abs n) d g (is_negative n) (reduced n d) h refl refl);
      positive = h;
    }

pub itself : (f : Fraction) → IsReduced f → Is f f.numerator f.denominator
itself f h = record { lowest = h; value = refl; positive = h.positive }

-- over another denominator
pub over_other : (f : Fraction) (n m : ℤ) (d e : ℕ) → Is f n d → 0 < e → n *ℤ pos e ≡ m *ℤ pos d → Is f m e
over_other f n m d e i h x = record {
  lowest = i.lowest;
  value = cancel_pos (f.numerator *ℤ pos e) (m *ℤ pos f.denominator) d i.positive
      (factors_swap f.numerator (pos e) (pos d) ∙ ap (λ z. z *ℤ pos e) i.value ∙ factors_swap n (pos f.denominator) (pos e) ∙ ap (λ z. z *ℤ pos f.denominator) x ∙ factors_swap m (pos d) (pos f.denominator));
  positive = h;
}

-- equal cross products make equal fractions
pub same : (f h : Fraction) (n m : ℤ) (d e : ℕ) → Is f n d → Is h m e → n *ℤ pos e ≡ m *ℤ pos d → f ≡ h
same f h n m d e i j x = let k = over_other f n m d e i j.positive x in same_fraction f h m e j.positive k.lowest j.lowest k.value j.value

module _ {R : Type 0} (r : Ring R) where
  sum_out : (a h b f s d e : R) → r.product (r.product (r.sum (r.product a h) (r.product b f)) s) (r.product d e) ≡ r.sum (r.product (r.product a d) (r.product h (r.product e s))) (r.product (r.product b e) (r.product f (r.product d s)))
  sum_out a h b f s d e = simp (sum_times r, r.product_associates, r.product_commutes, product_swaps r)

  product_out : (a b s d e : R) → r.product (r.product (r.product a b) s) (r.product d e) ≡ r.product (r.product (r.product a d) (r.product b e)) s
  product_out a b s d e = simp (r.product_associates, r.product_commutes, product_swaps r)

  product_in : (n f m h s : R) → r.product (r.product (r.product n f) (r.product m h)) s ≡ r.product (r.product (r.product n m) s) (r.product f h)
  product_in n f m h s = simp (r.product_associates, r.product_commutes, product_swaps r)

  sum_in : (n f m h s d e : R) → r.sum (r.product (r.product n f) (r.product h (r.product e s))) (r.product (r.product m h) (r.product f (r.product d s))) ≡ r.product (r.product (r.sum (r.product n e) (r.product m d)) s) (r.product f h)
  sum_in n f m h s d e = simp (sum_times r, r.product_associates, r.product_commutes, product_swaps r)

  associated : (a x b y c z : R) → r.sum (r.product (r.sum (r.product a y) (r.product b x)) z) (r.product c (r.product x y)) ≡ r.sum (r.product a (r.product y z)) (r.product (r.sum (r.product b z) (r.product c y)) x)
  associated a x b y c z = simp (sum_times r, r.product_associates, r.product_commutes, product_swaps r, r.sum_associates)

  distributed : (a x b y c z : R) → r.product (r.product a (r.sum (r.product b z) (r.product c y))) (r.product (r.product x y) (r.product x z)) ≡ r.product (r.sum (r.product (r.product a b) (r.product x z)) (r.product (r.product a c) (r.product x y))) (r.product x (r.product y z))
  distributed a x b y c z = simp (r.product_distributes, sum_times r, r.product_associates, r.product_commutes, product_swaps r)

pub sum_is : (f h : Fraction) (n m : ℤ) (d e : ℕ) → Is f n d → Is h m e → Is (fraction_sum f h) (n *ℤ pos e +ℤ m *ℤ pos d) (d * e)
sum_is f h n m d e i j =
    let s = lowest_terms (f.numerator *ℤ pos h.denominator +ℤ h.numerator *ℤ pos f.denominator) (f.denominator * h.denominator) (both_positive f.denominator h.denominator i.lowest.positive j.lowest.positive) in
    let x = fraction_sum f h in
    record {
      lowest = s.lowest;
      value = cancel_pos (x.numerator *ℤ pos (d * e)) _ (f.denominator * h.denominator) s.positive
          (factors_swap x.numerator (pos (d * e)) (pos (f.denominator * h.denominator)) ∙ ap (λ z. z *ℤ pos (d * e)) s.value
          ∙ sum_out whole_ring f.numerator (pos h.denominator) h.numerator (pos f.denominator) (pos x.denominator) (pos d) (pos e)
          ∙ ap₂ (λ u v. u *ℤ (pos h.denominator *ℤ (pos e *ℤ pos x.denominator)) +ℤ v *ℤ (pos f.denominator *ℤ (pos d *ℤ pos x.denominator))) i.value j.value
          ∙ sum_in whole_ring n (pos f.denominator) m (pos h.denominator) (pos x.denominator) (pos d) (pos e));
      positive = both_positive d e i.positive j.positive;
    }

pub product_is : (f h : Fraction) (n m : ℤ) (d e : ℕ) → Is f n d → Is h m e → Is (fraction_product f h) (n *ℤ m) (d * e)
product_is f h n m d e i j =
    let s = lowest_terms (f.numerator *ℤ h.numerator) (f.denominator * h.denominator) (both_positive f.denominator h.denominator i.lowest.positive j.lowest.positive) in
    let x = fraction_product f h in
    record {
      lowest = s.lowest;
      value = cancel_pos (x.numerator *ℤ pos (d * e)) _ (f.denominator * h.denominator) s.positive
          (factors_swap x.numerator (pos (d * e)) (pos (f.denominator * h.denominator)) ∙ ap (λ z. z *ℤ pos (d * e)) s.value
          ∙ product_out whole_ring f.numerator h.numerator (pos x.denominator) (pos d) (pos e)
          ∙ ap₂ (λ u v. (u *ℤ v) *ℤ pos x.denominator) i.value j.value
          ∙ product_in whole_ring n (pos f.denominator) m (pos h.denominator) (pos x.denominator));
      positive = both_positive d e i.positive j.positive;
    }

pub negative_is : (f : Fraction) (n : ℤ) (d : ℕ) → Is f n d → Is (fraction_negative f) (neg_ℤ n) d
negative_is f n d i = record {
  lowest = record { positive = i.lowest.positive; coprime = subst (λ k. IsGcd k f.denominator 1) (sym (absolute f.numerator)) i.lowest.coprime };
  value = negative_product whole_ring f.numerator (pos d) ∙ ap neg_ℤ i.value ∙ sym (negative_product whole_ring n (pos f.denominator));
  positive = i.positive;
}
  where
    absolute : (z : ℤ) → unsigned_abs (neg_ℤ z) ≡ unsigned_abs z
    absolute z = ap unsigned_abs (neg_by_sign z) ∙ unsigned_abs_signed _ (unsigned_abs z)

pub whole_is : (c : ℤ) → Is (whole c) c 1
whole_is c = record { lowest = record { positive = omega arith; coprime = (one-dvd (unsigned_abs c), one-dvd 1, λ d h k. k) }; value = refl; positive = omega arith }

-- ---- the laws
module _ {R : Type 0} (r : Ring R) where
  copied : (a k d : R) → r.product (r.sum (r.product a d) (r.product (r.product k a) d)) d ≡ r.product (r.product (r.sum r.one k) a) (r.product d d)
  copied a k d = simp (sum_times r, r.one_is_neutral, r.product_associates, r.product_commutes, r.sum_commutes)

  cancelled : (a d : R) → r.product (r.sum (r.product (r.negative a) d) (r.product a d)) r.one ≡ r.product r.zero (r.product d d)
  cancelled a d =
      ap (λ z. r.product z r.one) (sym (sum_times r (r.negative a) a d) ∙ ap (λ z. r.product z d) (r.negative_is_inverse a) ∙ zero_product r d)
      ∙ zero_product r r.one ∙ sym (zero_product r (r.product d d))

  neutral : (a d : R) → r.product (r.sum (r.product r.zero d) (r.product a r.one)) d ≡ r.product a (r.product r.one d)
  neutral a d = ap (λ z. r.product (r.sum z (r.product a r.one)) d) (zero_product r d) ∙ ap (λ z. r.product z d) (r.zero_is_neutral (r.product a r.one)) ∙ r.product_associates a r.one d

  crossed : (a b x y : R) → r.product (r.sum (r.product a y) (r.product b x)) (r.product y x) ≡ r.product (r.sum (r.product b x) (r.product a y)) (r.product x y)
  crossed a b x y = ap₂ r.product (r.sum_commutes (r.product a y) (r.product b x)) (r.product_commutes y x)

pub copies_is : (k : ℕ) (f : Fraction) → IsReduced f → Is (copies fraction_arithmetic k f) (pos k *ℤ f.numerator) f.denominator
copies_is zero f h = over_other (whole (pos 0)) (pos 0) (pos 0 *ℤ f.numerator) 1 f.denominator (whole_is (pos 0)) h.positive (omega (arith, ints))
copies_is (suc k) f h =
    let i = sum_is f (copies fraction_arithmetic k f) f.numerator (pos k *ℤ f.numerator) f.denominator f.denominator (itself f h) (copies_is k f h) in
    let e : pos 1 +ℤ pos k ≡ pos (suc k) = omega (arith, ints) in
    over_other (copies fraction_arithmetic (suc k) f) _ (pos (suc k) *ℤ f.numerator) (f.denominator * f.denominator) f.denominator i h.positive
    (copied whole_ring f.numerator (pos k) (pos f.denominator) ∙ ap (λ z. (z *ℤ f.numerator) *ℤ (pos f.denominator *ℤ pos f.denominator)) e)

-- a fraction whose value is zero
zero_numerator : (f : Fraction) (n : ℤ) (d : ℕ) → Is f n d → f ≡ whole (pos 0) → n ≡ pos 0
zero_numerator f n d i e =
    let v : f.numerator *ℤ pos d ≡ n *ℤ pos f.denominator = i.value in
    sym (times_one n) ∙ ap (λ (g : Fraction). n *ℤ pos g.denominator) (sym e) ∙ sym v ∙ ap (λ (g : Fraction). g.numerator *ℤ pos d) e ∙ zero_product whole_ring (pos d)
  where
    times_one : (n : ℤ) → n *ℤ pos 1 ≡ n
    times_one n = whole_ring.product_commutes n (pos 1) ∙ whole_ring.one_is_neutral n

pub zero_is : (f : Fraction) → IsReduced f → f.numerator ≡ pos 0 → f ≡ whole (pos 0)
zero_is f h e = same f (whole (pos 0)) f.numerator (pos 0) f.denominator 1 (itself f h) (whole_is (pos 0)) (ap (λ z. z *ℤ pos 1) e ∙ zero_product whole_ring (pos 1) ∙ sym (zero_product whole_ring (pos f.denominator)))

pub zero_tested : (c : ℤ) → IsTrue (whole_is_zero c) ↔ (c ≡ pos 0)
zero_tested (pos zero) = (λ _. refl, λ _. refl)
zero_tested (pos (suc n)) = (λ e. cc, λ e. cc)
zero_tested (negsuc n) = (λ e. cc, λ e. cc)

some_copies : (m : ℕ) (c : ℤ) → pos (suc m) *ℤ c ≡ pos 0 → c ≡ pos 0
some_copies m c e = elim (no_divisors (pos (suc m)) c e) [ inl f ↦ absurd (apart f) | inr f ↦ f ]
  where
    apart : pos (suc m) ≡ pos 0 → ⊥
    apart f = cc

-- a value stands for itself
own : (f : Fraction) → IsTrue (is_reduced f) → Is f f.numerator f.denominator
own f h = itself f (is_lowest f h)

pub fraction_laws : DomainLaws fraction_operations
fraction_laws = record {
  zero_is_value = passes_lowest (whole (pos 0)) (whole_is (pos 0)).lowest;
  one_is_value = passes_lowest (whole (pos 1)) (whole_is (pos 1)).lowest;
  sum_is_value = λ a b h k. passes_lowest (fraction_sum a b) (sum_is a b _ _ _ _ (own a h) (own b k)).lowest;
  negative_is_value = λ a h. passes_lowest (fraction_negative a) (negative_is a _ _ (own a h)).lowest;
  product_is_value = λ a b h k. passes_lowest (fraction_product a b) (product_is a b _ _ _ _ (own a h) (own b k)).lowest;
  derivative_is_value = λ i a h. absurd (omega arith);
  is_zero_at_zero = λ a h. ((λ e. zero_is a (is_lowest a h) ((zero_tested a.numerator).0 e)), (λ e. (zero_tested a.numerator).1 (ap (λ (f : Fraction). f.numerator) e)));
  sum_commutes = λ a b h k. same (fraction_sum a b) (fraction_sum b a) _ _ _ _ (sum_is a b _ _ _ _ (own a h) (own b k)) (sum_is b a _ _ _ _ (own b k) (own a h))
      (crossed whole_ring a.numerator b.numerator (pos a.denominator) (pos b.denominator));
  sum_associates = λ a b c h k l.
      same (fraction_sum (fraction_sum a b) c) (fraction_sum a (fraction_sum b c)) _ _ _ _ (sum_is (fraction_sum a b) c _ _ _ _ (sum_is a b _ _ _ _ (own a h) (own b k)) (own c l)) (sum_is a (fraction_sum b c) _ _ _ _ (own a h) (sum_is b c _ _ _ _ (own b k) (own c l)))
      (ap₂ (λ u v. u *ℤ v) (associated whole_ring a.numerator (pos a.denominator) b.numerator (pos b.denominator) c.numerator (pos c.denominator)) (sym (whole_ring.product_associates (pos a.denominator) (pos b.denominator) (pos c.denominator))));
  zero_is_neutral = λ a h. same (fraction_sum (whole (pos 0)) a) a _ _ _ _ (sum_is (whole (pos 0)) a _ _ _ _ (whole_is (pos 0)) (own a h)) (own a h) (neutral whole_ring a.numerator (pos a.denominator));
  negative_is_inverse = λ a h. same (fraction_sum (fraction_negative a) a) (whole (pos 0)) _ _ _ _ (sum_is (fraction_negative a) a _ _ _ _ (negative_is a _ _ (own a h)) (own a h)) (whole_is (pos 0)) (cancelled whole_ring a.numerator (pos a.denominator));
  product_commutes = λ a b h k. same (fraction_product a b) (fraction_product b a) _ _ _ _ (product_is a b _ _ _ _ (own a h) (own b k)) (product_is b a _ _ _ _ (own b k) (own a h))
      (ap₂ (λ u v. u *ℤ v) (whole_ring.product_commutes a.numerator b.numerator) (whole_ring.product_commutes (pos b.denominator) (pos a.denominator)));
  product_associates = λ a b c h k l.
      same (fraction_product (fraction_product a b) c) (fraction_product a (fraction_product b c)) _ _ _ _ (product_is (fraction_product a b) c _ _ _ _ (product_is a b _ _ _ _ (own a h) (own b k)) (own c l)) (product_is a (fraction_product b c) _ _ _ _ (own a h) (product_is b c _ _ _ _ (own b k) (own c l)))
      (ap₂ (λ u v. u *ℤ v) (whole_ring.product_associates a.numerator b.numerator c.numerator) (sym (whole_ring.product_associates (pos a.denominator) (pos b.denominator) (pos c.denominator))));
  one_is_neutral = λ a h. same (fraction_product (whole (pos 1)) a) a _ _ _ _ (product_is (whole (pos 1)) a _ _ _ _ (whole_is (pos 1)) (own a h)) (own a h)
      (ap₂ (λ u v. u *ℤ v) (whole_ring.one_is_neutral a.numerator) (sym (whole_ring.one_is_neutral (pos a.denominator))));
  product_distributes = λ a b c h k l.
      same (fraction_product a (fraction_sum b c)) (fraction_sum (fraction_product a b) (fraction_product a c)) _ _ _ _ (product_is a (fraction_sum b c) _ _ _ _ (own a h) (sum_is b c _ _ _ _ (own b k) (own c l)))
      (sum_is (fraction_product a b) (fraction_product a c) _ _ _ _ (product_is a b _ _ _ _ (own a h) (own b k)) (product_is a c _ _ _ _ (own a h) (own c l)))
      (distributed whole_ring a.numerator (pos a.denominator) b.numerator (pos b.denominator) c.numerator (pos c.denominator));
  one_is_not_zero = λ e. apart (ap (λ (f : Fraction). f.numerator) e);
  no_zero_divisors = λ a b h k e.
      elim (no_divisors a.numerator b.numerator (zero_numerator (fraction_product a b) _ _ (product_is a b _ _ _ _ (own a h) (own b k)) e)) [
        | inl f ↦ inl (zero_is a (is_lowest a h) f)
        | inr f ↦ inr (zero_is b (is_lowest b k) f)
      ];
  characteristic_is_zero = λ m a h e. zero_is a (is_lowest a h) (some_copies m a.numerator (zero_numerator (copies fraction_arithmetic (suc m) a) _ _ (copies_is (suc m) a (is_lowest a h)) e));
  derivative_of_sum = λ i a b h. absurd (omega arith);
  derivative_of_product = λ i a b h. absurd (omega arith);
  derivatives_commute = λ i j a h. absurd (omega arith);
}
  where
    apart : pos 1 ≡ pos 0 → ⊥
    apart e = cc
