-- Where the fold of fractions fits, it gives the value of the polynomial.
use Rattle.std.proofs.Common.{◌≡◌, ◌≢◌, ◌<◌, ◌∙◌, ℕ, zero, suc, Bool, true, false, cond, IsTrue, [], ◌∷◌, ℤ, pos, negsuc, ◌*ℤ◌, neg_ℤ, unsigned_abs, Option, Some, None, Ok, refl, sym, ap, subst, arith}
use Rattle.std.proofs.lemmas.Nat.Gcd.{IsGcd-swap}
use Rattle.std.specs.Option.{option_and_then}
use Rattle.dz_algebra.specs.Domain.{copies}
use Rattle.dz_algebra.specs.Monomial.{Monomial}
use Rattle.dz_algebra.specs.Polynomial.{Polynomial}
use Rattle.dz_algebra.specs.Ring.{Ring, Value, same_value, ring_of_values, right_neutral, negative_product, negative_negative, product_swaps}
use Rattle.dz_algebra.specs.Value.{whole_in, power, monomial_value, value}
use Rattle.dz_algebra.specs.Whole.{whole_ring}
use Rattle.dz_algebra.proofs.DomainValues.{whole_in_element}
use Rattle.dz_int.specs.Fractions.{Fraction, IsReduced, inverse_of}
use Rattle.dz_int.specs.Numbers.{signed}
use Rattle.dz_int.proofs.Signs.{by_sign, unsigned_abs_signed}
use Rattle.std.specs.Int.{IsGcd, is_negative}
use Rattle.dz_rank.specs.declared.symbols.Symbol.{Symbol}
use Rattle.dz_algebra.specs.Outcome.{given}
use Rattle.dz_algebra.proofs.Outcomes.{ok_same}
use Rattle.dz_jet.specs.Fractions.{whole, fraction_sum, fraction_product, fraction_negative, fraction_arithmetic, fraction_operations, is_reduced, sum_answer, product_answer, quotient_answer}
use Rattle.dz_jet.specs.declared.faults.JetFault.{JetFault}
use Rattle.dz_jet.specs.Jets.{multiplied, term_value, value_from, value_answer}
use Rattle.dz_jet.proofs.FractionLaws.{Is, is_lowest, passes_lowest, itself, same, product_is, negative_is, whole_is, copies_is, fraction_laws}

-- ---- answers
pub given_is : {A E : Type 0} (o : Option A) (e : E) (x : A) → given o e ≡ Ok x → o ≡ Some x
given_is (Some y) e x h = ap Some (ok_same y x h)
given_is None e x h = cc

if_in_range : {A : Type 0} (b : Bool) (x y : A) → cond b (Some x) None ≡ Some y → y ≡ x
if_in_range true x y e = cc
if_in_range false x y e = cc

-- the reduced fractions, as a ring
abbrev pub Reduced : Type 0
Reduced = Value fraction_operations

abbrev pub fractions : Ring Reduced
fractions = ring_of_values fraction_laws

whole_value : ℤ → Reduced
whole_value c = (whole c, passes_lowest (whole c) (whole_is c).lowest)

whole_times_one : (z : ℤ) → z *ℤ pos 1 ≡ z
whole_times_one z = whole_ring.product_commutes z (pos 1) ∙ whole_ring.one_is_neutral z

copies_of_one : (n : ℕ) → Is (copies fraction_arithmetic n (whole (pos 1))) (pos n *ℤ pos 1) 1
copies_of_one n = copies_is n (whole (pos 1)) (whole_is (pos 1)).lowest

-- a whole number is a fraction over one
whole_is_whole : (c : ℤ) → whole_in fractions.arithmetic c ≡ whole_value c
unfolding whole_value
whole_is_whole (pos n) = same_value fraction_operations _ _ (whole_in_element fraction_laws (pos n) ∙ same (copies fraction_arithmetic n (whole (pos 1))) (whole (pos n)) (pos n *ℤ pos 1) (pos n) 1 1 (copies_of_one n) (whole_is (pos n)) (whole_times_one _))
whole_is_whole (negsuc n) =
    same_value fraction_operations _ _ (whole_in_element fraction_laws (negsuc n)
    ∙ same (fraction_negative (copies fraction_arithmetic (suc n) (whole (pos 1)))) (whole (negsuc n)) (neg_ℤ (pos (suc n) *ℤ pos 1)) (negsuc n) 1 1 (negative_is _ _ _ (copies_of_one (suc n))) (whole_is (negsuc n))
    (ap (λ z. neg_ℤ z *ℤ pos 1) (whole_times_one (pos (suc n)))))

-- both parts of a computation are there
both_some : {A B : Type 0} (o : Option A) (f : A → Option B) (y : B) → option_and_then f o ≡ Some y → (x : A) × (o ≡ Some x) × (f x ≡ Some y)
both_some None f y e = cc
both_some (Some x) f y e = (x, refl, e)

some_same : {A : Type 0} (x y : A) → ◌≡◌ {A = Option A} (Some x) (Some y) → x ≡ y
some_same x y e = cc

product_then : (x v : Reduced) (y : Fraction) → product_answer x.0 v.0 ≡ Some y → y ≡ (fractions.product x v).0
product_then x v y h = if_in_range _ (fraction_product x.0 v.0) y h

sum_then : (x v : Reduced) (y : Fraction) → sum_answer x.0 v.0 ≡ Some y → y ≡ (fractions.sum x v).0
sum_then x v y h = if_in_range _ (fraction_sum x.0 v.0) y h

multiplied_is : (k : ℕ) (v x : Reduced) (y : Fraction) → multiplied k v.0 x.0 ≡ Some y → y ≡ (fractions.product x (power fractions.arithmetic v k)).0
multiplied_is zero v x y h = sym (some_same x.0 y h) ∙ sym (ap (λ z. z.0) (fractions.product_commutes x fractions.one ∙ fractions.one_is_neutral x))
multiplied_is (suc k) v x y h =
    let a = both_some (product_answer x.0 v.0) (multiplied k v.0) y h in
    let b : multiplied k v.0 (fractions.product x v).0 ≡ Some y = ap (multiplied k v.0) (sym (product_then x v a.0 a.1)) ∙ a.2 in
    multiplied_is k v (fractions.product x v) y b ∙ ap (λ z. z.0) (fractions.product_associates x v (power fractions.arithmetic v k))

module _ (at : Symbol → Reduced) where
  term_is : (m : Monomial Symbol) (x : Reduced) (y : Fraction) → term_value (λ s. (at s).0) m x.0 ≡ Some y → y ≡ (fractions.product x (monomial_value fractions.arithmetic at m)).0
  term_is [] x y h = sym (some_same x.0 y h) ∙ sym (ap (λ z. z.0) (fractions.product_commutes x fractions.one ∙ fractions.one_is_neutral x))
  term_is (p ∷ m) x y h =
      let a = both_some (multiplied p.1 (at p.0).0 x.0) (term_value (λ s. (at s).0) m) y h in
      let z = fractions.product x (power fractions.arithmetic (at p.0) p.1) in
      let b : term_value (λ s. (at s).0) m z.0 ≡ Some y = ap (term_value (λ s. (at s).0) m) (sym (multiplied_is p.1 (at p.0) x a.0 a.1)) ∙ a.2 in
      term_is m z y b ∙ ap (λ z. z.0) (fractions.product_associates x (power fractions.arithmetic (at p.0) p.1) (monomial_value fractions.arithmetic at m))

  from_is : (p : Polynomial Symbol) (x : Reduced) (y : Fraction) → value_from (λ s. (at s).0) p x.0 ≡ Some y → y ≡ (fractions.sum x (value fractions.arithmetic at p)).0
  unfolding whole_value
  from_is [] x y h = sym (some_same x.0 y h) ∙ sym (ap (λ z. z.0) (right_neutral fractions x))
  from_is (t ∷ p) x y h =
      let a = both_some (term_value (λ s. (at s).0) t.0 (whole t.1)) (λ v. option_and_then (value_from (λ s. (at s).0) p) (sum_answer x.0 v)) y h in
      let b = both_some (sum_answer x.0 a.0) (value_from (λ s. (at s).0) p) y a.2 in
      let term = fractions.product (whole_in fractions.arithmetic t.1) (monomial_value fractions.arithmetic at t.0) in
      let c : a.0 ≡ term.0 = term_is t.0 (whole_value t.1) a.0 a.1 ∙ ap (λ z. (fractions.product z (monomial_value fractions.arithmetic at t.0)).0) (sym (whole_is_whole t.1)) in
      let d : b.0 ≡ (fractions.sum x term).0 = sum_then x term b.0 (ap (sum_answer x.0) (sym c) ∙ b.1) in
      from_is p (fractions.sum x term) y (ap (value_from (λ s. (at s).0) p) (sym d) ∙ b.2) ∙ ap (λ z. z.0) (fractions.sum_associates x term (value fractions.arithmetic at p))

  pub value_is : (e : JetFault) (p : Polynomial Symbol) (y : Fraction) → value_answer e (λ s. (at s).0) p ≡ Ok y → y ≡ (value fractions.arithmetic at p).0
  unfolding value_answer
  value_is e p y h = from_is p fractions.zero y (given_is (value_from (λ s. (at s).0) p (whole (pos 0))) e y h) ∙ ap (λ z. z.0) (fractions.zero_is_neutral (value fractions.arithmetic at p))

-- ---- quotients
signs_cancel : (s : Bool) (m d : ℕ) → signed s m *ℤ signed s d ≡ pos d *ℤ pos m
signs_cancel false m d = whole_ring.product_commutes (pos m) (pos d)
signs_cancel true m d =
    negative_product whole_ring (pos m) (neg_ℤ (pos d)) ∙ ap neg_ℤ (whole_ring.product_commutes (pos m) (neg_ℤ (pos d)) ∙ negative_product whole_ring (pos d) (pos m)) ∙ negative_negative whole_ring (pos d *ℤ pos m)

positive_size : (z : ℤ) → z ≢ pos 0 → 0 < unsigned_abs z
positive_size (pos zero) n = absurd (n refl)
positive_size (pos (suc k)) n = omega arith
positive_size (negsuc k) n = omega arith

-- the inverse of a fraction that is not zero
pub inverse_is : (f : Fraction) → IsReduced f → f.numerator ≢ pos 0 → IsReduced (inverse_of f)
inverse_is f h n = record {
  positive = positive_size f.numerator n;
  coprime = subst (λ k. IsGcd k (unsigned_abs f.numerator) 1) (sym (unsigned_abs_signed (is_negative f.numerator) f.denominator)) (IsGcd-swap (unsigned_abs f.numerator) f.denominator 1 h.coprime);
}

inverse_times : (f : Fraction) (h : IsReduced f) (n : f.numerator ≢ pos 0) → fraction_product f (inverse_of f) ≡ whole (pos 1)
inverse_times f h n =
    same (fraction_product f (inverse_of f)) (whole (pos 1)) _ _ _ _ (product_is f (inverse_of f) _ _ _ _ (itself f h) (itself (inverse_of f) (inverse_is f h n))) (whole_is (pos 1))
    (whole_times_one _ ∙ ap (λ z. z *ℤ signed (is_negative f.numerator) f.denominator) (by_sign f.numerator) ∙ signs_cancel (is_negative f.numerator) (unsigned_abs f.numerator) f.denominator
    ∙ sym (whole_ring.one_is_neutral (pos f.denominator *ℤ pos (unsigned_abs f.numerator))))

-- with v = -r/s the sum of s*v and r is zero
pub quotient_solves : (e : JetFault) (r s : Reduced) (v : Fraction) → s.0.numerator ≢ pos 0 → given (quotient_answer (fraction_negative r.0) s.0) e ≡ Ok v
    → (w : IsTrue (is_reduced v)) × (fractions.sum (fractions.product s (v, w)) r ≡ fractions.zero)
quotient_solves e r s v n h =
    let lowest = is_lowest s.0 s.1 in
    let inverse : Reduced = (inverse_of s.0, passes_lowest (inverse_of s.0) (inverse_is s.0 lowest n)) in
    let x = fractions.product (fractions.negative r) inverse in
    let is : v ≡ x.0 = product_then (fractions.negative r) inverse v (given_is (quotient_answer (fraction_negative r.0) s.0) e v h) in
    let one : fractions.product s inverse ≡ fractions.one = same_value fraction_operations _ _ (inverse_times s.0 lowest n) in
    let w : IsTrue (is_reduced v) = subst (λ f. IsTrue (is_reduced f)) (sym is) x.1 in (
      w,
      ap (λ z. fractions.sum (fractions.product s z) r) (same_value fraction_operations (v, w) x is)
          ∙ ap (λ z. fractions.sum z r) (product_swaps fractions s (fractions.negative r) inverse ∙ ap (fractions.product (fractions.negative r)) one ∙ fractions.product_commutes (fractions.negative r) fractions.one ∙ fractions.one_is_neutral (fractions.negative r))
          ∙ fractions.negative_is_inverse r,
    )
