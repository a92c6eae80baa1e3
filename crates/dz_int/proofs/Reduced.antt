-- Fractions by sign, numerator and denominator, and their reduced form.
use Rattle.std.proofs.Common.{◌≡◌, ◌<◌, ◌≤◌, ◌*◌, ◌/◌, ◌∙◌, ℕ, Bool, not, ℤ, pos, ◌*ℤ◌, unsigned_abs, refl, sym, ap, ap₂, subst, arith}
use Rattle.std.specs.Int.{IsGcd, ◌∣◌, is_negative}
use Rattle.std.specs.Prelude.{neg_ℤ}
use Rattle.std.proofs.lemmas.Int.{unsigned_abs-mul}
use mathlib.Core.Bool.{beq}
use Rattle.std.proofs.lemmas.Nat.Gcd.{same_from_IsGcd}
use Rattle.dz_int.specs.Numbers.{greatest, signed}
use Rattle.dz_int.specs.Fractions.{Fraction, IsFraction, HasValue, LeavesRange}
use Rattle.dz_algebra.specs.Norm.{gcd}
use Rattle.dz_int.specs.Euclid.{AreParts, HasNoParts}
use Rattle.dz_algebra.proofs.Divisors.{gcd_is}
use Rattle.dz_int.proofs.Coprime.{gcd_swap, coprime_quotients}
use Rattle.dz_int.proofs.Cross.{quotient, divisor_positive, quotient_positive}
use Rattle.dz_int.proofs.Signs.{unsigned_abs_signed, signed_pos, product_by_sign, neg_by_sign}

pub is_fraction : (z : ℤ) (b : Bool) (x y : ℕ) → z ≡ signed b x → x ≤ greatest → 0 < y → y ≤ greatest → gcd x y ≡ 1 → IsFraction (record { numerator = z; denominator = y })
is_fraction z b x y e h p g c =
    let a : unsigned_abs z ≡ x = ap unsigned_abs e ∙ unsigned_abs_signed b x in
    record {
      reduced = record { positive = p; coprime = subst (λ n. IsGcd n y 1) (sym a) (subst (IsGcd x y) c (gcd_is x y)) };
      numerator_in_range = subst (λ n. n ≤ greatest) (sym a) h;
      denominator_in_range = g;
    }

-- ---- a numerator and a denominator, divided by their greatest common divisor
pub common_positive : (n d g : ℕ) → 0 < d → g ≡ gcd n d → 0 < g
common_positive n d g p e = divisor_positive g d p (quotient g d (subst (λ k. k ∣ d) (sym e) (gcd_is n d).1))

pub quotients_coprime : (n d g : ℕ) → 0 < d → g ≡ gcd n d → gcd (n / g) (d / g) ≡ 1
quotients_coprime n d g p e =
    let x : g * (n / g) ≡ n = quotient g n (subst (λ k. k ∣ n) (sym e) (gcd_is n d).0) in
    let y : g * (d / g) ≡ d = quotient g d (subst (λ k. k ∣ d) (sym e) (gcd_is n d).1) in
    coprime_quotients g (n / g) (d / g) (divisor_positive g d p y) (ap₂ gcd x y ∙ sym e)

pub quotient_of_denominator : (n d g : ℕ) → 0 < d → g ≡ gcd n d → 0 < d / g
quotient_of_denominator n d g p e = quotient_positive g d p (quotient g d (subst (λ k. k ∣ d) (sym e) (gcd_is n d).1))

pub reduced_value : (n d g : ℕ) (s : Bool) (f : Fraction) → 0 < d → g ≡ gcd n d → f ≡ record { numerator = signed s (n / g); denominator = d / g } → HasValue f (signed s n) d
reduced_value n d g s f p e h =
    let x : g * (n / g) ≡ n = quotient g n (subst (λ k. k ∣ n) (sym e) (gcd_is n d).0) in
    let y : g * (d / g) ≡ d = quotient g d (subst (λ k. k ∣ d) (sym e) (gcd_is n d).1) in
    subst (λ k. HasValue k (signed s n) d) (sym h) (signed_pos s (n / g) d ∙ ap (signed s) (crossed (n / g) (d / g) g n d x y) ∙ sym (signed_pos s n (d / g)))
  where
    crossed : (q r g n d : ℕ) → g * q ≡ n → g * r ≡ d → q * d ≡ n * r
    crossed q r g n d e f = ap (λ k. q * k) (sym f) ∙ turned q g r ∙ ap (λ k. k * r) e
      where
        turned : (q g r : ℕ) → q * (g * r) ≡ (g * q) * r
        turned q g r = omega arith

-- ---- products
pub coprime_gcd : (m x y : ℕ) → m ≡ x → IsGcd x y 1 → gcd m y ≡ 1
coprime_gcd m x y e i = ap (λ n. gcd n y) e ∙ same_from_IsGcd x y (gcd x y) 1 (gcd_is x y) i

pub product_leaves_range : (f h : Fraction) (m n : ℕ) → m ≡ unsigned_abs f.numerator → n ≡ unsigned_abs h.numerator → HasNoParts (m * n) (f.denominator * h.denominator) → LeavesRange (f.numerator *ℤ h.numerator) (f.denominator * h.denominator)
product_leaves_range f h m n e g none = record { passes = λ p r v. none.passes (unsigned_abs p.numerator) p.denominator r.positive (coprime_gcd _ _ p.denominator refl r.coprime) (crossed p v) }
  where
    crossed : (p : Fraction) → HasValue p (f.numerator *ℤ h.numerator) (f.denominator * h.denominator) → unsigned_abs p.numerator * (f.denominator * h.denominator) ≡ (m * n) * p.denominator
    crossed p v =
        sym (unsigned_abs-mul p.numerator (pos (f.denominator * h.denominator)))
        ∙ ap unsigned_abs v
        ∙ unsigned_abs-mul (f.numerator *ℤ h.numerator) (pos p.denominator)
        ∙ ap (λ k. k * p.denominator) (unsigned_abs-mul f.numerator h.numerator ∙ ap₂ (λ i j. i * j) (sym e) (sym g))

pub product_value : (f h p : Fraction) (x y m n : ℕ) (s t : Bool) → m ≡ unsigned_abs f.numerator → n ≡ unsigned_abs h.numerator → s ≡ is_negative f.numerator → t ≡ is_negative h.numerator → AreParts (m * n) (f.denominator * h.denominator) x y → p ≡ record { numerator = signed (not (beq s t)) x; denominator = y } → HasValue p (f.numerator *ℤ h.numerator) (f.denominator * h.denominator)
product_value f h p x y m n s t e g i j parts k =
    subst (λ q. HasValue q (f.numerator *ℤ h.numerator) (f.denominator * h.denominator)) (sym k)
    (signed_pos (not (beq s t)) x (f.denominator * h.denominator)
    ∙ ap (signed (not (beq s t))) parts.cross
    ∙ sym (signed_pos (not (beq s t)) (m * n) y)
    ∙ ap (λ a. a *ℤ pos y) (ap₂ (λ b a. signed (not b) a) (ap₂ beq i j) (ap₂ (λ a b. a * b) e g) ∙ sym (product_by_sign f.numerator h.numerator)))

-- ---- the inverse and the negative
pub negated : (f : Fraction) → IsFraction f → IsFraction (record { numerator = neg_ℤ f.numerator; denominator = f.denominator })
negated f i = subst (λ n. IsFraction (record { numerator = n; denominator = f.denominator })) (sym (neg_by_sign f.numerator)) (is_fraction _ (not (is_negative f.numerator)) (unsigned_abs f.numerator) f.denominator refl i.numerator_in_range i.reduced.positive i.denominator_in_range (coprime_gcd _ (unsigned_abs f.numerator) f.denominator refl i.reduced.coprime))

pub inverse_coprime : (m x y : ℕ) → m ≡ x → IsGcd x y 1 → gcd y m ≡ 1
inverse_coprime m x y e i = gcd_swap y m ∙ coprime_gcd m x y e i
