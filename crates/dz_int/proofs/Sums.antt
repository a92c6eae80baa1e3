-- The sum of two fractions over their least common denominator.
use Rattle.std.proofs.Common.{◌≡◌, ◌<◌, ◌≤◌, ◌+◌, ◌*◌, ◌/◌, inl, inr, ◌∙◌, ℕ, Bool, ℤ, pos, ◌+ℤ◌, ◌*ℤ◌, unsigned_abs, refl, sym, ap, ap₂, subst, arith}
use Rattle.std.specs.Int.{IsGcd, ◌∣◌, is_negative}
use Rattle.std.proofs.Math.IntN.{pos-*ℤ-pos}
use Rattle.std.proofs.lemmas.Nat.Gcd.{same_from_IsGcd}
use Rattle.dz_algebra.specs.Whole.{*ℤ_assoc}
use Rattle.dz_int.specs.Numbers.{greatest, signed}
use Rattle.dz_int.specs.Fractions.{Fraction, HasValue, SumPasses}
use Rattle.dz_algebra.specs.Norm.{gcd}
use Rattle.dz_int.specs.Euclid.{AreSumParts}
use Rattle.dz_algebra.proofs.Divisors.{gcd_is}
use Rattle.dz_int.proofs.Cross.{quotient, quotient_positive}
use Rattle.dz_int.proofs.Reduced.{common_positive}
use Rattle.dz_int.proofs.Signs.{+ℤ-*ℤ, abs_of_sum_of_products, by_sign, cancel_pos, factors_swap}

pub divisor_is_positive : (b d g : ℕ) → 0 < d → g ≡ gcd b d → 0 < g
divisor_is_positive = common_positive

-- the greatest common divisor is the one that the code found
only_one : (b d g k : ℕ) → g ≡ gcd b d → IsGcd b d k → g ≡ k
only_one b d g k e i = same_from_IsGcd b d g k (subst (IsGcd b d) (sym e) (gcd_is b d)) i

pub denominator_passes : (a c : ℤ) (b d g : ℕ) → g ≡ gcd b d → greatest < b * (d / g) → SumPasses (record { numerator = a; denominator = b }) (record { numerator = c; denominator = d })
denominator_passes a c b d g e h = record { passes = λ k i. inr (subst (λ n. greatest < b * (d / n)) (only_one b d g k e i) h) }

pub majorant_passes : (a c : ℤ) (b d g : ℕ) → g ≡ gcd b d → greatest < unsigned_abs a * (d / g) + unsigned_abs c * (b / g) → SumPasses (record { numerator = a; denominator = b }) (record { numerator = c; denominator = d })
majorant_passes a c b d g e h = record { passes = λ k i. inl (subst (λ n. greatest < unsigned_abs a * (d / n) + unsigned_abs c * (b / n)) (only_one b d g k e i) h) }

times : (a : ℤ) (m n : ℕ) → (a *ℤ pos m) *ℤ pos n ≡ a *ℤ pos (m * n)
times a m n = *ℤ_assoc a (pos m) (pos n) ∙ ap (λ k. a *ℤ k) (pos-*ℤ-pos m n)

-- with b = g p and d = g q, the sum a q + c p over b q is a over b plus c over d
crossed : (a c : ℤ) (b d g p q : ℕ) → g * p ≡ b → g * q ≡ d → (a *ℤ pos q +ℤ c *ℤ pos p) *ℤ pos (b * d) ≡ (a *ℤ pos d +ℤ c *ℤ pos b) *ℤ pos (b * q)
crossed a c b d g p q e f =
    +ℤ-*ℤ (a *ℤ pos q) (c *ℤ pos p) (pos (b * d))
    ∙ ap₂ (λ x y. x +ℤ y) (times a q (b * d) ∙ ap (λ n. a *ℤ pos n) (first b d q) ∙ sym (times a d (b * q))) (times c p (b * d) ∙ ap (λ n. c *ℤ pos n) second ∙ sym (times c b (b * q)))
    ∙ sym (+ℤ-*ℤ (a *ℤ pos d) (c *ℤ pos b) (pos (b * q)))
  where
    first : (b d q : ℕ) → q * (b * d) ≡ d * (b * q)
    first b d q = omega arith

    regroup : (b g p q : ℕ) → p * (b * (g * q)) ≡ (g * p) * (b * q)
    regroup b g p q = omega arith

    second : p * (b * d) ≡ b * (b * q)
    second = ap (λ n. p * (b * n)) (sym f) ∙ regroup b g p q ∙ ap (λ n. n * (b * q)) e

pub are_sum_parts : (a c z : ℤ) (b d g y : ℕ) → 0 < b → 0 < d → g ≡ gcd b d → y ≡ b * (d / g) → b * (d / g) ≤ greatest → z ≡ a *ℤ pos (d / g) +ℤ c *ℤ pos (b / g) → unsigned_abs a * (d / g) + unsigned_abs c * (b / g) ≤ greatest → AreSumParts (record { numerator = a; denominator = b }) (record { numerator = c; denominator = d }) z y
are_sum_parts a c z b d g y h i e f j k l =
    let p : g * (b / g) ≡ b = quotient g b (subst (λ n. n ∣ b) (sym e) (gcd_is b d).0) in
    let q : g * (d / g) ≡ d = quotient g d (subst (λ n. n ∣ d) (sym e) (gcd_is b d).1) in
    record {
      fits = record { fits = λ n o. (subst (λ m. unsigned_abs a * (d / m) + unsigned_abs c * (b / m) ≤ greatest) (only_one b d g n e o) l, subst (λ m. b * (d / m) ≤ greatest) (only_one b d g n e o) j) };
      positive = subst (λ n. 0 < n) (sym f) (both_positive b (d / g) h (quotient_positive g d i q));
      numerator_in_range = subst (λ n. unsigned_abs n ≤ greatest) (sym k) (bounded (abs_of_sum_of_products a c (d / g) (b / g)) l);
      denominator_in_range = subst (λ n. n ≤ greatest) (sym f) j;
      cross = ap₂ (λ n m. n *ℤ pos m) k refl ∙ crossed a c b d g (b / g) (d / g) p q ∙ ap (λ n. (a *ℤ pos d +ℤ c *ℤ pos b) *ℤ pos n) (sym f);
    }
  where
    both_positive : (m n : ℕ) → 0 < m → 0 < n → 0 < m * n
    both_positive m n p q = grind arith

    bounded : {m n k : ℕ} → m ≤ n → n ≤ k → m ≤ k
    bounded p q = omega arith

-- the sum over the common denominator, reduced
pub sum_value : (f h s : Fraction) (z : ℤ) (y m : ℕ) (b : Bool) → AreSumParts f h z y → m ≡ unsigned_abs z → b ≡ is_negative z → HasValue s (signed b m) y → HasValue s (f.numerator *ℤ pos h.denominator +ℤ h.numerator *ℤ pos f.denominator) (f.denominator * h.denominator)
sum_value f h s z y m b parts e g v =
    let n : ℤ = f.numerator *ℤ pos h.denominator +ℤ h.numerator *ℤ pos f.denominator in
    let d : ℤ = pos (f.denominator * h.denominator) in
    let k : s.numerator *ℤ pos y ≡ z *ℤ pos s.denominator = v ∙ ap (λ x. x *ℤ pos s.denominator) (ap₂ signed g e ∙ sym (by_sign z)) in
    cancel_pos (s.numerator *ℤ d) (n *ℤ pos s.denominator) y parts.positive
    (factors_swap s.numerator d (pos y)
    ∙ ap (λ x. x *ℤ d) k
    ∙ factors_swap z (pos s.denominator) d
    ∙ ap (λ x. x *ℤ pos s.denominator) parts.cross
    ∙ factors_swap n (pos y) (pos s.denominator))
