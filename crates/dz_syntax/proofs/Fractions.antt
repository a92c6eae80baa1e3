-- A reduced fraction is fixed by its value.
use Rattle.std.proofs.Common.{◌≡◌, ◌<◌, ◌*◌, ◌/◌, ◌∙◌, ℕ, ℤ, ◌*ℤ◌, pos, unsigned_abs, refl, sym, ap, ap₂, subst, arith}
use Rattle.std.specs.Int.{is_negative}
use Rattle.std.proofs.lemmas.Int.{unsigned_abs-mul}
use Rattle.std.proofs.lemmas.Nat.Gcd.{same_from_IsGcd}
use Rattle.dz_int.specs.Fractions.{Fraction, IsFraction, HasValue}
use Rattle.dz_algebra.specs.Norm.{gcd}
use Rattle.dz_algebra.proofs.Divisors.{gcd_is}
use Rattle.dz_int.proofs.Coprime.{same_parts}
use Rattle.dz_int.proofs.Signs.{by_sign, cancel_pos}
use Rattle.dz_int.proofs.Cross.{quotient}
use Rattle.dz_int.proofs.Reduced.{common_positive, quotients_coprime, reduced_value}
use Rattle.dz_syntax.specs.Values.{fraction_of}

-- the fraction that is made of quotients has the value
made_value : (n : ℤ) (d : ℕ) → 0 < d → HasValue (fraction_of n d) n d
made_value n d p = subst (λ m. HasValue (fraction_of n d) m d) (sym (by_sign n)) (reduced_value (unsigned_abs n) d (gcd (unsigned_abs n) d) (is_negative n) (fraction_of n d) p refl refl)

-- a common factor of both sides is cancelled
cancelled : (a b k x y n d : ℕ) → 0 < k → k * x ≡ n → k * y ≡ d → a * d ≡ n * b → a * y ≡ x * b
cancelled a b k x y n d p e f h = same k (a * y) (x * b) p (turned a k y ∙ ap (λ m. a * m) f ∙ h ∙ ap (λ m. m * b) (sym e) ∙ moved k x b)
  where
    turned : (a k y : ℕ) → k * (a * y) ≡ a * (k * y)
    turned a k y = omega arith

    moved : (k x b : ℕ) → (k * x) * b ≡ k * (x * b)
    moved k x b = omega arith

    same : (k m n : ℕ) → 0 < k → k * m ≡ k * n → m ≡ n
    same k m n p e = grind arith

-- numerators of one value over one denominator are equal
same_numerator : (f g : Fraction) (n : ℤ) (d : ℕ) → 0 < d → HasValue f n d → HasValue g n d → f.denominator ≡ g.denominator → f ≡ g
same_numerator f g n d p v w e =
    let h : f.numerator ≡ g.numerator = cancel_pos f.numerator g.numerator d p (v ∙ ap (λ (k : ℕ). n *ℤ pos k) e ∙ sym w) in
    ap₂ (λ (a : ℤ) (b : ℕ). made a b) h e
  where
    made : ℤ → ℕ → Fraction
    made a b = record { numerator = a; denominator = b }

-- a reduced fraction with the value n over d is the one that is made of quotients
pub is_fraction_of : (f : Fraction) (n : ℤ) (d : ℕ) → 0 < d → IsFraction f → HasValue f n d → f ≡ fraction_of n d
is_fraction_of f n d p is v =
    let m = unsigned_abs n in
    let k = gcd m d in
    let x : k * (m / k) ≡ m = quotient k m (gcd_is m d).0 in
    let y : k * (d / k) ≡ d = quotient k d (gcd_is m d).1 in
    let h : unsigned_abs f.numerator * d ≡ m * f.denominator = sym (unsigned_abs-mul f.numerator (pos d)) ∙ ap unsigned_abs v ∙ unsigned_abs-mul n (pos f.denominator) in
    let c : gcd (unsigned_abs f.numerator) f.denominator ≡ 1 = same_from_IsGcd (unsigned_abs f.numerator) f.denominator _ 1 (gcd_is (unsigned_abs f.numerator) f.denominator) is.reduced.coprime in
    let parts = same_parts (unsigned_abs f.numerator) f.denominator (m / k) (d / k) is.reduced.positive c (quotients_coprime m d k p refl) (cancelled (unsigned_abs f.numerator) f.denominator k (m / k) (d / k) m d (common_positive m d k p refl) x y h) in
    same_numerator f (fraction_of n d) n d p v (made_value n d p) parts.1
