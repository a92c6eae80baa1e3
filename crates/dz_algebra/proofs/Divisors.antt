-- Greatest common divisors: Euclid's rule, what they divide, and those of multiples.
use Rattle.std.proofs.Common.{◌≡◌, ◌<◌, ◌≤◌, ◌%◌, ◌*◌, ◌+◌, ◌/◌, ◌∙◌, ℕ, zero, suc, refl, sym, ap, subst, arith}
use Rattle.std.specs.Int.{IsGcd}
use Rattle.std.proofs.Math.Nat.{add-mul-mod_self_left, mod-eq_of_lt, mul-le-mul_left}
use Rattle.std.proofs.lemmas.Nat.Gcd.{IsGcd-from_mod, IsGcd-from_zero}
use Rattle.dz_algebra.specs.Norm.{gcd, gcd_within}

-- more steps than needed change nothing
enough : (m n a b : ℕ) → b < m → b < n → gcd_within m a b ≡ gcd_within n a b
enough zero n a b h g = absurd (omega arith)
enough (suc m) zero a b h g = absurd (omega arith)
enough (suc m) (suc n) a zero h g = refl
enough (suc m) (suc n) a (suc b) h g = let r : a % suc b < suc b = omega arith in enough m n (suc b) (a % suc b) (omega arith) (omega arith)

-- Euclid's rule: the end
pub gcd_zero : (a b : ℕ) → b ≡ 0 → gcd a b ≡ a
unfolding gcd
gcd_zero a zero e = refl
gcd_zero a (suc b) e = absurd (omega arith)

-- Euclid's rule: a step
pub gcd_step : (a b : ℕ) → 0 < b → gcd b (a % b) ≡ gcd a b
unfolding gcd
gcd_step a zero h = absurd (omega arith)
gcd_step a (suc b) h = let r : a % suc b < suc b = omega arith in enough (suc (a % suc b)) (suc b) (suc b) (a % suc b) (omega arith) (omega arith)

-- what Euclid's rule gives divides both, and each common divisor divides it
is_within : (n a b : ℕ) → b < n → IsGcd a b (gcd a b)
is_within zero a b h = absurd (omega arith)
is_within (suc n) a zero h = subst (IsGcd a zero) (sym (gcd_zero a zero refl)) (IsGcd-from_zero a zero refl)
is_within (suc n) a (suc b) h = let r : a % suc b < suc b = omega arith in subst (IsGcd a (suc b)) (gcd_step a (suc b) (omega arith)) (IsGcd-from_mod a (suc b) _ (is_within n (suc b) (a % suc b) (omega arith)))

-- Euclid's rule gives the greatest common divisor
pub gcd_is : (a b : ℕ) → IsGcd a b (gcd a b)
gcd_is a b = is_within (suc b) a b (omega arith)

mod_multiple : (k a b : ℕ) → 0 < k → 0 < b → (k * a) % (k * b) ≡ k * (a % b)
mod_multiple k a b g h =
    let r : a % b < b = omega arith in
    let e : k * a ≡ k * (a % b) + (k * b) * (a / b) = parts k a b (a / b) (a % b) (omega arith) in
    let l : k * (a % b) < k * b = below k (a % b) b g r in
    ap (λ n. n % (k * b)) e ∙ add-mul-mod_self_left (k * (a % b)) (k * b) (a / b) ∙ mod-eq_of_lt l
  where
    below : (k r b : ℕ) → 0 < k → r < b → k * r < k * b
    below k r b g h = let m : k * (r + 1) ≤ k * b = mul-le-mul_left k (omega arith) in omega arith

    parts : (k a b q r : ℕ) → q * b + r ≡ a → k * a ≡ k * r + (k * b) * q
    parts k a b q r e = sym (ap (λ n. k * n) e) ∙ omega arith

multiple_within : (n k a b : ℕ) → b < n → 0 < k → gcd (k * a) (k * b) ≡ k * gcd a b
multiple_within zero k a b h g = absurd (omega arith)
multiple_within (suc n) k a zero h g = gcd_zero (k * a) (k * zero) (omega arith) ∙ ap (λ x. k * x) (sym (gcd_zero a zero refl))
multiple_within (suc n) k a (suc b) h g =
    let r : a % suc b < suc b = omega arith in
    sym (gcd_step (k * a) (k * suc b) (grind arith))
    ∙ ap (gcd (k * suc b)) (mod_multiple k a (suc b) g (omega arith))
    ∙ multiple_within n k (suc b) (a % suc b) (omega arith) g
    ∙ ap (λ x. k * x) (gcd_step a (suc b) (omega arith))

-- a common factor goes out
pub gcd_multiple : (k a b : ℕ) → 0 < k → gcd (k * a) (k * b) ≡ k * gcd a b
gcd_multiple k a b g = multiple_within (suc b) k a b (omega arith) g
