-- Numbers without a common divisor, and their products and quotients.
use Rattle.std.proofs.Common.{◌≡◌, ◌<◌, ◌*◌, ◌∙◌, ℕ, zero, suc, refl, sym, ap, subst, arith}
use Rattle.std.specs.Int.{◌∣◌}
use Rattle.std.proofs.Math.Nat.{dvd-mul_left_of_dvd, dvd-mul_left, eq-one_of_dvd-one}
use Rattle.std.proofs.lemmas.Nat.Gcd.{dvd_antisymm, dvd_refl, dvd-zero}
use Rattle.dz_algebra.specs.Norm.{gcd}
use Rattle.dz_algebra.proofs.Divisors.{gcd_is, gcd_multiple}

one_only : (d : ℕ) → d ∣ 1 → d ≡ 1
one_only d e = eq-one_of_dvd-one e

-- numbers without a common divisor with z have a product without one
pub gcd_product : (x y z : ℕ) → gcd x z ≡ 1 → gcd y z ≡ 1 → gcd (x * y) z ≡ 1
gcd_product x zero z h g =
    let e : z ≡ 1 = one_only z (subst (λ n. z ∣ n) g ((gcd_is zero z).2 z (dvd-zero z) (dvd_refl z))) in
    one_only (gcd (x * zero) z) (subst (λ n. gcd (x * zero) z ∣ n) e (gcd_is (x * zero) z).1)
gcd_product x (suc y') z h g =
    let y = suc y' in
    let d = gcd (x * y) z in
    let i = gcd_is (x * y) z in
    let j = gcd_is (y * x) (y * z) in
    let k = gcd_is y z in
    let turned : x * y ≡ y * x = omega arith in
    let in_y : d ∣ y = subst (λ n. d ∣ n) (gcd_multiple y x z (omega arith) ∙ ap (λ n. y * n) h ∙ times_one y) (j.2 d (subst (λ n. d ∣ n) turned i.0) (dvd-mul_left_of_dvd d i.1 y)) in
    one_only d (subst (λ n. d ∣ n) g (k.2 d in_y i.1))
  where
    times_one : (y : ℕ) → y * 1 ≡ y
    times_one y = omega arith

pub gcd_swap : (x y : ℕ) → gcd x y ≡ gcd y x
gcd_swap x y =
    let i = gcd_is x y in
    let j = gcd_is y x in
    dvd_antisymm (j.2 (gcd x y) i.1 i.0) (i.2 (gcd y x) j.1 j.0)

-- parts of numbers without a common divisor have none
pub coprime_parts : (k l x y : ℕ) → gcd (k * x) (l * y) ≡ 1 → gcd x y ≡ 1
coprime_parts k l x y h =
    let i = gcd_is x y in
    let j = gcd_is (k * x) (l * y) in
    one_only (gcd x y) (subst (λ n. gcd x y ∣ n) h (j.2 (gcd x y) (dvd-mul_left_of_dvd (gcd x y) i.0 k) (dvd-mul_left_of_dvd (gcd x y) i.1 l)))

-- quotients by the greatest common divisor have no common divisor
pub coprime_quotients : (k x y : ℕ) → 0 < k → gcd (k * x) (k * y) ≡ k → gcd x y ≡ 1
coprime_quotients k x y p h = cancelled k (gcd x y) p (sym (gcd_multiple k x y p) ∙ h)
  where
    cancelled : (k g : ℕ) → 0 < k → k * g ≡ k → g ≡ 1
    cancelled k zero p e = absurd (omega arith)
    cancelled k (suc zero) p e = refl
    cancelled k (suc (suc g)) p e = absurd (grind arith)

-- a divisor of a product that has none in common with one factor divides the other
pub divides_other : (q x y : ℕ) → gcd x q ≡ 1 → q ∣ x * y → q ∣ y
divides_other q x zero h e = dvd-zero q
divides_other q x (suc y') h e =
    let y = suc y' in
    let turned : x * y ≡ y * x = omega arith in
    let whole : gcd (y * x) (y * q) ≡ y = gcd_multiple y x q (omega arith) ∙ ap (λ n. y * n) h ∙ times_one y in
    subst (λ n. q ∣ n) whole ((gcd_is (y * x) (y * q)).2 q (subst (λ n. q ∣ n) turned e) (dvd-mul_left q y))
  where
    times_one : (y : ℕ) → y * 1 ≡ y
    times_one y = omega arith

-- two reduced fractions of one value are equal
pub same_parts : (x y v w : ℕ) → 0 < y → gcd x y ≡ 1 → gcd v w ≡ 1 → x * w ≡ v * y → (x ≡ v) × (y ≡ w)
same_parts x y v w p g h e =
    let there : y ∣ w = divides_other y x w g (subst (λ n. y ∣ n) (sym e) (dvd-mul_left y v)) in
    let back : w ∣ y = divides_other w v y h (subst (λ n. w ∣ n) e (dvd-mul_left w x)) in
    let same : y ≡ w = dvd_antisymm there back in
    (cancelled x v y p (ap (λ n. x * n) same ∙ e), same)
  where
    cancelled : (x v y : ℕ) → 0 < y → x * y ≡ v * y → x ≡ v
    cancelled x v y p e = grind arith
