-- The product of two reduced fractions, reduced crosswise.
use Rattle.std.proofs.Common.{◌≡◌, ◌<◌, ◌≤◌, ◌*◌, ◌/◌, ◌%◌, inl, inr, ◌∙◌, ℕ, zero, suc, sym, ap, ap₂, subst, arith}
use Rattle.std.specs.Int.{◌∣◌}
use Rattle.std.proofs.lemmas.Nat.Gcd.{mod-eq-zero_of_dvd}
use Rattle.dz_int.specs.Numbers.{greatest}
use Rattle.dz_algebra.specs.Norm.{gcd}
use Rattle.dz_int.specs.Euclid.{AreParts, HasNoParts, IsCrossReduced}
use Rattle.dz_algebra.proofs.Divisors.{gcd_is}
use Rattle.dz_int.proofs.Coprime.{gcd_product, gcd_swap, coprime_parts, coprime_quotients, same_parts}

-- a multiple is its divisor times the quotient
pub quotient : (k n : ℕ) → k ∣ n → k * (n / k) ≡ n
quotient k n h = let m : n % k ≡ 0 = mod-eq-zero_of_dvd k h in omega arith

pub divisor_positive : (k n : ℕ) → 0 < n → k * (n / k) ≡ n → 0 < k
divisor_positive zero n h e = absurd (omega arith)
divisor_positive (suc k) n h e = omega arith

pub quotient_positive : (k n : ℕ) → 0 < n → k * (n / k) ≡ n → 0 < n / k
quotient_positive k n h e = by (n / k) e
  where
    by : (q : ℕ) → k * q ≡ n → 0 < q
    by zero e = absurd (omega arith)
    by (suc q) e = omega arith

-- with a = k x, d = k w, c = l y, b = l z
coprime_products : (k l x y z w : ℕ) → 0 < k → 0 < l → gcd (k * x) (l * z) ≡ 1 → gcd (l * y) (k * w) ≡ 1 → gcd (k * x) (k * w) ≡ k → gcd (l * y) (l * z) ≡ l → gcd (x * y) (z * w) ≡ 1
coprime_products k l x y z w p q ab cd ad cb =
    let xz = coprime_parts k l x z ab in
    let yw = coprime_parts l k y w cd in
    let xw = coprime_quotients k x w p ad in
    let yz = coprime_quotients l y z q cb in
    let xy_z : gcd (x * y) z ≡ 1 = gcd_product x y z xz yz in
    let xy_w : gcd (x * y) w ≡ 1 = gcd_product x y w xw yw in
    gcd_swap (x * y) (z * w) ∙ gcd_product z w (x * y) (gcd_swap z (x * y) ∙ xy_z) (gcd_swap w (x * y) ∙ xy_w)

pub cross_reduced : (a b c d k l : ℕ) → 0 < b → 0 < d → gcd a b ≡ 1 → gcd c d ≡ 1 → k ≡ gcd a d → l ≡ gcd c b → IsCrossReduced a b c d k l
cross_reduced a b c d k l p q h g e f =
    let i = gcd_is a d in
    let j = gcd_is c b in
    let xa : k * (a / k) ≡ a = quotient k a (subst (λ n. n ∣ a) (sym e) i.0) in
    let wd : k * (d / k) ≡ d = quotient k d (subst (λ n. n ∣ d) (sym e) i.1) in
    let yc : l * (c / l) ≡ c = quotient l c (subst (λ n. n ∣ c) (sym f) j.0) in
    let zb : l * (b / l) ≡ b = quotient l b (subst (λ n. n ∣ b) (sym f) j.1) in
    record {
      first_positive = divisor_positive k d q wd;
      second_positive = divisor_positive l b p zb;
      positive = product_positive (b / l) (d / k) (quotient_positive l b p zb) (quotient_positive k d q wd);
      coprime = coprime_products k l (a / k) (c / l) (b / l) (d / k) (divisor_positive k d q wd) (divisor_positive l b p zb)
          (ap₂ gcd xa zb ∙ h) (ap₂ gcd yc wd ∙ g) (ap₂ gcd xa wd ∙ sym e) (ap₂ gcd yc zb ∙ sym f);
      cross = ap₂ (λ m n. ((a / k) * (c / l)) * (m * n)) (sym zb) (sym wd) ∙ regroup k l (a / k) (c / l) (b / l) (d / k) ∙ ap₂ (λ m n. (m * n) * ((b / l) * (d / k))) xa yc;
    }
  where
    product_positive : (m n : ℕ) → 0 < m → 0 < n → 0 < m * n
    product_positive m n p q = grind arith

    regroup : (k l x y z w : ℕ) → (x * y) * ((l * z) * (k * w)) ≡ ((k * x) * (l * y)) * (z * w)
    regroup k l x y z w = omega arith

-- ---- what the code answers
pub are_parts : (a b c d k l x y : ℕ) → IsCrossReduced a b c d k l → x ≡ (a / k) * (c / l) → (a / k) * (c / l) ≤ greatest → y ≡ (b / l) * (d / k) → (b / l) * (d / k) ≤ greatest → AreParts (a * c) (b * d) x y
are_parts a b c d k l x y r e h f g = subst (λ m. AreParts (a * c) (b * d) m y) (sym e) (subst (AreParts (a * c) (b * d) ((a / k) * (c / l))) (sym f) (record {
  positive = r.positive;
  coprime = r.coprime;
  cross = r.cross;
  numerator_in_range = h;
  denominator_in_range = g;
}))

-- every other reduced form is the same
same_reduced : (a b c d k l x y : ℕ) → 0 < b * d → IsCrossReduced a b c d k l → 0 < y → gcd x y ≡ 1 → x * (b * d) ≡ (a * c) * y → ((a / k) * (c / l) ≡ x) × ((b / l) * (d / k) ≡ y)
same_reduced a b c d k l x y p r q g e = same_parts _ _ x y r.positive r.coprime g (crossed ((a / k) * (c / l)) ((b / l) * (d / k)) x y (a * c) (b * d) p r.cross e)
  where
    crossed : (u v x y n m : ℕ) → 0 < m → u * m ≡ n * v → x * m ≡ n * y → u * y ≡ x * v
    crossed u v x y n m p e f = cancelled (u * y) (x * v) m p (left u y m ∙ ap (λ k. k * y) e ∙ middle n v y ∙ ap (λ k. k * v) (sym f) ∙ right x m v)
      where
        left : (u y m : ℕ) → (u * y) * m ≡ (u * m) * y
        left u y m = omega arith

        middle : (n v y : ℕ) → (n * v) * y ≡ (n * y) * v
        middle n v y = omega arith

        right : (x m v : ℕ) → (x * m) * v ≡ (x * v) * m
        right x m v = omega arith

        cancelled : (s t m : ℕ) → 0 < m → s * m ≡ t * m → s ≡ t
        cancelled s t m p e = grind arith

both_positive : (b d : ℕ) → 0 < b → 0 < d → 0 < b * d
both_positive b d p q = grind arith

pub no_numerator : (a b c d k l : ℕ) → 0 < b → 0 < d → IsCrossReduced a b c d k l → greatest < (a / k) * (c / l) → HasNoParts (a * c) (b * d)
no_numerator a b c d k l p q r h = record { passes = λ x y s g e. inl (subst (λ n. greatest < n) (same_reduced a b c d k l x y (both_positive b d p q) r s g e).0 h) }

pub no_denominator : (a b c d k l : ℕ) → 0 < b → 0 < d → IsCrossReduced a b c d k l → greatest < (b / l) * (d / k) → HasNoParts (a * c) (b * d)
no_denominator a b c d k l p q r h = record { passes = λ x y s g e. inr (subst (λ n. greatest < n) (same_reduced a b c d k l x y (both_positive b d p q) r s g e).1 h) }
