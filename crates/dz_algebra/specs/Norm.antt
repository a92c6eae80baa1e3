-- The norm of a polynomial (this project's choice among its multiples by rational numbers).
use Rattle.std.specs.Prelude.{ℕ, zero, suc, ◌%◌, cond, List, [], ◌∷◌, ℤ, pos, neg_ℤ, int_div, unsigned_abs, int_lt}

-- Euclid's rule, with at most n steps
abbrev pub gcd_within : ℕ → ℕ → ℕ → ℕ
gcd_within zero a b = a
gcd_within (suc n) a zero = a
gcd_within (suc n) a (suc b) = gcd_within n (suc b) (a % suc b)

-- the greatest common divisor, zero for two zeros
unfoldable pub gcd : ℕ → ℕ → ℕ
gcd a b = gcd_within (suc b) a b

-- the greatest common divisor of the coefficients
abbrev pub content : {M : Type 0} → List (M × ℤ) → ℕ
content [] = 0
content (t ∷ p) = gcd (unsigned_abs t.1) (content p)

-- the content with the sign of the coefficient of the greatest monomial
abbrev pub signed_content : {M : Type 0} → List (M × ℤ) → ℤ
signed_content [] = pos 1
signed_content (t ∷ p) = cond (int_lt t.1 (pos 0)) (neg_ℤ (pos (content (t ∷ p)))) (pos (content (t ∷ p)))

-- every coefficient divided by k
abbrev pub divided : {M : Type 0} → ℤ → List (M × ℤ) → List (M × ℤ)
divided k [] = []
divided k (t ∷ p) = (t.0, int_div t.1 k) ∷ divided k p

-- the norm: divided by the content, with the first coefficient positive; of zero it is zero
unfoldable pub norm : {M : Type 0} → List (M × ℤ) → List (M × ℤ)
norm p = divided (signed_content p) p
