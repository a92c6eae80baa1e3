-- Division by the greatest power of a symbol.
use Rattle.std.specs.Prelude.{ℕ, zero, suc, ◌-◌, ◌==◌, min, Bool, not, [], ◌∷◌}
use Rattle.std.specs.declared.cmp.Ordering.{Ordering}
use Rattle.dz_algebra.specs.Monomial.{Monomial, monomial_cmp, exponent, with_power, without}
use Rattle.dz_algebra.specs.Polynomial.{Polynomial, Contributions, collect}

-- the least exponent of v in a polynomial, or k if that is less
abbrev pub least_exponent : {S : Type 0} → (S → S → Ordering) → S → ℕ → Polynomial S → ℕ
least_exponent cmp v k [] = k
least_exponent cmp v k (t ∷ p) = least_exponent cmp v (min k (exponent cmp v t.0)) p

-- the greatest k such that v^k divides a polynomial that is not zero
abbrev pub divisor_power : {S : Type 0} → (S → S → Ordering) → S → Polynomial S → ℕ
divisor_power cmp v [] = 0
divisor_power cmp v (t ∷ p) = least_exponent cmp v (exponent cmp v t.0) p

-- a monomial times v^e
abbrev pub with_exponent : {S : Type 0} → (S → S → Ordering) → S → ℕ → Monomial S → Monomial S
with_exponent cmp v zero m = m
with_exponent cmp v (suc e) m = with_power cmp v (suc e) m

-- each term divided by v^k
abbrev pub divided_by : {S : Type 0} → (S → S → Ordering) → S → ℕ → Polynomial S → Contributions S
divided_by cmp v k [] = []
divided_by cmp v k (t ∷ p) = (with_exponent cmp v (exponent cmp v t.0 - k) (without cmp v t.0), t.1) ∷ divided_by cmp v k p

-- the quotient by the greatest power of v
abbrev pub quotient_by : {S : Type 0} → (S → S → Ordering) → S → Polynomial S → Polynomial S
quotient_by cmp v p = collect (monomial_cmp cmp) (divided_by cmp v (divisor_power cmp v p) p)

-- v divides the polynomial, which is not zero
abbrev pub is_divided : {S : Type 0} → (S → S → Ordering) → S → Polynomial S → Bool
is_divided cmp v p = not (divisor_power cmp v p == 0)
