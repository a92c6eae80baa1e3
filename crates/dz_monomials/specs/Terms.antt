-- Powers of symbols: as polynomials, as factors, and in monomials.
use Rattle.std.specs.Prelude.{ℕ, zero, suc, [], ◌∷◌, ℤ}
use Rattle.std.specs.declared.cmp.Ordering.{Ordering}
use Rattle.std.specs.Ordering.{match_ordering}
use Rattle.dz_algebra.specs.Monomial.{Monomial, with_power, without}
use Rattle.dz_algebra.specs.Polynomial.{Polynomial, keep}

-- a number as a polynomial, which is zero for the number zero
abbrev pub constant_polynomial : {S : Type 0} → ℤ → Polynomial S
constant_polynomial c = keep [] c []

-- c times the k-th power of a symbol
abbrev pub power_term : {S : Type 0} → ℤ → S → ℕ → Polynomial S
power_term c s zero = ([], c) ∷ []
power_term c s (suc k) = ((s, suc k) ∷ [], c) ∷ []

-- a polynomial times v^k
abbrev pub times_power : {S : Type 0} → (S → S → Ordering) → S → ℕ → Polynomial S → Polynomial S
times_power cmp v zero p = p
times_power cmp v (suc k) [] = []
times_power cmp v (suc k) (t ∷ p) = (with_power cmp v (suc k) t.0, t.1) ∷ times_power cmp v (suc k) p

-- a monomial with another exponent where s occurs; it is without s where that is zero
abbrev pub with_exponent : {S : Type 0} → (S → S → Ordering) → S → ℕ → Monomial S → Monomial S
with_exponent cmp s zero m = without cmp s m
with_exponent cmp s (suc e) [] = []
with_exponent cmp s (suc e) (p ∷ m) = match_ordering (cmp s p.0) (p ∷ with_exponent cmp s (suc e) m) ((p.0, suc e) ∷ with_exponent cmp s (suc e) m) (p ∷ with_exponent cmp s (suc e) m)
