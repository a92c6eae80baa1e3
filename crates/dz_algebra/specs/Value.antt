-- The value of a polynomial where each symbol has a value in a ring (Kolchin). No order occurs in it.
use Rattle.std.specs.Prelude.{ℕ, zero, suc, [], ◌∷◌, ℤ, pos, negsuc}
use Rattle.dz_algebra.specs.Domain.{Arithmetic, copies}
use Rattle.dz_algebra.specs.Monomial.{Monomial}
use Rattle.dz_algebra.specs.Polynomial.{Contributions}
use Rattle.dz_algebra.specs.Derivation.{Rate, constant, unit, symbol}

-- a whole number as an element of a ring
abbrev pub whole_in : {R : Type 0} → Arithmetic R → ℤ → R
whole_in r (pos n) = copies r n r.one
whole_in r (negsuc n) = r.negative (copies r (suc n) r.one)

-- x multiplied with itself
abbrev pub power : {R : Type 0} → Arithmetic R → R → ℕ → R
power r x zero = r.one
power r x (suc e) = r.product x (power r x e)

-- the product of the powers of the symbols' values
abbrev pub monomial_value : {R S : Type 0} → Arithmetic R → (S → R) → Monomial S → R
monomial_value r at [] = r.one
monomial_value r at (p ∷ m) = r.product (power r (at p.0) p.1) (monomial_value r at m)

-- the sum over the terms of the coefficient times the powers of the symbols' values
abbrev pub value : {R S : Type 0} → Arithmetic R → (S → R) → Contributions S → R
value r at [] = r.zero
value r at (t ∷ ts) = r.sum (r.product (whole_in r t.1) (monomial_value r at t.0)) (value r at ts)

-- the value of what a derivation makes of a symbol
abbrev pub rate_value : {R S : Type 0} → Arithmetic R → (S → R) → Rate S → R
rate_value r at constant = r.zero
rate_value r at unit = r.one
rate_value r at (symbol t) = at t
