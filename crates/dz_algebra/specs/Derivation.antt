-- Derivations (Kolchin): by Leibniz over each term and each symbol of it.
use Rattle.std.specs.Prelude.{⊤, ◌≡◌, ℕ, zero, suc, [], ◌∷◌, ◌++◌, ℤ, pos, ◌*ℤ◌}
use Rattle.std.specs.declared.cmp.Ordering.{Ordering}
use Rattle.std.specs.Ordering.{match_ordering}
use Rattle.dz_algebra.specs.Monomial.{Monomial, with_power, monomial_cmp}
use Rattle.dz_algebra.specs.Polynomial.{Polynomial, Contributions, collect, polynomial_one, symbol_polynomial}

-- what a derivation makes of a symbol: zero, one, or a symbol
pub data Rate (S : Type 0) : Type 0 where
  constant : Rate S
  unit : Rate S
  symbol : S → Rate S

-- what a derivation makes of a symbol, as a polynomial
abbrev pub rate_polynomial : {S : Type 0} → Rate S → Polynomial S
rate_polynomial constant = []
rate_polynomial unit = polynomial_one
rate_polynomial (symbol t) = symbol_polynomial t

-- the symbol that a derivation makes, if it makes one, has a property
abbrev pub RateIn : {S : Type 0} → (S → Type 0) → Rate S → Type 0
RateIn P constant = ⊤
RateIn P unit = ⊤
RateIn P (symbol t) = P t

-- the partial derivative by v: v itself goes to one, every other symbol to zero
abbrev pub rate_by : {S : Type 0} → (S → S → Ordering) → S → S → Rate S
rate_by cmp v s = match_ordering (cmp s v) constant unit constant

-- s^e with s taken once less, before a monomial in lesser symbols
abbrev pub once_less : {S : Type 0} → S → ℕ → Monomial S → Monomial S
once_less s zero m = m
once_less s (suc zero) m = m
once_less s (suc (suc e)) m = (s, suc e) ∷ m

-- the contributions of c times a monomial times what a derivation makes of a symbol
abbrev pub times_rate : {S : Type 0} → (S → S → Ordering) → Rate S → Monomial S → ℤ → Contributions S
times_rate cmp constant m c = []
times_rate cmp unit m c = (m, c) ∷ []
times_rate cmp (symbol t) m c = (with_power cmp t 1 m, c) ∷ []

-- contributions, each times s^e
abbrev pub each_with_power : {S : Type 0} → (S → S → Ordering) → S → ℕ → Contributions S → Contributions S
each_with_power cmp s e [] = []
each_with_power cmp s e (t ∷ ts) = (with_power cmp s e t.0, t.1) ∷ each_with_power cmp s e ts

-- the contributions of the derivative of a term: for each symbol whose derivative is not zero, the coefficient times
-- the exponent, at the monomial with the symbol taken once less times the symbol's derivative
abbrev pub term_derivative : {S : Type 0} → (S → S → Ordering) → (S → Rate S) → Monomial S → ℤ → Contributions S
term_derivative cmp rate [] c = []
term_derivative cmp rate (p ∷ m) c =
    times_rate cmp (rate p.0) (once_less p.0 p.1 m) (c *ℤ pos p.1)
    ++ each_with_power cmp p.0 p.1 (term_derivative cmp rate m c)

-- the contributions of a derivation, term by term
abbrev pub derivative_contributions : {S : Type 0} → (S → S → Ordering) → (S → Rate S) → Polynomial S
    → Contributions S
derivative_contributions cmp rate [] = []
derivative_contributions cmp rate (t ∷ p) = term_derivative cmp rate t.0 t.1 ++ derivative_contributions cmp rate p

-- the derivative: the sum over each term and each symbol of it
unfoldable pub polynomial_derivative : {S : Type 0} → (S → S → Ordering) → (S → Rate S) → Polynomial S → Polynomial S
polynomial_derivative cmp rate a = collect (monomial_cmp cmp) (derivative_contributions cmp rate a)

-- what a further derivation makes of the derivative of a symbol
abbrev pub rate_again : {S : Type 0} → (S → Rate S) → Rate S → Rate S
rate_again rate constant = constant
rate_again rate unit = constant
rate_again rate (symbol t) = rate t

-- two derivations make the same of each symbol in either order
abbrev pub RatesCommute : {S : Type 0} → (S → Rate S) → (S → Rate S) → Type 0
RatesCommute {S} first second = (s : S) → rate_again first (second s) ≡ rate_again second (first s)
