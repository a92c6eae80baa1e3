-- The parts of a polynomial (Ritt, Kolchin): degree, coefficient of a power, leader, initial, separant.
use Rattle.std.specs.Prelude.{ℕ, max, Bool, true, false, cond, not, ◌&&◌, ◌||◌, [], ◌∷◌, Option, Some, None, ◌==◌}
use Rattle.std.specs.declared.cmp.Ordering.{Ordering}
use Rattle.std.specs.Ordering.{match_ordering}
use Rattle.dz_algebra.specs.Monomial.{Monomial, exponent, without}
use Rattle.dz_algebra.specs.Polynomial.{Polynomial}
use Rattle.dz_algebra.specs.Derivation.{polynomial_derivative, rate_by}
use Rattle.dz_algebra.specs.Symbols.{Symbols}

-- the degree in s: the greatest exponent of s
abbrev pub degree : {S : Type 0} → (S → S → Ordering) → S → Polynomial S → ℕ
degree cmp s [] = 0
degree cmp s (t ∷ p) = max (exponent cmp s t.0) (degree cmp s p)

-- the coefficient of s^k: the terms with that power of s, each without s
abbrev pub coefficient_of : {S : Type 0} → (S → S → Ordering) → S → ℕ → Polynomial S → Polynomial S
coefficient_of cmp s k [] = []
coefficient_of cmp s k (t ∷ p) =
    cond (exponent cmp s t.0 == k) ((without cmp s t.0, t.1) ∷ coefficient_of cmp s k p) (coefficient_of cmp s k p)

-- a derivative occurs in the monomial
abbrev pub has_derivative : {S : Type 0} → Symbols S → Monomial S → Bool
has_derivative g [] = false
has_derivative g (p ∷ m) = g.is_derivative p.0 || has_derivative g m

-- no derivative occurs in the polynomial
abbrev pub is_ground : {S : Type 0} → Symbols S → Polynomial S → Bool
is_ground g [] = true
is_ground g (t ∷ p) = not (has_derivative g t.0) && is_ground g p

-- the greater of s and a symbol found before
abbrev pub greater : {S : Type 0} → (S → S → Ordering) → S → Option S → Option S
greater cmp s None = Some s
greater cmp s (Some t) = match_ordering (cmp s t) (Some t) (Some t) (Some s)

-- the greatest derivative of a monomial and of those found before
abbrev pub greatest_derivative : {S : Type 0} → Symbols S → Monomial S → Option S → Option S
greatest_derivative g [] best = best
greatest_derivative g (p ∷ m) best = greatest_derivative g m (cond (g.is_derivative p.0) (greater g.cmp p.0 best) best)

-- the greatest derivative of a polynomial and of those found before
abbrev pub leader_from : {S : Type 0} → Symbols S → Polynomial S → Option S → Option S
leader_from g [] best = best
leader_from g (t ∷ p) best = leader_from g p (greatest_derivative g t.0 best)

-- the leader: the greatest derivative, where there is one
abbrev pub leader : {S : Type 0} → Symbols S → Polynomial S → Option S
leader g p = leader_from g p None

-- the initial by v: the coefficient of the highest power of v
abbrev pub initial : {S : Type 0} → (S → S → Ordering) → S → Polynomial S → Polynomial S
initial cmp v p = coefficient_of cmp v (degree cmp v p) p

-- the separant by v: the partial derivative by v
abbrev pub separant : {S : Type 0} → (S → S → Ordering) → S → Polynomial S → Polynomial S
separant cmp v p = polynomial_derivative cmp (rate_by cmp v) p
