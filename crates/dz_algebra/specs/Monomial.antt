-- Monomials (Kolchin): finite maps from symbols to positive exponents, as lists in which symbols fall.
use Rattle.std.specs.Prelude.{◌≡◌, ⊤, ◌<◌, ℕ, ◌+◌, List, [], ◌∷◌}
use Rattle.std.specs.declared.cmp.Ordering.{Ordering}
use Rattle.std.specs.declared.cmp.Ordering.TheVariants.{Greater}
use Rattle.std.specs.Ordering.{nat_cmp, match_ordering, then_cmp, on}
use Rattle.std.specs.Cmp.Lexicographic.{slice_cmp}
use Rattle.dz_algebra.specs.Order.{IsAbove}

-- symbols with their exponents, the greatest symbol first
abbrev pub Monomial : Type 0 → Type 0
Monomial S = List (S × ℕ)

-- the exponents are positive, and the symbols fall
abbrev pub IsMonomial : {S : Type 0} → (S → S → Ordering) → Monomial S → Type 0
IsMonomial cmp [] = ⊤
IsMonomial cmp (p ∷ m) = (0 < p.1) × IsAbove cmp p.0 m × IsMonomial cmp m

-- every symbol of a monomial has a property
abbrev pub MonomialIn : {S : Type 0} → (S → Type 0) → Monomial S → Type 0
MonomialIn P [] = ⊤
MonomialIn P (p ∷ m) = P p.0 × MonomialIn P m

-- monomials are compared by the exponent of the greatest symbol at which they differ; the larger exponent is greater
abbrev pub monomial_cmp : {S : Type 0} → (S → S → Ordering) → Monomial S → Monomial S → Ordering
monomial_cmp cmp = slice_cmp (then_cmp (on (λ p. p.0) cmp) (on (λ p. p.1) nat_cmp))

-- the exponent of s, zero where s does not occur
abbrev pub exponent : {S : Type 0} → (S → S → Ordering) → S → Monomial S → ℕ
exponent cmp s [] = 0
exponent cmp s (p ∷ m) = match_ordering (cmp s p.0) (exponent cmp s m) (p.1 + exponent cmp s m) (exponent cmp s m)

-- s is the greatest symbol at which the exponents of m and n differ, and m has the larger one
abbrev pub IsLarger : {S : Type 0} → (S → S → Ordering) → Monomial S → Monomial S → S → Type 0
IsLarger {S} cmp m n s =
    (exponent cmp s n < exponent cmp s m) × ((t : S) → cmp t s ≡ Greater → exponent cmp t m ≡ exponent cmp t n)

-- a monomial times s^e
abbrev pub with_power : {S : Type 0} → (S → S → Ordering) → S → ℕ → Monomial S → Monomial S
with_power cmp s e [] = (s, e) ∷ []
with_power cmp s e (p ∷ m) = match_ordering (cmp s p.0) (p ∷ with_power cmp s e m) ((p.0, e + p.1) ∷ m) ((s, e) ∷ p ∷ m)

-- a monomial without the symbol s
abbrev pub without : {S : Type 0} → (S → S → Ordering) → S → Monomial S → Monomial S
without cmp s [] = []
without cmp s (p ∷ m) = match_ordering (cmp s p.0) (p ∷ without cmp s m) (without cmp s m) (p ∷ without cmp s m)

-- the product of two monomials: exponents add
abbrev pub monomial_product : {S : Type 0} → (S → S → Ordering) → Monomial S → Monomial S → Monomial S
monomial_product cmp [] n = n
monomial_product cmp (p ∷ m) n = with_power cmp p.0 p.1 (monomial_product cmp m n)
