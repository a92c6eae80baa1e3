-- Polynomials (Kolchin): finite maps from monomials to nonzero whole numbers, as lists in which monomials fall.
use Rattle.std.specs.Prelude.{◌≢◌, ⊤, cond, List, [], ◌∷◌, ◌++◌, ℤ, pos, neg_ℤ, ◌+ℤ◌, ◌*ℤ◌}
use Rattle.std.specs.declared.cmp.Ordering.{Ordering}
use Rattle.std.specs.Ordering.{match_ordering}
use Rattle.dz_algebra.specs.Whole.{whole_is_zero}
use Rattle.dz_algebra.specs.Order.{IsAbove}
use Rattle.dz_algebra.specs.Monomial.{Monomial, IsMonomial, MonomialIn, monomial_cmp, monomial_product}

-- monomials with their coefficients, the greatest monomial first
abbrev pub Polynomial : Type 0 → Type 0
Polynomial S = List (Monomial S × ℤ)

-- what an operation adds up: whole numbers at monomials, in any order, also several at one monomial
abbrev pub Contributions : Type 0 → Type 0
Contributions S = List (Monomial S × ℤ)

-- the coefficients are not zero, and the monomials fall
abbrev pub IsPolynomial : {S : Type 0} → (S → S → Ordering) → Polynomial S → Type 0
IsPolynomial cmp [] = ⊤
IsPolynomial cmp (t ∷ p) = (t.1 ≢ pos 0) × IsMonomial cmp t.0 × IsAbove (monomial_cmp cmp) t.0 p × IsPolynomial cmp p

-- every contribution stands at a monomial
abbrev pub AreMonomials : {S : Type 0} → (S → S → Ordering) → Contributions S → Type 0
AreMonomials cmp [] = ⊤
AreMonomials cmp (t ∷ ts) = IsMonomial cmp t.0 × AreMonomials cmp ts

-- every symbol of a polynomial has a property
abbrev pub PolynomialIn : {S : Type 0} → (S → Type 0) → Contributions S → Type 0
PolynomialIn P [] = ⊤
PolynomialIn P (t ∷ p) = MonomialIn P t.0 × PolynomialIn P p

-- the sum of the contributions at a monomial; of a polynomial, its coefficient there
abbrev pub coefficient_at : {S : Type 0} → (Monomial S → Monomial S → Ordering) → Monomial S → Contributions S → ℤ
coefficient_at by n [] = pos 0
coefficient_at by n (t ∷ ts) = match_ordering (by n t.0) (pos 0) t.1 (pos 0) +ℤ coefficient_at by n ts

-- a term before the others, dropped where its coefficient is zero
abbrev pub keep : {S : Type 0} → Monomial S → ℤ → Polynomial S → Polynomial S
keep m c p = cond (whole_is_zero c) p ((m, c) ∷ p)

-- a polynomial and one more contribution, added at its monomial
abbrev pub add_term : {S : Type 0} → (Monomial S → Monomial S → Ordering) → Monomial S → ℤ → Polynomial S
    → Polynomial S
add_term by m c [] = keep m c []
add_term by m c (t ∷ p) = match_ordering (by m t.0) (t ∷ add_term by m c p) (keep m (c +ℤ t.1) p) (keep m c (t ∷ p))

-- the polynomial that contributions make
abbrev pub collect : {S : Type 0} → (Monomial S → Monomial S → Ordering) → Contributions S → Polynomial S
collect by [] = []
collect by (t ∷ ts) = add_term by t.0 t.1 (collect by ts)

-- the contributions with their signs changed
abbrev pub negated : {M : Type 0} → List (M × ℤ) → List (M × ℤ)
negated [] = []
negated (t ∷ ts) = (t.0, neg_ℤ t.1) ∷ negated ts

-- the contributions of c times a monomial times q, one for each term of q
abbrev pub term_times : {S : Type 0} → (S → S → Ordering) → Monomial S → ℤ → Polynomial S → Contributions S
term_times cmp m c [] = []
term_times cmp m c (t ∷ q) = (monomial_product cmp m t.0, c *ℤ t.1) ∷ term_times cmp m c q

-- the contributions of a product, one for each pair of terms
abbrev pub pairs : {S : Type 0} → (S → S → Ordering) → Polynomial S → Polynomial S → Contributions S
pairs cmp [] q = []
pairs cmp (t ∷ p) q = term_times cmp t.0 t.1 q ++ pairs cmp p q

-- the polynomial with every coefficient multiplied by k, where k is not zero
abbrev pub scaled : {M : Type 0} → ℤ → List (M × ℤ) → List (M × ℤ)
scaled k [] = []
scaled k (t ∷ p) = (t.0, k *ℤ t.1) ∷ scaled k p

-- the polynomial one
unfoldable pub polynomial_one : {S : Type 0} → Polynomial S
polynomial_one = ([], pos 1) ∷ []

-- the polynomial that is one symbol
abbrev pub symbol_polynomial : {S : Type 0} → S → Polynomial S
symbol_polynomial s = ((s, 1) ∷ [], pos 1) ∷ []

-- the sum adds per monomial
unfoldable pub polynomial_sum : {S : Type 0} → (S → S → Ordering) → Polynomial S → Polynomial S → Polynomial S
polynomial_sum cmp a b = collect (monomial_cmp cmp) (a ++ b)

-- the difference subtracts per monomial
unfoldable pub polynomial_difference : {S : Type 0} → (S → S → Ordering) → Polynomial S → Polynomial S → Polynomial S
polynomial_difference cmp a b = collect (monomial_cmp cmp) (a ++ negated b)

-- the negative changes every sign
abbrev pub polynomial_negative : {S : Type 0} → Polynomial S → Polynomial S
polynomial_negative p = negated p

-- the product adds over all pairs of terms
unfoldable pub polynomial_product : {S : Type 0} → (S → S → Ordering) → Polynomial S → Polynomial S → Polynomial S
polynomial_product cmp a b = collect (monomial_cmp cmp) (pairs cmp a b)
