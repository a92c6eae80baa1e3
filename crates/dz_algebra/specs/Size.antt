-- When an operation on polynomials is refused (this project): its size first, then its coefficients.
use Rattle.std.specs.Prelude.{◌≡◌, ℕ, nat_lt, Bool, true, false, cond, List, [], ◌∷◌, ◌++◌, map, length, Option, Some, None, Result, Ok, Err}
use Rattle.std.specs.declared.cmp.Ordering.{Ordering}
use Rattle.std.specs.List.{list_any}
use Rattle.std.specs.Ordering.{match_ordering}
use Rattle.dz_algebra.specs.declared.Limit.{Limit}
use Rattle.dz_algebra.specs.declared.Limit.TheVariants as limits
use Rattle.dz_algebra.specs.Monomial.{Monomial, monomial_cmp}
use Rattle.dz_algebra.specs.Polynomial.{Polynomial, Contributions, collect, negated, pairs}
use Rattle.dz_algebra.specs.Derivation.{derivative_contributions, rate_by}
use Rattle.dz_algebra.specs.Symbols.{Symbols}
use Rattle.dz_algebra.specs.Amount.{gathered, amounts_fit}

-- the support: the monomials at which a contribution lands, before anything cancels
unfoldable pub support : {S : Type 0} → (S → S → Ordering) → Contributions S → List (Monomial S)
support cmp ts = map (λ t. t.0) (gathered cmp ts)

-- a falling list with one more symbol, once
abbrev pub with_symbol : {S : Type 0} → (S → S → Ordering) → S → List S → List S
with_symbol cmp s [] = s ∷ []
with_symbol cmp s (t ∷ ts) = match_ordering (cmp s t) (t ∷ with_symbol cmp s ts) (t ∷ ts) (s ∷ t ∷ ts)

-- a falling list with the symbols of a monomial
abbrev pub with_symbols : {S : Type 0} → (S → S → Ordering) → Monomial S → List S → List S
with_symbols cmp [] ts = ts
with_symbols cmp (p ∷ m) ts = with_symbol cmp p.0 (with_symbols cmp m ts)

-- the symbols that occur in monomials, each once
abbrev pub symbols : {S : Type 0} → (S → S → Ordering) → List (Monomial S) → List S
symbols cmp [] = []
symbols cmp (m ∷ ms) = with_symbols cmp m (symbols cmp ms)

-- some derivative has a total order above 60
abbrev pub has_high_order : {S : Type 0} → Symbols S → List (Monomial S) → Bool
has_high_order g ms = list_any (λ m. list_any (λ p. nat_lt 60 (g.total_order p.0)) m) ms

-- some exponent is above 65,535
abbrev pub has_high_exponent : {S : Type 0} → List (Monomial S) → Bool
has_high_exponent ms = list_any (λ m. list_any (λ p. nat_lt 65535 p.1) m) ms

-- the first limit that a support passes: orders, exponents, at most 64 symbols, at most 4,096 monomials
abbrev pub limit_of : {S : Type 0} → Symbols S → List (Monomial S) → Option Limit
limit_of g ms =
    cond (has_high_order g ms) (Some limits.Order)
    (cond (has_high_exponent ms) (Some limits.Exponent)
    (cond (nat_lt 64 (length (symbols g.cmp ms))) (Some limits.Symbols)
    (cond (nat_lt 4096 (length ms)) (Some limits.Terms) None)))

-- the operation with these contributions is small: its support passes no limit
abbrev pub IsSmall : {S : Type 0} → Symbols S → Contributions S → Type 0
IsSmall g ts = limit_of g (support g.cmp ts) ≡ None

-- at each monomial of the support the absolute values of the contributions add up to at most 2^127 - 1
unfoldable pub fits : {S : Type 0} → (S → S → Ordering) → Contributions S → Bool
fits cmp ts = amounts_fit (gathered cmp ts)

-- why an operation is refused: a limit of its support is passed, or a sum of absolute values is too great
pub data Refusal : Type 0 where
  wide : Refusal
  large : Limit → Refusal

-- large comes before wide
abbrev pub refused : Option Limit → Bool → Option Refusal
refused (Some l) b = Some (large l)
refused None true = None
refused None false = Some wide

-- why the operation with these contributions is refused, if it is
unfoldable pub refusal : {S : Type 0} → Symbols S → Contributions S → Option Refusal
refusal g ts = refused (limit_of g (support g.cmp ts)) (fits g.cmp ts)

-- a value, unless it is refused
abbrev pub unless : {A E : Type 0} → Option E → A → Result A E
unless None a = Ok a
unless (Some e) a = Err e

-- what the operation with these contributions answers
unfoldable pub operation : {S : Type 0} → Symbols S → Contributions S → Result (Polynomial S) Refusal
operation g ts = unless (refusal g ts) (collect (monomial_cmp g.cmp) ts)

-- the five operations: a sum contributes the coefficients of both sides
abbrev pub sum_answer : {S : Type 0} → Symbols S → Polynomial S → Polynomial S → Result (Polynomial S) Refusal
sum_answer g a b = operation g (a ++ b)

-- a difference those of the first and the negatives of the second
abbrev pub difference_answer : {S : Type 0} → Symbols S → Polynomial S → Polynomial S → Result (Polynomial S) Refusal
difference_answer g a b = operation g (a ++ negated b)

-- a product one product of coefficients for each pair of terms
abbrev pub product_answer : {S : Type 0} → Symbols S → Polynomial S → Polynomial S → Result (Polynomial S) Refusal
product_answer g a b = operation g (pairs g.cmp a b)

-- a derivation, for each term and each symbol of it whose derivative is not zero, the coefficient times the exponent
abbrev pub derivation_answer : {S : Type 0} → Symbols S → ℕ → Polynomial S → Result (Polynomial S) Refusal
derivation_answer g i a = operation g (derivative_contributions g.cmp (g.rate i) a)

-- a separant by v, for each term in which v occurs, the coefficient times the exponent
abbrev pub separant_answer : {S : Type 0} → Symbols S → S → Polynomial S → Result (Polynomial S) Refusal
separant_answer g v a = operation g (derivative_contributions g.cmp (rate_by g.cmp v) a)
