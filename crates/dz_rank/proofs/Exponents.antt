-- Exponents of products and of least common multiples of operators.
use Rattle.std.proofs.Common.{◌≡◌, ◌+◌, ℕ, zero, suc, List, [], ◌∷◌, sum, refl, ap₂, arith}
use Rattle.std.proofs.lemmas.List.Sums.{sum_by-cons}
use Rattle.dz_rank.specs.Symbols.{raised, exponent_sums}

pub sum_of_exponent_sums : (ss ts : List ℕ) → sum (exponent_sums ss ts) ≡ sum ss + sum ts
sum_of_exponent_sums [] ts = omega arith
sum_of_exponent_sums (s ∷ ss) [] = omega arith
sum_of_exponent_sums (s ∷ ss) (t ∷ ts) = omega (arith, sum_by-cons (λ x. x) s ss, sum_by-cons (λ x. x) t ts, sum_by-cons (λ x. x) (s + t) (exponent_sums ss ts), sum_of_exponent_sums ss ts)

-- one exponent more is the product with one derivation
pub exponent_sums_raised : (i : ℕ) (ks : List ℕ) → exponent_sums ks (raised i []) ≡ raised i ks
exponent_sums_raised zero [] = refl
exponent_sums_raised zero (k ∷ ks) = ap₂ (λ (x : ℕ) (xs : List ℕ). x ∷ xs) (plus_one k) (none ks)
  where
    plus_one : (k : ℕ) → k + 1 ≡ suc k
    plus_one k = omega arith

    none : (ks : List ℕ) → exponent_sums ks [] ≡ ks
    none [] = refl
    none (k ∷ ks) = refl
exponent_sums_raised (suc i) [] = refl
exponent_sums_raised (suc i) (k ∷ ks) = ap₂ (λ (x : ℕ) (xs : List ℕ). x ∷ xs) (plus_none k) (exponent_sums_raised i ks)
  where
    plus_none : (k : ℕ) → k + 0 ≡ k
    plus_none k = omega arith
