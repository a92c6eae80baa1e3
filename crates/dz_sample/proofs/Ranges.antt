-- Each equation of a sample is one of its signature, and nothing in it is too great.
use Rattle.std.proofs.Common.{◌≤◌, ◌<◌, ◌+◌, ◌*◌, ℕ, ℤ, zero, suc, [], ◌∷◌, All, refl, rules, arith, unsigned_abs}
use Rattle.std.specs.Prelude.{◌*ℤ◌}
use Rattle.std.specs.Int.{int_pow}
use Rattle.std.proofs.lemmas.Int.{unsigned_abs-mul}
use Rattle.std.proofs.lemmas.List.Elements.{All-append}
use Rattle.std.proofs.lemmas.Nat.{mul-le}
use Rattle.dz_algebra.specs.Amount.{greatest}
use Rattle.dz_rank.specs.Symbols.{IsOperatorOf}
use Rattle.dz_sample.specs.Draws.{draw}
use Rattle.dz_sample.specs.Equations.{IsEquationOf}
use Rattle.dz_sample.specs.Sample.{derived_equation, first_equations, further_equation, further_equations, operator, rate, rates_of, sample, two_equations}
use Rattle.dz_sample.specs.Ranking.{sample_signature}
use Rattle.dz_sample.proofs.Powers.{power_bound}
use Rattle.dz_sample.proofs.Steps.{rate_small}

-- the operator of two derivations
operator_of : (p q : ℕ) → IsOperatorOf 2 (operator p q)
operator_of p q = record { size = refl; zeros = search rules }

one : (i p q : ℕ) (c : ℤ) → i < 8 → 0 < p + q → p + q ≤ 60 → unsigned_abs c ≤ greatest
    → IsEquationOf sample_signature (record { dependent = i; operator = operator p q; coefficient = c })
one i p q c below proper small bound =
    record { belongs = (below, operator_of p q); proper = omega (arith, proper); small = omega (arith, small); in_range = bound }

two_fit : (seed i : ℕ) → i < 8 → All (λ e. IsEquationOf sample_signature e) (two_equations i (rates_of seed i))
two_fit seed i below =
    let first = one i 1 0 (rate seed (2 * i + 1)) below (omega arith) (omega arith) (omega (arith, rate_small seed (2 * i + 1))) in
    let second = one i 0 1 (rate seed (2 * i + 2)) below (omega arith) (omega arith) (omega (arith, rate_small seed (2 * i + 2))) in
    search rules

product_small : (a b : ℤ) (p q : ℕ) → unsigned_abs a ≤ 9 → unsigned_abs b ≤ 9 → p ≤ 8 → q ≤ 8 → unsigned_abs (int_pow a p *ℤ int_pow b q) ≤ greatest
product_small a b p q small small' few few' =
    let most : unsigned_abs (int_pow a p) * unsigned_abs (int_pow b q) ≤ 43046721 * 43046721 = mul-le _ _ 43046721 43046721 (power_bound a p small few) (power_bound b q small' few') in
    rw (unsigned_abs-mul (int_pow a p) (int_pow b q)) (omega (arith, most))

further_fits : (seed j : ℕ) → IsEquationOf sample_signature (further_equation seed j)
further_fits seed j = go (draw seed (3 * j + 17) 8) (draw seed (3 * j + 18) 8) (draw seed (3 * j + 19) 9) (omega arith) (omega arith) (omega arith)
  where
    go : (i p q : ℕ) → i < 8 → p < 8 → q < 9 → IsEquationOf sample_signature (derived_equation i (rates_of seed i) (p + 1) q)
    go i p q below few few' = one i (p + 1) q _ below (omega arith) (omega arith)
        (product_small (rate seed (2 * i + 1)) (rate seed (2 * i + 2)) (p + 1) q (rate_small seed (2 * i + 1)) (rate_small seed (2 * i + 2)) (omega arith) (omega arith))

first_fit : (seed n : ℕ) → n ≤ 8 → All (λ e. IsEquationOf sample_signature e) (first_equations seed n)
unfolding first_equations
first_fit seed zero few = search rules
first_fit seed (suc n) few =
    All-append (λ e. IsEquationOf sample_signature e) (first_equations seed n) (two_equations n (rates_of seed n)) (first_fit seed n (omega arith)) (two_fit seed n (omega arith))

all_further_fit : (seed n : ℕ) → All (λ e. IsEquationOf sample_signature e) (further_equations seed n)
unfolding further_equations
all_further_fit seed zero = search rules
all_further_fit seed (suc n) =
    let next = further_fits seed n in
    All-append (λ e. IsEquationOf sample_signature e) (further_equations seed n) (further_equation seed n ∷ []) (all_further_fit seed n) (search rules)

pub sample_fits : (seed size : ℕ) → All (λ e. IsEquationOf sample_signature e) (sample seed size)
sample_fits seed size = All-append (λ e. IsEquationOf sample_signature e) (first_equations seed 8) (further_equations seed size) (first_fit seed 8 (omega arith)) (all_further_fit seed size)
