-- The operations by which a substitution is made, one after the other, each with its refusal (this project).
use Rattle.std.specs.Prelude.{ℕ, zero, suc, get_or, [], ◌∷◌, ℤ, Result, Ok}
use Rattle.dz_algebra.specs.Monomial.{Monomial}
use Rattle.dz_algebra.specs.Polynomial.{Polynomial, symbol_polynomial}
use Rattle.dz_algebra.specs.Size.{Refusal, product_answer, sum_answer}
use Rattle.dz_algebra.specs.Symbols.{Symbols}
use Rattle.dz_rank.specs.declared.symbols.Symbol.{Symbol}
use Rattle.dz_rank.specs.declared.symbols.Symbol.TheVariants.{Independent, Derivative}
use Rattle.dz_monomials.specs.Terms.{constant_polynomial}
use Rattle.dz_diff.specs.Operations.{Setting, operator_answer}
use Rattle.dz_algebra.specs.Outcome.{◌>>=◌}
use Rattle.dz_diff.specs.Tests.{Polynomials}

-- what is put for a symbol: an independent stands for itself, and a derivative for what its operator answers on
-- the function of its dependent
abbrev pub symbol_answer : Setting → Polynomials → Symbol → Result (Polynomial Symbol) Refusal
symbol_answer g functions (Independent j) = Ok (symbol_polynomial (Independent j))
symbol_answer g functions (Derivative u t) = operator_answer g t (get_or functions u [])

-- a polynomial multiplied by v so many times
abbrev pub multiplied : Symbols Symbol → Polynomial Symbol → ℕ → Polynomial Symbol → Result (Polynomial Symbol) Refusal
multiplied g v zero a = Ok a
multiplied g v (suc e) a = product_answer g a v >>= multiplied g v e

-- a polynomial multiplied by what is put for a symbol, as often as its exponent says
abbrev pub power_answer : Setting → Polynomials → Symbol × ℕ → Polynomial Symbol → Result (Polynomial Symbol) Refusal
power_answer g functions s a = symbol_answer g functions s.0 >>= (λ v. multiplied g.symbols v s.1 a)

-- a polynomial multiplied so for each symbol of a monomial, the greatest first
abbrev pub powers_answer : Setting → Polynomials → Monomial Symbol → Polynomial Symbol → Result (Polynomial Symbol) Refusal
powers_answer g functions [] a = Ok a
powers_answer g functions (s ∷ m) a = power_answer g functions s a >>= powers_answer g functions m

-- a sum and the substitution of a term, which begins with the term's coefficient
abbrev pub with_term : Setting → Polynomials → Monomial Symbol × ℤ → Polynomial Symbol → Result (Polynomial Symbol) Refusal
with_term g functions t a =
    powers_answer g functions t.0 (constant_polynomial t.1) >>= (λ v. sum_answer g.symbols a v)

-- a sum and the substitutions of terms, the greatest first
abbrev pub terms_answer : Setting → Polynomials → Polynomial Symbol → Polynomial Symbol → Result (Polynomial Symbol) Refusal
terms_answer g functions [] a = Ok a
terms_answer g functions (t ∷ p) a = with_term g functions t a >>= terms_answer g functions p

-- what the substitution of a polynomial answers
unfoldable pub substitution_answer : Setting → Polynomials → Polynomial Symbol → Result (Polynomial Symbol) Refusal
substitution_answer g functions p = terms_answer g functions p []
