-- The steps that the canonical text of a polynomial is read as.
use Rattle.std.specs.Prelude.{ℕ, ◌==◌, cond, List, [], ◌∷◌, ◌++◌, pos, int_lt, unsigned_abs}
use Rattle.dz_algebra.specs.Monomial.{Monomial}
use Rattle.dz_algebra.specs.Polynomial.{Polynomial}
use Rattle.dz_rank.specs.declared.symbols.Symbol.{Symbol}
use Rattle.dz_syntax.specs.declared.expression.Op.{Op}
use Rattle.dz_syntax.specs.declared.expression.Op.TheVariants as ops

-- a symbol, and its exponent where that is not one
abbrev pub power_steps : Symbol → ℕ → List Op
power_steps s e = ops.Symbol s ∷ cond (e == 1) [] (ops.Power e ∷ [])

-- further powers, each a factor
abbrev pub factor_steps : Monomial Symbol → List Op
factor_steps [] = []
factor_steps (p ∷ m) = power_steps p.0 p.1 ++ (ops.Mul ∷ factor_steps m)

-- a positive coefficient and powers: the coefficient 1 is left out where a power follows
abbrev pub term_steps : Monomial Symbol → ℕ → List Op
term_steps [] n = ops.Number (pos n) ∷ []
term_steps (p ∷ m) n = cond (n == 1) (power_steps p.0 p.1 ++ factor_steps m) (ops.Number (pos n) ∷ factor_steps (p ∷ m))

-- later terms, each added or taken away
abbrev pub more_terms_steps : Polynomial Symbol → List Op
more_terms_steps [] = []
more_terms_steps (t ∷ p) = term_steps t.0 (unsigned_abs t.1) ++ (cond (int_lt t.1 (pos 0)) ops.Sub ops.Add ∷ more_terms_steps p)

-- all terms; the sign of the first is changed where its coefficient is negative
unfoldable pub polynomial_steps : Polynomial Symbol → List Op
polynomial_steps [] = ops.Number (pos 0) ∷ []
polynomial_steps (t ∷ p) = term_steps t.0 (unsigned_abs t.1) ++ (cond (int_lt t.1 (pos 0)) (ops.Negate ∷ []) [] ++ more_terms_steps p)
