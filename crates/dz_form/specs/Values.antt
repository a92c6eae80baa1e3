-- The value of an item (this project): its steps are folded from left to right, and each is an operation on polynomials.
use Rattle.std.specs.Prelude.{◌≤◌, ⊤, ℕ, zero, suc, All, List, [], ◌∷◌, map, reverse, pos, Result, Ok, Err}
use Rattle.dz_algebra.specs.Outcome.{◌>>=◌}
use Rattle.dz_algebra.specs.Polynomial.{Polynomial, polynomial_negative, symbol_polynomial}
use Rattle.dz_algebra.specs.Size.{Refusal, difference_answer, product_answer, sum_answer}
use Rattle.dz_algebra.specs.Symbols.{Symbols}
use Rattle.dz_rank.specs.Rankings.{RankingValue}
use Rattle.dz_rank.specs.declared.symbols.Symbol as rank
use Rattle.dz_terms.specs.Entries.{IsEntry}
use Rattle.dz_monomials.specs.Terms.{constant_polynomial}
use Rattle.dz_terms.specs.Entries.{EntryValue}
use Rattle.dz_syntax.specs.declared.expression.Op.{Op}
use Rattle.dz_syntax.specs.declared.expression.Op.TheVariants.{Number, Symbol, Negate, Add, Sub, Mul, Power}

abbrev pub Polynomials : Type 0
Polynomials = List (Polynomial rank.Symbol)

-- p times a, so often, from left to right
abbrev pub times : Symbols rank.Symbol → Polynomial rank.Symbol → ℕ → Polynomial rank.Symbol → Result (Polynomial rank.Symbol) Refusal
times g a zero p = Ok p
times g a (suc n) p = product_answer g p a >>= times g a n

-- the power with exponent 0 is one; else it has one product less than its exponent says
unfoldable pub power_answer : Symbols rank.Symbol → Polynomial rank.Symbol → ℕ → Result (Polynomial rank.Symbol) Refusal
power_answer g a zero = Ok (constant_polynomial (pos 1))
power_answer g a (suc n) = times g a n a

-- an answer comes on top of values
abbrev pub onto : Polynomials → Result (Polynomial rank.Symbol) Refusal → Result Polynomials Refusal
onto values (Ok p) = Ok (p ∷ values)
onto values (Err e) = Err e

-- What a step makes of the values that were made before it and not used yet, the latest first. An expression has no step
-- with too few values before it.
abbrev pub step_answer : Symbols rank.Symbol → Op → Polynomials → Result Polynomials Refusal
step_answer g (Number z) values = Ok (constant_polynomial z ∷ values)
step_answer g (Symbol v) values = Ok (symbol_polynomial v ∷ values)
step_answer g Negate (a ∷ values) = Ok (polynomial_negative a ∷ values)
step_answer g (Power k) (a ∷ values) = onto values (power_answer g a k)
step_answer g Add (b ∷ a ∷ values) = onto values (sum_answer g a b)
step_answer g Sub (b ∷ a ∷ values) = onto values (difference_answer g a b)
step_answer g Mul (b ∷ a ∷ values) = onto values (product_answer g a b)
step_answer g op values = Ok values

-- the values after steps, or the refusal of the first operation that is refused
abbrev pub steps_answer : Symbols rank.Symbol → List Op → Polynomials → Result Polynomials Refusal
steps_answer g [] values = Ok values
steps_answer g (op ∷ steps) values = step_answer g op values >>= steps_answer g steps

-- the latest value
abbrev pub latest : Polynomials → Polynomial rank.Symbol
latest [] = []
latest (p ∷ values) = p

-- the value of an item, or its refusal
unfoldable pub item_answer : Symbols rank.Symbol → List Op → Result (Polynomial rank.Symbol) Refusal
item_answer g steps = steps_answer g steps [] >>= λ values. Ok (latest values)

-- the values on a stack, the latest first
abbrev pub values_of : List EntryValue → Polynomials
values_of stack = reverse (map (λ e. e.terms) stack)

-- each value on a stack may stand in a book
abbrev pub AreEntries : RankingValue → List EntryValue → Type 0
AreEntries r stack = All (λ e. IsEntry r e) stack

-- a step finds the values that it uses among so many
abbrev pub HasValues : Op → ℕ → Type 0
HasValues (Number z) n = ⊤
HasValues (Symbol v) n = ⊤
HasValues Negate n = 1 ≤ n
HasValues (Power k) n = 1 ≤ n
HasValues op n = 2 ≤ n
