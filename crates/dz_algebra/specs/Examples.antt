-- Worked examples, computed by hand: independents x and y, and one dependent u.
use Rattle.std.specs.Prelude.{◌≡◌, ℕ, zero, suc, ◌+◌, ◌-◌, ◌^◌, ◌==◌, Bool, true, false, cond, [], ◌∷◌, ℤ, pos, neg_ℤ, Some, Ok, Err}
use Rattle.std.specs.declared.cmp.Ordering.{Ordering}
use Rattle.std.specs.declared.cmp.Ordering.TheVariants.{Less, Greater}
use Rattle.std.specs.Ordering.{nat_cmp, ordering_then}
use Rattle.dz_algebra.specs.declared.Limit.TheVariants as limits
use Rattle.dz_algebra.specs.Polynomial.{Polynomial, pairs, polynomial_sum, polynomial_difference, polynomial_product}
use Rattle.dz_algebra.specs.Derivation.{Rate, constant, unit, symbol, polynomial_derivative}
use Rattle.dz_algebra.specs.Symbols.{Symbols}
use Rattle.dz_algebra.specs.Parts.{leader, initial, separant}
use Rattle.dz_algebra.specs.Norm.{norm}
use Rattle.dz_algebra.specs.Size.{support, wide, large, sum_answer, difference_answer}

-- the j-th independent, and u derived i times by x and j times by y
pub data Letter : Type 0 where
  independent : ℕ → Letter
  derivative : ℕ → ℕ → Letter

-- derivatives by their total order, then by how often x is taken; below them the independents, the earlier the greater
abbrev pub letter_cmp : Letter → Letter → Ordering
letter_cmp (independent i) (independent j) = nat_cmp j i
letter_cmp (independent i) (derivative k l) = Less
letter_cmp (derivative i j) (independent k) = Greater
letter_cmp (derivative i j) (derivative k l) = ordering_then (nat_cmp (i + j) (k + l)) (nat_cmp i k)

-- u and its derivatives
abbrev pub letter_is_derivative : Letter → Bool
letter_is_derivative (independent j) = false
letter_is_derivative (derivative i j) = true

-- how often u is derived
abbrev pub letter_order : Letter → ℕ
letter_order (independent j) = 0
letter_order (derivative i j) = i + j

-- the derivation by x has number 0, that by y number 1
abbrev pub letter_rate : ℕ → Letter → Rate Letter
letter_rate i (independent j) = cond (i == j) unit constant
letter_rate zero (derivative i j) = symbol (derivative (suc i) j)
letter_rate (suc n) (derivative i j) = symbol (derivative i (suc j))

-- these symbols
abbrev pub letters : Symbols Letter
letters = record { cmp = letter_cmp; is_derivative = letter_is_derivative; total_order = letter_order; rate = letter_rate }

-- the first independent
abbrev pub x : Letter
x = independent 0

-- the dependent
abbrev pub u : Letter
u = derivative 0 0

-- u derived by x
abbrev pub u_x : Letter
u_x = derivative 1 0

-- u derived by y
abbrev pub u_y : Letter
u_y = derivative 0 1

-- u derived twice by x
abbrev pub u_xx : Letter
u_xx = derivative 2 0

-- a negative coefficient
abbrev pub minus : ℕ → ℤ
minus n = neg_ℤ (pos n)

-- u[x]^2 - 4*u
abbrev pub conic : Polynomial Letter
conic = ((u_x, 2) ∷ [], pos 1) ∷ ((u, 1) ∷ [], minus 4) ∷ []

-- x*u
abbrev pub mixed : Polynomial Letter
mixed = ((u, 1) ∷ (x, 1) ∷ [], pos 1) ∷ []

-- u + x
abbrev pub plus_x : Polynomial Letter
plus_x = ((u, 1) ∷ [], pos 1) ∷ ((x, 1) ∷ [], pos 1) ∷ []

-- u - x
abbrev pub minus_x : Polynomial Letter
minus_x = ((u, 1) ∷ [], pos 1) ∷ ((x, 1) ∷ [], minus 1) ∷ []

-- -6*u + 4
abbrev pub line : Polynomial Letter
line = ((u, 1) ∷ [], minus 6) ∷ ([], pos 4) ∷ []

-- c*u
abbrev pub times_u : ℤ → Polynomial Letter
times_u c = ((u, 1) ∷ [], c) ∷ []

-- a power of one symbol
abbrev pub one_power : Letter → ℕ → Polynomial Letter
one_power s e = ((s, e) ∷ [], pos 1) ∷ []

-- the greatest coefficient, 2^127 - 1
abbrev pub most : ℕ
most = 2 ^ 127 - 1

-- u + x^65536
abbrev pub steep : Polynomial Letter
steep = ((u, 1) ∷ [], pos 1) ∷ ((x, 65536) ∷ [], pos 1) ∷ []

-- derivation, leader, initial, separant and norm
pub record DerivationExamples : Type 0 where
  -- the derivative of u[x]^2 - 4*u by x is 2*u[x]*u[x,x] - 4*u[x]
  pub conic_by_x : polynomial_derivative letter_cmp (letter_rate 0) conic
      ≡ ((u_xx, 1) ∷ (u_x, 1) ∷ [], pos 2) ∷ ((u_x, 1) ∷ [], minus 4) ∷ []
  -- that of x*u by x is x*u[x] + u, and that by y is x*u[y]
  pub mixed_by_x : polynomial_derivative letter_cmp (letter_rate 0) mixed
      ≡ ((u_x, 1) ∷ (x, 1) ∷ [], pos 1) ∷ ((u, 1) ∷ [], pos 1) ∷ []
  pub mixed_by_y : polynomial_derivative letter_cmp (letter_rate 1) mixed ≡ ((u_y, 1) ∷ (x, 1) ∷ [], pos 1) ∷ []
  -- u[x]^2 - 4*u has the leader u[x], the initial 1 and the separant 2*u[x]
  pub parts_of_conic : (leader letters conic ≡ Some u_x)
      × (initial letter_cmp u_x conic ≡ ([], pos 1) ∷ [])
      × (separant letter_cmp u_x conic ≡ ((u_x, 1) ∷ [], pos 2) ∷ [])
  -- the norm of -6*u + 4 is 3*u - 2
  pub norm_of_line : norm line ≡ ((u, 1) ∷ [], pos 3) ∷ ([], minus 2) ∷ []

-- contributions, size and fitting
pub record OperationExamples : Type 0 where
  -- the product of u + x and u - x has four contributions, and is u^2 - x^2
  pub cancelling : (pairs letter_cmp plus_x minus_x ≡
      ((u, 2) ∷ [], pos 1) ∷ ((u, 1) ∷ (x, 1) ∷ [], minus 1) ∷ ((u, 1) ∷ (x, 1) ∷ [], pos 1) ∷ ((x, 2) ∷ [], minus 1) ∷ [])
      × (polynomial_product letter_cmp plus_x minus_x ≡ ((u, 2) ∷ [], pos 1) ∷ ((x, 2) ∷ [], minus 1) ∷ [])
  -- its support has three monomials, with that at which the contributions cancel
  pub kept : support letter_cmp (pairs letter_cmp plus_x minus_x)
      ≡ ((u, 2) ∷ []) ∷ ((u, 1) ∷ (x, 1) ∷ []) ∷ ((x, 2) ∷ []) ∷ []
  -- the difference of u + x^65536 and x^65536 is u, and is large by the exponent
  pub steep_is_large : (polynomial_difference letter_cmp steep (((x, 65536) ∷ [], pos 1) ∷ []) ≡ times_u (pos 1))
      × (difference_answer letters steep (((x, 65536) ∷ [], pos 1) ∷ []) ≡ Err (large limits.Exponent))
  -- the sum of (2^127 - 1)*u and -u has a coefficient that fits, and is wide
  pub sum_is_wide : (polynomial_sum letter_cmp (times_u (pos most)) (times_u (minus 1)) ≡ times_u (pos (2 ^ 127 - 2)))
      × (sum_answer letters (times_u (pos most)) (times_u (minus 1)) ≡ Err wide)
  -- what is both large and wide is told as large
  pub large_first : sum_answer letters steep (times_u (pos most)) ≡ Err (large limits.Exponent)
  -- 60 is the greatest total order, and 65,535 the greatest exponent; of two limits the first is told
  pub order_limit : (sum_answer letters (one_power (derivative 60 0) 65535) [] ≡ Ok (one_power (derivative 60 0) 65535))
      × (sum_answer letters (one_power (derivative 60 1) 65536) [] ≡ Err (large limits.Order))
  pub exponent_limit : sum_answer letters (one_power u 65536) [] ≡ Err (large limits.Exponent)
