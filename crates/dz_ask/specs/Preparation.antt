-- Preparation of a polynomial by a state (after Kolchin; the form is this project's): an identity m*f = sum of c*P, where m is
-- a product of permitted multipliers and each P a product of powers of derivatives of equations.
use Rattle.std.specs.Prelude.{◌≡◌, ◌≢◌, ◌⊎◌, ℕ, true, false, List, [], ◌∷◌, ℤ, pos, Ok, Some}
use Rattle.std.specs.declared.cmp.Ordering.{Ordering}
use Rattle.dz_algebra.specs.Domain.{Arithmetic}
use Rattle.dz_algebra.specs.Monomial.{IsMonomial, MonomialIn}
use Rattle.dz_algebra.specs.Norm.{norm}
use Rattle.dz_algebra.specs.Order.{IsFalling}
use Rattle.dz_algebra.specs.Parts.{leader}
use Rattle.dz_algebra.specs.Polynomial.{Polynomial, polynomial_one, polynomial_sum, polynomial_negative, polynomial_product, scaled}
use Rattle.dz_algebra.specs.Value.{monomial_value}
use Rattle.dz_rank.specs.declared.symbols.Symbol.{Symbol}
use Rattle.dz_monomials.specs.Terms.{constant_polynomial}
use Rattle.dz_monomials.specs.Lists.{AllOf}
use Rattle.dz_diff.specs.Operations.{Setting}
use Rattle.dz_diff.specs.State.{State, at_place}
use Rattle.dz_step.specs.declared.Role.TheVariants.{Free}
use Rattle.dz_step.specs.declared.Step.{Step}
use Rattle.dz_step.specs.declared.Which.{Which}
use Rattle.dz_step.specs.FullRun.{admits}
use Rattle.dz_step.specs.Step.{is_allowed, multiplier_answer}
use Rattle.dz_ask.specs.Derivatives.{derivative_at}
use Rattle.dz_ask.specs.Products.{Product, product_cmp, step_cmp, turned_round}

-- a product with its coefficient
abbrev pub Term : Type 0
Term = Product × Polynomial Symbol

-- the factors of m, and the terms
pub record Prepared : Type 0 where
  pub factors : List (Polynomial Symbol)
  pub terms : List Term

-- ---- both sides of the identity
-- the operations on polynomials
abbrev pub polynomials_of : (Symbol → Symbol → Ordering) → Arithmetic (Polynomial Symbol)
polynomials_of cmp = record {
  zero = [];
  one = polynomial_one;
  sum = polynomial_sum cmp;
  negative = polynomial_negative;
  product = polynomial_product cmp;
}

-- the product of some elements
abbrev pub product_of : {R : Type 0} → Arithmetic R → List R → R
product_of r [] = r.one
product_of r (a ∷ others) = r.product a (product_of r others)

-- the sum of the terms, where coefficients and derivatives have values
abbrev pub sum_of : {R : Type 0} → Arithmetic R → (Polynomial Symbol → R) → (Step → R) → List Term → R
sum_of r value at [] = r.zero
sum_of r value at (t ∷ ts) = r.sum (r.product (value t.1) (monomial_value r at t.0)) (sum_of r value at ts)

-- m*f is the sum of the terms
abbrev pub HasIdentity : Setting → State → Polynomial Symbol → Prepared → Type 0
HasIdentity g s f x =
    polynomial_product g.symbols.cmp (product_of (polynomials_of g.symbols.cmp) x.factors) f
    ≡ sum_of (polynomials_of g.symbols.cmp) (λ c. c) (derivative_at g s) x.terms

-- ---- factors
-- the initial or the separant of an equation, which is permitted
pub record IsPermittedMultiplier (g : Setting) (s : State) (m : Polynomial Symbol) : Type 0 where
  pub place : ℕ
  pub which : Which
  pub equation : Polynomial Symbol
  pub top : Symbol
  pub stands : at_place place s.equations ≡ Some equation
  pub leads : leader g.symbols equation ≡ Some top
  pub is_one : multiplier_answer g.symbols which top equation ≡ Ok m
  pub allowed : is_allowed g.symbols s.inequations m ≡ true

-- a whole multiple of the norm of a permitted multiplier, and not by zero
pub record IsMultiplierMultiple (g : Setting) (s : State) (a : Polynomial Symbol) : Type 0 where
  pub multiplier : Polynomial Symbol
  pub times : ℤ
  pub permitted : IsPermittedMultiplier g s multiplier
  pub not_zero : times ≢ pos 0
  pub multiple : a ≡ scaled times (norm multiplier)

-- a whole number that is not zero
abbrev pub IsWholeNumber : Polynomial Symbol → Type 0
IsWholeNumber a = (k : ℤ) × (k ≢ pos 0) × (a ≡ constant_polynomial k)

-- a factor of m
abbrev pub IsFactor : Setting → State → Polynomial Symbol → Type 0
IsFactor g s a = IsWholeNumber a ⊎ IsMultiplierMultiple g s a

-- ---- preparations
-- an equation stands at the place of a step
abbrev pub HasEquation : State → Step → Type 0
HasEquation s st = (q : Polynomial Symbol) × (at_place st.place s.equations ≡ Some q)

-- a preparation of f by a state, except that a coefficient may admit a step
pub record IsPartialPreparation (g : Setting) (s : State) (f : Polynomial Symbol) (x : Prepared) : Type 0 where
  pub identity : HasIdentity g s f x
  pub factors : AllOf (IsFactor g s) x.factors
  -- each product has powers of derivatives of equations, with positive exponents, in the order of their steps
  pub products : AllOf (λ t. IsMonomial (turned_round step_cmp) t.0 × MonomialIn (HasEquation s) t.0) x.terms
  -- the products rise, so they are distinct
  pub rising : IsFalling (turned_round product_cmp) x.terms
  pub not_zero : AllOf (λ t. t.1 ≢ []) x.terms

-- no coefficient admits a step
abbrev pub IsReduced : Setting → State → Prepared → Type 0
IsReduced g s x = AllOf (λ t. admits g s Free t.1 ≡ false) x.terms

-- a preparation of f by a state
pub record IsPreparation (g : Setting) (s : State) (f : Polynomial Symbol) (x : Prepared) : Type 0 where
  pub partial : IsPartialPreparation g s f x
  pub reduced : IsReduced g s x
