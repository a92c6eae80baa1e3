-- Preparation by turns, each at the first coefficient that admits a step (this project).
use Rattle.std.specs.Prelude.{ℕ, zero, suc, ◌+◌, nat_lt, cond, length, List, [], ◌∷◌, ◌++◌, pos, Option, Some, None, Result, Ok, Err}
use Rattle.std.specs.Ordering.{match_ordering}
use Rattle.dz_algebra.specs.Polynomial.{Polynomial}
use Rattle.dz_algebra.specs.Size.{Refusal, product_answer, sum_answer}
use Rattle.dz_algebra.specs.Symbols.{Symbols}
use Rattle.dz_rank.specs.declared.symbols.Symbol.{Symbol}
use Rattle.dz_algebra.specs.Outcome.{◌>>=◌, told_as}
use Rattle.dz_diff.specs.Operations.{Setting}
use Rattle.dz_diff.specs.State.{State}
use Rattle.dz_diff.specs.Tests.{is_zero, same}
use Rattle.dz_step.specs.declared.Role.TheVariants.{Free}
use Rattle.dz_step.specs.declared.Step.{Step}
use Rattle.dz_step.specs.FullRun.{next_step}
use Rattle.dz_step.specs.Step.{Stop, refused, reduction_at}
use Rattle.dz_ask.specs.Preparation.{Prepared, Term}
use Rattle.dz_ask.specs.Products.{Product, product_cmp, raised_product}

-- ---- where a turn is
-- a term whose coefficient admits a step, the terms before and behind it, and the step
pub record Turn : Type 0 where
  pub before : List Term
  pub product : Product
  pub coefficient : Polynomial Symbol
  pub behind : List Term
  pub step : Step

-- the first term whose coefficient admits a step, after some that admit none
abbrev pub next_turn_after : Setting → State → List Term → List Term → Option Turn
next_turn_after g s before [] = None
next_turn_after g s before (t ∷ ts) =
    elim (next_step g s Free t.1) [
      | Some st ↦ Some (record { before = before; product = t.0; coefficient = t.1; behind = ts; step = st })
      | None ↦ next_turn_after g s (before ++ t ∷ []) ts
    ]

-- the first of all terms whose coefficient admits a step
abbrev pub next_turn : Setting → State → List Term → Option Turn
next_turn g s ts = next_turn_after g s [] ts

-- ---- what a turn does
-- the coefficients times a
abbrev pub multiplied : Symbols Symbol → Polynomial Symbol → List Term → Result (List Term) Refusal
multiplied g a [] = Ok []
multiplied g a (t ∷ ts) = do
  c ← product_answer g a t.1
  us ← multiplied g a ts
  Ok ((t.0, c) ∷ us)

-- the terms with c added at a product; where it is new, the sum is one with zero
abbrev pub added : Symbols Symbol → Product → Polynomial Symbol → List Term → Result (List Term) Refusal
added g m c [] = sum_answer g [] c >>= (λ x. Ok ((m, x) ∷ []))
added g m c (t ∷ ts) =
    match_ordering (product_cmp m t.0)
    (sum_answer g [] c >>= (λ x. Ok ((m, x) ∷ t ∷ ts)))
    (sum_answer g t.1 c >>= (λ x. Ok ((t.0, x) ∷ ts)))
    (added g m c ts >>= (λ us. Ok (t ∷ us)))

-- the terms whose coefficients are not zero
abbrev pub nonzero_terms : List Term → List Term
nonzero_terms [] = []
nonzero_terms (t ∷ ts) = cond (is_zero t.1) (nonzero_terms ts) (t ∷ nonzero_terms ts)

-- the factors with one more, unless that is one
abbrev pub with_factor : Symbols Symbol → Polynomial Symbol → List (Polynomial Symbol) → List (Polynomial Symbol)
with_factor g a factors = cond (same g a (([], pos 1) ∷ [])) factors (factors ++ a ∷ [])

-- A turn on terms, with the factor by which it multiplies: the coefficient is reduced by its step; every other is multiplied by
-- the factor of the reduction; and the shift is added at the product with one more of the step's derivative. The operations
-- come in this order.
abbrev pub turned_terms : Setting → State → Turn → Result (Polynomial Symbol × List Term) Stop
turned_terms g s t = do
  y ← reduction_at g s t.coefficient t.step
  before ← told_as refused (multiplied g.symbols y.factor t.before)
  behind ← told_as refused (multiplied g.symbols y.factor t.behind)
  product ← told_as refused (raised_product t.step t.product)
  terms ← told_as refused (added g.symbols product y.shift (before ++ (t.product, y.rest) ∷ behind))
  Ok (y.factor, nonzero_terms terms)

-- a turn: the factor is one more of m
abbrev pub turn_answer : Setting → State → Prepared → Turn → Result Prepared Stop
turn_answer g s x t = turned_terms g s t >>= (λ y. Ok (record { factors = with_factor g.symbols y.0 x.factors; terms = y.1 }))

-- ---- the turns
-- the terms of all coefficients
abbrev pub coefficient_terms : List Term → ℕ
coefficient_terms [] = 0
coefficient_terms (t ∷ ts) = length t.1 + coefficient_terms ts

-- how a preparation goes: until no coefficient admits a step, or up to a turn that is refused or passes the budget
pub data Course : Type 0 where
  finished : Prepared → Course
  stopped : Prepared → Stop → Course
  passed : Prepared → Course

-- The turns from some terms on. Each counts one and the terms of all coefficients after it, so the rounds need not be more
-- than the budget and one.
abbrev pub preparation_from : Setting → State → ℕ → ℕ → Prepared → ℕ → Course
preparation_from g s budget zero x count = passed x
preparation_from g s budget (suc rounds) x count =
    elim (next_turn g s x.terms) [
      | None ↦ finished x
      | Some t ↦ elim (turn_answer g s x t) [
        | Err stop ↦ stopped x stop
        | Ok y ↦ cond (nat_lt budget (count + 1 + coefficient_terms y.terms)) (passed x) (preparation_from g s budget rounds y (count + 1 + coefficient_terms y.terms))
      ]
    ]

-- the identity f = f, with the empty product; without a term where f is zero
abbrev pub unprepared : Polynomial Symbol → Prepared
unprepared f = record { factors = []; terms = nonzero_terms (([], f) ∷ []) }

-- the preparation of f within a budget
unfoldable pub preparation : Setting → State → ℕ → Polynomial Symbol → Course
preparation g s budget f = preparation_from g s budget (suc budget) (unprepared f) 0
