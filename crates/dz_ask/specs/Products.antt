-- Products of powers of derivatives of equations, and their order (this project).
use Rattle.std.specs.Prelude.{◌+◌, nat_lt, cond, [], ◌∷◌, Result, Ok, Err}
use Rattle.std.specs.declared.cmp.Ordering.{Ordering}
use Rattle.std.specs.Ordering.{match_ordering, nat_cmp, then_cmp, on}
use Rattle.std.specs.Cmp.Lexicographic.{slice_cmp}
use Rattle.dz_algebra.specs.Monomial.{Monomial, monomial_cmp}
use Rattle.dz_algebra.specs.Size.{Refusal, large}
use Rattle.dz_algebra.specs.declared.Limit.TheVariants.{Exponent}
use Rattle.dz_algebra.specs.Outcome.{◌>>=◌}
use Rattle.dz_step.specs.declared.Step.{Step}

-- a product of powers of derivatives: a step names the derivative that its operator makes of the equation at its place
abbrev pub Product : Type 0
Product = Monomial Step

-- steps are compared by place, and then by the exponents of the operator
abbrev pub step_cmp : Step → Step → Ordering
step_cmp = then_cmp (on (λ s. s.place) nat_cmp) (on (λ s. s.operator.counts) (slice_cmp nat_cmp))

-- products are compared as lists, a prefix first, powers by step and then by exponent
abbrev pub product_cmp : Product → Product → Ordering
product_cmp = monomial_cmp step_cmp

-- an order turned round
abbrev pub turned_round : {A : Type 0} → (A → A → Ordering) → A → A → Ordering
turned_round cmp a b = cmp b a

-- a product with one more of the derivative that a step names; an exponent above 65,535 is too large
abbrev pub raised_product : Step → Product → Result Product Refusal
raised_product s [] = Ok ((s, 1) ∷ [])
raised_product s (p ∷ m) =
    match_ordering (step_cmp s p.0)
    (Ok ((s, 1) ∷ p ∷ m))
    (cond (nat_lt p.1 65535) (Ok ((p.0, 1 + p.1) ∷ m)) (Err (large Exponent)))
    (raised_product s m >>= (λ n. Ok (p ∷ n)))
