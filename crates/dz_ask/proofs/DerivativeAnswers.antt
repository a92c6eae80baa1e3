-- The derivative that an operation answers is the derivative, and derivatives of polynomials in a ranking are such.
use Rattle.std.proofs.Common.{◌≡◌, ◌∙◌, ℕ, zero, suc, List, [], ◌∷◌, take, ap, Ok, Some, None}
use Rattle.dz_algebra.specs.Derivation.{polynomial_derivative}
use Rattle.dz_algebra.specs.Polynomial.{Polynomial}
use Rattle.dz_algebra.specs.Size.{derivation_answer}
use Rattle.dz_algebra.specs.Symbols.{Symbols}
use Rattle.dz_algebra.proofs.Operations.{operation_is}
use Rattle.dz_rank.specs.declared.symbols.Symbol.{Symbol}
use Rattle.dz_diff.specs.Operations.{Setting, iterated_answer, derivations_answer, operator_answer}
use Rattle.dz_diff.specs.State.{State, at_place}
use Rattle.dz_algebra.proofs.Outcomes.{bind_ok, ok_same}
use Rattle.dz_step.specs.declared.Step.{Step}
use Rattle.dz_ask.specs.Derivatives.{iterated_derivative, mixed_derivative, operator_derivative, derivative_at}

-- an answer of a derivation is the derivative
derivation_is : (g : Symbols Symbol) (i : ℕ) (a b : Polynomial Symbol) → derivation_answer g i a ≡ Ok b → polynomial_derivative g.cmp (g.rate i) a ≡ b
unfolding polynomial_derivative
derivation_is g i a b e = operation_is g _ b e

-- so is one of several
iterated_is : (g : Symbols Symbol) (i k : ℕ) (a b : Polynomial Symbol) → iterated_answer g i k a ≡ Ok b → iterated_derivative g i k a ≡ b
iterated_is g i zero a b e = ok_same a b e
iterated_is g i (suc k) a b e =
    let s = bind_ok (iterated_answer g i k a) (derivation_answer g i) b e in
    ap (polynomial_derivative g.cmp (g.rate i)) (iterated_is g i k a s.0 s.1) ∙ derivation_is g i s.0 b s.2

-- and one of several derivations
mixed_is : (g : Symbols Symbol) (i : ℕ) (ks : List ℕ) (a b : Polynomial Symbol) → derivations_answer g i ks a ≡ Ok b → mixed_derivative g i ks a ≡ b
mixed_is g i [] a b e = ok_same a b e
mixed_is g i (k ∷ ks) a b e =
    let s = bind_ok (iterated_answer g i k a) (derivations_answer g (suc i) ks) b e in
    ap (mixed_derivative g (suc i) ks) (iterated_is g i k a s.0 s.1) ∙ mixed_is g (suc i) ks s.0 b s.2

-- the derivative that a step names is what its operator's derivations answer
pub derivative_is : (g : Setting) (s : State) (st : Step) (q p : Polynomial Symbol) → at_place st.place s.equations ≡ Some q → operator_answer g st.operator q ≡ Ok p → derivative_at g s st ≡ p
derivative_is g s st q p e f =
    ap (λ o. elim o as (λ _. Polynomial Symbol) [ None ↦ [] | Some q ↦ operator_derivative g st.operator q ]) e
    ∙ mixed_is g.symbols 0 (take g.independents st.operator.counts) q p f
