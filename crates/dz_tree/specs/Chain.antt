-- Chains with evidence: autoreduced and coherent (Ritt, Rosenfeld; the conditions are this project's).
use Rattle.std.specs.Prelude.{ℕ, suc, ◌+◌, ◌==◌, nat_le, Bool, true, false, not, ◌&&◌, ◌||◌, List, [], ◌∷◌, length, Result, Ok, Option, Some, None, ⊤, is_ok}
use Rattle.std.specs.List.{list_all, list_any}
use Rattle.std.specs.declared.cmp.Ordering.{Ordering}
use Rattle.std.specs.declared.cmp.Ordering.TheVariants.{Less}
use Rattle.dz_algebra.specs.Polynomial.{Polynomial}
use Rattle.dz_algebra.specs.Parts.{degree, leader}
use Rattle.dz_algebra.specs.Size.{separant_answer}
use Rattle.dz_algebra.specs.Symbols.{Symbols}
use Rattle.dz_rank.specs.declared.symbols.Symbol.{Symbol}
use Rattle.dz_rank.specs.Symbols.{derivative_by}
use Rattle.dz_algebra.specs.Outcome.{◌>>=◌, needs, given, numbered, told_as}
use Rattle.dz_diff.specs.Tests.{Polynomials, is_zero, same_symbol}
use Rattle.dz_diff.specs.Operators.{is_proper, quotient}
use Rattle.dz_diff.specs.Operations.{Setting}
use Rattle.dz_diff.specs.State.{State, at_place}
use Rattle.dz_step.specs.declared.Which.TheVariants.{Initial, Separant}
use Rattle.dz_step.specs.declared.Role.TheVariants.{Free}
use Rattle.dz_step.specs.declared.Step.{Step}
use Rattle.dz_step.specs.Step.{multiplier_answer, permitted_if, step_degree}
use Rattle.dz_step.specs.Run.{run}
use Rattle.dz_step.specs.FullRun.{derivatives_of}
use Rattle.dz_pair.specs.Pair.{common, delta_answer, critical_pairs}
use Rattle.dz_move.specs.declared.Rule.{Rule}
use Rattle.dz_move.specs.declared.Rule.TheVariants as rules
use Rattle.dz_move.specs.Lines.{Evidence}
use Rattle.dz_move.specs.Fault.{rule_of, rule_of_refusal, run_fault}

-- there is something, and it passes a test
abbrev pub passes : {A : Type 0} → (A → Bool) → Option A → Bool
passes test None = false
passes test (Some x) = test x

-- ---- leaders
-- every equation has a leader, and no later one has the same
abbrev pub has_leaders : Symbols Symbol → Polynomials → Bool
has_leaders g [] = true
has_leaders g (p ∷ ps) = passes (λ l. not (list_any (λ q. passes (same_symbol g l) (leader g q)) ps)) (leader g p) && has_leaders g ps

-- ---- autoreduced
-- p has, in some derivative of the leader of q, at least the degree that this derivative of q has in it
abbrev pub is_reducible : Symbols Symbol → Polynomial Symbol → Polynomial Symbol → Bool
is_reducible g p q = passes (λ l. list_any (λ v. passes (λ t. nat_le (step_degree g t l q) (degree g.cmp v p)) (quotient v l)) (derivatives_of g p)) (leader g q)

-- the equation p of place i is reducible by one of another place, from place j on
abbrev pub reducible_by : Symbols Symbol → ℕ → ℕ → Polynomial Symbol → Polynomials → Bool
reducible_by g i j p [] = false
reducible_by g i j p (q ∷ qs) = not (i == j) && is_reducible g p q || reducible_by g i (suc j) p qs

-- no equation from place i on is reducible by one of all equations at another place
abbrev pub autoreduced_from : Symbols Symbol → Polynomials → ℕ → Polynomials → Bool
autoreduced_from g all i [] = true
autoreduced_from g all i (p ∷ ps) = not (reducible_by g i 1 p all) && autoreduced_from g all (suc i) ps

-- no equation is reducible by another
abbrev pub is_autoreduced : Symbols Symbol → Polynomials → Bool
is_autoreduced g es = autoreduced_from g es 1 es

-- ---- multipliers
-- the separant can be computed
abbrev pub separant_fits : Symbols Symbol → Polynomial Symbol → Bool
separant_fits g p = passes (λ l. is_ok (separant_answer g l p)) (leader g p)

-- the initial and the separant of an equation are permitted
abbrev pub has_permitted : Symbols Symbol → State → Polynomial Symbol → Bool
has_permitted g s p =
    passes (λ l. permitted_if g s.inequations (multiplier_answer g Initial l p) && permitted_if g s.inequations (multiplier_answer g Separant l p)) (leader g p)

-- ---- inequations
-- h has no proper derivative of the leader of p
abbrev pub is_free_of : Symbols Symbol → Polynomial Symbol → Polynomial Symbol → Bool
is_free_of g h p = passes (λ l. not (list_any (λ v. passes is_proper (quotient v l)) (derivatives_of g h))) (leader g p)

-- h is not zero, and has no proper derivative of the leader of an equation
abbrev pub is_reduced : Symbols Symbol → State → Polynomial Symbol → Bool
is_reduced g s h = not (is_zero h) && list_all (is_free_of g h) s.equations

-- ---- pairs
-- the evidence is for these pairs of places, in their order
abbrev pub same_pairs : List Evidence → List (ℕ × ℕ) → Bool
same_pairs [] [] = true
same_pairs [] (p ∷ ps) = false
same_pairs (e ∷ es) [] = false
same_pairs (e ∷ es) (p ∷ ps) = (e.first == p.0) && (e.second == p.1) && same_pairs es ps

-- the first condition on a chain that fails, but for the runs of its evidence
unfoldable pub chain_rule : Setting → State → List Evidence → Result ⊤ Rule
chain_rule g s evidence = do
  _ ← needs (has_leaders g.symbols s.equations) rules.Leader
  _ ← needs (is_autoreduced g.symbols s.equations) rules.Autoreduced
  _ ← needs (list_all (separant_fits g.symbols) s.equations) rules.Wide
  _ ← needs (list_all (has_permitted g.symbols s) s.equations) rules.Multiplier
  _ ← needs (list_all (is_reduced g.symbols s) s.inequations) rules.Inequation
  needs (same_pairs evidence (critical_pairs g.symbols s)) rules.Pairs

-- ---- runs of evidence
-- the first is less than the second
abbrev pub is_less : Ordering → Bool
is_less Less = true
is_less o = false

-- the leader of a step's divisor, derived by the step's operator, is below w
abbrev pub is_below : Symbols Symbol → State → Symbol → Step → Bool
is_below g s w st = passes (λ q. passes (λ l. is_less (g.cmp (derivative_by st.operator l) w)) (leader g q)) (at_place st.place s.equations)

-- the weight of a run of evidence: it goes from the Delta-polynomial to zero, with divisors below the common derivative
unfoldable pub evidence_weight : Setting → State → Evidence → Result ℕ Rule
evidence_weight g s e = do
  p ← given (at_place e.first s.equations) rules.Pairs
  q ← given (at_place e.second s.equations) rules.Pairs
  d ← told_as rule_of_refusal (delta_answer g p q)
  r ← told_as (λ e. rule_of (run_fault e).1) (run g s Free d e.steps)
  _ ← needs (is_zero r.end && passes (λ w. list_all (is_below g.symbols s w) e.steps) (common g.symbols p q)) rules.Coherence
  Ok (1 + length d + r.count)

-- the weight of all runs, after runs of weight n, where each sum so far is affordable; a fault is told with the number of its
-- line, the first run being at line k
abbrev pub evidence_from : Setting → State → (ℕ → Bool) → ℕ → ℕ → List Evidence → Result ℕ (ℕ × Rule)
evidence_from g s affordable k n [] = Ok n
evidence_from g s affordable k n (e ∷ es) = do
  w ← numbered k (evidence_weight g s e)
  _ ← needs (affordable (n + w)) (k, rules.Weight)
  evidence_from g s affordable (suc k) (n + w) es

-- the weight of a chain's evidence, or the first rule that fails, with the number of its line: 0 is that of the chain
abbrev pub chain_weight : Setting → State → (ℕ → Bool) → List Evidence → Result ℕ (ℕ × Rule)
chain_weight g s affordable evidence = numbered 0 (chain_rule g s evidence) >>= (λ _. evidence_from g s affordable 1 0 evidence)
