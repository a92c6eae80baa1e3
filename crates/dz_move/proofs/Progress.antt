-- A move leads to one state, a fork to two, and each weighs something.
use Rattle.std.proofs.Common.{◌≡◌, ℕ, ◌+◌, ◌≤◌, nat_lt, not, ◌&&◌, cond, List, [], ◌∷◌, ◌++◌, length, refl, arith, subst, Ok}
use Rattle.dz_algebra.specs.Norm.{norm}
use Rattle.dz_algebra.specs.Parts.{is_ground, leader}
use Rattle.dz_algebra.specs.Polynomial.{symbol_polynomial}
use Rattle.dz_algebra.specs.Outcome.{numbered, told_as}
use Rattle.dz_diff.specs.Tests.{is_zero, is_member, same}
use Rattle.dz_diff.specs.Operations.{Setting}
use Rattle.dz_diff.specs.State.{State, at_place, put_equation, limit_passed, same_state}
use Rattle.dz_algebra.proofs.Outcomes.{bind_ok, then_ok, given_then, ok_same}
use Rattle.dz_step.specs.declared.Role.TheVariants.{Free, Equation, Inequation}
use Rattle.dz_step.specs.Step.{multiplier_answer}
use Rattle.dz_step.specs.Run.{run}
use Rattle.dz_step.specs.FullRun.{admits}
use Rattle.dz_pair.specs.Pair.{is_pair, delta_answer}
use Rattle.dz_move.specs.Fault.{refusal, run_fault}
use Rattle.dz_monomials.specs.PowerDivision.{is_divided, quotient_by}
use Rattle.dz_move.specs.Moves.{Action, reduce, weed, add, divide, split, factor, is_fork, Done, within, settled, moved, with_equations, forked, reduced, weeded, grown, divided_at, split_at, factored, perform}

-- so many states, and a weight
pub record Leads (n : ℕ) (d : Done) : Type 0 where
  pub states : length d.after ≡ n
  pub weight : 1 ≤ d.weight

settled_leads : (k : ℕ) (ss : List State) (w : ℕ) (d : Done) → 1 ≤ w → settled k ss w ≡ Ok d → Leads (length ss) d
settled_leads k ss w d h e =
    let a = bind_ok (numbered k (within (limit_passed ss))) _ d e in
    subst (Leads (length ss)) (ok_same (record { after = ss; weight = w }) d a.2) (record { states = refl; weight = h })

moved_leads : (g : Setting) (s : State) (k : ℕ) (t : State) (w : ℕ) (d : Done) → 1 ≤ w → moved g s k t w ≡ Ok d → Leads 1 d
moved_leads g s k t w d h e = settled_leads k (t ∷ []) w d h (then_ok (not (same_state g.symbols s t)) _ _ d e).1

one_leads : (k : ℕ) (t : State) (w : ℕ) (d : Done) → settled k (t ∷ []) (1 + w) ≡ Ok d → Leads 1 d
one_leads k t w d e = settled_leads k (t ∷ []) (1 + w) d (omega arith) e

two_lead : (k : ℕ) (t u : State) (w : ℕ) (d : Done) → settled k (t ∷ u ∷ []) (1 + w) ≡ Ok d → Leads 2 d
two_lead k t u w d e = settled_leads k (t ∷ u ∷ []) (1 + w) d (omega arith) e

-- what an action leads to
pub perform_leads : (g : Setting) (s : State) (action : Action) (d : Done) → perform g s action ≡ Ok d → Leads (cond (is_fork action) 2 1) d
unfolding reduced weeded grown divided_at split_at factored
perform_leads g s (reduce i steps) d e =
    let a = given_then (at_place i s.equations) _ _ d e in
    let b = bind_ok (told_as run_fault (run g s (Equation i) a.0 steps)) _ d a.2 in
    moved_leads g s (length steps) _ (1 + (b.0).count) d (omega arith) b.2
perform_leads g s (weed j steps) d e =
    let a = given_then (at_place j s.inequations) _ _ d e in
    let b = bind_ok (told_as run_fault (run g s (Inequation j) a.0 steps)) _ d a.2 in
    moved_leads g s (length steps) _ (1 + (b.0).count) d (omega arith) b.2
perform_leads g s (add i j steps) d e =
    let a0 = then_ok (nat_lt i j) _ _ d e in
    let a1 = given_then (at_place i s.equations) _ _ d a0.1 in
    let a2 = given_then (at_place j s.equations) _ _ d a1.2 in
    let a3 = then_ok (is_pair g.symbols a1.0 a2.0) _ _ d a2.2 in
    let a4 = bind_ok (numbered 0 (told_as refusal (delta_answer g a1.0 a2.0))) _ d a3.1 in
    let a5 = bind_ok (told_as run_fault (run g s Free a4.0 steps)) _ d a4.2 in
    let a6 = then_ok (not (is_zero (a5.0).end) && not (is_member g.symbols (a5.0).end s.equations) && not (admits g s Free (a5.0).end)) _ _ d a5.2 in
    settled_leads (length steps) (with_equations s (s.equations ++ (a5.0).end ∷ []) ∷ []) (1 + length a4.0 + (a5.0).count) d (omega arith) a6.1
perform_leads g s (divide i v) d e =
    let a1 = given_then (at_place i s.equations) _ _ d e in
    let a2 = then_ok (is_divided g.symbols.cmp v a1.0 && is_member g.symbols (symbol_polynomial v) s.inequations) _ _ d a1.2 in
    one_leads 0 (with_equations s (put_equation g.symbols i (quotient_by g.symbols.cmp v a1.0) s.equations)) (length (quotient_by g.symbols.cmp v a1.0)) d a2.1
perform_leads g s (split i which) d e =
    let a1 = given_then (at_place i s.equations) _ _ d e in
    let a2 = given_then (leader g.symbols a1.0) _ _ d a1.2 in
    let a3 = bind_ok (numbered 0 (told_as refusal (multiplier_answer g.symbols which a2.0 a1.0))) _ d a2.2 in
    let a4 = then_ok (not (is_ground g.symbols a3.0) && not (is_member g.symbols (norm a3.0) s.equations) && not (is_member g.symbols (norm a3.0) s.inequations)) _ _ d a3.2 in
    two_lead 0 (forked s s.equations (s.inequations ++ norm a3.0 ∷ [])) (forked s (s.equations ++ norm a3.0 ∷ []) s.inequations) (length (norm a3.0)) d a4.1
perform_leads g s (factor i v) d e =
    let a1 = given_then (at_place i s.equations) _ _ d e in
    let a2 = then_ok (g.symbols.is_derivative v && is_divided g.symbols.cmp v a1.0 && not (same g.symbols a1.0 (symbol_polynomial v)) && not (is_member g.symbols (symbol_polynomial v) s.inequations)) _ _ d a1.2 in
    two_lead 0 (forked s (put_equation g.symbols i (quotient_by g.symbols.cmp v a1.0) s.equations) (s.inequations ++ symbol_polynomial v ∷ [])) (forked s (put_equation g.symbols i (symbol_polynomial v) s.equations) s.inequations) (length (quotient_by g.symbols.cmp v a1.0)) d a2.1
