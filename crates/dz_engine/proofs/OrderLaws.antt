-- The order of work never stands without an answer: its laws.
use Rattle.std.specs.Prelude.{⊤}
use Rattle.std.specs.List.{AllByRecursion}
use Rattle.std.proofs.Common.{◌≡◌, ℕ, zero, suc, ◌+◌, ◌*◌, ◌≤◌, nat_le, true, cond, List, [], ◌∷◌, ◌++◌, refl, sym, ap, ◌∙◌, arith, subst, Result, Ok, Err, Some, None}
use Rattle.dz_rank.specs.Rankings.{RankingValue}
use Rattle.dz_algebra.specs.Outcome.{◌>>=◌, needs, numbered}
use Rattle.dz_diff.specs.Operations.{Setting, setting_of}
use Rattle.dz_diff.specs.Over.{AreOver, IsOver}
use Rattle.dz_diff.specs.State.{State}
use Rattle.dz_diff.proofs.Places.{taken}
use Rattle.dz_move.specs.Root.{System, is_closed, root_of}
use Rattle.dz_monomials.specs.Keeping.{IsKeepable}
use Rattle.dz_monomials.specs.Ranked.{symbols_under}
use Rattle.dz_move.specs.Systems.{system_limit}
use Rattle.dz_pair.specs.Pair.{critical_pairs}
use Rattle.dz_move.specs.declared.Rule.{Rule}
use Rattle.dz_move.specs.declared.Rule.TheVariants as rules
use Rattle.dz_tree.specs.Chain.{chain_rule, evidence_from}
use Rattle.dz_tree.specs.Belonging.{IsLineOf}
use Rattle.dz_move.specs.Lines.{Evidence, Line, closed, chain, Entry, entries_of, lines_of}
use Rattle.dz_check.specs.Walk.{Below, ended, nothing_below, entered}
use Rattle.dz_engine.specs.Order.{line_alone, divide_next, reduce_next, factor_next, split_next, weed_next, pairs_next, first_of, next_entry}
use Rattle.dz_engine.specs.Worked.{IsWorkedFrom, IsWorked, worked_from, worked_lines}
use Rattle.dz_move.specs.Standing.{IsStateOver, MayStand}
use Rattle.dz_engine.specs.Laws.{OrderLaws}
use Rattle.dz_move.proofs.KeepableStates.{keepables_over}
use Rattle.dz_move.proofs.StateFacts.{state_laws}
use Rattle.dz_tree.proofs.TreeEntries.{lines_of_entries}
use Rattle.dz_engine.proofs.RestingLines.{chain_line}
use Rattle.dz_tree.proofs.LowRuns.{full_run_coherent}
use Rattle.dz_engine.proofs.SmallSeparants.{separant_is_wide}
use Rattle.dz_engine.proofs.OrderOfWork.{entries_there, next_holds, worked_grouped}
use Rattle.dz_engine.proofs.WorkedForms.{worked_belong, worked_forms}

-- a worked tree is there
tree_there : (r : RankingValue) → r.signature.independents ≤ 4 → r.signature.dependents ≤ 16 → (budget : ℕ) → budget ≤ 20000000 → (system : System) → MayStand r system.equations system.inequations → system_limit system ≡ None
    → IsWorked (setting_of r) system (record { budget = budget; lines = worked_lines (setting_of r) budget (2 * budget + 1) system })
tree_there r few named budget most system stand within =
    let root = root_of (symbols_under r) system in
    let fine = (state_laws r few).root system stand within in
    let es = worked_from (setting_of r) budget (2 * budget + 1) 0 (root ∷ []) in
    let h = entries_there r few budget root fine in
    record {
      formed = record { budget = most; lines = worked_forms r few named budget root es fine h };
      named = subst (λ (es : List Entry). IsWorkedFrom (setting_of r) budget 0 (root ∷ []) es) (sym (ap (λ (q : List Evidence × List Entry). q.1) (worked_grouped (setting_of r) budget 0 (root ∷ []) es h))) h;
    }

-- its lines belong to the signature
tree_belongs : (r : RankingValue) → r.signature.independents ≤ 4 → r.signature.dependents ≤ 16 → (budget : ℕ) (system : System) (lines : List Line) → MayStand r system.equations system.inequations → system_limit system ≡ None
    → IsWorked (setting_of r) system (record { budget = budget; lines = lines }) → AllByRecursion (λ line. IsLineOf r.signature line) lines
tree_belongs r few named budget system lines stand within h =
    subst (λ (ls : List Line). AllByRecursion (λ line. IsLineOf r.signature line) ls) (lines_of_entries lines h.formed.lines)
    (worked_belong r few named budget (root_of (symbols_under r) system) (entries_of lines) ((state_laws r few).root system stand within) h.named)

-- the line at a closed state
closed_line : (g : Setting) (budget w : ℕ) (s : State) → is_closed g.symbols s ≡ true → next_entry g budget w s ≡ line_alone closed
unfolding next_entry
closed_line g budget w s e =
    ap (λ b. first_of (cond b (Some (line_alone closed)) None ∷ divide_next g budget w s ∷ reduce_next g budget w s ∷ factor_next g budget w s ∷ split_next g budget w s ∷ weed_next g budget w s ∷ []) (pairs_next g budget s w [] (critical_pairs g.symbols s))) e

-- where an end is named at the root, it is the whole tree
end_alone : (g : Setting) (budget : ℕ) (s : State) (line : Line) (b : Below) → next_entry g budget 0 s ≡ line_alone line → entered g budget 0 s line [] ≡ Ok b → b.states ≡ [] → worked_from g budget (2 * budget + 1) 0 (s ∷ []) ≡ line_alone line ∷ []
end_alone g budget s line b names holds none =
    let one_round : 2 * budget + 1 ≡ suc (2 * budget) = omega arith in
    ap (λ n. worked_from g budget n 0 (s ∷ [])) one_round
    ∙ ap (λ e. after e (entered g budget 0 s e.line e.evidence)) names ∙ ap (after (line_alone line)) holds
    ∙ ap (λ ss. line_alone line ∷ worked_from g budget (2 * budget) (0 + b.weight) (ss ++ [])) none ∙ ap (λ (es : List Entry). line_alone line ∷ es) (nothing (2 * budget))
  where
    after : Entry → Result Below (ℕ × Rule) → List Entry
    after e q = elim q as (λ _. List Entry) [ Ok b ↦ e ∷ worked_from g budget (2 * budget) (0 + b.weight) (b.states ++ []) | Err r ↦ e ∷ [] ]

    nothing : (n : ℕ) → worked_from g budget n (0 + b.weight) [] ≡ []
    nothing zero = refl
    nothing (suc n) = refl

closed_alone : (g : Setting) (budget : ℕ) (s : State) → is_closed g.symbols s ≡ true → worked_from g budget (2 * budget + 1) 0 (s ∷ []) ≡ line_alone closed ∷ []
unfolding entered
closed_alone g budget s e = end_alone g budget s closed nothing_below (closed_line g budget 0 s e) (ap (λ b. ◌>>=◌ {A = ⊤} {B = Below} {E = ℕ × Rule} (needs b (0, rules.Closed)) (λ _. Ok nothing_below)) e) refl

chain_alone : (g : Setting) (budget : ℕ) (s : State) → next_entry g budget 0 s ≡ line_alone chain → chain_rule g s [] ≡ Ok tt → worked_from g budget (2 * budget + 1) 0 (s ∷ []) ≡ line_alone chain ∷ []
unfolding entered
chain_alone g budget s names e =
    end_alone g budget s chain (ended chain s 0) names
    (ap (λ q. ◌>>=◌ {A = ℕ} {B = Below} {E = ℕ × Rule} (◌>>=◌ {A = ⊤} {B = ℕ} {E = ℕ × Rule} (numbered 0 q) (λ _. evidence_from g s (λ n. nat_le (0 + n) budget) 1 0 [])) (λ n. Ok (ended chain s n))) e) refl

-- the laws of the order of work
pub order_laws : (r : RankingValue) → r.signature.independents ≤ 4 → r.signature.dependents ≤ 16 → (budget : ℕ) → budget ≤ 20000000 → OrderLaws r budget
order_laws r few named budget most = record {
  holds = λ w s low h. next_holds r few budget w s h.stands h.facts low;
  is_there = tree_there r few named budget most;
  separants = λ s i p l refusal h a leads e. separant_is_wide r l p refusal (taken (IsKeepable r) i p s.equations a (h.stands).equations_keepable).0 e;
  coherent = λ s i j p q d left h a b pair e.
      let all = (over s h).equations_over in
      full_run_coherent r few s p q d left all (taken (IsOver r) i p s.equations a all).0 (taken (IsOver r) j q s.equations b all).0 pair e;
  belong = tree_belongs r few named budget;
  closed_line = λ w s e. closed_line (setting_of r) budget w s e;
  chain_line = λ w s h rest. chain_line r few budget w s (over s h) h.facts rest;
  closed_tree = λ system e. ap lines_of (closed_alone (setting_of r) budget (root_of (symbols_under r) system) e);
  chain_tree = λ system stand within rest.
      let root = root_of (symbols_under r) system in
      let h = (state_laws r few).root system stand within in
      ap lines_of (chain_alone (setting_of r) budget root (chain_line r few budget 0 root (over root h) h.facts rest) rest.is_chain);
}
  where
    over : (s : State) → IsStateOver r s → AreOver r s.equations s.inequations
    over s h = record { equations_over = keepables_over r few s.equations (h.stands).equations_keepable; inequations_over = keepables_over r few s.inequations (h.stands).inequations_keepable }
