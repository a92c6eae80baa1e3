-- The entries that the order of work names may stand in a tree, and belong to the signature.
use Rattle.std.specs.Prelude.{⊤}
use Rattle.std.specs.List.{AllByRecursion, list_all}
use Rattle.std.proofs.Common.{◌≡◌, inl, inr, ◌≤◌, ◌<◌, ◌-◌, ◌+◌, ◌^◌, ℕ, nat_lt, nat_le, Bool, true, false, not, ◌&&◌, ◌||◌, cond, List, [], ◌∷◌, ◌++◌, length, map, refl, sym, ap, ◌∙◌, subst, Result, Ok, Err, Option, Some, None, is_ok, arith}
use Rattle.std.proofs.lemmas.Bool.{ltb-false}
use Rattle.dz_algebra.specs.declared.Limit.{Limit}
use Rattle.dz_algebra.specs.declared.Limit.TheVariants as limits
use Rattle.dz_algebra.specs.Norm.{norm}
use Rattle.dz_algebra.specs.Parts.{is_ground, leader}
use Rattle.dz_algebra.specs.Polynomial.{Polynomial, PolynomialIn, symbol_polynomial}
use Rattle.dz_algebra.specs.Size.{Refusal, wide, large}
use Rattle.dz_algebra.proofs.Inside.{occurs}
use Rattle.dz_rank.specs.Rankings.{RankingValue, ranking_cmp}
use Rattle.dz_rank.specs.Symbols.{BelongsTo}
use Rattle.dz_rank.specs.declared.rankings.Signature.{Signature}
use Rattle.dz_rank.specs.declared.symbols.Symbol.{Symbol}
use Rattle.dz_monomials.specs.Keeping.{IsKeepable}
use Rattle.dz_monomials.proofs.SymbolLaws.{ranking_order}
use Rattle.dz_monomials.specs.Lists.{AllOf}
use Rattle.dz_diff.specs.Operations.{Setting, setting_of}
use Rattle.dz_algebra.specs.Outcome.{◌>>=◌, needs, given, numbered}
use Rattle.dz_diff.specs.State.{State, at_place, put_equation, limit_passed}
use Rattle.dz_diff.specs.Tests.{is_member, is_zero, same}
use Rattle.dz_algebra.proofs.Outcomes.{both}
use Rattle.dz_diff.proofs.Places.{all-append, taken}
use Rattle.dz_step.specs.declared.Role.TheVariants.{Free, Equation, Inequation}
use Rattle.dz_step.specs.declared.Step.{Step}
use Rattle.dz_step.specs.declared.Which.{Which}
use Rattle.dz_step.specs.declared.Which.TheVariants.{Initial, Separant}
use Rattle.dz_monomials.specs.PowerDivision.{is_divided, quotient_by}
use Rattle.dz_step.specs.StepOperators.{course_steps}
use Rattle.dz_step.specs.FullRun.{Course, finished, stopped, passed, admits, derivatives_of, full_run, or_else}
use Rattle.dz_step.specs.Step.{multiplier_answer}
use Rattle.dz_pair.specs.Pair.{critical_pairs, delta_answer}
use Rattle.dz_move.specs.declared.Rule.{Rule}
use Rattle.dz_move.specs.declared.Rule.TheVariants as rules
use Rattle.dz_move.specs.Fault.{Fault, refusal, rule, fault_of}
use Rattle.dz_tree.specs.Belonging.{AreStepsOf, IsActionOf, IsLineOf}
use Rattle.dz_tree.specs.Forms.{is_add, is_place, is_end_with, is_spelled, is_spelled_action, is_spelled_step, is_spelled_symbol, takes_out}
use Rattle.dz_move.specs.Lines.{Evidence, Line, act, closed, pair, spent, spent_pairs, open_wide, open_separant, open_large, Entry, lines_of_entry}
use Rattle.dz_move.specs.Moves.{Action, reduce, weed, add, divide, split, factor, Done, within, settled, with_equations, forked, perform, divided_at, factored}
use Rattle.dz_tree.specs.Forms.{is_empty}
use Rattle.dz_check.specs.Reasons.{costs_more, is_wide, reason_holds}
use Rattle.dz_check.specs.Walk.{Below, ended, entered}
use Rattle.dz_move.specs.Standing.{IsStateOver}
use Rattle.dz_move.proofs.OverStates.{divisor_belongs, divisor_occurs}
use Rattle.dz_move.proofs.KeepableStates.{delta_keepable}
use Rattle.dz_engine.specs.Order.{line_alone, with_evidence, refused_line, open_line, plain, affordable, by_course, first_symbol, symbols_of, closed_next, divide_next, reduce_next, factor_next, split_on, split_next, weed_next, evidence, after_course, delta_at, after_delta, pairs_next, next_entry}
use Rattle.dz_engine.specs.Resting.{EntryHolds}
use Rattle.dz_engine.proofs.EasyRules.{IsRefusal, and_is, found, or_else_is}
use Rattle.dz_engine.proofs.RunRules.{full_run_stopped}
use Rattle.dz_tree.proofs.CriticalPairs.{NamesPair, critical_pairs_name}
use Rattle.dz_engine.proofs.SpelledRuns.{IsNumbered, IsSpelled, full_run_some, full_run_written, numbered_place, spelled_symbols}
use Rattle.dz_engine.proofs.OrderOfWork.{first_is, next_holds, steps_go, delta_fine}

-- ---- entries that may stand in a tree
-- a line may have this evidence after it; an action none
abbrev pub is_placed : List Evidence → Line → Bool
is_placed es (act action) = is_empty es
is_placed es line = is_end_with es line

-- the evidence is where it may be, and each line can be spelled and belongs to the signature
pub record IsFormed (n : Signature) (e : Entry) : Type 0 where
  pub placed : is_placed e.evidence e.line ≡ true
  pub spelled : list_all is_spelled (lines_of_entry e) ≡ true
  pub belong : AllByRecursion (λ line. IsLineOf n line) (lines_of_entry e)

-- a line alone
alone : (n : Signature) (line : Line) → is_placed [] line ≡ true → is_spelled line ≡ true → IsLineOf n line → IsFormed n (line_alone line)
alone n line p e b = record { placed = p; spelled = and_is (is_spelled line) true e refl; belong = (b, tt) }

-- an action that can be spelled, and belongs to the signature
abbrev IsWritten : Signature → Action → Type 0
IsWritten n action = (is_spelled_action action ≡ true) × IsActionOf n action

-- ---- actions
-- the answer is there, or is not that an operation is wide
abbrev NotWide : {A : Type 0} → Result A (ℕ × Fault) → Type 0
NotWide (Ok x) = ⊤
NotWide (Err e) = is_wide e.1 ≡ false

-- states that are settled pass a limit at most
not_wide_settled : (ss : List State) (w : ℕ) → NotWide (settled 0 ss w)
not_wide_settled ss w = by_limit (limit_passed ss)
  where
    by_limit : (o : Option Limit) → NotWide {A = Done} (numbered 0 (within o) >>= (λ _. Ok (record { after = ss; weight = w })))
    by_limit None = tt
    by_limit (Some limit) = refl

-- what is done with an equation that passes a test
not_wide_tested : (o : Option (Polynomial Symbol)) (test : Polynomial Symbol → Bool) (after : Polynomial Symbol → List State) (w : Polynomial Symbol → ℕ)
    → NotWide {A = Done} (given o (0, rule rules.Place) >>= (λ p. needs (test p) (0, rule rules.Symbol) >>= (λ _. settled 0 (after p) (w p))))
not_wide_tested None test after w = refl
not_wide_tested (Some p) test after w = by_test (test p)
  where
    by_test : (b : Bool) → NotWide (◌>>=◌ {A = ⊤} {B = Done} {E = ℕ × Fault} (needs b (0, rule rules.Symbol)) (λ _. settled 0 (after p) (w p)))
    by_test true = not_wide_settled (after p) (w p)
    by_test false = refl

-- what takes a symbol out is never wide
not_wide : (g : Setting) (s : State) (action : Action) → takes_out action ≡ true → NotWide (perform g s action)
unfolding divided_at factored
not_wide g s (reduce i steps) h = cc
not_wide g s (weed j steps) h = cc
not_wide g s (add i j steps) h = cc
not_wide g s (divide i v) h =
    not_wide_tested (at_place i s.equations) (λ p. is_divided g.symbols.cmp v p && is_member g.symbols (symbol_polynomial v) s.inequations) (λ p. with_equations s (put_equation g.symbols i (quotient_by g.symbols.cmp v p) s.equations) ∷ [])
    (λ p. 1 + length (quotient_by g.symbols.cmp v p))
not_wide g s (split i which) h = cc
not_wide g s (factor i v) h =
    not_wide_tested (at_place i s.equations) (λ p. g.symbols.is_derivative v && is_divided g.symbols.cmp v p && not (same g.symbols p (symbol_polynomial v)) && not (is_member g.symbols (symbol_polynomial v) s.inequations))
    (λ p. forked s (put_equation g.symbols i (quotient_by g.symbols.cmp v p) s.equations) (s.inequations ++ symbol_polynomial v ∷ []) ∷ forked s (put_equation g.symbols i (symbol_polynomial v) s.equations) s.inequations ∷ [])
    (λ p. 1 + length (quotient_by g.symbols.cmp v p))

module _ (n : Signature) (g : Setting) (budget w : ℕ) (s : State) where
  -- the open end of a refusal
  refused_formed : (r : Refusal) (action : Action) → IsWritten n action → (takes_out action ≡ true → is_wide (refusal r) ≡ false) → IsFormed n (line_alone (refused_line r action))
  refused_formed wide action e h = alone n (open_wide action) refl (by_kind (takes_out action) refl) e.1
    where
      by_kind : (b : Bool) → takes_out action ≡ b → (not b && is_spelled_action action) ≡ true
      by_kind true k = let z = h k in cc
      by_kind false k = e.0
  refused_formed (large limit) action e h = alone n (open_large limit action) refl e.0 e.1

  -- the open end of a fault, of an action that is no add
  open_formed : (f : Fault) (action : Action) → IsWritten n action → is_add action ≡ false → (takes_out action ≡ true → is_wide f ≡ false) → IsFormed n (line_alone (open_line f action))
  open_formed (refusal r) action e no_add h = refused_formed r action e h
  open_formed (rule r) action e no_add h = alone n (spent action) refl (and_is (not (is_add action)) (is_spelled_action action) (ap not no_add) e.0) e.1

  -- an action as it is
  plain_formed : (action : Action) → IsWritten n action → is_add action ≡ false → IsFormed n (plain g budget w s action)
  plain_formed action e no_add = by_answer (perform g s action) (not_wide g s action)
    where
      by_test : (b : Bool) → IsFormed n (line_alone (cond b (act action) (spent action)))
      by_test true = alone n (act action) refl e.0 e.1
      by_test false = alone n (spent action) refl (and_is (not (is_add action)) (is_spelled_action action) (ap not no_add) e.0) e.1

      by_answer : (q : Result Done (ℕ × Fault)) → (takes_out action ≡ true → NotWide q) → IsFormed n (elim q as (λ _. Entry) [ Ok d ↦ line_alone (cond (nat_le (w + d.weight) budget) (act action) (spent action)) | Err e ↦ line_alone (open_line e.1 action) ])
      by_answer (Ok d) h = by_test (nat_le (w + d.weight) budget)
      by_answer (Err x) h = open_formed x.1 action e no_add h

  -- an action by a full run with steps that can be spelled and belong
  course_formed : (action : List Step → Action) → ((steps : List Step) → list_all is_spelled_step steps ≡ true → AreStepsOf n steps → is_empty steps ≡ false → IsWritten n (action steps)) → ((steps : List Step) → is_add (action steps) ≡ false) → ((steps : List Step) → takes_out (action steps) ≡ false)
      → (c : Course) → list_all is_spelled_step (course_steps c) ≡ true → AreStepsOf n (course_steps c) → is_empty (course_steps c) ≡ false → IsFormed n (by_course g budget w s action c)
  course_formed action e no_add t (finished steps f count) a o b = plain_formed (action steps) (e steps a o b) (no_add steps)
  course_formed action e no_add t (stopped steps stop) a o b = open_formed (fault_of stop) (action steps) (e steps a o b) (no_add steps) (λ h. let z = t steps in absurd (no_two (takes_out (action steps)) h z))
    where
      no_two : (b : Bool) → b ≡ true → b ≡ false → ⊥
      no_two true h k = cc
      no_two false h k = cc
  course_formed action e no_add t (passed steps) a o b = plain_formed (action steps) (e steps a o b) (no_add steps)

-- ---- the rules, at a state whose members may stand in a book
module _ (r : RankingValue) (few : r.signature.independents ≤ 4) (named : r.signature.dependents ≤ 16) (budget w : ℕ) (s : State) (fine : IsStateOver r s) (low : w ≤ budget) where
  abbrev g : Setting
  g = setting_of r

  equations : AllOf (IsKeepable r) s.equations
  equations = fine.stands.equations_keepable

  -- a state has at most 256 members
  few_members : length s.equations + length s.inequations ≤ 256
  few_members = by_test _ _ refl fine.facts.within_limits
    where
      by_test : (b : Bool) (o : Option Limit) → nat_lt 256 (length s.equations + length s.inequations) ≡ b → cond (b || false) (Some limits.Polynomials) o ≡ None → length s.equations + length s.inequations ≤ 256
      by_test true o f e = cc
      by_test false o f e = omega (arith, ltb-false 256 (length s.equations + length s.inequations) f)

  few_equations : length s.equations ≤ 256
  few_equations = omega (arith, few_members)

  few_inequations : length s.inequations ≤ 256
  few_inequations = omega (arith, few_members)

  equation_place : (i : ℕ) (p : Polynomial Symbol) → at_place i s.equations ≡ Some p → IsNumbered i
  equation_place i p a = numbered_place i p s.equations few_equations a

  -- a symbol that divides a polynomial is one of it, and belongs to the signature
  divisor_written : (v : Symbol) (p : Polynomial Symbol) → IsKeepable r p → is_divided (ranking_cmp r) v p ≡ true → (is_spelled_symbol v ≡ true) × BelongsTo r.signature v
  divisor_written v p h e = ((divisor_in p (spelled_symbols r few named p h) e).0, divisor_belongs r few v p e h.belongs)
    where
      divisor_in : (p : Polynomial Symbol) → PolynomialIn IsSpelled p → is_divided (ranking_cmp r) v p ≡ true → IsSpelled v
      divisor_in [] k e = cc
      divisor_in (t ∷ p) k e = let x = divisor_occurs r few v t p e in occurs (ranking_order r) IsSpelled v t.0 (λ z. omega (arith, x, z)) k.0

  -- a place with a divisor of what stands there
  taken_out : (i : ℕ) (p : Polynomial Symbol) (v : Symbol) → at_place i s.equations ≡ Some p → is_divided (ranking_cmp r) v p ≡ true → ((is_place i && is_spelled_symbol v) ≡ true) × ((i < 2 ^ 16) × BelongsTo r.signature v)
  taken_out i p v a e =
      let at = equation_place i p a in
      let of_v = divisor_written v p (taken (IsKeepable r) i p s.equations a equations).0 e in
      (and_is (is_place i) (is_spelled_symbol v) at.0 of_v.0, (at.1, of_v.1))

  -- a test that a symbol of a list passes
  symbol_is : (test : Symbol → Bool) (vs : List Symbol) (v : Symbol) → first_symbol test vs ≡ Some v → test v ≡ true
  symbol_is test [] v e = cc
  symbol_is test (u ∷ vs) v e = by_test (test u) refl e (symbol_is test vs v)
    where
      by_test : (b : Bool) → test u ≡ b → cond b (Some u) (first_symbol test vs) ≡ Some v → (first_symbol test vs ≡ Some v → test v ≡ true) → test v ≡ true
      by_test true f e ih = let k : u ≡ v = cc in subst (λ x. test x ≡ true) k f
      by_test false f e ih = ih e

  -- closed
  closed_formed : (e : Entry) → closed_next g s ≡ Some e → IsFormed r.signature e
  closed_formed e h = by_test _ h
    where
      by_test : (b : Bool) → cond b (Some (line_alone closed)) None ≡ Some e → IsFormed r.signature e
      by_test true h = let k : line_alone closed ≡ e = cc in subst (IsFormed r.signature) k (alone r.signature closed refl refl tt)
      by_test false h = cc

  -- divide
  divide_formed : (e : Entry) → divide_next g budget w s ≡ Some e → IsFormed r.signature e
  divide_formed e h = let x = found _ e s.equations h in by_symbol x.place x.member x.is_there _ refl x.names
    where
      by_symbol : (i : ℕ) (p : Polynomial Symbol) → at_place i s.equations ≡ Some p → (o : Option Symbol)
          → first_symbol (λ v. is_member g.symbols (symbol_polynomial v) s.inequations && is_divided g.symbols.cmp v p) (symbols_of g.symbols p) ≡ o
          → (elim o as (λ _. Option Entry) [ None ↦ None | Some v ↦ Some (plain g budget w s (divide i v)) ]) ≡ Some e → IsFormed r.signature e
      by_symbol i p a None f h = cc
      by_symbol i p a (Some v) f h =
          let k : plain g budget w s (divide i v) ≡ e = cc in
          let t = both (is_member g.symbols (symbol_polynomial v) s.inequations) (is_divided g.symbols.cmp v p) (symbol_is (λ v. is_member g.symbols (symbol_polynomial v) s.inequations && is_divided g.symbols.cmp v p) (symbols_of g.symbols p) v f) in
          subst (IsFormed r.signature) k (plain_formed r.signature g budget w s (divide i v) (taken_out i p v a t.1) refl)

  -- factor
  factor_formed : (e : Entry) → factor_next g budget w s ≡ Some e → IsFormed r.signature e
  factor_formed e h = let x = found _ e s.equations h in by_symbol x.place x.member x.is_there _ refl x.names
    where
      by_symbol : (i : ℕ) (p : Polynomial Symbol) → at_place i s.equations ≡ Some p → (o : Option Symbol)
          → first_symbol (λ v. is_divided g.symbols.cmp v p && not (same g.symbols p (symbol_polynomial v)) && not (is_member g.symbols (symbol_polynomial v) s.inequations)) (derivatives_of g.symbols p) ≡ o
          → (elim o as (λ _. Option Entry) [ None ↦ None | Some v ↦ Some (plain g budget w s (factor i v)) ]) ≡ Some e → IsFormed r.signature e
      by_symbol i p a None f h = cc
      by_symbol i p a (Some v) f h =
          let k : plain g budget w s (factor i v) ≡ e = cc in
          let t = both (is_divided g.symbols.cmp v p && not (same g.symbols p (symbol_polynomial v))) (not (is_member g.symbols (symbol_polynomial v) s.inequations)) (symbol_is (λ v. is_divided g.symbols.cmp v p && not (same g.symbols p (symbol_polynomial v)) && not (is_member g.symbols (symbol_polynomial v) s.inequations)) (derivatives_of g.symbols p) v f) in
          let d = both (is_divided g.symbols.cmp v p) (not (same g.symbols p (symbol_polynomial v))) t.0 in
          subst (IsFormed r.signature) k (plain_formed r.signature g budget w s (factor i v) (taken_out i p v a d.0) refl)

  -- split
  split_formed : (e : Entry) → split_next g budget w s ≡ Some e → IsFormed r.signature e
  split_formed e h = let x = found _ e s.equations h in by_leader x.place x.member x.is_there (leader g.symbols x.member) x.names
    where
      on : (i : ℕ) → IsNumbered i → (which : Which) (q : Result (Polynomial Symbol) Refusal) → split_on g budget w s i which q ≡ Some e → IsFormed r.signature e
      on i c which (Err x) h = let k : line_alone (open_separant i) ≡ e = cc in subst (IsFormed r.signature) k (alone r.signature (open_separant i) refl c.0 c.1)
      on i c which (Ok m) h = by_test (is_ground g.symbols m || is_member g.symbols (norm m) s.equations || is_member g.symbols (norm m) s.inequations) h
        where
          by_test : (b : Bool) → cond b None (Some (plain g budget w s (split i which))) ≡ Some e → IsFormed r.signature e
          by_test true h = cc
          by_test false h = let k : plain g budget w s (split i which) ≡ e = cc in subst (IsFormed r.signature) k (plain_formed r.signature g budget w s (split i which) c refl)

      by_leader : (i : ℕ) (p : Polynomial Symbol) → at_place i s.equations ≡ Some p → (o : Option Symbol)
          → (elim o as (λ _. Option Entry) [ None ↦ None | Some l ↦ or_else (split_on g budget w s i Initial (multiplier_answer g.symbols Initial l p)) (split_on g budget w s i Separant (multiplier_answer g.symbols Separant l p)) ]) ≡ Some e → IsFormed r.signature e
      by_leader i p a None h = cc
      by_leader i p a (Some l) h = elim (or_else_is (split_on g budget w s i Initial (multiplier_answer g.symbols Initial l p)) (split_on g budget w s i Separant (multiplier_answer g.symbols Separant l p)) e h) [
        | inl k ↦ on i (equation_place i p a) Initial (multiplier_answer g.symbols Initial l p) k
        | inr k ↦ on i (equation_place i p a) Separant (multiplier_answer g.symbols Separant l p) k
      ]

  -- steps that can be spelled and belong, and some of them
  run_written : (i : ℕ) (steps : List Step) → IsNumbered i → list_all is_spelled_step steps ≡ true → AreStepsOf r.signature steps → is_empty steps ≡ false
      → ((is_place i && (not (is_empty steps) && list_all is_spelled_step steps)) ≡ true) × ((i < 2 ^ 16) × AreStepsOf r.signature steps)
  run_written i steps c a o b = (and_is (is_place i) _ c.0 (and_is (not (is_empty steps)) (list_all is_spelled_step steps) (ap not b) a), (c.1, o))

  -- reduce
  reduce_formed : (e : Entry) → reduce_next g budget w s ≡ Some e → IsFormed r.signature e
  reduce_formed e h = let x = found _ e s.equations h in by_test x.place x.member x.is_there (admits g s (Equation x.place) x.member) refl x.names
    where
      by_test : (i : ℕ) (p : Polynomial Symbol) → at_place i s.equations ≡ Some p → (b : Bool) → admits g s (Equation i) p ≡ b
          → cond b (Some (by_course g budget w s (reduce i) (full_run g s (Equation i) (budget - (w + 1)) p))) None ≡ Some e → IsFormed r.signature e
      by_test i p a true f h =
          let k : by_course g budget w s (reduce i) (full_run g s (Equation i) (budget - (w + 1)) p) ≡ e = cc in
          let of_steps = full_run_written r few named s (Equation i) (budget - (w + 1)) p few_equations equations (taken (IsKeepable r) i p s.equations a equations).0 in
          subst (IsFormed r.signature) k (course_formed r.signature g budget w s (reduce i) (λ steps x y z. run_written i steps (equation_place i p a) x y z) (λ steps. refl) (λ steps. refl) (full_run g s (Equation i) (budget - (w + 1)) p)
          of_steps.0 of_steps.1
          (full_run_some g s (Equation i) (budget - (w + 1)) p (taken (λ p. norm p ≡ p) i p s.equations a fine.facts.equations_normalised).0 f))
      by_test i p a false f h = cc

  -- weed
  weed_formed : (e : Entry) → weed_next g budget w s ≡ Some e → IsFormed r.signature e
  weed_formed e h = let x = found _ e s.inequations h in by_test x.place x.member x.is_there (admits g s (Inequation x.place) x.member) refl x.names
    where
      by_test : (j : ℕ) (p : Polynomial Symbol) → at_place j s.inequations ≡ Some p → (b : Bool) → admits g s (Inequation j) p ≡ b
          → cond b (Some (by_course g budget w s (weed j) (full_run g s (Inequation j) (budget - (w + 1)) p))) None ≡ Some e → IsFormed r.signature e
      by_test j p a true f h =
          let k : by_course g budget w s (weed j) (full_run g s (Inequation j) (budget - (w + 1)) p) ≡ e = cc in
          let of_steps = full_run_written r few named s (Inequation j) (budget - (w + 1)) p few_equations equations (taken (IsKeepable r) j p s.inequations a fine.stands.inequations_keepable).0 in
          subst (IsFormed r.signature) k (course_formed r.signature g budget w s (weed j) (λ steps x y z. run_written j steps (numbered_place j p s.inequations few_inequations a) x y z) (λ steps. refl) (λ steps. refl) (full_run g s (Inequation j) (budget - (w + 1)) p)
          of_steps.0 of_steps.1
          (full_run_some g s (Inequation j) (budget - (w + 1)) p (taken (λ p. norm p ≡ p) j p s.inequations a fine.facts.inequations_normalised).0 f))
      by_test j p a false f h = cc

  -- ---- the pairs
  -- evidence whose lines can be spelled and belong
  abbrev AreWrittenPairs : List Evidence → Type 0
  AreWrittenPairs es = AllOf (λ e. (is_spelled (pair e) ≡ true) × IsLineOf r.signature (pair e)) es

  all_spelled : (es : List Evidence) → AreWrittenPairs es → list_all is_spelled (map pair es) ≡ true
  all_spelled [] h = refl
  all_spelled (e ∷ es) h = and_is (is_spelled (pair e)) (list_all is_spelled (map pair es)) h.0.0 (all_spelled es h.1)

  all_belong : (es : List Evidence) → AreWrittenPairs es → AllByRecursion (λ line. IsLineOf r.signature line) (map pair es)
  all_belong [] h = tt
  all_belong (e ∷ es) h = (h.0.1, all_belong es h.1)

  -- one more run
  more_written : (es : List Evidence) (i j : ℕ) (steps : List Step) → AreWrittenPairs es → IsWritten r.signature (add i j steps) → AreWrittenPairs (es ++ evidence (i, j) steps ∷ [])
  more_written es i j steps h k = all-append (λ e. (is_spelled (pair e) ≡ true) × IsLineOf r.signature (pair e)) es (evidence (i, j) steps ∷ []) h (k, tt)

  -- runs that pass the budget
  spent_formed : (es : List Evidence) (i j : ℕ) (steps : List Step) → AreWrittenPairs es → IsWritten r.signature (add i j steps) → IsFormed r.signature (with_evidence spent_pairs (es ++ evidence (i, j) steps ∷ []))
  spent_formed es i j steps h k =
      let all = more_written es i j steps h k in
      record { placed = some es; spelled = all_spelled (es ++ evidence (i, j) steps ∷ []) all; belong = (tt, all_belong (es ++ evidence (i, j) steps ∷ []) all) }
    where
      some : (es : List Evidence) → not (is_empty (es ++ evidence (i, j) steps ∷ [])) ≡ true
      some [] = refl
      some (e ∷ es) = refl

  -- an add that holds
  affordable_formed : (i j : ℕ) (steps : List Step) → IsWritten r.signature (add i j steps) → EntryHolds g budget w s (affordable g s (add i j steps)) → IsFormed r.signature (affordable g s (add i j steps))
  unfolding entered reason_holds
  affordable_formed i j steps e holds = by_answer (perform g s (add i j steps)) refl holds
    where
      shape : Result Done (ℕ × Fault) → Entry
      shape q = elim q as (λ _. Entry) [ Ok d ↦ line_alone (act (add i j steps)) | Err e ↦ line_alone (open_line e.1 (add i j steps)) ]

      by_fault : (x : ℕ × Fault) → perform g s (add i j steps) ≡ Err x → (f : Fault) → EntryHolds g budget w s (line_alone (open_line f (add i j steps))) → IsFormed r.signature (line_alone (open_line f (add i j steps)))
      by_fault x h (refusal y) k = refused_formed r.signature g budget w s y (add i j steps) e (λ z. cc)
      by_fault x h (rule o) k =
          let z : is_ok {T = Below} {E = ℕ × Rule} (◌>>=◌ {A = ⊤} {B = Below} {E = ℕ × Rule} (needs (costs_more budget w (perform g s (add i j steps))) (0, rules.Reason)) (λ _. Ok (ended (spent (add i j steps)) s 0))) ≡ true = k in
          let y : is_ok {T = Below} {E = ℕ × Rule} (◌>>=◌ {A = ⊤} {B = Below} {E = ℕ × Rule} (needs (costs_more budget w (Err x)) (0, rules.Reason)) (λ _. Ok (ended (spent (add i j steps)) s 0))) ≡ true
          = subst (λ q. is_ok {T = Below} {E = ℕ × Rule} (◌>>=◌ {A = ⊤} {B = Below} {E = ℕ × Rule} (needs (costs_more budget w q) (0, rules.Reason)) (λ _. Ok (ended (spent (add i j steps)) s 0))) ≡ true) h z in
          cc

      by_answer : (q : Result Done (ℕ × Fault)) → perform g s (add i j steps) ≡ q → EntryHolds g budget w s (shape q) → IsFormed r.signature (shape q)
      by_answer (Ok d) h k = alone r.signature (act (add i j steps)) refl e.0 e.1
      by_answer (Err x) h k = by_fault x h x.1 k

  -- the entry after some pairs
  pairs_formed : (w' : ℕ) (es : List Evidence) (ps : List (ℕ × ℕ)) → AreWrittenPairs es → AllOf (NamesPair g.symbols s.equations) ps → EntryHolds g budget w s (pairs_next g budget s w' es ps) → IsFormed r.signature (pairs_next g budget s w' es ps)
  pairs_formed w' es [] h ns holds = record { placed = refl; spelled = all_spelled es h; belong = (tt, all_belong es h) }
  pairs_formed w' es ((i, j) ∷ ps) h ns holds = by_delta (delta_at g s (i, j)) (sym delta_is) (λ x es' h' k. pairs_formed x es' ps h' ns.1 k) holds
    where
      n : NamesPair g.symbols s.equations (i, j)
      n = ns.0

      next : ℕ → List Evidence → Entry
      next x es' = pairs_next g budget s x es' ps

      delta_is : delta_at g s (i, j) ≡ delta_answer g n.first n.second
      delta_is =
          ap (λ o. elim o as (λ _. Result (Polynomial Symbol) Refusal) [ None ↦ Ok [] | Some a ↦ elim (at_place j s.equations) as (λ _. Result (Polynomial Symbol) Refusal) [ None ↦ Ok [] | Some b ↦ delta_answer g a b ] ]) n.first_is
          ∙ ap (λ o. elim o as (λ _. Result (Polynomial Symbol) Refusal) [ None ↦ Ok [] | Some b ↦ delta_answer g n.first b ]) n.second_is

      places : (steps : List Step) → list_all is_spelled_step steps ≡ true → AreStepsOf r.signature steps → IsWritten r.signature (add i j steps)
      places steps a o =
          let at = equation_place i n.first n.first_is in
          let by = equation_place j n.second n.second_is in
          (and_is (is_place i) _ at.0 (and_is (is_place j) (list_all is_spelled_step steps) by.0 a), (at.1, by.1, o))

      by_course' : (d : Polynomial Symbol) → delta_answer g n.first n.second ≡ Ok d → (x : ℕ) (limit : ℕ) (c : Course) → full_run g s Free limit d ≡ c → list_all is_spelled_step (course_steps c) ≡ true → AreStepsOf r.signature (course_steps c)
          → ((x : ℕ) (es' : List Evidence) → AreWrittenPairs es' → EntryHolds g budget w s (next x es') → IsFormed r.signature (next x es'))
          → EntryHolds g budget w s (after_course g budget s x es (i, j) c next) → IsFormed r.signature (after_course g budget s x es (i, j) c next)
      by_course' d e x limit (stopped steps stop) f a o ih k = by_stop (fault_of stop) (full_run_stopped g s Free limit _ _ (steps_go r few budget w s fine.stands fine.facts low Free) d steps stop (delta_fine r few budget w s fine.stands fine.facts low i j n.first n.second d n.first_is n.second_is e) f).1
        where
          by_stop : (f : Fault) → IsRefusal f → IsFormed r.signature (line_alone (open_line f (add i j steps)))
          by_stop (refusal y) h = refused_formed r.signature g budget w s y (add i j steps) (places steps a o) (λ z. cc)
          by_stop (rule y) h = absurd h
      by_course' d e x limit (passed steps) f a o ih k = spent_formed es i j steps h (places steps a o)
      by_course' d e x limit (finished steps end count) f a o ih k = by_zero (is_zero end) k
        where
          by_zero : (b : Bool) → EntryHolds g budget w s (cond b (next (x + count) (es ++ evidence (i, j) steps ∷ [])) (affordable g s (add i j steps))) → IsFormed r.signature (cond b (next (x + count) (es ++ evidence (i, j) steps ∷ [])) (affordable g s (add i j steps)))
          by_zero true k = ih (x + count) (es ++ evidence (i, j) steps ∷ []) (more_written es i j steps h (places steps a o)) k
          by_zero false k = affordable_formed i j steps (places steps a o) k

      by_weight : (d : Polynomial Symbol) → delta_answer g n.first n.second ≡ Ok d → (b : Bool)
          → ((x : ℕ) (es' : List Evidence) → AreWrittenPairs es' → EntryHolds g budget w s (next x es') → IsFormed r.signature (next x es'))
          → EntryHolds g budget w s (cond b (with_evidence spent_pairs (es ++ evidence (i, j) [] ∷ [])) (after_course g budget s (w' + 1 + length d) es (i, j) (full_run g s Free (budget - (w' + 1 + length d)) d) next))
          → IsFormed r.signature (cond b (with_evidence spent_pairs (es ++ evidence (i, j) [] ∷ [])) (after_course g budget s (w' + 1 + length d) es (i, j) (full_run g s Free (budget - (w' + 1 + length d)) d) next))
      by_weight d e true ih k = spent_formed es i j [] h (places [] refl tt)
      by_weight d e false ih k =
          let keepable = delta_keepable r few n.first n.second d e (taken (IsKeepable r) i n.first s.equations n.first_is equations).0 (taken (IsKeepable r) j n.second s.equations n.second_is equations).0 in
          let of_steps = full_run_written r few named s Free (budget - (w' + 1 + length d)) d few_equations equations keepable in
          by_course' d e (w' + 1 + length d) (budget - (w' + 1 + length d)) (full_run g s Free (budget - (w' + 1 + length d)) d) refl of_steps.0 of_steps.1 ih k

      by_delta : (q : Result (Polynomial Symbol) Refusal) → delta_answer g n.first n.second ≡ q
          → ((x : ℕ) (es' : List Evidence) → AreWrittenPairs es' → EntryHolds g budget w s (next x es') → IsFormed r.signature (next x es'))
          → EntryHolds g budget w s (after_delta g budget s w' es (i, j) q next) → IsFormed r.signature (after_delta g budget s w' es (i, j) q next)
      by_delta (Err y) e ih k = refused_formed r.signature g budget w s y (add i j []) (places [] refl tt) (λ z. cc)
      by_delta (Ok d) e ih k = by_weight d e (nat_lt budget (w' + 1 + length d)) ih k

  -- ---- the entry that is next
  -- where it holds, it may stand in a tree
  abbrev Goal : Entry → Type 0
  Goal e = EntryHolds g budget w s e → IsFormed r.signature e

  -- and it holds
  pub next_formed : IsFormed r.signature (next_entry g budget w s)
  unfolding next_entry
  next_formed =
      first_is Goal (closed_next g s) _ _ (λ e h k. closed_formed e h) (λ _.
      first_is Goal (divide_next g budget w s) _ _ (λ e h k. divide_formed e h) (λ _.
      first_is Goal (reduce_next g budget w s) _ _ (λ e h k. reduce_formed e h) (λ _.
      first_is Goal (factor_next g budget w s) _ _ (λ e h k. factor_formed e h) (λ _.
      first_is Goal (split_next g budget w s) _ _ (λ e h k. split_formed e h) (λ _.
      first_is Goal (weed_next g budget w s) [] (pairs_next g budget s w [] (critical_pairs g.symbols s)) (λ e h k. weed_formed e h) (λ _ k.
      pairs_formed w [] (critical_pairs g.symbols s) tt (critical_pairs_name g.symbols s) k)))))) (next_holds r few budget w s fine.stands fine.facts low)
