-- The weight of a run of evidence, by the run from its Delta-polynomial.
use Rattle.std.specs.List.{list_all}
use Rattle.std.proofs.Common.{◌≡◌, ◌≤◌, ◌+◌, ◌∙◌, ◌&&◌, inl, inr, ℕ, Bool, true, false, List, length, refl, sym, ap, ap₂, Result, Ok, Err, Option, Some, None}
use Rattle.dz_algebra.specs.Polynomial.{Polynomial}
use Rattle.dz_algebra.specs.Size.{Refusal, wide, large}
use Rattle.dz_algebra.specs.Symbols.{Symbols}
use Rattle.dz_rank.specs.declared.symbols.Symbol.{Symbol}
use Rattle.dz_poly.specs.Books.{BookValue, IsBook}
use Rattle.dz_monomials.specs.Ranked.{symbols_under}
use Rattle.dz_diff.specs.Operations.{Setting, setting_of}
use Rattle.dz_algebra.specs.Outcome.{◌>>=◌, given, needs, numbered, told_as}
use Rattle.dz_diff.specs.Over.{IsOver}
use Rattle.dz_diff.specs.State.{State, at_place}
use Rattle.dz_diff.specs.States.{StandsIn, StateValue, state_in}
use Rattle.dz_diff.specs.Tests.{Polynomials, is_zero}
use Rattle.dz_algebra.proofs.Outcomes.{bind_ok, told_ok}
use Rattle.dz_diff.proofs.Places.{taken}
use Rattle.dz_step.specs.declared.Role.TheVariants.{Free}
use Rattle.dz_step.specs.Run.{Ran, run}
use Rattle.dz_step.specs.Step.{Stop}
use Rattle.dz_pair.specs.Pair.{common, delta_answer, is_pair}
use Rattle.dz_tree.specs.declared.entry_fault.EntryFault.TheVariants as faults
use Rattle.dz_move.specs.declared.fault.ActionStop.{ActionStop}
use Rattle.dz_move.specs.declared.Rule.{Rule}
use Rattle.dz_move.specs.declared.Rule.TheVariants as rules
use Rattle.dz_move.specs.Actions.{IsActionStop, move_fault, stop_in}
use Rattle.dz_move.specs.Lines.{Evidence}
use Rattle.dz_tree.specs.Chain.{evidence_weight, is_below, passes}
use Rattle.dz_tree.specs.ChainParts.{IsForPair}
use Rattle.dz_tree.specs.Entering.{IsEntryFault, entry_fault, rule_in}
use Rattle.dz_move.specs.Fault.{Fault, refusal, rule, rule_of, rule_of_refusal, run_fault}
use Rattle.dz_step.specs.StepOperators.{DeriveAlong}
use Rattle.dz_move.specs.Parts.{DeltaRun, delta_run}
use Rattle.dz_tree.proofs.LowRuns.{coherent}
use Rattle.dz_move.proofs.RootFacts.{all_over}

-- the fault of a rule that fails at a line
pub fault_is : (line : ℕ) (f : Fault) → entry_fault line (move_fault f) ≡ faults.Rule line (rule_of f)
fault_is line (refusal wide) = refl
fault_is line (refusal (large limit)) = refl
fault_is line (rule r) = refl

module _ (g : Setting) (s : State) (e : Evidence) (p q : Polynomial Symbol) (first_is : at_place e.first s.equations ≡ Some p) (second_is : at_place e.second s.equations ≡ Some q) where
  -- the run from the Delta-polynomial
  abbrev pub from_delta : Result DeltaRun (ℕ × Fault)
  from_delta = delta_run g s p q e.steps

  -- all steps are below the common derivative
  abbrev pub are_below : Bool
  are_below = passes (λ w. list_all (is_below g.symbols s w) e.steps) (common g.symbols p q)

  -- the weight with the run
  abbrev weighed : DeltaRun → Result ℕ Rule
  weighed x = needs (is_zero (x.ran).end && are_below) rules.Coherence >>= (λ _. Ok (1 + x.terms + (x.ran).count))

  -- the weight, by two polynomials, their Delta-polynomial and the end of the run
  abbrev by_ran : Polynomial Symbol → Polynomial Symbol → Polynomial Symbol → Ran → Result ℕ Rule
  by_ran x y d r = needs (is_zero r.end && passes (λ w. list_all (is_below g.symbols s w) e.steps) (common g.symbols x y)) rules.Coherence >>= (λ _. Ok (1 + length d + r.count))

  -- the weight, by two polynomials
  abbrev by_pair : Polynomial Symbol → Polynomial Symbol → Result ℕ Rule
  by_pair x y = told_as rule_of_refusal (delta_answer g x y) >>= (λ d. told_as (λ e. rule_of (run_fault e).1) (run g s Free d e.steps) >>= (λ r. by_ran x y d r))

  -- the weight is that of the run
  weight_is : evidence_weight g s e ≡ (told_as (λ (f : ℕ × Fault). rule_of f.1) from_delta >>= weighed)
  unfolding evidence_weight
  weight_is =
      ap (λ (o : Option (Polynomial Symbol)). given o rules.Pairs >>= (λ x. given (at_place e.second s.equations) rules.Pairs >>= (λ y. by_pair x y))) first_is
      ∙ ap (λ (o : Option (Polynomial Symbol)). given o rules.Pairs >>= (λ y. by_pair p y)) second_is
      ∙ by_delta (delta_answer g p q)
    where
      by_run : (d : Polynomial Symbol) (y : Result Ran (ℕ × Stop)) → (told_as (λ e. rule_of (run_fault e).1) y >>= (λ r. by_ran p q d r))
          ≡ (told_as (λ (f : ℕ × Fault). rule_of f.1) (told_as run_fault y >>= (λ r. Ok (record { terms = length d; ran = r }))) >>= weighed)
      by_run d (Ok r) = refl
      by_run d (Err f) = refl

      by_delta : (x : Result (Polynomial Symbol) Refusal) → (told_as rule_of_refusal x >>= (λ d. told_as (λ e. rule_of (run_fault e).1) (run g s Free d e.steps) >>= (λ r. by_ran p q d r)))
          ≡ (told_as (λ (f : ℕ × Fault). rule_of f.1) (numbered 0 (told_as refusal x) >>= (λ d. told_as run_fault (run g s Free d e.steps) >>= (λ r. Ok (record { terms = length d; ran = r })))) >>= weighed)
      by_delta (Ok d) = by_run d (run g s Free d e.steps)
      by_delta (Err f) = refl

  -- a run that is stopped
  pub run_stopped : (line : ℕ) (stop : ActionStop) → IsActionStop stop from_delta → IsEntryFault (entry_fault line stop.fault) (numbered line (evidence_weight g s e))
  run_stopped line stop (inl m) = inl (ap (entry_fault line) m)
  run_stopped line stop (inr m) = inr (ap (λ (x : Result ℕ Rule). rule_in (numbered line x)) weight_is ∙ by_answer from_delta m)
    where
      by_answer : (x : Result DeltaRun (ℕ × Fault)) → stop_in x ≡ Some stop → rule_in (numbered line (told_as (λ (f : ℕ × Fault). rule_of f.1) x >>= weighed)) ≡ Some (entry_fault line stop.fault)
      by_answer (Ok x) m = cc
      by_answer (Err f) m =
          let same : record { steps = f.0; fault = move_fault f.1 } ≡ stop = cc in
          ap Some (sym (fault_is line f.1) ∙ ap (λ (x : ActionStop). entry_fault line x.fault) same)

  module _ (x : DeltaRun) (ran : from_delta ≡ Ok x) where
    by_end : (b : Bool) → is_zero (x.ran).end ≡ b → evidence_weight g s e ≡ (needs (b && are_below) rules.Coherence >>= (λ _. Ok (1 + x.terms + (x.ran).count)))
    by_end b z = weight_is ∙ ap (λ (y : Result DeltaRun (ℕ × Fault)). told_as (λ (f : ℕ × Fault). rule_of f.1) y >>= weighed) ran
        ∙ ap (λ b. needs (b && are_below) rules.Coherence >>= (λ _. Ok (1 + x.terms + (x.ran).count))) z

    -- a run that does not end at zero
    pub not_coherent : (line : ℕ) → is_zero (x.ran).end ≡ false → IsEntryFault (faults.Rule line rules.Coherence) (numbered line (evidence_weight g s e))
    not_coherent line z = inr (ap (λ (x : Result ℕ Rule). rule_in (numbered line x)) (by_end false z))

    -- a run that ends at zero, below the common derivative
    pub coherent_weight : is_zero (x.ran).end ≡ true → are_below ≡ true → evidence_weight g s e ≡ Ok (1 + x.terms + (x.ran).count)
    coherent_weight z below = by_end true z ∙ ap (λ b. needs b rules.Coherence >>= (λ _. Ok (1 + x.terms + (x.ran).count))) below

-- the steps of a run are below the common derivative
pub run_below : (book : BookValue) → book.ranking.signature.independents ≤ 4 → IsBook book → (s : StateValue) → StandsIn book s → (e : Evidence) (p q : Polynomial Symbol)
    (a : at_place e.first (state_in book s).equations ≡ Some p) (b : at_place e.second (state_in book s).equations ≡ Some q) → is_pair (symbols_under book.ranking) p q ≡ true → DeriveAlong book.ranking.signature.independents e.steps
    → (x : DeltaRun) → from_delta (setting_of book.ranking) (state_in book s) e p q a b ≡ Ok x → are_below (setting_of book.ranking) (state_in book s) e p q a b ≡ true
run_below book few whole s stands e p q a b one operators x ran =
    let r = book.ranking in
    let g = setting_of r in
    let t = state_in book s in
    let over = all_over book whole s.equations stands.equations_live in
    let d = bind_ok (numbered 0 (told_as refusal (delta_answer g p q))) _ x ran in
    let y = bind_ok (told_as run_fault (run g t Free d.0 e.steps)) _ x d.2 in
    coherent r few t p q d.0 e.steps y.0 over (taken (IsOver r) e.first p t.equations a over).0 (taken (IsOver r) e.second q t.equations b over).0 one
    (told_ok refusal _ _ (told_ok (λ f. (0, f)) _ _ d.1)) operators (told_ok run_fault _ _ y.1)

-- ---- the polynomials at the places
-- nothing stands where something does
pub not_empty : {A : Type 0} (i : ℕ) (xs : List A) (x : A) → at_place i xs ≡ Some x → at_place i xs ≡ None → ⊥
not_empty i xs x e f = nothing x (sym e ∙ f)
  where
    nothing : {A : Type 0} (x : A) → ◌≡◌ {A = Option A} (Some x) None → ⊥
    nothing x e = cc

-- two polynomials that stand at the places are a critical pair
pub pair_at : (g : Symbols Symbol) (es : Polynomials) (e : Evidence) → IsForPair g es e → (p q : Polynomial Symbol) → at_place e.first es ≡ Some p → at_place e.second es ≡ Some q → is_pair g p q ≡ true
pair_at g es e k p q a b = ap₂ (is_pair g) (same p k.first (sym a ∙ k.first_is)) (same q k.second (sym b ∙ k.second_is)) ∙ k.is_one
  where
    same : (x y : Polynomial Symbol) → ◌≡◌ {A = Option (Polynomial Symbol)} (Some x) (Some y) → x ≡ y
    same x y e = cc
