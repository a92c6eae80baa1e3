-- What a replay finds, from what its steps answer.
use Rattle.std.proofs.Common.{◌≡◌, ◌<◌, ◌≤◌, ◌+◌, ◌∙◌, inl, inr, ℕ, suc, true, false, List, ◌∷◌, drop, length, sym, ap, subst, arith, Result, Ok, Err, Option, Some, None}
use Rattle.std.specs.Prelude.{slice_get}
use Rattle.std.proofs.lemmas.List.{drop_all, drop_more}
use Rattle.std.proofs.lemmas.Option.{get_or_from_slice_get}
use Rattle.dz_algebra.specs.Parts.{leader}
use Rattle.dz_algebra.specs.Polynomial.{Polynomial}
use Rattle.dz_algebra.specs.Size.{wide, large}
use Rattle.dz_rank.specs.declared.symbols.Symbol.{Symbol}
use Rattle.dz_algebra.specs.Outcome.{◌>>=◌, given, needs, numbered}
use Rattle.dz_diff.specs.Operations.{Setting}
use Rattle.dz_diff.specs.State.{State, at_place}
use Rattle.dz_step.specs.Replays.{IsReplayFault, end_of, replay_fault}
use Rattle.dz_step.specs.Run.{Ran, run_from}
use Rattle.dz_step.specs.Step.{Stop, refused, no_step, is_divisor, is_permitted, step_answer, step_in}
use Rattle.dz_step.specs.StepStops.{IsStepStop}
use Rattle.dz_step.specs.declared.Role.{Role}
use Rattle.dz_step.specs.declared.Step.{Step}
use Rattle.dz_step.specs.declared.replaying.ReplayFault.{ReplayFault}
use Rattle.dz_step.specs.declared.stepping.StepStop.{StepStop}
use Rattle.dz_step.specs.declared.stepping.StepStop.TheVariants as stops

-- ---- one step in a role
module _ (g : Setting) (s : State) (role : Role) (f : Polynomial Symbol) (st : Step) where
  -- what follows once an equation has a leader
  abbrev with_leader : Polynomial Symbol → Symbol → Result (Polynomial Symbol) Stop
  with_leader q l = needs (is_permitted g s role q l st.operator) no_step >>= (λ _. step_answer g f q st.operator)

  -- once there is an equation
  abbrev with_equation : Polynomial Symbol → Result (Polynomial Symbol) Stop
  with_equation q = given (leader g.symbols q) no_step >>= with_leader q

  -- once the place may divide
  abbrev at_divisor : Result (Polynomial Symbol) Stop
  at_divisor = given (at_place st.place s.equations) no_step >>= with_equation

  -- the place is no divisor
  pub no_divisor : is_divisor role st.place ≡ false → step_in g s role f st ≡ Err no_step
  no_divisor e = ap (λ b. needs b no_step >>= (λ _. at_divisor)) e

  module _ (divisor : is_divisor role st.place ≡ true) where
    -- the place is a divisor
    divides_there : step_in g s role f st ≡ at_divisor
    divides_there = ap (λ b. needs b no_step >>= (λ _. at_divisor)) divisor

    -- nothing stands there
    pub no_equation : at_place st.place s.equations ≡ None → step_in g s role f st ≡ Err no_step
    no_equation e = divides_there ∙ ap (λ o. given o no_step >>= with_equation) e

    module _ (q : Polynomial Symbol) (there : at_place st.place s.equations ≡ Some q) where
      -- an equation stands there
      stands_there : step_in g s role f st ≡ with_equation q
      stands_there = divides_there ∙ ap (λ o. given o no_step >>= with_equation) there

      -- it is ground
      pub no_leader : leader g.symbols q ≡ None → step_in g s role f st ≡ Err no_step
      no_leader e = stands_there ∙ ap (λ o. given o no_step >>= with_leader q) e

      module _ (l : Symbol) (leads : leader g.symbols q ≡ Some l) where
        -- it has a leader
        has_leader : step_in g s role f st ≡ with_leader q l
        has_leader = stands_there ∙ ap (λ o. given o no_step >>= with_leader q) leads

        -- its multiplier is not permitted
        pub no_permission : is_permitted g s role q l st.operator ≡ false → step_in g s role f st ≡ Err no_step
        no_permission e = has_leader ∙ ap (λ b. needs b no_step >>= (λ _. step_answer g f q st.operator)) e

        -- its multiplier is permitted
        pub has_permission : is_permitted g s role q l st.operator ≡ true → step_in g s role f st ≡ step_answer g f q st.operator
        has_permission e = has_leader ∙ ap (λ b. needs b no_step >>= (λ _. step_answer g f q st.operator)) e

-- ---- faults
-- the stop of a step, with its number
pub numbered_fault : {A : Type 0} (n : ℕ) (stop : StepStop) (x : Result A Stop) → IsStepStop stop x → IsReplayFault (replay_fault n stop) (numbered n x)
numbered_fault n stop x (inl e) = inl (ap (replay_fault n) e)
numbered_fault n stop (Ok a) (inr e) = absurd (nothing e)
  where
    nothing : ◌≡◌ {A = Option StepStop} None (Some stop) → ⊥
    nothing e = cc
numbered_fault n stop (Err (refused wide)) (inr e) = inr (ap Some (ap (replay_fault n) (same e)))
  where
    same : ◌≡◌ {A = Option StepStop} (Some stops.Wide) (Some stop) → stops.Wide ≡ stop
    same e = cc
numbered_fault n stop (Err (refused (large l))) (inr e) = inr (ap Some (ap (replay_fault n) (same e)))
  where
    same : ◌≡◌ {A = Option StepStop} (Some (stops.Large l)) (Some stop) → stops.Large l ≡ stop
    same e = cc
numbered_fault n stop (Err no_step) (inr e) = inr (ap Some (ap (replay_fault n) (same e)))
  where
    same : ◌≡◌ {A = Option StepStop} (Some stops.NotStep) (Some stop) → stops.NotStep ≡ stop
    same e = cc

-- it is that of the run
fault_first : (fault : ReplayFault) (x : Result (Polynomial Symbol) (ℕ × Stop)) (next : Polynomial Symbol → Result Ran (ℕ × Stop)) → IsReplayFault fault x → IsReplayFault fault (x >>= next)
fault_first fault x next (inl e) = inl e
fault_first fault (Ok a) next (inr e) = absurd (nothing e)
  where
    nothing : ◌≡◌ {A = Option ReplayFault} None (Some fault) → ⊥
    nothing e = cc
fault_first fault (Err e) next (inr h) = inr h

-- and that of its end alone
pub end_fault : (fault : ReplayFault) (x : Result Ran (ℕ × Stop)) → IsReplayFault fault x → IsReplayFault fault (end_of x)
end_fault fault x (inl e) = inl e
end_fault fault (Ok a) (inr e) = inr e
end_fault fault (Err k) (inr e) = inr e

-- ---- the steps of a run
module _ (g : Setting) (s : State) (role : Role) (steps : List Step) (i : ℕ) (p : Polynomial Symbol) (count : ℕ) (answer : Result Ran (ℕ × Stop)) (so_far : run_from g s role (i + 1) p count (drop i steps) ≡ answer) where
  -- behind the last step the end is there
  pub all_taken : length steps ≤ i → answer ≡ Ok (record { end = p; count = count })
  all_taken h = sym so_far ∙ ap (run_from g s role (i + 1) p count) (drop_all i steps h)

  module _ (st : Step) (there : slice_get steps i ≡ Some st) (inside : i < length steps) where
    -- the step is next
    next_is : drop i steps ≡ st ∷ drop (i + 1) steps
    next_is = drop_more steps i st inside ∙ ap (λ t. t ∷ drop (i + 1) steps) (get_or_from_slice_get steps i st st there)

    -- what follows its result
    abbrev after : Polynomial Symbol → Result Ran (ℕ × Stop)
    after r = run_from g s role (suc (i + 1)) r (count + 1 + length r) (drop (i + 1) steps)

    -- the answer is that of the step and what follows
    from_here : (numbered (i + 1) (step_in g s role p st) >>= after) ≡ answer
    from_here = sym (ap (run_from g s role (i + 1) p count) next_is) ∙ so_far

    -- the step has no result, and so the run has no end
    pub step_refused : (fault : ReplayFault) → IsReplayFault fault (numbered (i + 1) (step_in g s role p st)) → IsReplayFault fault answer
    step_refused fault h = subst (IsReplayFault fault) from_here (fault_first fault (numbered (i + 1) (step_in g s role p st)) after h)

    -- the step has a result, from which the run goes on
    pub step_taken : (x : Polynomial Symbol) → step_in g s role p st ≡ Ok x → run_from g s role (i + 1 + 1) x (count + 1 + length x) (drop (i + 1) steps) ≡ answer
    step_taken x e =
        let n : i + 1 + 1 ≡ suc (i + 1) = omega arith in
        ap (λ n. run_from g s role n x (count + 1 + length x) (drop (i + 1) steps)) n
        ∙ sym (ap (λ y. numbered (i + 1) y >>= after) e)
        ∙ from_here
