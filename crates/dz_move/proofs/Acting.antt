-- What the calls find that perform actions, from what their parts answer.
use Rattle.std.proofs.Common.{◌≡◌, ◌≤◌, ◌+◌, ◌∙◌, inl, inr, ℕ, zero, suc, List, [], ◌∷◌, length, refl, sym, ap, ap₂, subst, arith, Result, Ok, Err, Option, Some, None}
use Rattle.dz_algebra.specs.Norm.{norm}
use Rattle.dz_algebra.specs.Polynomial.{Polynomial}
use Rattle.dz_algebra.specs.Size.{wide, large}
use Rattle.dz_rank.specs.declared.symbols.Symbol.{Symbol}
use Rattle.dz_poly.specs.Books.{BookValue, IsKept, polynomial}
use Rattle.dz_monomials.specs.Ranked.{symbols_under}
use Rattle.dz_diff.specs.Operations.{Setting, setting_of}
use Rattle.dz_algebra.specs.Outcome.{◌>>=◌, given, told_as}
use Rattle.dz_diff.specs.State.{State, at_place, put_equation, put_inequation}
use Rattle.dz_diff.specs.States.{MeanAll, StandsIn, StateValue, polynomials, state_in}
use Rattle.dz_diff.specs.Tests.{Polynomials}
use Rattle.dz_algebra.proofs.Outcomes.{given_then}
use Rattle.dz_diff.proofs.KeptStates.{kept_polynomials, kept_state}
use Rattle.dz_step.specs.Replays.{IsReplayFault, IsRunEnd}
use Rattle.dz_step.specs.Run.{Ran, run, run_from}
use Rattle.dz_step.specs.Step.{Stop, refused, no_step}
use Rattle.dz_step.specs.declared.Role.{Role}
use Rattle.dz_step.specs.declared.Role.TheVariants.{Equation, Inequation}
use Rattle.dz_step.specs.declared.Step.{Step}
use Rattle.dz_step.specs.declared.replaying.ReplayFault.{ReplayFault}
use Rattle.dz_step.specs.declared.replaying.ReplayFault.TheVariants as replays
use Rattle.dz_step.specs.declared.replaying.RunEnd.{RunEnd}
use Rattle.dz_step.proofs.BookPlaces.{none_at, some_at}
use Rattle.dz_move.specs.declared.Rule.TheVariants as rules
use Rattle.dz_move.specs.declared.fault.MoveFault.TheVariants.{NotPermitted}
use Rattle.dz_move.specs.declared.fault.ActionStop.{ActionStop}
use Rattle.dz_move.specs.declared.roots.Members.TheVariants.{Equations, Inequations}
use Rattle.dz_move.specs.Actions.{IsActionStop, replay_stop, stop_in}
use Rattle.dz_move.specs.Fault.{Fault, rule, run_fault}
use Rattle.dz_move.specs.Members.{put_at}
use Rattle.dz_move.specs.Moves.{moved, reduced, weeded, with_equations, with_inequations}
use Rattle.dz_move.specs.Parts.{placed_run}

-- ---- stops
-- the fault of a run
pub run_stopped : (fault : ReplayFault) (x : Result Ran (ℕ × Stop)) → IsReplayFault fault x → IsActionStop (replay_stop fault) (told_as run_fault x)
run_stopped fault x (inl e) = inl (ap (λ f. (replay_stop f).fault) e)
run_stopped fault (Ok a) (inr e) = absurd (nothing e)
  where
    nothing : ◌≡◌ {A = Option ReplayFault} None (Some fault) → ⊥
    nothing e = cc
run_stopped fault (Err (n, refused wide)) (inr e) = inr (ap Some (ap replay_stop (same e)))
  where
    same : ◌≡◌ {A = Option ReplayFault} (Some (replays.Wide n)) (Some fault) → replays.Wide n ≡ fault
    same e = cc
run_stopped fault (Err (n, refused (large l))) (inr e) = inr (ap Some (ap replay_stop (same e)))
  where
    same : ◌≡◌ {A = Option ReplayFault} (Some (replays.Large n l)) (Some fault) → replays.Large n l ≡ fault
    same e = cc
run_stopped fault (Err (n, no_step)) (inr e) = inr (ap Some (ap replay_stop (same e)))
  where
    same : ◌≡◌ {A = Option ReplayFault} (Some (replays.NotStep n)) (Some fault) → replays.NotStep n ≡ fault
    same e = cc

-- a stop ends what would follow
pub bind_stopped : {A B : Type 0} (stop : ActionStop) (q : Result A (ℕ × Fault)) (next : A → Result B (ℕ × Fault)) → IsActionStop stop q → IsActionStop stop (q >>= next)
bind_stopped stop q next (inl e) = inl e
bind_stopped stop (Ok a) next (inr e) = absurd (nothing e)
  where
    nothing : ◌≡◌ {A = Option ActionStop} None (Some stop) → ⊥
    nothing e = cc
bind_stopped stop (Err k) next (inr e) = inr e

-- two computations after what there is
given_then_both : {A B C E : Type 0} (o : Option A) (k : E) (m : A → Result B E) (next : B → Result C E) → (given o k >>= (λ a. m a >>= next)) ≡ ((given o k >>= m) >>= next)
given_then_both (Some a) k m next = refl
given_then_both None k m next = refl

-- ---- a run at a place
-- a place of a list counts from 1 to its length
pub place_inside : (ps : List ℕ) (i p : ℕ) → at_place i ps ≡ Some p → (1 ≤ i) × (i ≤ length ps)
place_inside [] i p e = absurd cc
place_inside (x ∷ ps) zero p e = absurd cc
place_inside (x ∷ ps) (suc zero) p e = (omega arith, omega arith)
place_inside (x ∷ ps) (suc (suc i)) p e = let h = (place_inside ps (suc i) p e).1 in (omega arith, omega (arith, h))

module _ (book : BookValue) (s : State) (role : Role) (i : ℕ) (ps : List ℕ) (steps : List Step) where
  -- nothing stands there
  pub none_placed : None ≡ at_place i ps → IsActionStop {A = Ran} (record { steps = 0; fault = NotPermitted rules.Place }) (placed_run (setting_of book.ranking) s role i (polynomials book ps) steps)
  none_placed e = inr (ap (λ o. stop_in (given o (0, rule rules.Place) >>= (λ f. told_as run_fault (run (setting_of book.ranking) s role f steps)))) (none_at book ps i (sym e)))

  module _ (p : ℕ) (there : at_place i ps ≡ Some p) (n : Polynomial Symbol) (is : n ≡ norm (polynomial book p)) where
    placed_is : placed_run (setting_of book.ranking) s role i (polynomials book ps) steps ≡ told_as run_fault (run_from (setting_of book.ranking) s role 1 n 0 steps)
    placed_is = ap (λ o. given o (0, rule rules.Place) >>= (λ f. told_as run_fault (run (setting_of book.ranking) s role f steps))) (some_at book ps i p there)
        ∙ ap (λ n. told_as run_fault (run_from (setting_of book.ranking) s role 1 n 0 steps)) (sym is)

    -- the run stops
    pub placed_stopped : (fault : ReplayFault) → IsReplayFault fault (run_from (setting_of book.ranking) s role 1 n 0 steps) → IsActionStop (replay_stop fault) (placed_run (setting_of book.ranking) s role i (polynomials book ps) steps)
    placed_stopped fault h = subst (IsActionStop (replay_stop fault)) (sym placed_is) (run_stopped fault (run_from (setting_of book.ranking) s role 1 n 0 steps) h)

    -- the run ends
    pub placed_ran : (x : RunEnd) → IsRunEnd x (run_from (setting_of book.ranking) s role 1 n 0 steps) → IsRunEnd x (placed_run (setting_of book.ranking) s role i (polynomials book ps) steps)
    placed_ran x h = record { count = h.count; is = placed_is ∙ ap (told_as run_fault) h.is; counted = h.counted }

-- where a run ends, something stands at its place
pub placed_there : (book : BookValue) (s : State) (role : Role) (i : ℕ) (ps : List ℕ) (steps : List Step) (x : RunEnd) → IsRunEnd x (placed_run (setting_of book.ranking) s role i (polynomials book ps) steps) → (1 ≤ i) × (i ≤ length ps)
placed_there book s role i ps steps x h = by_place (at_place i ps) refl
  where
    by_place : (o : Option ℕ) → at_place i ps ≡ o → (1 ≤ i) × (i ≤ length ps)
    by_place (Some p) e = place_inside ps i p e
    by_place None e =
        let a = given_then (at_place i (polynomials book ps)) (0, rule rules.Place) _ _ h.is in
        absurd (nothing a.0 (sym a.1 ∙ none_at book ps i e))
      where
        nothing : (q : Polynomial Symbol) → ◌≡◌ {A = Option (Polynomial Symbol)} (Some q) None → ⊥
        nothing q e = cc

-- ---- moves
-- a reduce is a run, and what is made of its end
pub reduced_is : (g : Setting) (s : State) (i : ℕ) (steps : List Step)
    → reduced g s i steps ≡ (placed_run g s (Equation i) i s.equations steps >>= (λ r. moved g s (length steps) (with_equations s (put_equation g.symbols i r.end s.equations)) (1 + r.count)))
unfolding reduced
reduced_is g s i steps = given_then_both (at_place i s.equations) (0, rule rules.Place) (λ f. told_as run_fault (run g s (Equation i) f steps)) (λ r. moved g s (length steps) (with_equations s (put_equation g.symbols i r.end s.equations)) (1 + r.count))

-- so is a weed
pub weeded_is : (g : Setting) (s : State) (i : ℕ) (steps : List Step)
    → weeded g s i steps ≡ (placed_run g s (Inequation i) i s.inequations steps >>= (λ r. moved g s (length steps) (with_inequations s (put_inequation g.symbols i r.end s.inequations)) (1 + r.count)))
unfolding weeded
weeded_is g s i steps = given_then_both (at_place i s.inequations) (0, rule rules.Place) (λ f. told_as run_fault (run g s (Inequation i) f steps)) (λ r. moved g s (length steps) (with_inequations s (put_inequation g.symbols i r.end s.inequations)) (1 + r.count))

-- what follows a run whose end is known
after_run : {B : Type 0} (x : RunEnd) (q : Result Ran (ℕ × Fault)) (next : Ran → Result B (ℕ × Fault)) (h : IsRunEnd x q) → (q >>= next) ≡ next (record { end = (x.end).terms; count = h.count })
after_run x q next h = ap (λ q. q >>= next) h.is

module _ (old new : BookValue) (keeps : IsKept old new) (s : StateValue) (stands : StandsIn old s) (i : ℕ) (steps : List Step) (ran : RunEnd) (es hs : List ℕ) (splits k : ℕ) (same_splits : splits ≡ s.splits) (length_is : k ≡ length steps) where
  abbrev g : Setting
  g = setting_of old.ranking

  abbrev after : StateValue
  after = record { equations = es; inequations = hs; splits = splits }

  moves : (t : State) (n : ℕ) → state_in new after ≡ t → moved (setting_of new.ranking) (state_in new s) k (state_in new after) (1 + n) ≡ moved g (state_in old s) (length steps) t (1 + n)
  moves t n e =
      ap₂ (λ r k. moved (setting_of r) (state_in new s) k (state_in new after) (1 + n)) keeps.ranking length_is
      ∙ ap₂ (λ (u v : State). moved g u (length steps) v (1 + n)) (kept_state old new keeps s stands) e

  -- a reduce is this move
  pub reduced_moves : (h : IsRunEnd ran (placed_run g (state_in old s) (Equation i) i (polynomials old s.equations) steps))
      → MeanAll new es (put_at (symbols_under old.ranking) Equations i (ran.end).terms (polynomials old s.equations)) → hs ≡ s.inequations
      → moved (setting_of new.ranking) (state_in new s) k (state_in new after) (1 + h.count) ≡ reduced g (state_in old s) i steps
  reduced_moves h equations inequations =
      moves (with_equations (state_in old s) (put_equation (symbols_under old.ranking) i (ran.end).terms (polynomials old s.equations))) h.count
      (ap₂ (λ (a b : Polynomials). record { equations = a; inequations = b; splits = splits }) equations.are (ap (polynomials new) inequations ∙ kept_polynomials old new keeps s.inequations stands.inequations_live)
      ∙ ap (λ n. record { equations = put_equation (symbols_under old.ranking) i (ran.end).terms (polynomials old s.equations); inequations = polynomials old s.inequations; splits = n }) same_splits)
      ∙ sym (reduced_is g (state_in old s) i steps ∙ after_run ran (placed_run g (state_in old s) (Equation i) i (polynomials old s.equations) steps) (λ r. moved g (state_in old s) (length steps) (with_equations (state_in old s) (put_equation (symbols_under old.ranking) i r.end (polynomials old s.equations))) (1 + r.count)) h)

  -- a weed is this move
  pub weeded_moves : (h : IsRunEnd ran (placed_run g (state_in old s) (Inequation i) i (polynomials old s.inequations) steps))
      → MeanAll new hs (put_at (symbols_under old.ranking) Inequations i (ran.end).terms (polynomials old s.inequations)) → es ≡ s.equations
      → moved (setting_of new.ranking) (state_in new s) k (state_in new after) (1 + h.count) ≡ weeded g (state_in old s) i steps
  weeded_moves h inequations equations =
      moves (with_inequations (state_in old s) (put_inequation (symbols_under old.ranking) i (ran.end).terms (polynomials old s.inequations))) h.count
      (ap₂ (λ (a b : Polynomials). record { equations = a; inequations = b; splits = splits }) (ap (polynomials new) equations ∙ kept_polynomials old new keeps s.equations stands.equations_live) inequations.are
      ∙ ap (λ n. record { equations = polynomials old s.equations; inequations = put_inequation (symbols_under old.ranking) i (ran.end).terms (polynomials old s.inequations); splits = n }) same_splits)
      ∙ sym (weeded_is g (state_in old s) i steps ∙ after_run ran (placed_run g (state_in old s) (Inequation i) i (polynomials old s.inequations) steps) (λ r. moved g (state_in old s) (length steps) (with_inequations (state_in old s) (put_inequation (symbols_under old.ranking) i r.end (polynomials old s.inequations))) (1 + r.count)) h)
