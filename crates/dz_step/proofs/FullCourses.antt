-- Full runs, one turn after the other.
use Rattle.std.specs.Prelude.{IfErr, IfOk}
use Rattle.std.proofs.Common.{◌≡◌, ◌≢◌, inl, inr, ◌<◌, ◌≤◌, ◌+◌, ◌++◌, ◌∙◌, ℕ, suc, Bool, true, false, cond, nat_lt, List, [], ◌∷◌, length, refl, sym, ap, arith, Result, Ok, Err, Option, Some, None}
use Rattle.std.proofs.lemmas.Bool.Decides.{nat_tests}
use Rattle.std.proofs.lemmas.List.Elements.{All-head, All-tail}
use Rattle.dz_algebra.specs.Polynomial.{Polynomial, PolynomialIn}
use Rattle.dz_algebra.specs.Parts.{leader}
use Rattle.dz_rank.specs.Rankings.{RankingValue}
use Rattle.dz_rank.specs.declared.symbols.Symbol.{Symbol}
use Rattle.dz_monomials.specs.Ranked.{symbols_under}
use Rattle.dz_monomials.specs.Lists.{AllOf}
use Rattle.dz_diff.specs.Operations.{Setting, setting_of}
use Rattle.dz_algebra.specs.Outcome.{◌>>=◌, given, needs}
use Rattle.dz_diff.specs.State.{State, at_place}
use Rattle.dz_algebra.proofs.Outcomes.{both}
use Rattle.dz_diff.proofs.LeaderDerivations.{IsRegular}
use Rattle.dz_step.specs.declared.Role.{Role}
use Rattle.dz_step.specs.declared.Step.{Step}
use Rattle.dz_step.specs.FullRun.{Course, finished, stopped, passed, full_run_from, next_step, derivatives_of}
use Rattle.dz_algebra.specs.Size.{wide, large}
use Rattle.dz_poly.specs.Books.{BookValue, IsBook, Lives, polynomial}
use Rattle.dz_monomials.specs.Keeping.{IsKeepable}
use Rattle.dz_diff.specs.States.{LiveAll, polynomials}
use Rattle.dz_diff.proofs.Overs.{regular_over}
use Rattle.dz_step.specs.StepStops.{IsStepStop}
use Rattle.dz_step.specs.declared.stepping.StepStop.{StepStop}
use Rattle.dz_step.specs.declared.stepping.StepStop.TheVariants.{Memory, Wide, Large, NotStep}
use Rattle.dz_step.specs.Step.{Stop, refused, no_step, is_divisor, is_permitted, step_answer, step_in}
use Rattle.dz_step.proofs.NextSteps.{FoundStep, Limited, found_first, in_derivatives, next_step_is_step}

module _ (g : Setting) (s : State) (role : Role) (budget : ℕ) (done : List Step) (f : Polynomial Symbol) (count : ℕ) where
  -- a turn, by the next step and by its answer
  abbrev pub after : ℕ → Step → Result (Polynomial Symbol) Stop → Course
  after rounds st (Err stop) = stopped (done ++ st ∷ []) stop
  after rounds st (Ok x) = cond (nat_lt budget (count + 1 + length x)) (passed (done ++ st ∷ [])) (full_run_from g s role budget rounds (done ++ st ∷ []) x (count + 1 + length x))

  -- and by the next step alone
  abbrev pub turned : ℕ → Option Step → Course
  turned rounds None = finished done f count
  turned rounds (Some st) = after rounds st (step_in g s role f st)

  -- a round of a full run is a turn
  pub in_turns : (rounds : ℕ) → full_run_from g s role budget (suc rounds) done f count ≡ turned rounds (next_step g s role f)
  in_turns rounds = by_step (next_step g s role f)
    where
      by_answer : (st : Step) (q : Result (Polynomial Symbol) Stop) → (elim q as (λ _. Course) [
        | Err stop ↦ stopped (done ++ st ∷ []) stop
        | Ok x ↦ cond (nat_lt budget (count + 1 + length x)) (passed (done ++ st ∷ [])) (full_run_from g s role budget rounds (done ++ st ∷ []) x (count + 1 + length x))
      ]) ≡ after rounds st q
      by_answer st (Err stop) = refl
      by_answer st (Ok x) = refl

      by_step : (o : Option Step) → (elim o as (λ _. Course) [
        | None ↦ finished done f count
        | Some st ↦ elim (step_in g s role f st) as (λ _. Course) [
          | Err stop ↦ stopped (done ++ st ∷ []) stop
          | Ok x ↦ cond (nat_lt budget (count + 1 + length x)) (passed (done ++ st ∷ [])) (full_run_from g s role budget rounds (done ++ st ∷ []) x (count + 1 + length x))
        ]
      ]) ≡ turned rounds o
      by_step None = refl
      by_step (Some st) = by_answer st (step_in g s role f st)

  -- where there is no further step, the run is at its end
  pub at_end : (rounds : ℕ) → next_step g s role f ≡ None → full_run_from g s role budget (suc rounds) done f count ≡ finished done f count
  at_end rounds e = in_turns rounds ∙ ap (turned rounds) e

  -- a step that has no result stops it
  pub refused_at : (rounds : ℕ) (st : Step) (stop : Stop) → next_step g s role f ≡ Some st → step_in g s role f st ≡ Err stop → full_run_from g s role budget (suc rounds) done f count ≡ stopped (done ++ st ∷ []) stop
  refused_at rounds st stop e h = in_turns rounds ∙ ap (turned rounds) e ∙ ap (after rounds st) h

  -- a step within the budget goes on
  pub goes_on : (rounds : ℕ) (st : Step) (x : Polynomial Symbol) → next_step g s role f ≡ Some st → step_in g s role f st ≡ Ok x → count + 1 + length x ≤ budget
      → full_run_from g s role budget (suc rounds) done f count ≡ full_run_from g s role budget rounds (done ++ st ∷ []) x (count + 1 + length x)
  goes_on rounds st x e h l =
      let low : nat_lt budget (count + 1 + length x) ≡ false = grind (arith, nat_tests) in
      in_turns rounds ∙ ap (turned rounds) e ∙ ap (after rounds st) h
      ∙ ap (λ b. cond b (passed (done ++ st ∷ [])) (full_run_from g s role budget rounds (done ++ st ∷ []) x (count + 1 + length x))) low

  -- and one past the budget ends it
  pub spent_at : (rounds : ℕ) (st : Step) (x : Polynomial Symbol) → next_step g s role f ≡ Some st → step_in g s role f st ≡ Ok x → budget < count + 1 + length x
      → full_run_from g s role budget (suc rounds) done f count ≡ passed (done ++ st ∷ [])
  spent_at rounds st x e h l =
      let high : nat_lt budget (count + 1 + length x) ≡ true = grind (arith, nat_tests) in
      in_turns rounds ∙ ap (turned rounds) e ∙ ap (after rounds st) h
      ∙ ap (λ b. cond b (passed (done ++ st ∷ [])) (full_run_from g s role budget rounds (done ++ st ∷ []) x (count + 1 + length x))) high

-- ---- the step that is next
module _ (r : RankingValue) (s : State) (role : Role) (f : Polynomial Symbol) (regular : PolynomialIn (IsRegular 4) f) (all_regular : AllOf (PolynomialIn (IsRegular 4)) s.equations) where
  -- its divisor, and that its tests hold
  pub record NextIs (st : Step) : Type 0 where
    pub equation : Polynomial Symbol
    pub stands : at_place st.place s.equations ≡ Some equation
    pub answer : step_in (setting_of r) s role f st ≡ step_answer (setting_of r) f equation st.operator
    pub limited : Limited (step_in (setting_of r) s role f st)

  pub next_is : (st : Step) → next_step (setting_of r) s role f ≡ Some st → NextIs st
  next_is st e =
      let k = found_first r s role f (IsRegular 4) st (derivatives_of (symbols_under r) f) e (in_derivatives (symbols_under r) (IsRegular 4) (IsRegular 4) (λ s h _. h) f regular) in by_found k.0 k.2
    where
      by_found : (v : Symbol) → FoundStep r s role f v st 0 s.equations → NextIs st
      by_found v k =
          let place : st.place ≡ k.index = k.place_is ∙ omega arith in
          let there : at_place st.place s.equations ≡ Some k.equation = ap (λ i. at_place i s.equations) place ∙ k.is_there in
          let b = both _ (is_permitted (setting_of r) s role k.equation k.top st.operator) k.tests in
          let d = both (is_divisor role st.place) _ b.0 in
          record {
            equation = k.equation;
            stands = there;
            answer =
                ap (λ (b : Bool). needs b no_step >>= (λ _. given (at_place st.place s.equations) no_step >>= (λ q. given (leader (symbols_under r) q) no_step >>= (λ l. needs (is_permitted (setting_of r) s role q l st.operator) no_step >>= (λ _. step_answer (setting_of r) f q st.operator))))) d.0
                ∙ ap (λ (o : Option (Polynomial Symbol)). given o no_step >>= (λ q. given (leader (symbols_under r) q) no_step >>= (λ l. needs (is_permitted (setting_of r) s role q l st.operator) no_step >>= (λ _. step_answer (setting_of r) f q st.operator)))) there
                ∙ ap (λ (o : Option Symbol). given o no_step >>= (λ l. needs (is_permitted (setting_of r) s role k.equation l st.operator) no_step >>= (λ _. step_answer (setting_of r) f k.equation st.operator))) k.leader_is
                ∙ ap (λ (b : Bool). needs b no_step >>= (λ _. step_answer (setting_of r) f k.equation st.operator)) b.1;
            limited = next_step_is_step r s role f st e regular all_regular;
          }

-- an operation alone refuses what is limited
pub not_no_step : {A : Type 0} (q : Result A Stop) (stop : StepStop) → Limited q → IsStepStop stop q → stop ≢ NotStep
not_no_step q stop l (inl e) n = let z : Memory ≡ NotStep = sym e ∙ n in cc
not_no_step (Ok x) stop l (inr e) n = cc
not_no_step (Err (refused wide)) stop l (inr e) n = let z : Wide ≡ NotStep = same e ∙ n in cc
  where
    same : ◌≡◌ {A = Option StepStop} (Some Wide) (Some stop) → Wide ≡ stop
    same e = cc
not_no_step (Err (refused (large m))) stop l (inr e) n = let z : Large m ≡ NotStep = same e ∙ n in cc
  where
    same : ◌≡◌ {A = Option StepStop} (Some (Large m)) (Some stop) → Large m ≡ stop
    same e = cc
not_no_step (Err no_step) stop l (inr e) n = absurd l

-- ---- in a book
-- the terms of an entry have operators of four exponents
pub entry_regular : (r : RankingValue) (p : Polynomial Symbol) → IsKeepable r p → PolynomialIn (IsRegular 4) p
entry_regular r p h = regular_over r p (record { canonical = h.canonical; belongs = h.belongs })

-- and so have the polynomials of a list
pub list_regular : (book : BookValue) (ps : List ℕ) → IsBook book → LiveAll book ps → AllOf (PolynomialIn (IsRegular 4)) (polynomials book ps)
list_regular book [] h l = tt
list_regular book (p ∷ ps) h l = (entry_regular book.ranking (polynomial book p) (h.each p [] (All-head (λ p. Lives book p) p ps l)), list_regular book ps h (All-tail (λ p. Lives book p) p ps l))

-- what follows for an error follows for that of a result
pub err_weaker : {A E : Type 0} {P Q : E → Type 0} (q : Result A E) → ((e : E) → P e → Q e) → IfErr q P → IfErr q Q
err_weaker (Ok x) f h = h
err_weaker (Err e) f h = f e h

-- and what follows for a result follows for that of a call
pub ok_weaker : {A E : Type 0} {P Q : A → Type 0} (q : Result A E) → ((x : A) → P x → Q x) → IfOk q P → IfOk q Q
ok_weaker (Ok x) f h = f x h
ok_weaker (Err e) f h = h
