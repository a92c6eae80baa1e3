-- The turn that is next is one: where it is refused, an operation of it is.
use Rattle.std.proofs.Common.{◌≡◌, ◌≢◌, ◌++◌, ℕ, List, [], ◌∷◌, sym, ap, subst, Result, Ok, Err, Option, Some}
use Rattle.dz_algebra.specs.Polynomial.{Polynomial, PolynomialIn}
use Rattle.dz_algebra.specs.Size.{Refusal}
use Rattle.dz_rank.specs.Rankings.{RankingValue}
use Rattle.dz_rank.specs.declared.symbols.Symbol.{Symbol}
use Rattle.dz_terms.specs.Entries.{IsEntry}
use Rattle.dz_monomials.specs.Lists.{AllOf}
use Rattle.dz_diff.specs.Operations.{setting_of}
use Rattle.dz_algebra.specs.Outcome.{◌>>=◌, given, told_as}
use Rattle.dz_diff.specs.State.{State}
use Rattle.dz_diff.proofs.LeaderDerivations.{IsRegular}
use Rattle.dz_step.proofs.FullCourses.{entry_regular, next_is, not_no_step}
use Rattle.dz_step.proofs.NextSteps.{Limited}
use Rattle.dz_step.specs.FullRun.{next_step}
use Rattle.dz_step.specs.Step.{Reduction, Stop, refused, no_step, normed, reduction_answer, reduction_at}
use Rattle.dz_step.specs.StepStops.{IsStepStop}
use Rattle.dz_step.specs.declared.Role.TheVariants.{Free}
use Rattle.dz_step.specs.declared.Step.{Step}
use Rattle.dz_step.specs.declared.stepping.StepStop.{StepStop}
use Rattle.dz_step.specs.declared.stepping.StepStop.TheVariants.{NotStep}
use Rattle.dz_ask.specs.Products.{raised_product}
use Rattle.dz_ask.specs.Turns.{Turn, added, multiplied, turned_terms}
use Rattle.dz_ask.specs.Working.{AreEntries, IsNextTurn, terms_in, turn_by}
use Rattle.dz_ask.specs.declared.working.WorkingTerm.{WorkingTerm}
use Rattle.dz_ask.proofs.Preparations.{turn_found}

-- an answer of two calls is limited, where both are
limited_bind : {A B : Type 0} (q : Result A Stop) (f : A → Result B Stop) → Limited q → ((x : A) → Limited (f x)) → Limited (q >>= f)
limited_bind (Ok x) f h k = k x
limited_bind (Err stop) f h k = h

-- an operation is limited
limited_told : {A : Type 0} (q : Result A Refusal) → Limited (told_as refused q)
limited_told (Ok x) = tt
limited_told (Err r) = tt

-- a reduction is limited, where its step is
limited_reduction : (q : Result Reduction Stop) → Limited (normed q) → Limited q
limited_reduction (Ok x) h = tt
limited_reduction (Err stop) h = h

module _ (r : RankingValue) (s : State) (regular : AllOf (PolynomialIn (IsRegular 4)) s.equations) where
  -- the reduction of the step that is next is limited
  reduction_limited : (f : Polynomial Symbol) (st : Step) → PolynomialIn (IsRegular 4) f → next_step (setting_of r) s Free f ≡ Some st → Limited (reduction_at (setting_of r) s f st)
  reduction_limited f st of_f e =
      let n = next_is r s Free f of_f regular st e in
      let here : reduction_at (setting_of r) s f st ≡ reduction_answer (setting_of r) f n.equation st.operator = ap (λ (o : Option (Polynomial Symbol)). given o no_step >>= (λ q. reduction_answer (setting_of r) f q st.operator)) n.stands in
      subst Limited (sym here) (limited_reduction (reduction_answer (setting_of r) f n.equation st.operator) (subst Limited n.answer n.limited))

  -- and so is its turn
  turn_limited : (t : Turn) → PolynomialIn (IsRegular 4) t.coefficient → next_step (setting_of r) s Free t.coefficient ≡ Some t.step → Limited (turned_terms (setting_of r) s t)
  turn_limited t of_f e =
      limited_bind (reduction_at (setting_of r) s t.coefficient t.step) _ (reduction_limited t.coefficient t.step of_f e) (λ y.
      limited_bind (told_as refused (multiplied (setting_of r).symbols y.factor t.before)) _ (limited_told _) (λ before.
      limited_bind (told_as refused (multiplied (setting_of r).symbols y.factor t.behind)) _ (limited_told _) (λ behind.
      limited_bind (told_as refused (raised_product t.step t.product)) _ (limited_told _) (λ product.
      limited_bind (told_as refused (added (setting_of r).symbols product y.shift (before ++ (t.product, y.rest) ∷ behind))) _ (limited_told _) (λ terms. tt)))))

  -- so an operation alone stops the next turn
  pub next_turn_stop : (ts : List WorkingTerm) (index : ℕ) (step : Step) → AreEntries r ts → (next : IsNextTurn (setting_of r) s ts (Some (index, step))) → (stop : StepStop)
      → IsStepStop stop (turned_terms (setting_of r) s (turn_by ts index next.0 step)) → stop ≢ NotStep
  next_turn_stop ts index step all next stop h =
      let t = next.0 in
      let entry : IsEntry r t.coefficient = subst (λ (t : WorkingTerm). IsEntry r t.coefficient) (sym next.2) (all index t next.1) in
      let found = turn_found r s [] (terms_in ts) (turn_by ts index t step) next.3 in
      not_no_step (turned_terms (setting_of r) s (turn_by ts index t step)) stop (turn_limited (turn_by ts index t step) (entry_regular r t.coefficient.terms entry.keepable) found.1) h
