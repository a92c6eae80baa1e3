-- What the parts of a turn answer is what the turn does.
use Rattle.std.specs.Prelude.{slice_index_or}
use Rattle.std.proofs.Common.{◌≡◌, ◌<◌, ◌∙◌, ◌++◌, ℕ, List, ◌∷◌, length, refl, sym, ap, subst, Ok, Some, Option, Result}
use Rattle.std.proofs.lemmas.Option.{slice_get_read}
use Rattle.dz_algebra.specs.Polynomial.{Polynomial}
use Rattle.dz_algebra.specs.Size.{Refusal}
use Rattle.dz_rank.specs.declared.symbols.Symbol.{Symbol}
use Rattle.dz_monomials.specs.Stops.{IsStop}
use Rattle.dz_monomials.specs.declared.PolyStop.{PolyStop}
use Rattle.dz_diff.specs.Operations.{Setting}
use Rattle.dz_algebra.specs.Outcome.{◌>>=◌, told_as}
use Rattle.dz_diff.specs.State.{State}
use Rattle.dz_step.specs.declared.Step.{Step}
use Rattle.dz_step.specs.Step.{Reduction, Stop, refused, reduction_at}
use Rattle.dz_step.specs.StepStops.{IsStepStop, step_stop}
use Rattle.dz_step.proofs.StepAnswers.{stop_first, told_stop}
use Rattle.dz_ask.specs.Preparation.{Term}
use Rattle.dz_ask.specs.Products.{Product, raised_product}
use Rattle.dz_ask.specs.Turns.{Turn, added, multiplied, nonzero_terms, turned_terms}
use Rattle.dz_ask.specs.Working.{turn_by}
use Rattle.dz_ask.specs.declared.working.WorkingTerm.{WorkingTerm}

-- what stands at a position is one thing
pub same_there : {A : Type 0} (xs : List A) (i : ℕ) (x y : A) → i < length xs → x ≡ slice_index_or xs i x → y ≡ slice_index_or xs i y → x ≡ y
same_there xs i x y h e f = some_same x y (sym (slice_get_read xs (length xs) i x refl h e) ∙ slice_get_read xs (length xs) i y refl h f)
  where
    some_same : {A : Type 0} (a b : A) → ◌≡◌ {A = Option A} (Some a) (Some b) → a ≡ b
    some_same a b e = cc

-- ---- the parts
module _ (g : Setting) (s : State) (ts : List WorkingTerm) (i : ℕ) (h : i < length ts) (here : WorkingTerm) (there : here ≡ slice_index_or ts i here) (st : Step) (y : Reduction) (y_is : reduction_at g s here.coefficient.terms st ≡ Ok y) where
  -- the turn at the term
  abbrev turn : Turn
  turn = turn_by ts i here st

  -- what is left to do after the product
  abbrev after_product : List Term → List Term → Product → Result (Polynomial Symbol × List Term) Stop
  after_product before behind m = told_as refused (added g.symbols m y.shift (before ++ (turn.product, y.rest) ∷ behind)) >>= (λ us. Ok (y.factor, nonzero_terms us))

  -- what is left to do after the terms behind
  abbrev after_behind : List Term → List Term → Result (Polynomial Symbol × List Term) Stop
  after_behind before behind = told_as refused (raised_product st turn.product) >>= after_product before behind

  -- what is left to do after the terms before
  abbrev after_before : List Term → Result (Polynomial Symbol × List Term) Stop
  after_before before = told_as refused (multiplied g.symbols y.factor turn.behind) >>= after_behind before

  -- once the coefficient is reduced
  reduced : turned_terms g s turn ≡ (told_as refused (multiplied g.symbols y.factor turn.before) >>= after_before)
  reduced = ap (λ (x : Result Reduction Stop). x >>= (λ y. told_as refused (multiplied g.symbols y.factor turn.before) >>= (λ before. told_as refused (multiplied g.symbols y.factor turn.behind) >>= (λ behind. told_as refused (raised_product st turn.product) >>= (λ m. told_as refused (added g.symbols m y.shift (before ++ (turn.product, y.rest) ∷ behind)) >>= (λ us. Ok (y.factor, nonzero_terms us))))))) y_is

  -- at whichever term that stands there
  at_any : (P : Result (Polynomial Symbol × List Term) Stop → Type 0) → P (turned_terms g s turn) → (t : WorkingTerm) → t ≡ slice_index_or ts i t → P (turned_terms g s (turn_by ts i t st))
  at_any P p t e = subst (λ u. P (turned_terms g s (turn_by ts i u st))) (same_there ts i here t h there e) p

  module _ (before : List Term) (before_is : multiplied g.symbols y.factor turn.before ≡ Ok before) where
    -- the terms before are multiplied
    multiplied_before : turned_terms g s turn ≡ after_before before
    multiplied_before = reduced ∙ ap (λ (x : Result (List Term) Refusal). told_as refused x >>= after_before) before_is

    pub behind_refused : (stop : PolyStop) → IsStop stop (multiplied g.symbols y.factor turn.behind) → (t : WorkingTerm) → t ≡ slice_index_or ts i t → IsStepStop (step_stop stop) (turned_terms g s (turn_by ts i t st))
    behind_refused stop k = at_any (IsStepStop (step_stop stop)) (subst (IsStepStop (step_stop stop)) (sym multiplied_before) (stop_first (step_stop stop) (told_as refused (multiplied g.symbols y.factor turn.behind)) _ (told_stop stop (multiplied g.symbols y.factor turn.behind) k)))

    module _ (behind : List Term) (behind_is : multiplied g.symbols y.factor turn.behind ≡ Ok behind) where
      -- and those behind
      multiplied_behind : turned_terms g s turn ≡ after_behind before behind
      multiplied_behind = multiplied_before ∙ ap (λ (x : Result (List Term) Refusal). told_as refused x >>= after_behind before) behind_is

      pub product_refused : (stop : PolyStop) → IsStop stop (raised_product st turn.product) → (t : WorkingTerm) → t ≡ slice_index_or ts i t → IsStepStop (step_stop stop) (turned_terms g s (turn_by ts i t st))
      product_refused stop k = at_any (IsStepStop (step_stop stop)) (subst (IsStepStop (step_stop stop)) (sym multiplied_behind) (stop_first (step_stop stop) (told_as refused (raised_product st turn.product)) _ (told_stop stop (raised_product st turn.product) k)))

      module _ (m : Product) (m_is : raised_product st turn.product ≡ Ok m) where
        -- and the product is raised
        product_raised : turned_terms g s turn ≡ after_product before behind m
        product_raised = multiplied_behind ∙ ap (λ (x : Result Product Refusal). told_as refused x >>= after_product before behind) m_is

        pub terms_refused : (stop : PolyStop) → IsStop stop (added g.symbols m y.shift (before ++ (turn.product, y.rest) ∷ behind)) → (t : WorkingTerm) → t ≡ slice_index_or ts i t → IsStepStop (step_stop stop) (turned_terms g s (turn_by ts i t st))
        terms_refused stop k = at_any (IsStepStop (step_stop stop)) (subst (IsStepStop (step_stop stop)) (sym product_raised) (stop_first (step_stop stop) (told_as refused (added g.symbols m y.shift (before ++ (turn.product, y.rest) ∷ behind))) _ (told_stop stop (added g.symbols m y.shift (before ++ (turn.product, y.rest) ∷ behind)) k)))

        pub turned_ok : (us all : List Term) → added g.symbols m y.shift (before ++ (turn.product, y.rest) ∷ behind) ≡ Ok us → all ≡ nonzero_terms us → (t : WorkingTerm) → t ≡ slice_index_or ts i t → turned_terms g s (turn_by ts i t st) ≡ Ok (y.factor, all)
        turned_ok us all k e = at_any (λ x. x ≡ Ok (y.factor, all)) (product_raised ∙ ap (λ (x : Result (List Term) Refusal). told_as refused x >>= (λ us. Ok (y.factor, nonzero_terms us))) k ∙ ap (λ l. Ok (y.factor, l)) (sym e))
