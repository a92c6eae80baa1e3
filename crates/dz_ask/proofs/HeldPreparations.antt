-- What is made of a polynomial in a book is a preparation of it.
use Rattle.std.specs.Prelude.{IfOk, IfErr}
use Rattle.std.proofs.Common.{◌≢◌, ℕ, List, [], ◌∷◌, Result, Ok, Err}
use Rattle.std.proofs.lemmas.List.Elements.{All-head, All-tail}
use Rattle.dz_algebra.specs.Polynomial.{Polynomial}
use Rattle.dz_algebra.specs.Size.{wide, large}
use Rattle.dz_rank.specs.Rankings.{RankingValue}
use Rattle.dz_rank.specs.declared.symbols.Symbol.{Symbol}
use Rattle.dz_poly.specs.Books.{BookValue, IsBook, Lives, polynomial}
use Rattle.dz_monomials.specs.Lists.{AllOf}
use Rattle.dz_diff.specs.Operations.{setting_of}
use Rattle.dz_diff.specs.Over.{IsOver}
use Rattle.dz_diff.specs.State.{State}
use Rattle.dz_diff.specs.States.{LiveAll, polynomials}
use Rattle.dz_step.specs.Step.{refused}
use Rattle.dz_step.specs.declared.attempts.AttemptStop.{AttemptStop}
use Rattle.dz_step.specs.declared.attempts.AttemptStop.TheVariants.{Memory, Wide, Large, Spent}
use Rattle.dz_ask.specs.Attempts.{IsPreparationAnswer, IsStopOf, prepared_in}
use Rattle.dz_ask.specs.Laws.{PreparationLaws}
use Rattle.dz_ask.specs.Preparation.{IsPartialPreparation, IsPreparation, Prepared}
use Rattle.dz_ask.specs.Turns.{preparation}
use Rattle.dz_ask.specs.declared.preparing.PrepareAttempt.{PrepareAttempt}
use Rattle.dz_ask.specs.declared.preparing.Preparation.{Preparation}
use Rattle.dz_ask.proofs.Preparations.{preparation_laws}

-- a polynomial of a book is over its ranking
pub book_over : (book : BookValue) (p : ℕ) → IsBook book → Lives book p → IsOver book.ranking (polynomial book p)
book_over book p h live = let k = h.each p [] live in record { canonical = k.canonical; belongs = k.belongs }

-- and so are those of a list
pub list_over : (book : BookValue) (ps : List ℕ) → IsBook book → LiveAll book ps → AllOf (IsOver book.ranking) (polynomials book ps)
list_over book [] h live = tt
list_over book (p ∷ ps) h live = (book_over book p h (All-head (λ p. Lives book p) p ps live), list_over book ps h (All-tail (λ p. Lives book p) p ps live))

module _ (r : RankingValue) (s : State) (f : Polynomial Symbol) (over : AllOf (IsOver r) s.equations) (of_f : IsOver r f) (budget : ℕ) (book : BookValue) where
  -- the law of preparation at this state
  laws : PreparationLaws r s f
  laws = preparation_laws r s f over of_f

  -- turns that stop make a partial preparation
  partial_at : (x : Prepared) (stop : AttemptStop) → IsStopOf (preparation (setting_of r) s budget f) x stop → IsPartialPreparation (setting_of r) s f x
  partial_at x Memory h = absurd h
  partial_at x (Wide st) h = laws.stops budget x (refused wide) h
  partial_at x (Large limit st) h = laws.stops budget x (refused (large limit)) h
  partial_at x (Spent st) h = laws.passes budget x h

  -- an answer is a preparation
  pub answer_holds : (x : Result Preparation PrepareAttempt) → IsPreparationAnswer book (setting_of r) s (preparation (setting_of r) s budget f) x → IfOk x (λ p. IsPreparation (setting_of r) s f (prepared_in book p))
  answer_holds (Ok p) h = laws.prepares budget (prepared_in book p) h.is_one
  answer_holds (Err a) h = tt

  -- or a partial one
  pub answer_partial : (x : Result Preparation PrepareAttempt) → IsPreparationAnswer book (setting_of r) s (preparation (setting_of r) s budget f) x
      → IfErr x (λ a. a.stop ≢ Memory → IsPartialPreparation (setting_of r) s f (prepared_in book a.partial))
  answer_partial (Ok p) h = tt
  answer_partial (Err a) h = λ n. partial_at (prepared_in book a.partial) a.stop h.stops
