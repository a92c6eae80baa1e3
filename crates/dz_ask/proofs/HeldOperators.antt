-- The operators of what is made of a polynomial in a book belong to the signature.
use Rattle.std.specs.Prelude.{IfOk, IfErr}
use Rattle.std.proofs.Common.{◌≤◌, ℕ, List, [], ◌∷◌, map, sym, subst, Result, Ok, Err}
use Rattle.dz_algebra.specs.Polynomial.{Polynomial}
use Rattle.dz_rank.specs.Rankings.{RankingValue}
use Rattle.dz_rank.specs.Symbols.{IsOperatorOf}
use Rattle.dz_rank.specs.declared.symbols.Symbol.{Symbol}
use Rattle.dz_poly.specs.Books.{BookValue}
use Rattle.dz_monomials.specs.Lists.{AllOf}
use Rattle.dz_diff.specs.Operations.{setting_of}
use Rattle.dz_diff.specs.Over.{IsOver}
use Rattle.dz_diff.specs.State.{State}
use Rattle.dz_step.specs.StepOperators.{StopDerivesAlong}
use Rattle.dz_step.specs.declared.Step.{Step}
use Rattle.dz_step.specs.declared.attempts.AttemptStop.{AttemptStop}
use Rattle.dz_step.specs.declared.attempts.AttemptStop.TheVariants.{Memory, Wide, Large, Spent}
use Rattle.dz_ask.specs.AnswerOperators.{PowersDeriveAlong, PreparationDerivesAlong, PrepareAttemptDerivesAlong}
use Rattle.dz_ask.specs.Attempts.{IsPreparationAnswer, IsStopOf, Names, power_in, prepared_in, term_in}
use Rattle.dz_ask.specs.Preparation.{Prepared}
use Rattle.dz_ask.specs.Turns.{Course, preparation}
use Rattle.dz_ask.specs.declared.preparing.Power.{Power}
use Rattle.dz_ask.specs.declared.preparing.PreparedTerm.{PreparedTerm}
use Rattle.dz_ask.specs.declared.preparing.PrepareAttempt.{PrepareAttempt}
use Rattle.dz_ask.specs.declared.preparing.Preparation.{Preparation}
use Rattle.dz_ask.proofs.PreparedOperators.{Belong, Derives, prepared_belong, turn_derives}
use Rattle.dz_ask.proofs.TurnWalks.{HasCome}

module _ (r : RankingValue) (few : r.signature.independents ≤ 4) (s : State) (f : Polynomial Symbol) (over : AllOf (IsOver r) s.equations) (of_f : IsOver r f) (budget : ℕ) (book : BookValue) where
  abbrev n : ℕ
  n = r.signature.independents

  abbrev course : Course
  course = preparation (setting_of r) s budget f

  -- the operators of powers are those of their steps
  powers_derive : (ps : List Power) → Derives r few s over (map power_in ps) → PowersDeriveAlong n ps
  powers_derive [] h = tt
  powers_derive (p ∷ ps) h = (h.0, powers_derive ps h.1)

  terms_derive : (ts : List PreparedTerm) → AllOf (λ t. Derives r few s over t.0) (map (term_in book) ts) → AllOf (λ (t : PreparedTerm). PowersDeriveAlong n t.product.items) ts
  terms_derive [] h = tt
  terms_derive (t ∷ ts) h = (powers_derive t.product.items h.0, terms_derive ts h.1)

  -- what the turns have come to
  come : HasCome (λ x. Belong r few s over x.terms) (setting_of r) s course
  come = prepared_belong r few s over budget f of_f.belongs

  so_far : (x : Prepared) (stop : AttemptStop) → IsStopOf course x stop → Belong r few s over x.terms
  so_far x Memory h = absurd h
  so_far x (Wide st) h = subst (HasCome (λ x. Belong r few s over x.terms) (setting_of r) s) h come
  so_far x (Large limit st) h = subst (HasCome (λ x. Belong r few s over x.terms) (setting_of r) s) h come
  so_far x (Spent st) h = subst (HasCome (λ x. Belong r few s over x.terms) (setting_of r) s) h come

  named_derives : (stop : AttemptStop) (st : Step) → Names stop st → IsOperatorOf n st.operator → StopDerivesAlong n stop
  named_derives Memory st h k = absurd h
  named_derives (Wide step) st h k = subst (λ (st : Step). IsOperatorOf n st.operator) (sym h) k
  named_derives (Large limit step) st h k = subst (λ (st : Step). IsOperatorOf n st.operator) (sym h) k
  named_derives (Spent step) st h k = subst (λ (st : Step). IsOperatorOf n st.operator) (sym h) k

  -- an answer
  pub answer_derives : (x : Result Preparation PrepareAttempt) → IsPreparationAnswer book (setting_of r) s course x → IfOk x (λ p. PreparationDerivesAlong n p)
  answer_derives (Ok p) h = terms_derive p.terms.items (subst (HasCome (λ x. Belong r few s over x.terms) (setting_of r) s) h.is_one come).0.products
  answer_derives (Err a) h = tt

  -- or where it stops
  pub answer_stops : (x : Result Preparation PrepareAttempt) → IsPreparationAnswer book (setting_of r) s course x → IfErr x (λ a. PrepareAttemptDerivesAlong n a)
  answer_stops (Ok p) h = tt
  answer_stops (Err a) h =
      let made = so_far (prepared_in book a.partial) a.stop h.stops in
      let turn = turn_derives r few s over (prepared_in book a.partial).terms h.turn made h.next in
      record {
        partial = terms_derive a.partial.terms.items made.products;
        product = powers_derive a.product.items (subst (Derives r few s over) (sym h.product) turn.0);
        stop = named_derives a.stop h.turn.step h.names turn.1;
      }
