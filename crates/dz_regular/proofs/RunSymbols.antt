-- The symbols of combinations belong to the signature.
use Rattle.std.specs.Prelude.{⊤, IfOk, IfErr, nat_lt, cond, slice_index_or}
use Rattle.std.proofs.Common.{◌≡◌, ◌<◌, ◌+◌, ◌==◌, ◌++◌, ℕ, zero, suc, Bool, true, false, List, [], ◌∷◌, length, refl, subst, arith, Result, Ok, Err, Option, Some, None}
use Rattle.dz_algebra.specs.Parts.{degree, leader}
use Rattle.dz_algebra.specs.Polynomial.{Polynomial}
use Rattle.dz_algebra.specs.Size.{Refusal}
use Rattle.dz_rank.specs.Rankings.{RankingValue, ranking_cmp}
use Rattle.dz_rank.specs.Symbols.{BelongsTo, is_derivative}
use Rattle.dz_rank.specs.declared.symbols.Symbol.{Symbol}
use Rattle.dz_monomials.specs.Ranked.{symbols_under}
use Rattle.dz_poly.specs.Books.{BookValue, IsBook}
use Rattle.dz_monomials.specs.Lists.{AllOf}
use Rattle.dz_diff.specs.Over.{IsOver}
use Rattle.dz_diff.specs.States.{LiveAll, polynomials}
use Rattle.dz_diff.specs.Tests.{Polynomials}
use Rattle.dz_diff.proofs.LeaderBounds.{all_map, leader_in}
use Rattle.dz_diff.proofs.Places.{all-append}
use Rattle.dz_ask.proofs.HeldPreparations.{list_over}
use Rattle.dz_regular.specs.Answers.{IsRegularityIn, IsStopOf, RunBelongs, StopBelongs}
use Rattle.dz_regular.specs.Combining.{terms_in_all}
use Rattle.dz_regular.specs.Rows.{Numbered, equation_row, inequation_row, rest_of}
use Rattle.dz_regular.specs.Runs.{Course, Pair, Stage, ended, at_work, finished, stopped, passed, after, greatest_leader, in_hand, is_first, next_combine, next_row, paired, regularity_run, run_from}
use Rattle.dz_regular.specs.declared.answers.Combine.{Combine}
use Rattle.dz_regular.specs.declared.answers.CombineStop.{CombineStop}
use Rattle.dz_regular.specs.declared.answers.CombineStop.TheVariants.{Memory, Wide, Large, Spent}
use Rattle.dz_regular.specs.declared.answers.Regularity.{Regularity}
use Rattle.dz_regular.specs.declared.answers.RegularStop.{RegularStop}
use Rattle.dz_regular.proofs.Members.{found_holds}

module _ (r : RankingValue) (es : Polynomials) (over : AllOf (IsOver r) es) where
  -- a symbol of the signature
  abbrev Belongs : Symbol → Type 0
  Belongs s = BelongsTo r.signature s

  leads_belong : (ps : Polynomials) (j : ℕ) (v : Symbol) → AllOf (IsOver r) ps → j < length ps → leader (symbols_under r) (slice_index_or ps j []) ≡ Some v → Belongs v
  leads_belong [] j v h l e = absurd (omega (arith, l))
  leads_belong (p ∷ ps) zero v h l e = leader_in r Belongs p v e (all_map r Belongs (λ s. is_derivative s ≡ true → Belongs s) (λ s k z. k) p h.0.belongs)
  leads_belong (p ∷ ps) (suc j) v h l e = leads_belong ps j v h.1 (omega (arith, l)) e

  -- the greatest leader is one
  member_belongs : (f : Polynomial Symbol) (b : ℕ × Symbol) → greatest_leader (symbols_under r) es f ≡ Some b → Belongs b.1
  member_belongs f b e = found_holds (symbols_under r) f (λ b. Belongs b.1) 0 es None (λ j v l h o. leads_belong es j v over l h) (λ b h. cc) b e

  abbrev StageBelongs : Stage → Type 0
  StageBelongs (ended row) = ⊤
  StageBelongs (at_work pair) = Belongs pair.symbol

  abbrev CourseBelongs : Course → Type 0
  CourseBelongs (finished run row) = RunBelongs r.signature run
  CourseBelongs (stopped run combine refusal) = RunBelongs r.signature run × Belongs combine.symbol
  CourseBelongs (passed run combine) = RunBelongs r.signature run × Belongs combine.symbol

  paired_belongs : (s : Symbol) (a b : Numbered) → Belongs s → StageBelongs (at_work (paired (symbols_under r) s a b))
  paired_belongs s a b h = by_test (is_first (symbols_under r) s a b)
    where
      by_test : (t : Bool) → StageBelongs (at_work (cond t (record { symbol = s; first = a; second = b }) (record { symbol = s; first = b; second = a })))
      by_test true = h
      by_test false = h

  in_hand_belongs : (row : Numbered) → StageBelongs (in_hand (symbols_under r) es row)
  in_hand_belongs row = by_leader (greatest_leader (symbols_under r) es (rest_of row.components)) refl
    where
      by_leader : (o : Option (ℕ × Symbol)) → greatest_leader (symbols_under r) es (rest_of row.components) ≡ o
          → StageBelongs (elim o as (λ _. Stage) [
            | None ↦ ended row
            | Some best ↦ at_work (paired (symbols_under r) best.1 (record { number = best.0 + 1; components = equation_row es best.0 }) row)
          ])
      by_leader None e = tt
      by_leader (Some best) e = paired_belongs best.1 (record { number = best.0 + 1; components = equation_row es best.0 }) row (member_belongs (rest_of row.components) best e)

  after_belongs : (pair : Pair) (row : Numbered) → Belongs pair.symbol → StageBelongs (after (symbols_under r) es pair row)
  after_belongs pair row h = by_test (degree (ranking_cmp r) pair.symbol (rest_of row.components) == 0)
    where
      by_test : (t : Bool) → StageBelongs (cond t (in_hand (symbols_under r) es row) (at_work (paired (symbols_under r) pair.symbol row pair.second)))
      by_test true = in_hand_belongs row
      by_test false = paired_belongs pair.symbol row pair.second h

  -- how a run goes on after a row was made
  abbrev goes_on : (budget rounds number count : ℕ) → List Combine → Pair → Polynomials → Course
  goes_on budget rounds number count run pair row = run_from (symbols_under r) es budget rounds (number + 1) (count + 1 + terms_in_all row) (run ++ next_combine pair ∷ []) (after (symbols_under r) es pair (record { number = number; components = row }))

  from : (budget rounds number count : ℕ) (run : List Combine) (stage : Stage) → RunBelongs r.signature run → StageBelongs stage → CourseBelongs (run_from (symbols_under r) es budget rounds number count run stage)
  from budget zero number count run (ended row) so_far h = so_far
  from budget zero number count run (at_work pair) so_far h = (so_far, h)
  from budget (suc rounds) number count run (ended row) so_far h = so_far
  from budget (suc rounds) number count run (at_work pair) so_far h =
      by_answer (next_row (symbols_under r) pair)
      (λ row. from budget rounds (number + 1) (count + 1 + terms_in_all row) (run ++ next_combine pair ∷ []) (after (symbols_under r) es pair (record { number = number; components = row }))
      (all-append (λ (c : Combine). Belongs c.symbol) run (next_combine pair ∷ []) so_far (h, tt)) (after_belongs pair (record { number = number; components = row }) h))
    where
      by_budget : (t : Bool) (row : Polynomials) → CourseBelongs (goes_on budget rounds number count run pair row) → CourseBelongs (cond t (passed run (next_combine pair)) (goes_on budget rounds number count run pair row))
      by_budget true row k = (so_far, h)
      by_budget false row k = k

      by_answer : (q : Result Polynomials Refusal) → ((row : Polynomials) → CourseBelongs (goes_on budget rounds number count run pair row))
          → CourseBelongs (elim q as (λ _. Course) [
            | Err refusal ↦ stopped run (next_combine pair) refusal
            | Ok row ↦ cond (nat_lt budget (count + 1 + terms_in_all row)) (passed run (next_combine pair)) (goes_on budget rounds number count run pair row)
          ])
      by_answer (Err refusal) more = (so_far, h)
      by_answer (Ok row) more = by_budget (nat_lt budget (count + 1 + terms_in_all row)) row (more row)

  -- those of a run
  run_belongs : (budget : ℕ) (h : Polynomial Symbol) → CourseBelongs (regularity_run (symbols_under r) es budget h)
  unfolding regularity_run
  run_belongs budget h = from budget (suc budget) (length es + 1) 0 [] _ tt (in_hand_belongs (record { number = 0; components = inequation_row es h }))

  -- of one that stops
  pub stop_belongs : (budget : ℕ) (h : Polynomial Symbol) (run : List Combine) (stop : CombineStop) → IsStopOf (regularity_run (symbols_under r) es budget h) run stop → StopBelongs r.signature run stop
  stop_belongs budget h run Memory e = tt
  stop_belongs budget h run (Wide combine) e = subst CourseBelongs e (run_belongs budget h)
  stop_belongs budget h run (Large limit combine) e = subst CourseBelongs e (run_belongs budget h)
  stop_belongs budget h run (Spent combine) e = subst CourseBelongs e (run_belongs budget h)

  -- of one that comes to its end
  pub end_belongs : (budget : ℕ) (h : Polynomial Symbol) (run : List Combine) (row : Numbered) → regularity_run (symbols_under r) es budget h ≡ finished run row → RunBelongs r.signature run
  end_belongs budget h run row e = subst CourseBelongs e (run_belongs budget h)

-- ---- in a book
module _ (book new : BookValue) (is_book : IsBook book) (es : List ℕ) (live : LiveAll book es) (budget : ℕ) (h : Polynomial Symbol) where
  pub answer_belongs : (answer : Result Regularity RegularStop) → IfOk answer (λ y. IsRegularityIn new (regularity_run (symbols_under book.ranking) (polynomials book es) budget h) y) → IfOk answer (λ x. RunBelongs book.ranking.signature x.run.items)
  answer_belongs (Ok x) k = end_belongs book.ranking (polynomials book es) (list_over book es is_book live) budget h x.run.items _ k.is_one
  answer_belongs (Err e) k = tt

  pub answer_stops : (answer : Result Regularity RegularStop) → IfErr answer (λ y. IsStopOf (regularity_run (symbols_under book.ranking) (polynomials book es) budget h) y.run.items y.stop) → IfErr answer (λ x. StopBelongs book.ranking.signature x.run.items x.stop)
  answer_stops (Ok x) k = tt
  answer_stops (Err e) k = stop_belongs book.ranking (polynomials book es) (list_over book es is_book live) budget h e.run.items e.stop k
