-- The row at the end of a run is a row for the inequation, and no leader of a member occurs in its rest.
use Rattle.std.specs.Prelude.{⊤, nat_lt, cond}
use Rattle.std.proofs.Common.{◌≡◌, ◌+◌, ◌==◌, ◌++◌, ℕ, zero, suc, Bool, true, false, List, [], ◌∷◌, length, refl, subst, Result, Ok, Err, Option, Some, None}
use Rattle.dz_algebra.specs.Parts.{degree}
use Rattle.dz_algebra.specs.Polynomial.{Polynomial}
use Rattle.dz_algebra.specs.Size.{Refusal}
use Rattle.dz_rank.specs.Rankings.{RankingValue, ranking_cmp}
use Rattle.dz_rank.specs.declared.symbols.Symbol.{Symbol}
use Rattle.dz_monomials.specs.Ranked.{symbols_under}
use Rattle.dz_monomials.proofs.SymbolLaws.{ranking_order}
use Rattle.dz_algebra.proofs.Canonical.{are_monomials}
use Rattle.dz_monomials.specs.Lists.{AllOf}
use Rattle.dz_diff.specs.Over.{IsOver}
use Rattle.dz_diff.specs.Tests.{Polynomials}
use Rattle.dz_regular.specs.Combining.{terms_in_all}
use Rattle.dz_regular.specs.Identities.{IsRowFor}
use Rattle.dz_regular.specs.Rows.{Numbered, equation_row, inequation_row, rest_of}
use Rattle.dz_regular.specs.Runs.{Course, Pair, Stage, ended, at_work, finished, stopped, passed, after, greatest_leader, in_hand, is_first, next_combine, next_row, paired, regularity_run, run_from}
use Rattle.dz_regular.specs.declared.answers.Combine.{Combine}
use Rattle.dz_regular.proofs.Relations.{Terms, IsRelation, relation_combined, relation_equation, relation_inequation, relation_row}

module _ (r : RankingValue) (es : Polynomials) (h : Polynomial Symbol) (of_es : AllOf (Terms r) es) (of_h : Terms r h) where
  -- a row that is a relation
  abbrev Holds : Numbered → Type 0
  Holds row = IsRelation r es h row.components

  -- at its end no leader occurs in the rest
  abbrev HasEnded : Numbered → Type 0
  HasEnded row = Holds row × (greatest_leader (symbols_under r) es (rest_of row.components) ≡ None)

  abbrev StageHolds : Stage → Type 0
  StageHolds (ended row) = HasEnded row
  StageHolds (at_work pair) = Holds pair.first × Holds pair.second

  abbrev CourseHolds : Course → Type 0
  CourseHolds (finished run row) = HasEnded row
  CourseHolds (stopped run combine refusal) = ⊤
  CourseHolds (passed run combine) = ⊤

  paired_holds : (s : Symbol) (a b : Numbered) → Holds a → Holds b → StageHolds (at_work (paired (symbols_under r) s a b))
  paired_holds s a b of_a of_b = by_test (is_first (symbols_under r) s a b)
    where
      by_test : (t : Bool) → StageHolds (at_work (cond t (record { symbol = s; first = a; second = b }) (record { symbol = s; first = b; second = a })))
      by_test true = (of_a, of_b)
      by_test false = (of_b, of_a)

  in_hand_holds : (row : Numbered) → Holds row → StageHolds (in_hand (symbols_under r) es row)
  in_hand_holds row of_row = by_leader (greatest_leader (symbols_under r) es (rest_of row.components)) refl
    where
      by_leader : (o : Option (ℕ × Symbol)) → greatest_leader (symbols_under r) es (rest_of row.components) ≡ o
          → StageHolds (elim o as (λ _. Stage) [
            | None ↦ ended row
            | Some best ↦ at_work (paired (symbols_under r) best.1 (record { number = best.0 + 1; components = equation_row es best.0 }) row)
          ])
      by_leader None e = (of_row, e)
      by_leader (Some best) e = paired_holds best.1 (record { number = best.0 + 1; components = equation_row es best.0 }) row (relation_equation r es h best.0 of_es) of_row

  after_holds : (pair : Pair) (row : Numbered) → Holds pair.second → Holds row → StageHolds (after (symbols_under r) es pair row)
  after_holds pair row of_second of_row = by_test (degree (ranking_cmp r) pair.symbol (rest_of row.components) == 0)
    where
      by_test : (t : Bool) → StageHolds (cond t (in_hand (symbols_under r) es row) (at_work (paired (symbols_under r) pair.symbol row pair.second)))
      by_test true = in_hand_holds row of_row
      by_test false = paired_holds pair.symbol row pair.second of_row of_second

  -- how a run goes on after a row was made
  abbrev goes_on : (budget rounds number count : ℕ) → List Combine → Pair → Polynomials → Course
  goes_on budget rounds number count run pair row = run_from (symbols_under r) es budget rounds (number + 1) (count + 1 + terms_in_all row) (run ++ next_combine pair ∷ []) (after (symbols_under r) es pair (record { number = number; components = row }))

  from : (budget rounds number count : ℕ) (run : List Combine) (stage : Stage) → StageHolds stage → CourseHolds (run_from (symbols_under r) es budget rounds number count run stage)
  from budget zero number count run (ended row) holds = holds
  from budget zero number count run (at_work pair) holds = tt
  from budget (suc rounds) number count run (ended row) holds = holds
  from budget (suc rounds) number count run (at_work pair) holds =
      by_answer (next_row (symbols_under r) pair) refl
      (λ row of_row. from budget rounds (number + 1) (count + 1 + terms_in_all row) (run ++ next_combine pair ∷ []) (after (symbols_under r) es pair (record { number = number; components = row })) (after_holds pair (record { number = number; components = row }) holds.1 of_row))
    where
      by_budget : (t : Bool) (row : Polynomials) → CourseHolds (goes_on budget rounds number count run pair row) → CourseHolds (cond t (passed run (next_combine pair)) (goes_on budget rounds number count run pair row))
      by_budget true row k = tt
      by_budget false row k = k

      by_answer : (q : Result Polynomials Refusal) → next_row (symbols_under r) pair ≡ q → ((row : Polynomials) → IsRelation r es h row → CourseHolds (goes_on budget rounds number count run pair row))
          → CourseHolds (elim q as (λ _. Course) [
            | Err refusal ↦ stopped run (next_combine pair) refusal
            | Ok row ↦ cond (nat_lt budget (count + 1 + terms_in_all row)) (passed run (next_combine pair)) (goes_on budget rounds number count run pair row)
          ])
      by_answer (Err refusal) e more = tt
      by_answer (Ok row) e more =
          by_budget (nat_lt budget (count + 1 + terms_in_all row)) row
          (more row (relation_combined r es h pair.symbol pair.first.components pair.second.components row holds.0 holds.1 e))

  run_holds : (budget : ℕ) → CourseHolds (regularity_run (symbols_under r) es budget h)
  unfolding regularity_run
  run_holds budget = from budget (suc budget) (length es + 1) 0 [] _ (in_hand_holds (record { number = 0; components = inequation_row es h }) (relation_inequation r es h of_h))

  -- the row at the end
  pub end_row : (budget : ℕ) (run : List Combine) (row : Numbered) → regularity_run (symbols_under r) es budget h ≡ finished run row
      → IsRowFor (ranking_cmp r) es h row.components × (greatest_leader (symbols_under r) es (rest_of row.components) ≡ None)
  end_row budget run row e =
      let k : HasEnded row = subst CourseHolds e (run_holds budget) in
      (relation_row r es h row.components of_h of_es k.0, k.1)

-- polynomials over a ranking have their terms at monomials
pub terms_over : (r : RankingValue) (ps : Polynomials) → AllOf (IsOver r) ps → AllOf (Terms r) ps
terms_over r [] h = tt
terms_over r (p ∷ ps) h = (are_monomials (ranking_order r) p h.0.canonical, terms_over r ps h.1)

-- the row at the end, where all is over a ranking
pub row_at_end : (r : RankingValue) (equations : Polynomials) (h : Polynomial Symbol) (budget : ℕ) (run : List Combine) (row : Numbered) → AllOf (IsOver r) equations → IsOver r h
    → regularity_run (symbols_under r) equations budget h ≡ finished run row
    → IsRowFor (ranking_cmp r) equations h row.components × (greatest_leader (symbols_under r) equations (rest_of row.components) ≡ None)
row_at_end r equations h budget run row over of_h e = end_row r equations h (terms_over r equations over) (are_monomials (ranking_order r) h of_h.canonical) budget run row e

pub row_made : (r : RankingValue) (equations : Polynomials) (h : Polynomial Symbol) (budget : ℕ) (run : List Combine) (row : Numbered) → AllOf (IsOver r) equations → IsOver r h
    → regularity_run (symbols_under r) equations budget h ≡ finished run row → IsRowFor (ranking_cmp r) equations h row.components
row_made r equations h budget run row over of_h e = (row_at_end r equations h budget run row over of_h e).0
