-- The report of a series, from what the call that makes a jet answers.
use Rattle.std.specs.Prelude.{IfOk, IsErr}
use Rattle.std.proofs.Common.{◌≡◌, inl, inr, ◌∙◌, ℕ, Bool, true, false, cond, Result, Ok, Err, refl, sym, ap, ap₂}
use Rattle.dz_rank.specs.Rankings.{RankingValue, IsOrderly}
use Rattle.dz_monomials.specs.Ranked.{symbols_under}
use Rattle.dz_diff.specs.State.{State}
use Rattle.dz_syntax.specs.Names.{Declared}
use Rattle.dz_jet.specs.declared.faults.JetFault.{JetFault}
use Rattle.dz_jet.specs.declared.faults.JetFault.TheVariants as faults
use Rattle.dz_jet.specs.Jets.{JetValue, Values, jet_answer, jet_order}
use Rattle.dz_jet.specs.Orderliness.{is_orderly}
use Rattle.dz_series.specs.Series.{series_answer}
use Rattle.dz_series.specs.SeriesReports.{SeriesReport, fault_report, jet_report, lines_report, series_report}
use Rattle.dz_jet.specs.Stops.{IsFault}
use Rattle.dz_jet.proofs.OrderlyTests.{orderly_tested}

module _ (r : RankingValue) (names : Declared) (k : ℕ) (s : State) (known : Values) (n : ℕ) where
  -- by the test of the ranking
  tested : (b : Bool) → is_orderly r ≡ b → series_report r names k s known n ≡ cond b (jet_report names r.signature k (jet_order (symbols_under r) s n) (jet_answer r s known n)) (fault_report names faults.NotOrderly)
  unfolding series_report
  tested b e = ap (λ t. cond t (jet_report names r.signature k (jet_order (symbols_under r) s n) (jet_answer r s known n)) (fault_report names faults.NotOrderly)) e

  not_orderly : is_orderly r ≡ false → IsOrderly r → ⊥
  not_orderly e o = let f = (orderly_tested r).1 o in cc

  -- of a jet
  pub report_of_jet : (x : Result JetValue JetFault) (jet : JetValue) → x ≡ Ok jet → ((IsOrderly r → ⊥) → x ≡ Err faults.NotOrderly) → jet_answer r s known n ≡ Ok jet.values → jet.order ≡ jet_order (symbols_under r) s n
      → series_report r names k s known n ≡ lines_report names k jet.order (series_answer names r.signature jet.values)
  report_of_jet x jet is other values order = by_test (is_orderly r) refl
    where
      by_test : (b : Bool) → is_orderly r ≡ b → series_report r names k s known n ≡ lines_report names k jet.order (series_answer names r.signature jet.values)
      by_test true e = tested true e ∙ ap₂ (jet_report names r.signature k) (sym order) values
      by_test false e = absurd (let f = other (not_orderly e) in cc)

  -- of a fault
  pub report_of_fault : (x : Result JetValue JetFault) (e : JetFault) → x ≡ Err e → (e ≡ faults.Memory → ⊥) → ((IsOrderly r → ⊥) → x ≡ Err faults.NotOrderly) → (IsOrderly r → IsFault e (jet_answer r s known n))
      → series_report r names k s known n ≡ fault_report names e
  report_of_fault x e is told other fault = by_test (is_orderly r) refl
    where
      by_fault : IsFault e (jet_answer r s known n) → jet_report names r.signature k (jet_order (symbols_under r) s n) (jet_answer r s known n) ≡ fault_report names e
      by_fault (inl h) = absurd (told h)
      by_fault (inr h) = ap (jet_report names r.signature k (jet_order (symbols_under r) s n)) h

      by_test : (b : Bool) → is_orderly r ≡ b → series_report r names k s known n ≡ fault_report names e
      by_test true h = tested true h ∙ by_fault (fault ((orderly_tested r).0 h))
      by_test false h = tested false h ∙ ap (fault_report names) (let f : Err faults.NotOrderly ≡ x = sym (other (not_orderly h)) in let g : faults.NotOrderly ≡ e = cc in g)

-- a report is made of no want of memory
pub unless_memory : {A E : Type 0} (x : Result A E) (view : A → SeriesReport) (e : JetFault) (first second : SeriesReport) → IfOk x (λ r. view r ≡ first) → (e ≡ faults.Memory → IsErr x) → ((e ≡ faults.Memory → ⊥) → first ≡ second)
    → IfOk x (λ r. view r ≡ second)
unless_memory (Ok r) view e first second is memory same = is ∙ same (λ m. (let f = memory m in absurd cc))
unless_memory (Err y) view e first second is memory same = tt
