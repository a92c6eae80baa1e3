-- The reports on what chains are asked.
use Rattle.std.proofs.Common.{◌≡◌, ℕ, List, refl}
use Rattle.dz_diff.specs.Operations.{Setting}
use Rattle.dz_diff.specs.State.{State}
use Rattle.dz_diff.specs.Tests.{Polynomials}
use Rattle.dz_syntax.specs.Names.{Declared}
use Rattle.dz_report.specs.Asked.{answer_report, report_of}
use Rattle.dz_report.specs.Preparations.{preparation_report}
use Rattle.dz_report.specs.Reductions.{reduction_report}
use Rattle.dz_report.specs.Reports.{by_questions, with_end}
use Rattle.dz_report.specs.declared.asked.Asked.{Asked}
use Rattle.dz_report.specs.declared.asked.Asked.TheVariants.{Reductions, Preparations}

-- a report is that of its answers, with its end
pub report_of_answers : (what : Asked) (g : Setting) (names : Declared) (budget : ℕ) (questions : Polynomials) (chains : List State)
    → report_of what g names budget questions chains ≡ with_end (by_questions names (answer_report what g names budget chains) questions)
unfolding reduction_report preparation_report
report_of_answers Reductions g names budget questions chains = refl
report_of_answers Preparations g names budget questions chains = refl
