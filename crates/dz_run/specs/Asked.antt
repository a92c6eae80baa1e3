-- The answers of `reduce` and `prepare`: behind the document of a complete tree, what is told of each question by each chain.
use Rattle.std.specs.Prelude.{ℕ}
use Rattle.dz_rank.specs.Rankings.{RankingValue}
use Rattle.dz_diff.specs.Operations.{setting_of}
use Rattle.dz_diff.specs.Tests.{Polynomials}
use Rattle.dz_syntax.specs.Names.{Declared}
use Rattle.dz_move.specs.Root.{System}
use Rattle.dz_cert.specs.Documents.{ended_lines}
use Rattle.dz_report.specs.Asked.{report_of}
use Rattle.dz_report.specs.Reports.{Report}
use Rattle.dz_report.specs.declared.asked.Asked.{Asked}
use Rattle.dz_report.specs.declared.ending.ReportEnd.{ReportEnd}
use Rattle.dz_report.specs.declared.ending.ReportEnd.TheVariants as ends
use Rattle.dz_run.specs.declared.ending.Ending.{Ending}
use Rattle.dz_run.specs.declared.ending.Ending.TheVariants.{Done, Wide, Spent, Large}
use Rattle.dz_run.specs.Answer.{Answer, continued, printed}
use Rattle.dz_run.specs.Decomposed.{decomposed, worked_chains}

-- how a run ends for a report
abbrev pub report_ending : ReportEnd → Ending
report_ending ends.Done = Done
report_ending ends.Wide = Wide
report_ending ends.Large = Large
report_ending ends.Spent = Spent

-- the lines of a report
abbrev pub report_answer : Report → Answer
report_answer report = printed (ended_lines report.lines) (report_ending report.ending)

-- the answer to a system and questions
unfoldable pub asked : Asked → RankingValue → Declared → ℕ → System → Polynomials → Answer
asked what r names budget s questions =
    continued (decomposed r names budget s) (report_answer (report_of what (setting_of r) names budget questions (worked_chains r budget s)))
