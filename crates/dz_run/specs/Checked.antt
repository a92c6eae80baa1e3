-- The answer of `check`.
use Rattle.std.specs.Prelude.{ℕ, List, ◌++◌, codes, Result, Ok, Err}
use Rattle.std.specs.Fmt.{decimal}
use Rattle.dz_rank.specs.Rankings.{RankingValue}
use Rattle.dz_diff.specs.Operations.{setting_of}
use Rattle.dz_syntax.specs.Names.{Declared}
use Rattle.dz_syntax.specs.Systems.{Tree as Text}
use Rattle.dz_move.specs.Root.{System}
use Rattle.dz_tree.specs.Trees.{Tree}
use Rattle.dz_move.specs.RuleNames.{rule_name}
use Rattle.dz_cert.specs.CertFaults.{tree_read}
use Rattle.dz_cert.specs.Documents.{ChainTexts}
use Rattle.dz_cert.specs.Reading.{Fault, Reading, bad_line, bytes_after, ends_early}
use Rattle.dz_cert.specs.Verdicts.{document_verdict}
use Rattle.dz_cert.specs.declared.checking.DocumentVerdict.{DocumentVerdict}
use Rattle.dz_cert.specs.declared.checking.DocumentVerdict.TheVariants as verdicts
use Rattle.dz_cert.specs.declared.reading.CertFault.TheVariants as faults
use Rattle.dz_run.specs.declared.ending.Ending.{Ending}
use Rattle.dz_run.specs.declared.ending.Ending.TheVariants.{Done, Rejected, Document}
use Rattle.dz_run.specs.Answer.{Answer, printed, silent, with_system}
use Rattle.dz_run.specs.System.{ranking_of}

-- the line of a verdict
abbrev pub verdict_line : DocumentVerdict → List ℕ
verdict_line verdicts.Accepted = codes "accepted\n"
verdict_line verdicts.Partial = codes "partial\n"
verdict_line (verdicts.RejectedTree place rule) = codes "rejected tree " ++ decimal place ++ codes " " ++ rule_name rule ++ codes "\n"
verdict_line (verdicts.RejectedChain k) = codes "rejected chain " ++ decimal k ++ codes "\n"

-- how a run ends for a verdict
abbrev pub verdict_ending : DocumentVerdict → Ending
verdict_ending verdicts.Accepted = Done
verdict_ending verdicts.Partial = Done
verdict_ending (verdicts.RejectedTree place rule) = Rejected
verdict_ending (verdicts.RejectedChain k) = Rejected

-- the answer for a verdict
abbrev pub verdict_answer : DocumentVerdict → Answer
verdict_answer verdict = printed (verdict_line verdict) (verdict_ending verdict)

-- the verdict on a document with a tree, and with texts for its chains, for a system
abbrev pub checked_document : RankingValue → Declared → Tree → List ChainTexts → System → Answer
checked_document r names tree chains s = verdict_answer (document_verdict (setting_of r) names s tree chains)

-- how a run ends for the first fault of a document
abbrev pub fault_ending : Fault → Ending
fault_ending (bad_line n) = Document (faults.BadLine n)
fault_ending ends_early = Document faults.EndsEarly
fault_ending bytes_after = Document faults.BytesAfter

-- the answer for what follows a system: a document, or its first fault
abbrev pub document_told : Text → Result Reading Fault → Answer
document_told text (Ok document) = with_system text (checked_document (ranking_of text) text.names (tree_read document) document.chains)
document_told text (Err fault) = silent (fault_ending fault)
