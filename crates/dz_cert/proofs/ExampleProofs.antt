-- The worked examples, by computation.
use Rattle.std.proofs.Common.{refl}
use Rattle.std.specs.Fmt.{digits}
use Rattle.dz_algebra.specs.Norm.{norm, gcd}
use Rattle.dz_algebra.specs.Size.{support, fits, refusal, operation}
use Rattle.dz_rank.specs.Rankings.{ranking_cmp}
use Rattle.dz_monomials.specs.Ranked.{symbol_rate}
use Rattle.dz_move.specs.Root.{root_of}
use Rattle.dz_form.specs.Texts.{operator_text, polynomial_text, symbol_text}
use Rattle.dz_form.specs.Reading.{derivations, derivative_at, operator_at, symbol_at, with_name}
use Rattle.dz_syntax.specs.Names.{find}
use Rattle.dz_move.specs.Moves.{reduced, weeded, grown, divided_at, split_at, factored}
use Rattle.dz_tree.specs.Chain.{chain_rule, evidence_weight}
use Rattle.dz_check.specs.Reasons.{reason_holds}
use Rattle.dz_check.specs.Walk.{entered, ends_of}
use Rattle.dz_cert.specs.Documents.{chain_texts, document_lines, document_of}
use Rattle.dz_cert.specs.Examples.{DocumentExamples, FaultExamples}
use Rattle.dz_cert.specs.LineReading.{limit_at, line_at, number_at, place_at, step_at, which_at}
use Rattle.dz_cert.specs.LineTexts.{line_text, step_text}
use Rattle.dz_cert.specs.Reading.{budget_taken, document_at, line_read, section_taken, tree_taken}
use Rattle.dz_cert.specs.Words.{word_at}

-- the documents of both trees
pub document_examples : DocumentExamples
unfolding norm gcd support fits refusal operation ranking_cmp symbol_rate root_of reduced weeded grown divided_at split_at factored chain_rule evidence_weight reason_holds entered ends_of digits operator_text polynomial_text symbol_text chain_texts document_lines document_of line_text step_text
document_examples = record { conic_document = refl; model_document = refl }

-- faults of bytes
pub fault_examples : FaultExamples
unfolding digits derivations derivative_at operator_at symbol_at with_name find limit_at line_at number_at place_at step_at which_at budget_taken document_at line_read section_taken tree_taken word_at
fault_examples = record { wrong_version = refl; leading_zero = refl; wrong_count = refl; cut = refl; longer = refl }
