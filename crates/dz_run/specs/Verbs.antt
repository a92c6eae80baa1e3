-- What the program answers to its words and its input.
use Rattle.std.specs.Prelude.{ℕ, Bool, is_some, List, drop, Option, Some, None, Result, Ok, Err}
use Rattle.dz_cert.specs.Reading.{document_at}
use Rattle.dz_syntax.specs.declared.endings.Form.{Form}
use Rattle.dz_syntax.specs.declared.endings.Form.TheVariants as forms
use Rattle.dz_syntax.specs.declared.fault.SyntaxFault.{SyntaxFault}
use Rattle.dz_syntax.specs.Systems.{Tree as Text, system_of}
use Rattle.dz_words.specs.declared.verbs.Verb.{Verb}
use Rattle.dz_words.specs.declared.verbs.Verb.TheVariants.{Decompose, Check, Reduce, Prepare, Series, Parametric, Sample}
use Rattle.dz_words.specs.declared.words.Request.{Request}
use Rattle.dz_report.specs.declared.asked.Asked.TheVariants.{Reductions, Preparations}
use Rattle.dz_run.specs.declared.charting.Chart.TheVariants as charts
use Rattle.dz_run.specs.declared.ending.Ending.TheVariants.{Syntax}
use Rattle.dz_run.specs.Answer.{Answer, silent, with_questions, with_system}
use Rattle.dz_run.specs.Asked.{asked}
use Rattle.dz_run.specs.Charted.{charted}
use Rattle.dz_run.specs.Checked.{document_told}
use Rattle.dz_run.specs.Decomposed.{decomposed}
use Rattle.dz_run.specs.Sampled.{sampled}
use Rattle.dz_run.specs.System.{ranking_of}

-- the form of a verb's input; `sample` makes its system, and reads nothing
abbrev pub form_of : Verb → Option Form
form_of Decompose = Some forms.Plain
form_of Check = Some forms.Document
form_of Reduce = Some forms.Questions
form_of Prepare = Some forms.Questions
form_of Series = Some forms.Values
form_of Parametric = Some forms.Plain
form_of Sample = None

abbrev pub has_input : Verb → Bool
has_input verb = is_some (form_of verb)

-- the answer of a verb to a text that was read of these bytes
abbrev pub verb_told : Verb → Request → List ℕ → Text → Answer
verb_told Decompose q bytes text = with_system text (decomposed (ranking_of text) text.names q.budget)
verb_told Check q bytes text = document_told text (document_at text.names (drop text.document bytes))
verb_told Reduce q bytes text = with_questions text (asked Reductions (ranking_of text) text.names q.budget)
verb_told Prepare q bytes text = with_questions text (asked Preparations (ranking_of text) text.names q.budget)
verb_told Series q bytes text = with_system text (charted charts.Series (ranking_of text) text.names q text.values)
verb_told Parametric q bytes text = with_system text (charted charts.Parametric (ranking_of text) text.names q text.values)
verb_told Sample q bytes text = sampled q.seed q.size

-- the answer for a text that was read, or for its first fault
abbrev pub reading_told : Request → List ℕ → Result Text SyntaxFault → Answer
reading_told q bytes (Ok text) = verb_told q.verb q bytes text
reading_told q bytes (Err fault) = silent (Syntax fault)

-- the answer to bytes in a form, or where there is no input
abbrev pub input_told : Request → List ℕ → Option Form → Answer
input_told q bytes (Some form) = reading_told q bytes (system_of form bytes)
input_told q bytes None = sampled q.seed q.size

-- the answer to words that ask for this, and to the bytes of an input
unfoldable pub answer_to : Request → List ℕ → Answer
answer_to q bytes = input_told q bytes (form_of q.verb)
