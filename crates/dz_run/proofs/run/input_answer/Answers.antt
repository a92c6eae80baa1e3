use Rattle.std.proofs.Common.{◌∙◌, Err, List, ℕ, sym, ap}
use Rattle.dz_run.specs.Verbs.{answer_to}
use Rattle.dz_run.proofs.Endings.{keeps_nothing}
use Rattle.dz_run.proofs.run.input_answer.Goals as goal

pub returns-in-Err-NotWritten-clause-ended : goal.returns-in-Err-NotWritten-clause-ended
returns-in-Err-NotWritten-clause-ended g c = λ out point. (c.read_words.ensures.refused (c.in-Err-NotWritten.is ∙ ap (λ e. Err e) c.in-Err-NotWritten.field-0-is), keeps_nothing out.written)

pub returns-in-Ok-answer-clause-answered : goal.returns-in-Ok-answer-clause-answered
returns-in-Ok-answer-clause-answered g c = record {
  request = c.in-Ok.request;
  written = c.in-Ok.ensures.read;
  bytes = c.in_ok-bytes.bytes.items;
  taken = c.in_ok-bytes.ensures.taken;
  is = sym (c.in-Ok-answer.ensures ∙ ap (λ (bytes : List ℕ). answer_to c.in-Ok.request bytes) c.deref.ensures.value);
}
