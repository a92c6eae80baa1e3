use Rattle.std.proofs.Common.{◌≡◌, ◌∙◌, ap, drop, map, arith, rules}
use Rattle.std.proofs.lemmas.Grind.{common_steps}
use Rattle.dz_cert.specs.Readers.{texts_of}
use Rattle.dz_cert.specs.Reading.{document_at}
use Rattle.dz_syntax.specs.Systems.{tree_of}
use Rattle.dz_move.proofs.MemberLists.{if_ok}
use Rattle.dz_run.specs.Answer.{answer_of, with_system}
use Rattle.dz_run.specs.Checked.{checked_document, document_told}
use Rattle.dz_run.specs.System.{ranking_of}
use Rattle.dz_run.proofs.CheckedAnswers.{read_told}
use Rattle.dz_run.proofs.checking.checked.Goals as goal

pub returns-in-Ok : goal.returns-in-Ok
returns-in-Ok c =
    let text = tree_of c.args.text.now in
    let behind : c.unwrap_or-document.result.now ≡ drop c.args.text.now.document c.args.bytes.now = first_of (search rules, grind (arith, common_steps)) in
    if_ok (λ told. answer_of told ≡ with_system text (checked_document (ranking_of text) text.names c.in-Ok.document.tree (map texts_of c.in-Ok.document.chains.items)))
    (λ told. answer_of told ≡ document_told text (document_at text.names (drop c.args.text.now.document c.args.bytes.now))) c.document_checked.result
    (λ told e. e ∙ read_told text c.in-Ok.document _ c.in-Ok.ensures.exact ∙ ap (λ bytes. document_told text (document_at text.names bytes)) behind)
    c.document_checked.ensures
