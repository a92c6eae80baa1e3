use Rattle.std.proofs.Common.{◌≡◌, ◌∙◌, map}
use Rattle.dz_diff.specs.Operations.{setting_of}
use Rattle.dz_diff.specs.States.{state_in}
use Rattle.dz_move.proofs.MemberLists.{if_ok}
use Rattle.dz_move.specs.Systems.{system_in}
use Rattle.dz_cert.specs.Documents.{IsDocument, canonical_texts, chain_texts, document_of, document_text}
use Rattle.dz_cert.proofs.WrittenDocuments.{book_document}
use Rattle.dz_cert.proofs.WrittenLines.{states_document}
use Rattle.dz_cert.proofs.writing.write_document.Goals as goal

pub returns-clause-document : goal.returns-clause-document
returns-clause-document c =
    let old = c.args.book.now in
    let new = c.chains.new.book in
    let names = c.args.names.now in
    let tree = c.args.tree.now in
    let g = setting_of old.ranking in
    let system = system_in old c.args.system.now in
    if_ok (λ text. text.items ≡ document_text names tree (map (λ s. canonical_texts names (state_in new s)) c.deref.result.now)) (λ text. text.items ≡ document_of g names system tree) c.write_document_with-text.result
    (λ text e. e ∙ states_document g names system tree (state_in new) c.deref.result.now (rw c.deref.ensures.value c.in_ok-states.ensures.chains)) c.write_document_with-text.ensures

pub returns-clause-spelled : goal.returns-clause-spelled
returns-clause-spelled c =
    let book = c.args.book.now in
    let names = c.args.names.now in
    let tree = c.args.tree.now in
    let g = setting_of book.ranking in
    let system = system_in book c.args.system.now in
    if_ok (λ text. text.items ≡ document_of g names system tree) (λ text. IsDocument names tree (chain_texts g names system tree) text.items) c.write_document_with-text.result
    (λ text e. book_document book names c.args.system.now tree text.items c.opened.ensures c.opened-2.ensures c.requires.signature c.requires.system c.requires.certified c.requires.named e) (returns-clause-document c)
