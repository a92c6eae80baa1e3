use Rattle.std.proofs.Common.{◌≤◌, ◌∙◌, map, subst, ap}
use Rattle.dz_diff.specs.Operations.{setting_of}
use Rattle.dz_diff.specs.States.{state_in}
use Rattle.dz_rank.specs.Rankings.{RankingValue}
use Rattle.dz_move.specs.Systems.{system_in}
use Rattle.dz_cert.proofs.WrittenLines.{states_document}
use Rattle.dz_run.specs.Decomposed.{lines_ending}
use Rattle.dz_run.proofs.WorkedDocuments.{lines_named, worked_answer, worked_certified, worked_is, worked_states}
use Rattle.dz_run.proofs.decomposing.worked_system.Goals as goal

pub chains-requires-clause-certified : goal.chains-requires-clause-certified
chains-requires-clause-certified c = worked_certified c.args.book.now c.decompose.new.book c.in_ok-tree.ensures.book c.args.system.now c.in_ok-tree.tree c.in_ok-tree.ensures.worked

pub write_document_with-requires-clause-named : goal.write_document_with-requires-clause-named
write_document_with-requires-clause-named c = lines_named c.args.names.now c.args.book.now.ranking.signature c.requires.signature c.in_ok-tree.tree.lines c.in_ok-tree.ensures.belong

pub returns-clause-answer : goal.returns-clause-answer
returns-clause-answer c =
    let book = c.args.book.now in
    let few : book.ranking.signature.independents ≤ 4 = subst (λ (r : RankingValue). r.signature.independents ≤ 4) c.ranking.ensures c.signature.ensures.ranking.few_independents in
    let named : book.ranking.signature.dependents ≤ 16 = subst (λ (r : RankingValue). r.signature.dependents ≤ 16) c.ranking.ensures c.signature.ensures.ranking.few_dependents in
    let there = c.decompose.new.book in
    let one = worked_is book there c.in_ok-tree.ensures.book c.args.system.now c.in_ok-tree.tree c.opened.ensures c.requires.system few named c.args.budget c.requires.most c.in_ok-tree.ensures.worked c.in_ok-tree.ensures.budget in
    let states = states_document (setting_of there.ranking) c.args.names.now (system_in there c.args.system.now) c.in_ok-tree.tree (state_in c.chains.new.book) c.deref.result.now (rw c.deref.ensures.value c.in_ok-chains.ensures.chains) in
    worked_answer book there c.in_ok-tree.ensures.book c.args.system.now c.in_ok-tree.tree c.args.budget one c.args.names.now
    c.in_ok-document.document.items (c.in_ok-document.ensures ∙ states) c.lines_ending-ending.result (c.lines_ending-ending.ensures ∙ ap lines_ending c.lines.ensures)

pub returns-clause-chains : goal.returns-clause-chains
returns-clause-chains c =
    let book = c.args.book.now in
    let few : book.ranking.signature.independents ≤ 4 = subst (λ (r : RankingValue). r.signature.independents ≤ 4) c.ranking.ensures c.signature.ensures.ranking.few_independents in
    let named : book.ranking.signature.dependents ≤ 16 = subst (λ (r : RankingValue). r.signature.dependents ≤ 16) c.ranking.ensures c.signature.ensures.ranking.few_dependents in
    let there = c.decompose.new.book in
    let one = worked_is book there c.in_ok-tree.ensures.book c.args.system.now c.in_ok-tree.tree c.opened.ensures c.requires.system few named c.args.budget c.requires.most c.in_ok-tree.ensures.worked c.in_ok-tree.ensures.budget in
    worked_states book there c.in_ok-tree.ensures.book c.args.system.now c.in_ok-tree.tree c.args.budget one (map (state_in c.chains.new.book) c.in_ok-chains.chains.items) c.in_ok-chains.ensures.chains
