use Rattle.std.proofs.Common.{◌≡◌, ◌≤◌, Ok, subst}
use Rattle.dz_rank.specs.Rankings.{IsOrderly, RankingValue}
use Rattle.dz_monomials.specs.Ranked.{symbols_under}
use Rattle.dz_diff.specs.States.{state_in}
use Rattle.dz_move.proofs.MemberLists.{if_ok}
use Rattle.dz_move.proofs.RootFacts.{all_over}
use Rattle.dz_jet.specs.Jets.{jet_answer, jet_order}
use Rattle.dz_jet.specs.Stops.{IsJet}
use Rattle.dz_jet.proofs.JetBelongs.{answer_over, answer_writable}
use Rattle.dz_jet.proofs.JetLawProofs.{jet_agrees}
use Rattle.dz_jet.proofs.making.jet.Goals as goal

pub returns-clause-values : goal.returns-clause-values
returns-clause-values c =
    let r = c.args.book.now.ranking in
    let s = state_in c.args.book.now c.args.chain.now in
    if_ok (IsJet r s c.args.values.now c.args.order) (λ jet. jet_answer r s c.args.values.now c.args.order ≡ Ok jet.values) c.jet_in_book-result.result (λ jet is. is.values) c.jet_in_book-result.ensures.jet

pub returns-clause-order : goal.returns-clause-order
returns-clause-order c =
    let r = c.args.book.now.ranking in
    let s = state_in c.args.book.now c.args.chain.now in
    if_ok (IsJet r s c.args.values.now c.args.order) (λ jet. jet.order ≡ jet_order (symbols_under r) s c.args.order) c.jet_in_book-result.result (λ jet is. is.order) c.jet_in_book-result.ensures.jet

pub returns-clause-agrees : goal.returns-clause-agrees
returns-clause-agrees c evidence chain =
    let orderly : IsOrderly c.args.book.now.ranking = subst IsOrderly c.ranking.ensures (c.is_orderly.ensures.0 c.if-not-is_orderly.false) in
    jet_agrees c.args.book.now.ranking (state_in c.args.book.now c.args.chain.now) evidence chain orderly c.args.values.now c.read.ensures c.args.order c.jet_in_book-result.result (returns-clause-values c) (returns-clause-order c)

pub returns-clause-writable : goal.returns-clause-writable
returns-clause-writable c =
    let few : c.args.book.now.ranking.signature.independents ≤ 4 = subst (λ (q : RankingValue). q.signature.independents ≤ 4) c.ranking-2.ensures c.signature.ensures.ranking.few_independents in
    answer_writable c.args.book.now.ranking few (state_in c.args.book.now c.args.chain.now) c.args.values.now c.args.order c.jet_in_book-result.result (returns-clause-values c)

pub returns-clause-over : goal.returns-clause-over
returns-clause-over c =
    let b = c.args.book.now in
    let few : b.ranking.signature.independents ≤ 4 = subst (λ (q : RankingValue). q.signature.independents ≤ 4) c.ranking-2.ensures c.signature.ensures.ranking.few_independents in
    answer_over b.ranking few (state_in b c.args.chain.now) c.args.values.now c.args.order (all_over b c.opened.ensures c.args.chain.now.equations c.requires.stands.equations_live) c.requires.belong c.jet_in_book-result.result c.jet_in_book-result.ensures.fault
