use Rattle.std.proofs.Common.{◌≡◌, ◌≤◌, ◌∙◌, refl, subst, sym}
use Rattle.dz_rank.specs.Rankings.{RankingValue}
use Rattle.dz_diff.specs.Operations.{setting_of}
use Rattle.dz_diff.specs.States.{state_in}
use Rattle.dz_move.specs.Lines.{Entry}
use Rattle.dz_move.proofs.MemberLists.{if_ok}
use Rattle.dz_engine.specs.Naming.{IsFound, IsNamed, pairs_entry}
use Rattle.dz_engine.specs.Order.{next_entry}
use Rattle.dz_engine.specs.Resting.{EntryHolds}
use Rattle.dz_engine.proofs.NextRules.{closed_found}
use Rattle.dz_engine.proofs.NamedLines.{found_there, holds_in}
use Rattle.dz_engine.proofs.naming.entry_named.Goals as goal

pub run_named-requires-clause-there : goal.run_named-requires-clause-there
run_named-requires-clause-there c =
    let g = setting_of c.args.book.now.ranking in
    let s = state_in c.args.book.now c.args.state.now in
    found_there g c.args.budget c.args.weight s c.in-Run.members c.in-Run.place c.in_ok-found.found (next_entry g c.args.budget c.args.weight s) c.in-Run.is (c.in_ok-found.ensures.found c.args.budget c.args.weight)

pub returns-in-Act-clause-named : goal.returns-in-Act-clause-named
returns-in-Act-clause-named c =
    let g = setting_of c.args.book.now.ranking in
    let s = state_in c.args.book.now c.args.state.now in
    subst (λ x. IsFound g c.args.budget c.args.weight s x (next_entry g c.args.budget c.args.weight s)) c.in-Act.is (c.in_ok-found.ensures.found c.args.budget c.args.weight)

pub returns-clause-named : goal.returns-clause-named
returns-clause-named c =
    let book = c.args.book.now in
    let g = setting_of book.ranking in
    let s = state_in book c.args.state.now in
    let few : book.ranking.signature.independents ≤ 4 = subst (λ (r : RankingValue). r.signature.independents ≤ 4) c.ranking.ensures c.signature.ensures.ranking.few_independents in
    let e : next_entry g c.args.budget c.args.weight s ≡ pairs_entry g c.args.budget c.args.weight s = subst (λ x. IsFound g c.args.budget c.args.weight s x (next_entry g c.args.budget c.args.weight s)) c.in-Pairs.is (c.in_ok-found.ensures.found c.args.budget c.args.weight) in
    let holds = subst (EntryHolds g c.args.budget c.args.weight s) e (holds_in book c.opened.ensures few c.args.state.now c.requires.stands c.requires.facts c.args.budget c.args.weight c.requires.within) in
    if_ok _ _ c.pairs_named.result (λ x f. subst (λ (e : Entry). IsNamed g c.args.budget c.args.weight s x e) (sym e) (f holds)) c.pairs_named.ensures.named

pub first_found-requires-clause-unclosed : goal.first_found-requires-clause-unclosed
first_found-requires-clause-unclosed c = sym c.is_closed.ensures ∙ c.if-is_closed.false

pub returns-then-is_closed-clause-named : goal.returns-then-is_closed-clause-named
returns-then-is_closed-clause-named c =
    let g = setting_of c.args.book.now.ranking in
    let s = state_in c.args.book.now c.args.state.now in
    if_ok _ _ c.ended.result (λ x f. subst (λ (e : Entry). IsNamed g c.args.budget c.args.weight s x e) (sym (closed_found g c.args.budget c.args.weight s (sym c.is_closed.ensures ∙ c.if-is_closed.true))) (f g c.args.budget c.args.weight s refl)) c.ended.ensures.named
