use Rattle.std.proofs.Common.{◌≡◌, ◌∙◌, ◌∷◌, [], false, List, length, map, ap, sym, subst}
use Rattle.std.specs.Prelude.{reverse}
use Rattle.dz_diff.specs.Operations.{setting_of}
use Rattle.dz_diff.specs.States.{state_in}
use Rattle.dz_move.specs.Lines.{entries_of}
use Rattle.dz_check.specs.Collecting.{Collects}
use Rattle.dz_check.specs.Pending.{PendingValue}
use Rattle.dz_move.specs.TreeLines.{line_of}
use Rattle.dz_check.specs.Verdicts.{verdict_as}
use Rattle.dz_check.specs.Walk.{chains_of, judged, walk}
use Rattle.dz_check.specs.Walking.{IsWalking, verdict_from}
use Rattle.dz_move.proofs.MemberLists.{if_ok}
use Rattle.dz_check.proofs.ChainWalks.{root_collects}
use Rattle.dz_check.proofs.TakenChains.{taken_by, three_ok}
use Rattle.dz_check.proofs.WalkedLines.{begins_told, root_alone, walk_begins}
use Rattle.dz_check.proofs.checking.judged.Goals as goal

pub walked-requires-clause-walks : goal.walked-requires-clause-walks
walked-requires-clause-walks c =
    let book = c.args.book.now in
    let alone = root_alone c.args.root c.mark.result (length book.polynomials) c.push_state.new.stack.items c.new-stack.result.items c.in_ok-push_state.ensures c.mark.ensures c.new-stack.ensures.items in
    subst (λ (ps : List PendingValue). IsWalking book book c.args.budget 0 ps (map line_of c.args.lines.now)) (sym alone)
    (walk_begins book c.args.root (map line_of c.args.lines.now) c.requires.tree c.args.budget c.requires.stands c.requires.facts)

pub returns-clause-verdict : goal.returns-clause-verdict
returns-clause-verdict c =
    let book = c.args.book.now in
    let g = setting_of book.ranking in
    let lines = map line_of c.args.lines.now in
    let alone = root_alone c.args.root c.mark.result (length book.polynomials) c.push_state.new.stack.items c.new-stack.result.items c.in_ok-push_state.ensures c.mark.ensures c.new-stack.ensures.items in
    let same = ap (λ (ps : List PendingValue). verdict_from g c.args.budget 0 false 1 book ps lines) alone ∙ begins_told book c.args.root lines c.requires.tree g c.args.budget in
    if_ok (λ x. verdict_as x.verdict ≡ verdict_from g c.args.budget 0 false 1 book (reverse c.push_state.new.stack.items) lines)
    (λ x. verdict_as x.verdict ≡ judged (walk g c.args.budget 0 1 (state_in book c.args.root ∷ []) (entries_of lines))) c.walked.result (λ x e. e ∙ same) c.walked.ensures.verdict

pub returns-clause-chains : goal.returns-clause-chains
returns-clause-chains c =
    let book = c.args.book.now in
    let new = c.walked.new.book in
    let g = setting_of book.ranking in
    let lines = map line_of c.args.lines.now in
    let alone = root_alone c.args.root c.mark.result (length book.polynomials) c.push_state.new.stack.items c.new-stack.result.items c.in_ok-push_state.ensures c.mark.ensures c.new-stack.ensures.items in
    three_ok (λ x told chains none.
    taken_by book new c.walked.ensures.kept x.verdict x.chains.items none (walk g c.args.budget 0 1 (state_in book c.args.root ∷ []) (entries_of lines)) told (λ ends is certified.
    chains certified (chains_of ends)
    (subst (λ (ps : List PendingValue). Collects book g (chains_of ends) book ps [] lines) (sym alone)
    (record { mark = length book.polynomials; is = root_collects book g c.args.root c.requires.stands c.requires.facts lines c.args.budget ends is }))))
    c.walked.result (returns-clause-verdict c) c.walked.ensures.chains c.walked.ensures.none
