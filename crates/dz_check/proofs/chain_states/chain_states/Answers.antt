use Rattle.std.proofs.Common.{◌≡◌, ◌∷◌, ℕ, List, [], Ok, length, map, sym, subst}
use Rattle.std.specs.Prelude.{reverse}
use Rattle.dz_diff.specs.Operations.{setting_of}
use Rattle.dz_diff.specs.State.{State}
use Rattle.dz_diff.specs.States.{state_in}
use Rattle.dz_check.specs.Collecting.{AreCollected, IsCollecting}
use Rattle.dz_move.specs.Lines.{entries_of}
use Rattle.dz_check.specs.Pending.{PendingValue}
use Rattle.dz_move.specs.TreeLines.{line_of}
use Rattle.dz_check.specs.Walk.{End, chains_of, walk}
use Rattle.dz_check.proofs.ChainWalks.{root_collects}
use Rattle.dz_move.proofs.MemberLists.{if_ok}
use Rattle.dz_check.proofs.WalkedLines.{root_alone}
use Rattle.dz_check.proofs.chain_states.chain_states.Goals as goal

pub collected-requires : goal.collected-requires
collected-requires c =
    let book = c.args.book.now in
    let g = setting_of book.ranking in
    let lines = map line_of c.args.lines.now in
    let n = length book.polynomials in
    let budget = c.requires.certified.0 in
    let ends = c.requires.certified.1 in
    let alone = root_alone c.args.root c.mark.result n c.push_state.new.stack.items c.new-stack.result.items c.in_ok-push_state.ensures c.mark.ensures c.new-stack.ensures.items in
    record { collects = (chains_of ends, subst (λ (ps : List PendingValue). IsCollecting book g (chains_of ends) book n ps [] lines) (sym alone) (root_collects book g c.args.root c.requires.stands c.requires.facts lines budget ends c.requires.certified.2)) }

pub returns-clause-ok : goal.returns-clause-ok
returns-clause-ok c =
    let book = c.args.book.now in
    let g = setting_of book.ranking in
    let lines = map line_of c.args.lines.now in
    let n = length book.polynomials in
    let new = c.collected.new.book in
    let alone = root_alone c.args.root c.mark.result n c.push_state.new.stack.items c.new-stack.result.items c.in_ok-push_state.ensures c.mark.ensures c.new-stack.ensures.items in
    if_ok (λ taken. (whole : List State) → IsCollecting book g whole book n (reverse c.push_state.new.stack.items) [] lines → AreCollected book new whole taken.items)
    (λ taken. (budget : ℕ) (ends : List End) → walk g budget 0 1 (state_in book c.args.root ∷ []) (entries_of lines) ≡ Ok ends → AreCollected book new (chains_of ends) taken.items) c.collected.result
    (λ taken f budget ends e. f (chains_of ends) (subst (λ (ps : List PendingValue). IsCollecting book g (chains_of ends) book n ps [] lines) (sym alone) (root_collects book g c.args.root c.requires.stands c.requires.facts lines budget ends e)))
    c.collected.ensures.ok
