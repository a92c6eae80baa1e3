use Rattle.std.proofs.Common.{◌≡◌, ◌∙◌, ◌∷◌, ◌++◌, [], List, length, map, ap, sym, subst}
use Rattle.std.specs.Prelude.{reverse}
use Rattle.dz_diff.specs.Operations.{setting_of}
use Rattle.dz_diff.specs.States.{StateValue}
use Rattle.dz_check.specs.Collecting.{IsCollecting, marked}
use Rattle.dz_check.specs.Pending.{PendingValue}
use Rattle.dz_move.specs.TreeLines.{line_of}
use Rattle.dz_check.specs.Walking.{pending_left}
use Rattle.dz_check.proofs.ChainWalks.{collecting_is, first_holds, none_taken, one_taken, under_kept}
use Rattle.dz_check.proofs.TakenChains.{three_ok}
use Rattle.dz_check.proofs.Walks.{popped}
use Rattle.dz_check.proofs.chain_states.collect.Goals as goal

pub retake-requires-clause-holds : goal.retake-requires-clause-holds
retake-requires-clause-holds c =
    let book = c.args.book.now in
    let g = setting_of book.ranking in
    let top = c.in-Some.top in
    let p = popped c.args.stack.now.items c.pop.new.self.items top c.in-Some.ensures.items in
    let line = line_of c.args.line.now in
    let h = subst (λ (ps : List PendingValue). IsCollecting c.requires.collects.0 g c.requires.collects.1 book c.args.floor ps c.args.taken.now.items (line ∷ c.requires.collects.2)) p c.requires.collects.3 in
    first_holds g c.requires.collects.0 c.requires.collects.1 book c.args.floor top (reverse c.pop.new.self.items) c.args.taken.now.items line c.requires.collects.2 c.requires.no_pair h

pub returns-in_err-state-clause-kept : goal.returns-in_err-state-clause-kept
returns-in_err-state-clause-kept c = λ floor h.
    under_kept floor c.args.book.now c.retake.new.book (reverse c.args.stack.now.items) (reverse c.pop.new.self.items) c.in-Some.top (popped c.args.stack.now.items c.pop.new.self.items c.in-Some.top c.in-Some.ensures.items) h c.in_err-state.ensures.kept

pub returns-in_err-push_left-clause-kept : goal.returns-in_err-push_left-clause-kept
returns-in_err-push_left-clause-kept c = λ floor h.
    under_kept floor c.args.book.now c.retake.new.book (reverse c.args.stack.now.items) (reverse c.pop.new.self.items) c.in-Some.top (popped c.args.stack.now.items c.pop.new.self.items c.in-Some.top c.in-Some.ensures.items) h c.in_ok-state.ensures.kept

pub returns-then-not-is_chain-clause-kept : goal.returns-then-not-is_chain-clause-kept
returns-then-not-is_chain-clause-kept c = λ floor h.
    under_kept floor c.args.book.now c.retake.new.book (reverse c.args.stack.now.items) (reverse c.pop.new.self.items) c.in-Some.top (popped c.args.stack.now.items c.pop.new.self.items c.in-Some.top c.in-Some.ensures.items) h c.in_ok-state.ensures.kept

pub returns-clause-kept : goal.returns-clause-kept
returns-clause-kept c = λ floor h.
    under_kept floor c.args.book.now c.retake.new.book (reverse c.args.stack.now.items) (reverse c.pop.new.self.items) c.in-Some.top (popped c.args.stack.now.items c.pop.new.self.items c.in-Some.top c.in-Some.ensures.items) h c.in_ok-state.ensures.kept

pub returns-then-not-is_chain-clause-ok : goal.returns-then-not-is_chain-clause-ok
returns-then-not-is_chain-clause-ok c = λ base whole lines h.
    let book = c.args.book.now in
    let g = setting_of book.ranking in
    let new = c.retake.new.book in
    let top = c.in-Some.top in
    let rest = reverse c.pop.new.self.items in
    let line = line_of c.args.line.now in
    let taken = c.args.taken.now.items in
    let p = popped c.args.stack.now.items c.pop.new.self.items top c.in-Some.ensures.items in
    let here = subst (λ (ps : List PendingValue). IsCollecting base g whole book c.args.floor ps taken (line ∷ lines)) p h in
    subst (λ (ps : List PendingValue). IsCollecting base g whole new c.args.floor ps taken lines) (sym c.in_ok-push_left.ensures)
    (none_taken g base whole book c.args.floor top rest taken line lines c.requires.no_pair here new c.in_ok-state.ensures.kept c.in_ok-state.field-0.left c.in_ok-state.ensures.left (sym c.is_chain.ensures ∙ c.if-not-is_chain.true))

pub returns-clause-ok : goal.returns-clause-ok
returns-clause-ok c =
    let book = c.args.book.now in
    let g = setting_of book.ranking in
    let new = c.retake.new.book in
    let top = c.in-Some.top in
    let rest = reverse c.pop.new.self.items in
    let line = line_of c.args.line.now in
    let taken = c.args.taken.now.items in
    let n = length new.polynomials in
    let p = popped c.args.stack.now.items c.pop.new.self.items top c.in-Some.ensures.items in
    three_ok (λ mark is_mark stacked items base whole lines h.
    let here = subst (λ (ps : List PendingValue). IsCollecting base g whole book c.args.floor ps taken (line ∷ lines)) p h in
    let more = one_taken g base whole book c.args.floor top rest taken line lines c.requires.no_pair here new c.in_ok-state.ensures.kept c.in_ok-state.field-0.left c.in_ok-state.ensures.left (sym c.is_chain.ensures ∙ c.if-not-is_chain.false) in
    let stack : reverse c.take_chain.new.stack.items ≡ map (marked n) (pending_left n c.in_ok-state.field-0.left ++ rest) = stacked ∙ ap (map (marked n)) c.in_ok-push_left.ensures in
    let states : c.take_chain.new.taken.items ≡ taken ++ top.state ∷ [] = items ∙ ap (λ (t : StateValue). taken ++ t ∷ []) c.in_ok-state.ensures.state in
    collecting_is base g whole new lines mark n _ _ _ _ is_mark stack states more)
    c.take_chain.result c.take_chain.ensures.mark c.take_chain.ensures.stack c.take_chain.ensures.taken
