use Rattle.std.proofs.Common.{◌≤◌, ◌+◌, ◌∙◌, ◌∷◌, ◌||◌, Bool, List, Option, map, ap, ap₂, sym, subst, arith}
use Rattle.std.specs.Prelude.{reverse}
use Rattle.std.proofs.lemmas.List.{length-reverse}
use Rattle.std.proofs.lemmas.Result.{err_from_is_err_and}
use Rattle.dz_diff.specs.Operations.{setting_of}
use Rattle.dz_diff.specs.States.{StateValue, state_in}
use Rattle.dz_tree.specs.Entering.{IsEntryFault}
use Rattle.dz_check.specs.Collecting.{Collects, CollectsOn, chain_at}
use Rattle.dz_check.specs.Leaving.{Leaves}
use Rattle.dz_move.specs.Lines.{Evidence, grouped}
use Rattle.dz_check.specs.Pending.{PendingValue, StackedIn, cut}
use Rattle.dz_move.specs.TreeLines.{line_of}
use Rattle.dz_check.specs.Walk.{entered}
use Rattle.dz_check.specs.Walking.{IsRejection, IsWalking, verdict_from}
use Rattle.dz_check.proofs.ChainWalks.{left_once, taken_on}
use Rattle.dz_check.proofs.Entries.{left_within}
use Rattle.dz_check.proofs.LeadingPairs.{evidence_within}
use Rattle.dz_check.proofs.Walks.{popped, some_pending, turn_keeps, turn_line, turn_refused, turn_told, turn_walks}
use Rattle.dz_check.proofs.walking.turn.Goals as goal

pub unreachable-requires : goal.unreachable-requires
unreachable-requires c =
    let some = some_pending c.requires.walks.0 c.args.book.now c.args.budget c.args.weight (reverse c.args.stack.now.items) (line_of c.args.line.now) (map line_of c.args.after.now) c.requires.walks.1 c.requires.no_pair in
    let none = c.in_default.ensures.cases.0 in
    let size = c.args.stack.now.ok.0 in
    let same = length-reverse c.args.stack.now.items in
    absurd (omega (arith, some, none, size, same))

pub take_up-requires-clause-operators : goal.take_up-requires-clause-operators
take_up-requires-clause-operators c = c.leading_pairs-evidence.ensures.operators c.args.book.now.ranking.signature.independents c.requires.operators

pub returns-in_err-left-clause-refused : goal.returns-in_err-left-clause-refused
returns-in_err-left-clause-refused c =
    let book = c.args.book.now in
    let g = setting_of book.ranking in
    let top = c.in-Some.top in
    let line = line_of c.args.line.now in
    let lines = map line_of c.args.after.now in
    let fault = c.in_err-left.field-0.0 in
    let rest = reverse c.pop.new.self.items in
    let y = err_from_is_err_and c.from_residual.result c.from_residual.ensures.1 in
    let h = subst (λ (es : List Evidence). IsEntryFault fault (entered g c.args.budget c.args.weight (state_in (cut top.mark book) top.state) line es)) c.leading_pairs-evidence.ensures.evidence c.in_err-left.ensures.refused in
    let p = popped c.args.stack.now.items c.pop.new.self.items top c.in-Some.ensures.items in
    rw (y.1, y.2)
    (λ place opens. subst (λ (ps : List PendingValue). IsRejection place fault (verdict_from g c.args.budget c.args.weight opens place book ps (line ∷ lines))) (sym p)
    (turn_refused g c.args.budget c.args.weight book book book top rest line lines c.requires.no_pair fault h place opens))

pub returns-in_err-left-clause-inside : goal.returns-in_err-left-clause-inside
returns-in_err-left-clause-inside c =
    let book = c.args.book.now in
    let g = setting_of book.ranking in
    let top = c.in-Some.top in
    let y = err_from_is_err_and c.from_residual.result c.from_residual.ensures.1 in
    let l = turn_line g c.args.budget c.args.weight (state_in (cut top.mark book) top.state) (line_of c.args.line.now) _ c.in_err-left.field-0.0 c.in_err-left.ensures.refused in
    let few = evidence_within c.leading_pairs-evidence.result.now in
    rw (y.1, y.2) (omega (arith, l, few, c.leading_pairs-evidence.ensures.inside))

pub returns-in_err-left-clause-kept : goal.returns-in_err-left-clause-kept
returns-in_err-left-clause-kept c = λ base h.
    let top = c.in-Some.top in
    turn_keeps (setting_of c.args.book.now.ranking) c.args.budget c.args.weight base c.args.book.now c.take_up.new.book top (reverse c.pop.new.self.items) (line_of c.args.line.now) (map line_of c.args.after.now) c.requires.no_pair
    (subst (λ (ps : List PendingValue). StackedIn base c.args.book.now ps) (popped c.args.stack.now.items c.pop.new.self.items top c.in-Some.ensures.items) h) c.in_err-left.ensures.kept

pub returns-in_err-push_left-clause-kept : goal.returns-in_err-push_left-clause-kept
returns-in_err-push_left-clause-kept c = λ base h.
    let top = c.in-Some.top in
    turn_keeps (setting_of c.args.book.now.ranking) c.args.budget c.args.weight base c.args.book.now c.take_up.new.book top (reverse c.pop.new.self.items) (line_of c.args.line.now) (map line_of c.args.after.now) c.requires.no_pair
    (subst (λ (ps : List PendingValue). StackedIn base c.args.book.now ps) (popped c.args.stack.now.items c.pop.new.self.items top c.in-Some.ensures.items) h) c.in_ok-left.ensures.kept

-- what the entry leaves, by the evidence that waits for its line
leaves : (c : goal.After-chain_at-chain) → Leaves c.take_up.new.book (line_of c.args.line.now) (state_in (cut c.in-Some.top.mark c.args.book.now) c.in-Some.top.state) c.in_ok-left.field-0
    (entered (setting_of c.args.book.now.ranking) c.args.budget c.args.weight (state_in (cut c.in-Some.top.mark c.args.book.now) c.in-Some.top.state) (line_of c.args.line.now) (grouped (map line_of c.args.after.now)).0)
leaves c =
    subst (λ (es : List Evidence). Leaves c.take_up.new.book (line_of c.args.line.now) (state_in (cut c.in-Some.top.mark c.args.book.now) c.in-Some.top.state) c.in_ok-left.field-0
    (entered (setting_of c.args.book.now.ranking) c.args.budget c.args.weight (state_in (cut c.in-Some.top.mark c.args.book.now) c.in-Some.top.state) (line_of c.args.line.now) es))
    c.leading_pairs-evidence.ensures.evidence c.in_ok-left.ensures.ok

pub overflow_add-result : goal.overflow_add-result
overflow_add-result c =
    let book = c.args.book.now in
    let top = c.in-Some.top in
    let l : c.args.weight + c.in_ok-left.field-0.weight ≤ c.args.budget =
    left_within (setting_of book.ranking) c.args.budget c.args.weight (state_in (cut top.mark book) top.state) (line_of c.args.line.now) _ _ (c.requires.walks.1).within (leaves c).is in
    let r = c.ranges.budget.fits in
    omega (arith, l, r)

pub returns-clause-ok : goal.returns-clause-ok
returns-clause-ok c = λ place opens.
    let book = c.args.book.now in
    let g = setting_of book.ranking in
    let top = c.in-Some.top in
    let line = line_of c.args.line.now in
    let lines = map line_of c.args.after.now in
    let new = c.take_up.new.book in
    let rest = reverse c.pop.new.self.items in
    let x = c.in_ok-left.field-0 in
    let p = popped c.args.stack.now.items c.pop.new.self.items top c.in-Some.ensures.items in
    let stacked = subst (λ (ps : List PendingValue). StackedIn c.requires.walks.0 book ps) p (c.requires.walks.1).stacked in
    ap (λ (ps : List PendingValue). verdict_from g c.args.budget c.args.weight opens place book ps (line ∷ lines)) p
    ∙ turn_told g c.args.budget c.args.weight c.requires.walks.0 book new top rest line lines c.requires.no_pair stacked c.in_ok-left.ensures.kept x (leaves c) place opens
    ∙ ap₂ (λ (b : Bool) (ps : List PendingValue). verdict_from g c.args.budget (c.args.weight + x.weight) (opens || b) (place + 1) new ps lines) (sym (c.leaves_open-is_open.ensures (state_in (cut top.mark book) top.state))) (sym c.in_ok-push_left.ensures)

pub returns-clause-walks : goal.returns-clause-walks
returns-clause-walks c = λ base walks.
    let book = c.args.book.now in
    let g = setting_of book.ranking in
    let top = c.in-Some.top in
    let line = line_of c.args.line.now in
    let lines = map line_of c.args.after.now in
    let new = c.take_up.new.book in
    let rest = reverse c.pop.new.self.items in
    let x = c.in_ok-left.field-0 in
    let p = popped c.args.stack.now.items c.pop.new.self.items top c.in-Some.ensures.items in
    let here = subst (λ (ps : List PendingValue). IsWalking base book c.args.budget c.args.weight ps (line ∷ lines)) p walks in
    subst (λ (ps : List PendingValue). IsWalking base new c.args.budget (c.args.weight + x.weight) ps lines) (sym c.in_ok-push_left.ensures)
    (turn_walks g c.args.budget c.args.weight base book new top rest line lines c.requires.no_pair here.stacked c.in_ok-left.ensures.kept x (leaves c) here)

pub returns-clause-chains : goal.returns-clause-chains
returns-clause-chains c = λ base whole taken h.
    let book = c.args.book.now in
    let g = setting_of book.ranking in
    let top = c.in-Some.top in
    let line = line_of c.args.line.now in
    let lines = map line_of c.args.after.now in
    let new = c.take_up.new.book in
    let rest = reverse c.pop.new.self.items in
    let x = c.in_ok-left.field-0 in
    let p = popped c.args.stack.now.items c.pop.new.self.items top c.in-Some.ensures.items in
    let here = subst (λ (ps : List PendingValue). Collects base g whole book ps taken (line ∷ lines)) p h in
    let left = left_once new g c.args.budget c.args.weight (state_in (cut top.mark book) top.state) line _ x (leaves c) in
    let on = taken_on g base whole book here.mark top rest taken line lines c.requires.no_pair here.is new c.in_ok-left.ensures.kept x.left left in
    subst (λ (o : Option StateValue). CollectsOn base g whole new (reverse c.push_left.new.stack.items) taken o lines) (sym (c.chain_at-chain.ensures ∙ ap (λ (p : PendingValue). chain_at line p.state) c.top.view_is))
    (subst (λ (ps : List PendingValue). CollectsOn base g whole new ps taken (chain_at line top.state) lines) (sym c.in_ok-push_left.ensures) on)

pub returns-clause-kept : goal.returns-clause-kept
returns-clause-kept c = λ base h.
    let top = c.in-Some.top in
    turn_keeps (setting_of c.args.book.now.ranking) c.args.budget c.args.weight base c.args.book.now c.take_up.new.book top (reverse c.pop.new.self.items) (line_of c.args.line.now) (map line_of c.args.after.now) c.requires.no_pair
    (subst (λ (ps : List PendingValue). StackedIn base c.args.book.now ps) (popped c.args.stack.now.items c.pop.new.self.items top c.in-Some.ensures.items) h) c.in_ok-left.ensures.kept
