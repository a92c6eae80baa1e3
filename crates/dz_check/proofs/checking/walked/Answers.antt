use Rattle.std.proofs.Common.{◌≡◌, ◌+◌, ◌∙◌, ◌||◌, Bool, true, false, List, [], map, drop, refl, ap, sym, subst}
use Rattle.std.specs.Prelude.{reverse}
use Rattle.std.proofs.lemmas.List.{drop_all}
use Rattle.dz_diff.specs.Operations.{setting_of}
use Rattle.dz_diff.specs.States.{StateValue}
use Rattle.dz_move.specs.Lines.{Line}
use Rattle.dz_move.specs.TreeLines.{line_of}
use Rattle.dz_check.specs.Collecting.{Collects}
use Rattle.dz_check.specs.Verdicts.{is_rejected, verdict_as}
use Rattle.dz_check.specs.Walk.{Verdict}
use Rattle.dz_check.specs.Walking.{IsRejection, IsWalking, verdict_from}
use Rattle.dz_move.proofs.MemberLists.{if_ok}
use Rattle.dz_check.proofs.PendingStacks.{stack_kept}
use Rattle.dz_check.proofs.TakenChains.{all_here, collects_behind, collects_here, pair_passed, told_for, walks_for}
use Rattle.dz_check.proofs.WalkedLines.{behind_told, handed_operators, here_told, lines_at, pair_told, pair_walks, walk_ends, walks_behind, walks_here}
use Rattle.dz_check.proofs.checking.walked.Goals as goal

pub lines-preserved-then-is_pair : goal.lines-preserved-then-is_pair
lines-preserved-then-is_pair c =
    let base = c.args.book.now in
    let lines = c.args.lines.now in
    let stack = reverse c.lines.stack.items in
    let line = line_of c.index-lines-k.result in
    let rest = map line_of (drop (c.lines.k + 1) lines) in
    let here = lines_at lines c.lines.k c.index-lines-k.result c.lines-test.true c.index-lines-k.is in
    let pairs = sym c.is_pair.ensures ∙ c.if-is_pair.true in
    record {
      walks = pair_walks base c.lines.book c.args.budget c.lines.weight stack line rest pairs (subst (λ (ls : List Line). IsWalking base c.lines.book c.args.budget c.lines.weight stack ls) here c.lines.invariant.walks);
      same = sym (ap (λ (ls : List Line). verdict_from (setting_of base.ranking) c.args.budget c.lines.weight c.lines.is_open (c.lines.k + 1) c.lines.book stack ls) here
          ∙ pair_told (setting_of base.ranking) c.args.budget c.lines.weight c.lines.book stack c.lines.is_open (c.lines.k + 1) line rest pairs)
          ∙ c.lines.invariant.same;
      collects = λ whole h.
          pair_passed base (setting_of base.ranking) whole c.lines.book stack c.lines.chains.items line rest pairs
          (subst (λ (ls : List Line). Collects base (setting_of base.ranking) whole c.lines.book stack c.lines.chains.items ls) here (c.lines.invariant.collects whole h));
    }

pub turn-requires-clause-operators : goal.turn-requires-clause-operators
turn-requires-clause-operators c =
    handed_operators c.args.book.now c.lines.book (stack_kept c.args.book.now (reverse c.lines.stack.items) c.lines.book c.lines.invariant.walks.stacked) c.args.lines.now (c.lines.k + 1) c.requires.operators

pub returns-in-Err-clause-verdict : goal.returns-in-Err-clause-verdict
returns-in-Err-clause-verdict c =
    let base = c.args.book.now in
    let book = c.lines.book in
    let lines = c.args.lines.now in
    let k = c.lines.k in
    let stack = reverse c.lines.stack.items in
    let keeps = stack_kept base stack book c.lines.invariant.walks.stacked in
    let whole = verdict_from (setting_of base.ranking) c.args.budget 0 false 1 base (reverse c.args.stack.now.items) (map line_of lines) in
    let same = here_told base book keeps c.args.budget c.lines.weight c.lines.is_open (k + 1) book stack lines k c.index-lines-k.result c.lines-test.true c.index-lines-k.is ∙ c.lines.invariant.same in
    if_ok (λ x. (told : Verdict) → IsRejection (k + 1) c.in-Err.fault told → verdict_as x.verdict ≡ told) (λ x. verdict_as x.verdict ≡ whole) c.rejected.result
    (λ x f. f whole (subst (IsRejection (k + 1) c.in-Err.fault) same (c.in-Err.ensures.refused (k + 1) c.lines.is_open)))
    c.rejected.ensures.verdict

pub lines-preserved : goal.lines-preserved
lines-preserved c =
    let base = c.args.book.now in
    let book = c.lines.book in
    let new = c.turn.new.book in
    let lines = c.args.lines.now in
    let k = c.lines.k in
    let stack = reverse c.lines.stack.items in
    let left = reverse c.turn.new.stack.items in
    let last = reverse c.take_any.new.stack.items in
    let turned = c.in-Ok.turned in
    let rest = map line_of (drop (k + 1) lines) in
    let keeps = stack_kept base stack book c.lines.invariant.walks.stacked in
    let here = here_told base book keeps c.args.budget c.lines.weight c.lines.is_open (k + 1) book stack lines k c.index-lines-k.result c.lines-test.true c.index-lines-k.is in
    let next = behind_told base book keeps c.args.budget turned.weight (c.lines.is_open || turned.is_open) (k + 1 + 1) new left lines (k + 1) in
    let walks = walks_behind base new c.args.budget turned.weight left lines (k + 1)
    (c.in-Ok.ensures.walks base (walks_here base book c.args.budget c.lines.weight stack lines k c.index-lines-k.result c.lines-test.true c.index-lines-k.is c.lines.invariant.walks)) in
    record {
      walks = walks_for base new left last c.in_ok-take_any-in-Ok.ensures.stack c.args.budget turned.weight rest walks;
      same = told_for base new left last c.in_ok-take_any-in-Ok.ensures.stack c.args.budget turned.weight rest (setting_of base.ranking) (c.lines.is_open || turned.is_open) (k + 1 + 1) walks.stacked
          ∙ sym next ∙ sym (c.in-Ok.ensures.ok (k + 1) c.lines.is_open) ∙ here ∙ c.lines.invariant.same;
      collects = λ whole h.
          let at = collects_here base book keeps whole book stack c.lines.chains.items lines k c.index-lines-k.result c.lines-test.true c.index-lines-k.is (c.lines.invariant.collects whole h) in
          collects_behind base book keeps whole new last c.take_any.new.taken.items lines (k + 1)
          (c.in_ok-take_any-in-Ok.ensures.collects base (setting_of book.ranking) whole _ (c.in-Ok.ensures.chains base whole c.lines.chains.items at));
    }

pub lines-init : goal.lines-init
lines-init c =
    let base = c.args.book.now in
    record {
      walks = c.requires.walks;
      same = refl;
      collects = λ whole h. subst (λ (ts : List StateValue). Collects base (setting_of base.ranking) whole base (reverse c.args.stack.now.items) ts (map line_of c.args.lines.now)) (sym c.new-chains.ensures.items) h;
    }

pub returns-in-Err-clause-chains : goal.returns-in-Err-clause-chains
returns-in-Err-clause-chains c =
    if_ok (λ x. is_rejected x.verdict ≡ true) _ c.rejected.result (λ x e f. absurd (both_tests (is_rejected x.verdict) e f)) c.rejected.ensures.rejected
  where
    both_tests : (b : Bool) → b ≡ true → b ≡ false → ⊥
    both_tests true e f = cc
    both_tests false e f = cc

pub returns-in-Err-clause-none : goal.returns-in-Err-clause-none
returns-in-Err-clause-none c = if_ok (λ x. x.chains.items ≡ []) (λ x. is_rejected x.verdict ≡ true → x.chains.items ≡ []) c.rejected.result (λ x e f. e) c.rejected.ensures.none

-- no line is left
no_lines : (c : goal.After-certified) → map line_of (drop c.lines.k c.args.lines.now) ≡ []
no_lines c = ap (map line_of) (drop_all c.lines.k c.args.lines.now c.lines-test.false)

pub returns-clause-verdict : goal.returns-clause-verdict
returns-clause-verdict c =
    let base = c.args.book.now in
    let stack = reverse c.lines.stack.items in
    let walks = subst (λ (ls : List Line). IsWalking base c.lines.book c.args.budget c.lines.weight stack ls) (no_lines c) c.lines.invariant.walks in
    let same = subst (λ (ls : List Line). verdict_from (setting_of base.ranking) c.args.budget c.lines.weight c.lines.is_open (c.lines.k + 1) c.lines.book stack ls ≡ verdict_from (setting_of base.ranking) c.args.budget 0 false 1 base (reverse c.args.stack.now.items) (map line_of c.args.lines.now)) (no_lines c) c.lines.invariant.same in
    c.certified.ensures.told ∙ sym (walk_ends (setting_of base.ranking) base c.lines.book c.args.budget c.lines.weight stack walks (c.lines.k + 1) c.lines.is_open) ∙ same

pub returns-clause-chains : goal.returns-clause-chains
returns-clause-chains c = λ _ whole h.
    let base = c.args.book.now in
    let stack = reverse c.lines.stack.items in
    all_here base (setting_of base.ranking) whole c.lines.book stack c.lines.chains.items
    (subst (λ (ls : List Line). Collects base (setting_of base.ranking) whole c.lines.book stack c.lines.chains.items ls) (no_lines c) (c.lines.invariant.collects whole h))
