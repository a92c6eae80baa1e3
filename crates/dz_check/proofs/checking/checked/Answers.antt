use Rattle.std.proofs.Common.{◌≡◌, ◌∙◌, [], ◌∷◌, List, Result, ℕ, map, ap, subst}
use Rattle.dz_diff.specs.Operations.{setting_of}
use Rattle.dz_diff.specs.States.{state_in}
use Rattle.dz_move.specs.declared.Rule.{Rule}
use Rattle.dz_move.specs.Lines.{entries_of}
use Rattle.dz_move.specs.Systems.{system_in}
use Rattle.dz_move.specs.TreeLines.{line_of}
use Rattle.dz_check.specs.Collecting.{AreCollected}
use Rattle.dz_check.specs.Verdicts.{verdict_as}
use Rattle.dz_check.specs.Walk.{End, chains_of, ends_in, ends_of, judged, verdict_of, walk}
use Rattle.dz_move.proofs.MemberLists.{if_ok}
use Rattle.dz_check.proofs.ChainWalks.{collected_since}
use Rattle.dz_check.proofs.WalkedLines.{root_walk}
use Rattle.dz_check.proofs.checking.checked.Goals as goal

-- the walk from the root is that of the tree
same_walk : (c : goal.After-judged) → walk (setting_of c.root.new.book.ranking) c.budget.result 0 1 (state_in c.root.new.book c.in_ok-root.root ∷ []) (entries_of (map line_of c.lines.result.now)) ≡ ends_of (setting_of c.args.book.now.ranking) (system_in c.args.book.now c.args.system.now) c.args.tree.now
same_walk c =
    let old = c.args.book.now in
    let new = c.root.new.book in
    root_walk old.ranking new.ranking c.in_ok-root.ensures.kept.ranking (system_in old c.args.system.now) c.args.tree.now (state_in new c.in_ok-root.root) c.in_ok-root.ensures.root c.budget.result c.budget.ensures (map line_of c.lines.result.now) c.lines.ensures

pub returns-clause-verdict : goal.returns-clause-verdict
returns-clause-verdict c =
    let new = c.root.new.book in
    let root = state_in new c.in_ok-root.root in
    let old = c.args.book.now in
    if_ok (λ x. verdict_as x.verdict ≡ judged (walk (setting_of new.ranking) c.budget.result 0 1 (root ∷ []) (entries_of (map line_of c.lines.result.now))))
    (λ x. verdict_as x.verdict ≡ verdict_of (setting_of old.ranking) (system_in old c.args.system.now) c.args.tree.now) c.judged.result (λ x e. e ∙ ap judged (same_walk c)) c.judged.ensures.verdict

pub returns-clause-chains : goal.returns-clause-chains
returns-clause-chains c =
    let old = c.args.book.now in
    let base = c.root.new.book in
    let new = c.judged.new.book in
    let root = state_in base c.in_ok-root.root in
    let ends = walk (setting_of base.ranking) c.budget.result 0 1 (root ∷ []) (entries_of (map line_of c.lines.result.now)) in
    if_ok (λ x. AreCollected base new (chains_of (ends_in ends)) x.chains.items)
    (λ x. AreCollected old new (chains_of (ends_in (ends_of (setting_of old.ranking) (system_in old c.args.system.now) c.args.tree.now))) x.chains.items) c.judged.result
    (λ x h. collected_since old base new c.in_ok-root.ensures.kept _ x.chains.items (subst (λ (q : Result (List End) (ℕ × Rule)). AreCollected base new (chains_of (ends_in q)) x.chains.items) (same_walk c) h))
    c.judged.ensures.chains
