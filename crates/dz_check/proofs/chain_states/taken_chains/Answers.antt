use Rattle.std.proofs.Common.{◌≡◌, ◌∷◌, ℕ, List, [], Ok, map}
use Rattle.dz_diff.specs.Operations.{setting_of}
use Rattle.dz_diff.specs.States.{state_in}
use Rattle.dz_check.specs.Collecting.{AreCollected}
use Rattle.dz_move.specs.Lines.{entries_of}
use Rattle.dz_move.specs.Systems.{system_in}
use Rattle.dz_move.specs.TreeLines.{line_of}
use Rattle.dz_check.specs.Walk.{End, chains_of, ends_in, ends_of, walk}
use Rattle.dz_check.proofs.ChainWalks.{certified_ends, collected_since}
use Rattle.dz_move.proofs.MemberLists.{if_ok}
use Rattle.dz_check.proofs.chain_states.taken_chains.Goals as goal

pub chain_states-requires-clause-certified : goal.chain_states-requires-clause-certified
chain_states-requires-clause-certified c =
    let old = c.args.book.now in
    let new = c.root.new.book in
    let system = system_in old c.args.system.now in
    let tree = c.args.tree.now in
    (tree.budget, ends_in (ends_of (setting_of old.ranking) system tree), certified_ends old.ranking new.ranking c.in_ok-root.ensures.kept.ranking system tree c.requires.certified (state_in new c.in_ok-root.root) c.in_ok-root.ensures.root (map line_of c.lines.result.now) c.lines.ensures)

pub returns-clause-ok : goal.returns-clause-ok
returns-clause-ok c =
    let old = c.args.book.now in
    let new = c.root.new.book in
    let last = c.chain_states.new.book in
    let system = system_in old c.args.system.now in
    let tree = c.args.tree.now in
    let root = state_in new c.in_ok-root.root in
    let lines = map line_of c.lines.result.now in
    let ends = ends_in (ends_of (setting_of old.ranking) system tree) in
    if_ok (λ taken. (budget : ℕ) (ends : List End) → walk (setting_of new.ranking) budget 0 1 (root ∷ []) (entries_of lines) ≡ Ok ends → AreCollected new last (chains_of ends) taken.items)
    (λ taken. AreCollected old last (chains_of ends) taken.items) c.chain_states.result
    (λ taken f. collected_since old new last c.in_ok-root.ensures.kept (chains_of ends) taken.items
    (f tree.budget ends (certified_ends old.ranking new.ranking c.in_ok-root.ensures.kept.ranking system tree c.requires.certified root c.in_ok-root.ensures.root lines c.lines.ensures)))
    c.chain_states.ensures.ok
