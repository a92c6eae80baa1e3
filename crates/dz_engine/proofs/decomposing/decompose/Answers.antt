use Rattle.std.proofs.Common.{◌≡◌, ◌≤◌, false, subst, sym, true}
use Rattle.std.specs.List.{AllByRecursion}
use Rattle.dz_rank.specs.Rankings.{RankingValue}
use Rattle.dz_diff.specs.Operations.{setting_of}
use Rattle.dz_tree.specs.Belonging.{IsLineOf}
use Rattle.dz_move.specs.Systems.{system_in}
use Rattle.dz_tree.specs.Trees.{Tree}
use Rattle.dz_engine.specs.Worked.{IsWorked}
use Rattle.dz_engine.proofs.WorkedSystems.{worked_lines_belong, worked_system, worked_tree}
use Rattle.dz_engine.proofs.decomposing.decompose.Goals as goal

pub unreachable-requires : goal.unreachable-requires
unreachable-requires c =
    let book = c.args.book.now in
    let few : book.ranking.signature.independents ≤ 4 = subst (λ (r : RankingValue). r.signature.independents ≤ 4) c.ranking.ensures c.signature.ensures.ranking.few_independents in
    let named : book.ranking.signature.dependents ≤ 16 = subst (λ (r : RankingValue). r.signature.dependents ≤ 16) c.ranking.ensures c.signature.ensures.ranking.few_dependents in
    let z : false ≡ true = c.in_default.ensures.exact.1 (worked_tree book c.root.new.book c.in_ok-root.ensures.kept c.opened-2.ensures few named c.args.budget c.requires.most c.in_ok-root.root c.in_ok-root.ensures.stands c.in_ok-root.ensures.facts c.in_ok-lines.field-0.items c.in_ok-lines.ensures.lines) in
    cc

pub returns-clause-worked : goal.returns-clause-worked
returns-clause-worked c =
    let book = c.args.book.now in
    let few : book.ranking.signature.independents ≤ 4 = subst (λ (r : RankingValue). r.signature.independents ≤ 4) c.ranking.ensures c.signature.ensures.ranking.few_independents in
    let named : book.ranking.signature.dependents ≤ 16 = subst (λ (r : RankingValue). r.signature.dependents ≤ 16) c.ranking.ensures c.signature.ensures.ranking.few_dependents in
    subst (IsWorked (setting_of book.ranking) (system_in book c.args.system.now)) (sym c.in-Some.ensures.tree)
    (worked_system book c.root.new.book c.in_ok-root.ensures.kept c.opened-2.ensures few named c.args.budget c.requires.most c.in_ok-root.root c.in_ok-root.ensures.stands c.in_ok-root.ensures.facts c.in_ok-lines.field-0.items c.in_ok-lines.ensures.lines (system_in book c.args.system.now) c.in_ok-root.ensures.root)

pub returns-clause-belong : goal.returns-clause-belong
returns-clause-belong c =
    let book = c.args.book.now in
    let few : book.ranking.signature.independents ≤ 4 = subst (λ (r : RankingValue). r.signature.independents ≤ 4) c.ranking.ensures c.signature.ensures.ranking.few_independents in
    let named : book.ranking.signature.dependents ≤ 16 = subst (λ (r : RankingValue). r.signature.dependents ≤ 16) c.ranking.ensures c.signature.ensures.ranking.few_dependents in
    subst (λ (t : Tree). AllByRecursion (λ line. IsLineOf book.ranking.signature line) t.lines) (sym c.in-Some.ensures.tree)
    (worked_lines_belong book c.root.new.book c.in_ok-root.ensures.kept c.opened-2.ensures few named c.args.budget c.requires.most c.in_ok-root.root c.in_ok-root.ensures.stands c.in_ok-root.ensures.facts c.in_ok-lines.field-0.items c.in_ok-lines.ensures.lines)
