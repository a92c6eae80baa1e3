use Rattle.std.proofs.Common.{◌∙◌, ap, sym}
use Rattle.dz_diff.specs.Operations.{setting_of}
use Rattle.dz_move.specs.Systems.{system_in}
use Rattle.dz_check.specs.Verdicts.{verdict_as}
use Rattle.dz_tree_cases.proofs.judging.chain_count.Goals as goal

pub chains-requires-clause-certified : goal.chains-requires-clause-certified
chains-requires-clause-certified c =
    let book = c.args.book.now in
    ((((c.trees_are_judged_by_line.ensures (setting_of book.ranking)).accepts (system_in book c.args.system.now) c.args.tree.now c.opened.ensures).0) (sym c.requires.verdict ∙ ap verdict_as c.in-Accepted.is)).0

pub chains-requires-in-Partial-clause-certified : goal.chains-requires-in-Partial-clause-certified
chains-requires-in-Partial-clause-certified c =
    let book = c.args.book.now in
    ((((c.trees_are_judged_by_line.ensures (setting_of book.ranking)).is_partial (system_in book c.args.system.now) c.args.tree.now c.opened.ensures).0) (sym c.requires.verdict ∙ ap verdict_as c.in-Partial.is)).0
