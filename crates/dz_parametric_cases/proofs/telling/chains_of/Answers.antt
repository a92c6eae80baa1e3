use Rattle.std.proofs.Common.{sym, subst}
use Rattle.dz_diff.specs.Operations.{setting_of}
use Rattle.dz_check.specs.Certified.{IsCertified}
use Rattle.dz_move.specs.Systems.{system_in}
use Rattle.dz_parametric_cases.proofs.telling.chains_of.Goals as goal

pub chains-requires-clause-certified : goal.chains-requires-clause-certified
chains-requires-clause-certified c =
    let book = c.args.book.now in
    let tree = c.in_ok-tree.tree in
    subst (λ b. IsCertified (setting_of b.ranking) (system_in b c.args.system.now) tree) (sym c.in_ok-tree.ensures.book)
    ((c.worked_trees_are_certified.ensures (setting_of book.ranking)).certified (system_in book c.args.system.now) tree c.in_ok-tree.ensures.worked)
