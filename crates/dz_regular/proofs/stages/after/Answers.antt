use Rattle.std.proofs.Common.{◌<◌, length, arith, rules}
use Rattle.std.proofs.lemmas.Grind.{common_steps}
use Rattle.dz_algebra.specs.Parts.{degree}
use Rattle.dz_rank.specs.Rankings.{ranking_cmp}
use Rattle.dz_regular.specs.Rows.{rest_of}
use Rattle.dz_regular.specs.Working.{polynomials_of}
use Rattle.dz_regular.proofs.stages.after.Goals as goal

pub returns-clause-rows : goal.returns-clause-rows
returns-clause-rows c =
    let r = c.args.book.now.ranking in
    let positive : 0 < degree (ranking_cmp r) c.args.symbol (rest_of (polynomials_of c.args.row.components.items)) = first_of (search rules, grind (arith, common_steps)) in
    (rw c.ranking-2.ensures at c.paired.ensures.rows) (length c.args.equations.now) c.requires.row c.requires.second positive c.requires.occurs
