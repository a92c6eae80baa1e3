use Rattle.std.proofs.Common.{rules}
use Rattle.dz_rank.proofs.Tables.{tabled_copy}
use Rattle.dz_rank.proofs.rankings.Ranking.new.Goals as goal

pub invariant_of-result : goal.invariant_of-result
invariant_of-result c = tabled_copy c.args.signature c.args.blocks.now _ _ c.in_ok-check_names.ensures.made (search rules) (search rules)
