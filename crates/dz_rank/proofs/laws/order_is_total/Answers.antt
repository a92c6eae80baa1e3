use Rattle.std.proofs.lemmas.Cmp.{tied_itself}
use Rattle.dz_rank.proofs.RankingOrders.{ranking_total, ranking_same}
use Rattle.dz_rank.proofs.laws.order_is_total.Goals as goal

pub returns-clause-reflexive : goal.returns-clause-reflexive
returns-clause-reflexive c = tied_itself (ranking_total c.args.ranking.now) c.args.a

pub returns-clause-antisymmetric : goal.returns-clause-antisymmetric
returns-clause-antisymmetric c = ranking_same c.args.ranking.now c.args.a c.args.b

pub returns-clause-total : goal.returns-clause-total
returns-clause-total c = (ranking_total c.args.ranking.now).antisymm c.args.b c.args.a

pub returns-clause-transitive : goal.returns-clause-transitive
returns-clause-transitive c = (ranking_total c.args.ranking.now).trans c.args.a c.args.b c.args.c
