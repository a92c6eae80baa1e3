use Rattle.dz_rank.proofs.Raising.{grows}
use Rattle.dz_rank.proofs.laws.raising_grows.Goals as goal

pub returns : goal.returns
returns c = grows c.args.ranking.now c.args.a c.args.operator c.requires.derivative c.requires.proper
