use Rattle.dz_rank.specs.Standings.{HaveOneBlock}
use Rattle.dz_rank.proofs.rankings.Ranking.has_one_block.Given as goal

abbrev pub invariant-loop-u : goal.invariant-loop-u
invariant-loop-u l = HaveOneBlock l.u l.self.blocks
