use Rattle.std.proofs.Common.{arith}
use Rattle.dz_rank.specs.Symbols.{HasFourExponents}
use Rattle.dz_monomials.specs.Ranked.{symbol_rate}
use Rattle.dz_monomials.proofs.RateTables.{rate_more, low_more, in_at}
use Rattle.dz_monomials.proofs.rates.table_rates.Goals as goal

pub rate_of-requires-clause-four : goal.rate_of-requires-clause-four
rate_of-requires-clause-four c = in_at HasFourExponents c.loop-j.j c.args.table.now _ (omega arith) c.requires.four

pub loop-j-preserved : goal.loop-j-preserved
loop-j-preserved c = record {
  rates_are = rate_more (symbol_rate c.args.i) c.loop-j.j c.args.table.now _ (omega arith) _ _ _ c.in_ok-push_rate.ensures c.loop-j.invariant.rates_are c.in_ok-rate_of.ensures.ok;
  low = low_more (symbol_rate c.args.i) c.loop-j.j c.args.table.now _ (omega arith) c.loop-j.invariant.low c.in_ok-rate_of.ensures.low;
}
