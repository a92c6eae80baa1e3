use Rattle.dz_engine.proofs.KnownFacts.{ground_tested}
use Rattle.dz_engine.proofs.facts.known.Goals as goal

pub into_norm-requires : goal.into_norm-requires
into_norm-requires c = (c.args.book.now.ranking, c.requires)

pub returns : goal.returns
returns c = record {
  norm_is = c.into_norm.ensures.terms;
  entry = c.into_norm.ensures.entry c.args.book.now.ranking c.requires;
  ground_is = ground_tested c.args.book.now.ranking c.args.multiplier.terms c.leader_of.result c.is_none-is_ground.result (c.leader_of.ensures c.args.book.now.ranking c.requires) c.is_none-is_ground.ensures;
  unit_is = c.is_unit-is_unit.ensures c.args.book.now.ranking c.requires;
}
