use Rattle.std.proofs.Common.{rules}
use Rattle.dz_int.proofs.Reduced.{inverse_coprime}
use Rattle.dz_int.proofs.fractions.Frac.inverse.Goals as goal

pub from_parts-requires-clause-coprime : goal.from_parts-requires-clause-coprime
from_parts-requires-clause-coprime c = inverse_coprime _ _ _ (search rules) c.self.invariant.reduced.coprime
