use Rattle.dz_syntax.proofs.Readings.{one_reading}
use Rattle.dz_syntax.proofs.item.one_reading.Goals as goal

pub returns : goal.returns
returns c = one_reading
