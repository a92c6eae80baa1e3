use Rattle.dz_syntax.proofs.SystemReadings.{one_system}
use Rattle.dz_syntax.proofs.system.one_tree.Goals as goal

pub returns : goal.returns
returns c = one_system
