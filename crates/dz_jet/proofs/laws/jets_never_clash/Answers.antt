use Rattle.dz_jet.proofs.ClashLaws.{clash_laws}
use Rattle.dz_jet.proofs.laws.jets_never_clash.Goals as goal

pub returns : goal.returns
returns g c = clash_laws
