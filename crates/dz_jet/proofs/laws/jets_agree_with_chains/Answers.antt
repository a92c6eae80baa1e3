use Rattle.dz_jet.proofs.JetLawProofs.{jet_laws}
use Rattle.dz_jet.proofs.laws.jets_agree_with_chains.Goals as goal

pub returns : goal.returns
returns c = jet_laws
