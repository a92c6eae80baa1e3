use Rattle.dz_report.proofs.VanishingLines.{vanishing_laws}
use Rattle.dz_report.proofs.laws.vanishing_is_told.Goals as goal

pub returns : goal.returns
returns c = λ g names budget chains f. vanishing_laws g names budget chains f
