use Rattle.dz_cert.proofs.DocumentVerdicts.{verdict_laws}
use Rattle.dz_cert.proofs.laws.documents_are_judged.Goals as goal

pub returns : goal.returns
returns c = λ g names system tree chains formed. verdict_laws g names system tree chains formed
