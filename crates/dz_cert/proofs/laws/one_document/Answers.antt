use Rattle.dz_cert.proofs.DocumentsRead.{one_reading}
use Rattle.dz_cert.proofs.laws.one_document.Goals as goal

pub returns : goal.returns
returns c = λ names bytes t u cs ds d is other. one_reading names bytes t u cs ds d is other
