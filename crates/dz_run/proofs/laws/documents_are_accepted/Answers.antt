use Rattle.dz_run.proofs.AcceptedDocuments.{accepted_again}
use Rattle.dz_run.proofs.laws.documents_are_accepted.Goals as goal

pub returns : goal.returns
returns c = accepted_again
