use Rattle.dz_syntax.proofs.DocumentsFollow.{documents_follow}
use Rattle.dz_syntax.proofs.system.documents_follow.Goals as goal

pub returns : goal.returns
returns c = documents_follow
