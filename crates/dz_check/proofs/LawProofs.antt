-- The laws of trees.
use Rattle.dz_diff.specs.Operations.{Setting}
use Rattle.dz_check.specs.Laws.{TreeLaws}
use Rattle.dz_check.proofs.Certifying.{accepted_is, certified_is, partial_is}
use Rattle.dz_move.proofs.Progress.{perform_leads}

-- moves, forks and verdicts
pub tree_laws : (g : Setting) → TreeLaws g
tree_laws g = record {
  states = λ s action d e. (perform_leads g s action d e).states;
  weight = λ s action d e. (perform_leads g s action d e).weight;
  certified = certified_is g;
  accepts = accepted_is g;
  is_partial = partial_is g;
}
