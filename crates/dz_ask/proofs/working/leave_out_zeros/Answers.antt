use Rattle.std.proofs.Common.{◌∙◌, rules, ap}
use Rattle.std.proofs.lemmas.Fn.{filter_same}
use Rattle.dz_ask.specs.Working.{terms_in}
use Rattle.dz_ask.proofs.TermPasses.{has_coefficient, nonzero_kept}
use Rattle.dz_ask.proofs.working.leave_out_zeros.Goals as goal

pub returns-clause-terms : goal.returns-clause-terms
returns-clause-terms c = ap terms_in (filter_same _ has_coefficient _ (λ x b f' k. search rules) _ _ c.retain.ensures.filtered) ∙ nonzero_kept c.args.terms.now.items
