use Rattle.std.proofs.Common.{◌∙◌, slice_index_or, sym, ap, subst}
use Rattle.dz_algebra.specs.Size.{derivation_answer}
use Rattle.dz_poly.specs.Books.{Makes, polynomial}
use Rattle.dz_diff.specs.Operations.{operator_answer, setting_of}
use Rattle.dz_algebra.specs.Outcome.{◌>>=◌}
use Rattle.dz_jet.proofs.LastDerivations.{last_step, last_within}
use Rattle.dz_jet.proofs.derivatives.derivative.Goals as goal

pub differentiate-requires-clause-lives : goal.differentiate-requires-clause-lives
differentiate-requires-clause-lives c = (c.in-Some.ensures c.args.book.now c.args.equations.now c.requires.made).lives

pub returns-in-Some : goal.returns-in-Some
returns-in-Some c =
    let g = setting_of c.args.book.now.ranking in
    let q = polynomial c.args.book.now (slice_index_or c.args.equations.now c.args.fixing.index 0) in
    let made = c.in-Some.ensures c.args.book.now c.args.equations.now c.requires.made in
    let i = c.last_derivation-i.result in
    let within = last_within c.args.book.now.ranking.signature.independents i c.args.fixing.operator c.last_derivation-i.ensures c.requires.operator.zeros in
    subst (Makes c.args.book.now c.differentiate.new.book c.differentiate.result)
    (sym (last_step g c.args.fixing.operator i q within c.last_derivation-i.ensures ∙ ap (λ x. x >>= derivation_answer g.symbols i) (ap (λ t. operator_answer g t q) (sym c.lowered-operator.ensures) ∙ made.answer)))
    c.differentiate.ensures
