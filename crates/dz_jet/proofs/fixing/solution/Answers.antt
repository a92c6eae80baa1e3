use Rattle.std.proofs.Common.{subst}
use Rattle.dz_int.specs.Fractions.{IsProduct, inverse_of}
use Rattle.dz_poly.specs.Books.{polynomial}
use Rattle.dz_jet.proofs.FixingSteps.{no_rest, quotient_fits, quotient_is_wide}
use Rattle.dz_jet.proofs.fixing.solution.Goals as goal

pub returns-in_default : goal.returns-in_default
returns-in_default c = no_rest c.args.book.now.ranking c.args.values.now c.args.w c.args.separant (polynomial c.args.book.now c.args.p) c.evaluate_without.result c.evaluate_without.ensures c.in_default.is

pub returns-in-Some-div : goal.returns-in-Some-div
returns-in-Some-div c =
    quotient_fits c.args.book.now.ranking c.args.values.now c.args.w c.args.separant (polynomial c.args.book.now c.args.p) c.evaluate_without.result c.evaluate_without.ensures c.in-Some.rest c.in-Some.is
    c.numerator.ensures.fraction.reduced c.numerator-2.ensures.fraction.reduced c.requires.nonzero c.div.result (subst (λ f. IsProduct f (inverse_of c.args.separant) c.div.result) c.negative.ensures c.div.ensures) c.in-Some-div.value c.in-Some-div.is

pub returns-in-None : goal.returns-in-None
returns-in-None c =
    quotient_is_wide c.args.book.now.ranking c.args.values.now c.args.w c.args.separant (polynomial c.args.book.now c.args.p) c.evaluate_without.result c.evaluate_without.ensures c.in-Some.rest c.in-Some.is
    c.numerator.ensures.fraction.reduced c.numerator-2.ensures.fraction.reduced c.requires.nonzero c.div.result (subst (λ f. IsProduct f (inverse_of c.args.separant) c.div.result) c.negative.ensures c.div.ensures) c.in-None.is
