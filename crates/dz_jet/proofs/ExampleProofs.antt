-- The worked jets, by computation.
use Rattle.std.proofs.Common.{refl}
use Rattle.dz_algebra.specs.Derivation.{polynomial_derivative}
use Rattle.dz_algebra.specs.Norm.{gcd}
use Rattle.dz_algebra.specs.Polynomial.{polynomial_one}
use Rattle.dz_algebra.specs.Size.{support, fits, refusal, operation}
use Rattle.dz_rank.specs.Rankings.{ranking_cmp}
use Rattle.dz_monomials.specs.Ranked.{symbol_rate}
use Rattle.dz_algebra.specs.Norm.{norm}
use Rattle.dz_tree.specs.Chain.{chain_rule, evidence_weight}
use Rattle.dz_jet.specs.Examples.{JetExamples, PairExamples}
use Rattle.dz_jet.specs.Jets.{value_answer, jet_order, jet_answer}
use Rattle.dz_parametric.specs.Orders.{derivatives_to}

pub jet_examples : JetExamples
unfolding polynomial_derivative gcd polynomial_one support fits refusal operation ranking_cmp symbol_rate value_answer derivatives_to jet_order jet_answer
jet_examples = record { conic_jet = refl; off = refl; singular = refl; lacks = refl; too_much = refl; quarter = refl }

pub pair_examples : PairExamples
unfolding polynomial_derivative norm gcd polynomial_one support fits refusal operation ranking_cmp symbol_rate chain_rule evidence_weight value_answer derivatives_to jet_order jet_answer
pair_examples = record { is_chain = refl; gradient_jet = refl; tied_jet = refl }
