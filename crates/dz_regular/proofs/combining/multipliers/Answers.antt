use Rattle.std.proofs.Common.{◌≡◌, ◌-◌, ◌∙◌, ap, ap₂}
use Rattle.dz_algebra.specs.Norm.{content, gcd}
use Rattle.dz_algebra.specs.Parts.{coefficient_of, degree, initial}
use Rattle.dz_rank.specs.Rankings.{ranking_cmp}
use Rattle.dz_monomials.specs.Terms.{times_power}
use Rattle.dz_step.proofs.StepParts.{at_least_one, divides_first, divides_second}
use Rattle.dz_regular.proofs.RowMultipliers.{multipliers_are}
use Rattle.dz_regular.proofs.combining.multipliers.Goals as goal

pub quotient_by-requires-clause-positive : goal.quotient_by-requires-clause-positive
quotient_by-requires-clause-positive c =
    let r = c.args.ranking.now in
    let f = c.args.f.now.terms in
    let q = c.args.q.now.terms in
    let top : c.in_ok-top.top.terms ≡ times_power (ranking_cmp r) c.args.v (degree (ranking_cmp r) c.args.v f - degree (ranking_cmp r) c.args.v q) (initial (ranking_cmp r) c.args.v f) =
    c.in_ok-top.ensures.terms ∙ ap₂ (λ n e. times_power (ranking_cmp r) c.args.v (n - e) (coefficient_of (ranking_cmp r) c.args.v n f)) c.degree-d.ensures c.degree-e.ensures in
    let k : c.common_content-k.result ≡ gcd (content c.in_ok-initial.initial.terms) (content c.in_ok-top.top.terms) = c.common_content-k.ensures in
    at_least_one r f q c.in_ok-initial.initial.terms c.args.v (degree (ranking_cmp r) c.args.v q) c.in_ok-top.top.terms c.common_content-k.result top k c.requires.f.keepable.canonical c.requires.occurs

pub quotient_by-requires-clause-divides : goal.quotient_by-requires-clause-divides
quotient_by-requires-clause-divides c =
    let k : c.common_content-k.result ≡ gcd (content c.in_ok-initial.initial.terms) (content c.in_ok-top.top.terms) = c.common_content-k.ensures in
    divides_first c.in_ok-initial.initial.terms c.in_ok-top.top.terms c.common_content-k.result k

pub quotient_by-requires-2-clause-positive : goal.quotient_by-requires-2-clause-positive
quotient_by-requires-2-clause-positive c =
    let r = c.args.ranking.now in
    let f = c.args.f.now.terms in
    let q = c.args.q.now.terms in
    let top : c.in_ok-top.top.terms ≡ times_power (ranking_cmp r) c.args.v (degree (ranking_cmp r) c.args.v f - degree (ranking_cmp r) c.args.v q) (initial (ranking_cmp r) c.args.v f) =
    c.in_ok-top.ensures.terms ∙ ap₂ (λ n e. times_power (ranking_cmp r) c.args.v (n - e) (coefficient_of (ranking_cmp r) c.args.v n f)) c.degree-d.ensures c.degree-e.ensures in
    let k : c.common_content-k.result ≡ gcd (content c.in_ok-initial.initial.terms) (content c.in_ok-top.top.terms) = c.common_content-k.ensures in
    at_least_one r f q c.in_ok-initial.initial.terms c.args.v (degree (ranking_cmp r) c.args.v q) c.in_ok-top.top.terms c.common_content-k.result top k c.requires.f.keepable.canonical c.requires.occurs

pub quotient_by-requires-2-clause-divides : goal.quotient_by-requires-2-clause-divides
quotient_by-requires-2-clause-divides c =
    let k : c.common_content-k.result ≡ gcd (content c.in_ok-initial.initial.terms) (content c.in_ok-top.top.terms) = c.common_content-k.ensures in
    divides_second c.in_ok-initial.initial.terms c.in_ok-top.top.terms c.common_content-k.result k

pub returns-clause-multipliers : goal.returns-clause-multipliers
returns-clause-multipliers c =
    let r = c.args.ranking.now in
    let f = c.args.f.now.terms in
    let q = c.args.q.now.terms in
    let top : c.in_ok-top.top.terms ≡ times_power (ranking_cmp r) c.args.v (degree (ranking_cmp r) c.args.v f - degree (ranking_cmp r) c.args.v q) (initial (ranking_cmp r) c.args.v f) =
    c.in_ok-top.ensures.terms ∙ ap₂ (λ n e. times_power (ranking_cmp r) c.args.v (n - e) (coefficient_of (ranking_cmp r) c.args.v n f)) c.degree-d.ensures c.degree-e.ensures in
    let k : c.common_content-k.result ≡ gcd (content c.in_ok-initial.initial.terms) (content c.in_ok-top.top.terms) = c.common_content-k.ensures in
    let m : c.in_ok-initial.initial.terms ≡ initial (ranking_cmp r) c.args.v q = c.in_ok-initial.ensures.terms ∙ ap (λ e. coefficient_of (ranking_cmp r) c.args.v e q) c.degree-e.ensures in
    multipliers_are r c.args.v f q c.in_ok-initial.initial.terms c.in_ok-top.top.terms c.common_content-k.result c.quotient_by.result.terms c.quotient_by-2.result.terms m top k c.quotient_by.ensures.terms c.quotient_by-2.ensures.terms
