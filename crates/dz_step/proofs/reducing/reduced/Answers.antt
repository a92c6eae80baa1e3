use Rattle.std.proofs.Common.{◌≡◌, ◌-◌, ◌∙◌, ap, ap₂}
use Rattle.std.proofs.lemmas.Result.{err_from_is_err_and}
use Rattle.dz_algebra.specs.Norm.{content, gcd}
use Rattle.dz_algebra.specs.Parts.{coefficient_of, degree}
use Rattle.dz_rank.specs.Rankings.{ranking_cmp}
use Rattle.dz_monomials.specs.Terms.{times_power}
use Rattle.dz_step.proofs.StepParts.{at_least_one, divides_first, divides_second, left_refused, right_refused, rest_refused, result_is}
use Rattle.dz_step.proofs.reducing.reduced.Goals as goal

pub quotient_by-factor-requires-clause-positive : goal.quotient_by-factor-requires-clause-positive
quotient_by-factor-requires-clause-positive c =
    let r = c.args.ranking.now in
    let f = c.args.f.now.terms in
    let d = degree (ranking_cmp r) c.args.v f in
    let top : c.in_ok-top.top.terms ≡ times_power (ranking_cmp r) c.args.v (d - c.args.e) (coefficient_of (ranking_cmp r) c.args.v d f) = c.in_ok-top.ensures.terms ∙ ap (λ n. times_power (ranking_cmp r) c.args.v (n - c.args.e) (coefficient_of (ranking_cmp r) c.args.v n f)) c.degree-d.ensures in
    let k : c.common_content-k.result ≡ gcd (content c.args.m.terms) (content c.in_ok-top.top.terms) = c.common_content-k.ensures in
    at_least_one r f c.args.q.now.terms c.args.m.terms c.args.v c.args.e c.in_ok-top.top.terms c.common_content-k.result top k c.requires.f.keepable.canonical c.requires.occurs

pub quotient_by-factor-requires-clause-divides : goal.quotient_by-factor-requires-clause-divides
quotient_by-factor-requires-clause-divides c =
    let r = c.args.ranking.now in
    let f = c.args.f.now.terms in
    let d = degree (ranking_cmp r) c.args.v f in
    let top : c.in_ok-top.top.terms ≡ times_power (ranking_cmp r) c.args.v (d - c.args.e) (coefficient_of (ranking_cmp r) c.args.v d f) = c.in_ok-top.ensures.terms ∙ ap (λ n. times_power (ranking_cmp r) c.args.v (n - c.args.e) (coefficient_of (ranking_cmp r) c.args.v n f)) c.degree-d.ensures in
    let k : c.common_content-k.result ≡ gcd (content c.args.m.terms) (content c.in_ok-top.top.terms) = c.common_content-k.ensures in
    divides_first c.args.m.terms c.in_ok-top.top.terms c.common_content-k.result k

pub quotient_by-shift-requires-clause-positive : goal.quotient_by-shift-requires-clause-positive
quotient_by-shift-requires-clause-positive c =
    let r = c.args.ranking.now in
    let f = c.args.f.now.terms in
    let d = degree (ranking_cmp r) c.args.v f in
    let top : c.in_ok-top.top.terms ≡ times_power (ranking_cmp r) c.args.v (d - c.args.e) (coefficient_of (ranking_cmp r) c.args.v d f) = c.in_ok-top.ensures.terms ∙ ap (λ n. times_power (ranking_cmp r) c.args.v (n - c.args.e) (coefficient_of (ranking_cmp r) c.args.v n f)) c.degree-d.ensures in
    let k : c.common_content-k.result ≡ gcd (content c.args.m.terms) (content c.in_ok-top.top.terms) = c.common_content-k.ensures in
    at_least_one r f c.args.q.now.terms c.args.m.terms c.args.v c.args.e c.in_ok-top.top.terms c.common_content-k.result top k c.requires.f.keepable.canonical c.requires.occurs

pub quotient_by-shift-requires-clause-divides : goal.quotient_by-shift-requires-clause-divides
quotient_by-shift-requires-clause-divides c =
    let r = c.args.ranking.now in
    let f = c.args.f.now.terms in
    let d = degree (ranking_cmp r) c.args.v f in
    let top : c.in_ok-top.top.terms ≡ times_power (ranking_cmp r) c.args.v (d - c.args.e) (coefficient_of (ranking_cmp r) c.args.v d f) = c.in_ok-top.ensures.terms ∙ ap (λ n. times_power (ranking_cmp r) c.args.v (n - c.args.e) (coefficient_of (ranking_cmp r) c.args.v n f)) c.degree-d.ensures in
    let k : c.common_content-k.result ≡ gcd (content c.args.m.terms) (content c.in_ok-top.top.terms) = c.common_content-k.ensures in
    divides_second c.args.m.terms c.in_ok-top.top.terms c.common_content-k.result k

pub returns-in_err-left-clause-refused : goal.returns-in_err-left-clause-refused
returns-in_err-left-clause-refused c =
    let r = c.args.ranking.now in
    let f = c.args.f.now.terms in
    let d = degree (ranking_cmp r) c.args.v f in
    let top : c.in_ok-top.top.terms ≡ times_power (ranking_cmp r) c.args.v (d - c.args.e) (coefficient_of (ranking_cmp r) c.args.v d f) = c.in_ok-top.ensures.terms ∙ ap (λ n. times_power (ranking_cmp r) c.args.v (n - c.args.e) (coefficient_of (ranking_cmp r) c.args.v n f)) c.degree-d.ensures in
    let k : c.common_content-k.result ≡ gcd (content c.args.m.terms) (content c.in_ok-top.top.terms) = c.common_content-k.ensures in
    let y = err_from_is_err_and c.from_residual-in_err-left.result c.from_residual-in_err-left.ensures.1 in
    rw (y.1, y.2) (left_refused r f c.args.q.now.terms c.args.m.terms c.args.v c.args.e c.in_ok-top.top.terms c.common_content-k.result top k c.quotient_by-factor.result.terms c.quotient_by-shift.result.terms c.quotient_by-factor.ensures.terms c.quotient_by-shift.ensures.terms _ c.in_err-left.ensures)

pub returns-in_err-right-clause-refused : goal.returns-in_err-right-clause-refused
returns-in_err-right-clause-refused c =
    let r = c.args.ranking.now in
    let f = c.args.f.now.terms in
    let d = degree (ranking_cmp r) c.args.v f in
    let top : c.in_ok-top.top.terms ≡ times_power (ranking_cmp r) c.args.v (d - c.args.e) (coefficient_of (ranking_cmp r) c.args.v d f) = c.in_ok-top.ensures.terms ∙ ap (λ n. times_power (ranking_cmp r) c.args.v (n - c.args.e) (coefficient_of (ranking_cmp r) c.args.v n f)) c.degree-d.ensures in
    let k : c.common_content-k.result ≡ gcd (content c.args.m.terms) (content c.in_ok-top.top.terms) = c.common_content-k.ensures in
    let y = err_from_is_err_and c.from_residual-in_err-right.result c.from_residual-in_err-right.ensures.1 in
    rw (y.1, y.2) (right_refused r f c.args.q.now.terms c.args.m.terms c.args.v c.args.e c.in_ok-top.top.terms c.common_content-k.result top k c.quotient_by-factor.result.terms c.quotient_by-shift.result.terms c.quotient_by-factor.ensures.terms c.quotient_by-shift.ensures.terms _ c.in_ok-left.left.terms c.in_ok-left.ensures.ok c.in_err-right.ensures)

pub returns-in_err-rest-clause-refused : goal.returns-in_err-rest-clause-refused
returns-in_err-rest-clause-refused c =
    let r = c.args.ranking.now in
    let f = c.args.f.now.terms in
    let d = degree (ranking_cmp r) c.args.v f in
    let top : c.in_ok-top.top.terms ≡ times_power (ranking_cmp r) c.args.v (d - c.args.e) (coefficient_of (ranking_cmp r) c.args.v d f) = c.in_ok-top.ensures.terms ∙ ap (λ n. times_power (ranking_cmp r) c.args.v (n - c.args.e) (coefficient_of (ranking_cmp r) c.args.v n f)) c.degree-d.ensures in
    let k : c.common_content-k.result ≡ gcd (content c.args.m.terms) (content c.in_ok-top.top.terms) = c.common_content-k.ensures in
    let y = err_from_is_err_and c.from_residual-in_err-rest.result c.from_residual-in_err-rest.ensures.1 in
    rw (y.1, y.2) (rest_refused r f c.args.q.now.terms c.args.m.terms c.args.v c.args.e c.in_ok-top.top.terms c.common_content-k.result top k c.quotient_by-factor.result.terms c.quotient_by-shift.result.terms c.quotient_by-factor.ensures.terms c.quotient_by-shift.ensures.terms _ c.in_ok-left.left.terms c.in_ok-right.right.terms c.in_ok-left.ensures.ok c.in_ok-right.ensures.ok c.in_err-rest.ensures)

pub returns-clause-ok : goal.returns-clause-ok
returns-clause-ok c =
    let r = c.args.ranking.now in
    let f = c.args.f.now.terms in
    let d = degree (ranking_cmp r) c.args.v f in
    let top : c.in_ok-top.top.terms ≡ times_power (ranking_cmp r) c.args.v (d - c.args.e) (coefficient_of (ranking_cmp r) c.args.v d f) = c.in_ok-top.ensures.terms ∙ ap (λ n. times_power (ranking_cmp r) c.args.v (n - c.args.e) (coefficient_of (ranking_cmp r) c.args.v n f)) c.degree-d.ensures in
    let k : c.common_content-k.result ≡ gcd (content c.args.m.terms) (content c.in_ok-top.top.terms) = c.common_content-k.ensures in
    result_is r f c.args.q.now.terms c.args.m.terms c.args.v c.args.e c.in_ok-top.top.terms c.common_content-k.result top k c.quotient_by-factor.result.terms c.quotient_by-shift.result.terms c.quotient_by-factor.ensures.terms c.quotient_by-shift.ensures.terms c.in_ok-left.left.terms c.in_ok-right.right.terms c.in_ok-rest.rest.terms c.in_ok-left.ensures.ok c.in_ok-right.ensures.ok c.in_ok-rest.ensures.ok
