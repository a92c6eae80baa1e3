use Rattle.std.proofs.Common.{◌≡◌, ◌∙◌, inr, sym, Some, ap}
use Rattle.dz_algebra.specs.Parts.{leader}
use Rattle.dz_monomials.specs.Ranked.{symbols_under}
use Rattle.dz_diff.proofs.LeaderBounds.{leader_is_one}
use Rattle.dz_step.specs.StepStops.{stop_of}
use Rattle.dz_step.proofs.StepAnswers.{too_high_no_step}
use Rattle.dz_step.proofs.stepping.reduction_entry.Goals as goal

pub raise-requires : goal.raise-requires
raise-requires c =
    let e : leader (symbols_under c.args.ranking.now) c.args.q.now.terms ≡ Some c.in-Some.lead = sym (c.leader_of.ensures c.args.ranking.now c.requires.q) ∙ c.in-Some.is in
    leader_is_one c.args.ranking.now c.args.q.now.terms c.in-Some.lead e

pub returns-in_default-raise-clause-refused : goal.returns-in_default-raise-clause-refused
returns-in_default-raise-clause-refused c =
    let e : leader (symbols_under c.args.ranking.now) c.args.q.now.terms ≡ Some c.in-Some.lead = sym (c.leader_of.ensures c.args.ranking.now c.requires.q) ∙ c.in-Some.is in
    inr (ap stop_of (too_high_no_step c.args.ranking.now c.args.f.now.terms c.args.q.now.terms c.args.f.now.degrees c.args.operator c.in-Some.lead c.requires.f c.requires.q.keepable.canonical e c.in_default-raise.ensures))
