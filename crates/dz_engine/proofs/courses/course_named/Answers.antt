use Rattle.std.proofs.Common.{subst}
use Rattle.dz_step.specs.FullRun.{full_run}
use Rattle.dz_move.proofs.MemberLists.{if_ok}
use Rattle.dz_engine.specs.Finding.{role_in}
use Rattle.dz_engine.specs.Naming.{IsCoursed}
use Rattle.dz_engine.proofs.NamedLines.{known_named, wide_named}
use Rattle.dz_engine.proofs.courses.course_named.Goals as goal

pub returns-in-Ended-clause-named : goal.returns-in-Ended-clause-named
returns-in-Ended-clause-named c = λ g budget w left s p there k.
    known_named g budget w left s c.args.members c.args.place p c.in-Ended.run' c.run_name.result c.in-Ended.end 0 c.run_name.ensures.name c.run_name.ensures.action there (subst (λ x. IsCoursed x (full_run g s (role_in c.args.members c.args.place) left p)) c.in-Ended.is k)

pub returns-in-Wide-clause-named : goal.returns-in-Wide-clause-named
returns-in-Wide-clause-named c = if_ok _ _ c.ended.result (λ x f g budget w left s p there k.
    wide_named g budget w s c.args.members c.args.place c.in-Wide.run' c.run_name-in-Wide.result x (full_run g s (role_in c.args.members c.args.place) left p) c.run_name-in-Wide.ensures.name c.run_name-in-Wide.ensures.action (subst (λ x. IsCoursed x (full_run g s (role_in c.args.members c.args.place) left p)) c.in-Wide.is k) (f g budget w s)) c.ended.ensures.named
