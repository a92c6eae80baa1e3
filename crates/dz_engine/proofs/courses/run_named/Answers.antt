use Rattle.std.proofs.Common.{◌∙◌, ◌-◌, ◌+◌, refl, sym}
use Rattle.dz_poly.specs.Books.{polynomial}
use Rattle.dz_diff.specs.Operations.{setting_of}
use Rattle.dz_diff.specs.States.{state_in}
use Rattle.dz_step.proofs.BookPlaces.{lives_at}
use Rattle.dz_move.proofs.MemberLists.{if_ok}
use Rattle.dz_engine.specs.Finding.{role_in}
use Rattle.dz_engine.specs.Naming.{members_of}
use Rattle.dz_engine.proofs.NamedLines.{course_is, member_is, not_none}
use Rattle.dz_engine.proofs.courses.run_named.Goals as goal

pub unreachable-requires : goal.unreachable-requires
unreachable-requires c =
    not_none c.args.book.now c.members_of.result.now (members_of c.args.members (state_in c.args.book.now c.args.state.now)) c.args.place (c.members_of.ensures.value c.args.book.now) c.requires.there (sym c.member_at.ensures ∙ c.in_default.is)

pub course-requires-clause-lives : goal.course-requires-clause-lives
course-requires-clause-lives c =
    lives_at c.args.book.now c.members_of.result.now c.args.place c.in-Some.p (c.members_of.ensures.live c.args.book.now c.requires.stands) (sym c.member_at.ensures ∙ c.in-Some.is)

pub returns-clause-named : goal.returns-clause-named
returns-clause-named c =
    let book = c.args.book.now in
    let g = setting_of book.ranking in
    let s = state_in book c.args.state.now in
    if_ok _ _ c.course_named.result (λ x f p there. f g c.args.budget c.args.weight (c.args.budget - (c.args.weight + 1)) s p there
    (course_is g s c.in_ok-coursed.coursed (role_in c.args.members c.args.place) (role_in c.args.members c.args.place) c.saturating_sub-left.result (c.args.budget - (c.args.weight + 1)) (polynomial book c.in-Some.p) p refl c.saturating_sub-left.ensures
    (member_is book c.members_of.result.now (members_of c.args.members s) c.args.place c.in-Some.p p (c.members_of.ensures.value book) (sym c.member_at.ensures ∙ c.in-Some.is) there) c.in_ok-coursed.ensures.course)) c.course_named.ensures.named
