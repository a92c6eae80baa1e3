use Rattle.std.proofs.Common.{◌≡◌, ◌∙◌, ap, arith, subst, sym, length, Some}
use Rattle.dz_monomials.specs.Stops.{IsStop}
use Rattle.dz_diff.specs.Operations.{setting_of}
use Rattle.dz_diff.specs.State.{at_place}
use Rattle.dz_diff.specs.States.{state_in}
use Rattle.dz_pair.specs.Pair.{delta_answer}
use Rattle.dz_step.proofs.BookPlaces.{lives_at}
use Rattle.dz_move.proofs.MemberLists.{if_ok}
use Rattle.dz_engine.specs.Facts.{names_of}
use Rattle.dz_engine.proofs.KnownFacts.{names_length}
use Rattle.dz_engine.proofs.NamedLines.{nothing_at}
use Rattle.dz_engine.proofs.PairPlaces.{delta_here, pair_here, place_inside}
use Rattle.dz_engine.proofs.PairWays.{delta_of_pair, large_delta, wide_delta}
use Rattle.dz_engine.proofs.pairing.pair_course.Goals as goal

pub unreachable-requires : goal.unreachable-requires
unreachable-requires c = nothing_at c.args.book.now c.args.state.now.equations c.equations.result.now c.args.second _ c.equations.ensures.items c.requires.pair.second_is (sym c.member_at.ensures ∙ c.in_default.is)

pub delta_at-requires-clause-inside : goal.delta_at-requires-clause-inside
delta_at-requires-clause-inside c =
    let h = place_inside c.args.book.now c.args.state.now.equations c.args.first c.requires.pair.first c.requires.pair.first_is in
    omega (arith, h, names_length c.args.facts.now.items, ap length c.requires.names)

pub delta_at-requires-clause-lives : goal.delta_at-requires-clause-lives
delta_at-requires-clause-lives c = lives_at c.args.book.now c.args.state.now.equations c.args.second c.in-Some.q c.requires.stands.equations_live (ap (at_place c.args.second) (sym c.equations.ensures.items) ∙ sym c.member_at.ensures ∙ c.in-Some.is)

pub delta_at-requires-clause-pair : goal.delta_at-requires-clause-pair
delta_at-requires-clause-pair c =
    let second : at_place c.args.second c.args.state.now.equations ≡ Some c.in-Some.q = ap (at_place c.args.second) (sym c.equations.ensures.items) ∙ sym c.member_at.ensures ∙ c.in-Some.is in
    pair_here c.args.book.now c.args.state.now c.args.first c.args.second c.requires.pair (names_of c.args.facts.now.items) c.requires.names c.in-Some.q second

pub returns-in-Ok-clause-course : goal.returns-in-Ok-clause-course
returns-in-Ok-clause-course c =
    let book = c.args.book.now in
    let g = setting_of book.ranking in
    let s = state_in book c.args.state.now in
    let second : at_place c.args.second c.args.state.now.equations ≡ Some c.in-Some.q = ap (at_place c.args.second) (sym c.equations.ensures.items) ∙ sym c.member_at.ensures ∙ c.in-Some.is in
    let d = sym (delta_here book c.args.state.now c.args.first c.args.second c.requires.pair (names_of c.args.facts.now.items) c.requires.names c.in-Some.q second) ∙ c.in-Ok.ensures.ok in
    if_ok _ _ c.delta_course.result (λ x f budget w low left_is. f budget w c.args.first c.args.second low left_is (delta_of_pair g s c.args.first c.args.second c.requires.pair ∙ d) c.requires.pair) c.delta_course.ensures.course

pub returns-in-Err-Wide-clause-course : goal.returns-in-Err-Wide-clause-course
returns-in-Err-Wide-clause-course c = λ budget w low left_is.
    let book = c.args.book.now in
    let g = setting_of book.ranking in
    let s = state_in book c.args.state.now in
    let second : at_place c.args.second c.args.state.now.equations ≡ Some c.in-Some.q = ap (at_place c.args.second) (sym c.equations.ensures.items) ∙ sym c.member_at.ensures ∙ c.in-Some.is in
    let d = delta_here book c.args.state.now c.args.first c.args.second c.requires.pair (names_of c.args.facts.now.items) c.requires.names c.in-Some.q second in
    wide_delta g s c.args.first c.args.second c.requires.pair budget w c.new.result c.new.ensures (subst (λ stop. IsStop stop (delta_answer g c.requires.pair.first c.requires.pair.second)) c.in-Err-Wide.field-0-is (subst (IsStop c.in-Err-Wide.field-0) d c.in-Err-Wide.ensures.refused))

pub returns-in-Err-Large-clause-course : goal.returns-in-Err-Large-clause-course
returns-in-Err-Large-clause-course c = λ budget w low left_is.
    let book = c.args.book.now in
    let g = setting_of book.ranking in
    let s = state_in book c.args.state.now in
    let second : at_place c.args.second c.args.state.now.equations ≡ Some c.in-Some.q = ap (at_place c.args.second) (sym c.equations.ensures.items) ∙ sym c.member_at.ensures ∙ c.in-Some.is in
    let d = delta_here book c.args.state.now c.args.first c.args.second c.requires.pair (names_of c.args.facts.now.items) c.requires.names c.in-Some.q second in
    large_delta g s c.args.first c.args.second c.requires.pair budget w c.in-Err-Large.limit c.new-in-Err-Large.result c.new-in-Err-Large.ensures (subst (λ stop. IsStop stop (delta_answer g c.requires.pair.first c.requires.pair.second)) c.in-Err-Large.field-0-is (subst (IsStop c.in-Err-Large.field-0) d c.in-Err-Large.ensures.refused))
