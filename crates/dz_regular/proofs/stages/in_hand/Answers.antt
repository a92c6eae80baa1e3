use Rattle.std.proofs.Common.{◌≡◌, ◌<◌, ◌∙◌, length, sym, subst, arith, rules}
use Rattle.std.proofs.lemmas.Grind.{common_steps}
use Rattle.std.proofs.lemmas.List.{length-map}
use Rattle.dz_algebra.specs.Parts.{degree}
use Rattle.dz_rank.specs.Rankings.{ranking_cmp}
use Rattle.dz_monomials.specs.Ranked.{symbols_under}
use Rattle.dz_diff.specs.States.{polynomials}
use Rattle.dz_ask.proofs.HeldPreparations.{list_over}
use Rattle.dz_regular.specs.Rows.{Numbered, rest_of}
use Rattle.dz_regular.specs.Working.{polynomials_of}
use Rattle.dz_regular.proofs.Members.{found_member, member_occurs}
use Rattle.dz_regular.proofs.stages.in_hand.Goals as goal

pub equation_row-requires-clause-inside : goal.equation_row-requires-clause-inside
equation_row-requires-clause-inside c =
    let book = c.args.book.now in
    let es = polynomials book c.args.equations.now in
    let member = found_member (symbols_under book.ranking) es c.index.result.now.terms (c.in-Some.i, c.in-Some.v) (sym c.greatest_leader.ensures ∙ c.in-Some.is) in
    let inside = member.inside in
    let count : length es ≡ length c.args.equations.now = length-map c.args.equations.now _ in
    omega (arith, inside, count)

pub returns-clause-rows : goal.returns-clause-rows
returns-clause-rows c =
    let book = c.args.book.now in
    let r = book.ranking in
    let es = polynomials book c.args.equations.now in
    let f : c.index.result.now.terms ≡ rest_of (polynomials_of c.args.row.components.items) = first_of (search rules, grind (arith, common_steps)) in
    let member = found_member (symbols_under r) es c.index.result.now.terms (c.in-Some.i, c.in-Some.v) (sym c.greatest_leader.ensures ∙ c.in-Some.is) in
    let other : 0 < degree (ranking_cmp r) c.in-Some.v (rest_of (polynomials_of c.in_ok-other.other.components.items)) =
    subst (λ (x : Numbered). 0 < degree (ranking_cmp r) c.in-Some.v (rest_of x.components)) (sym c.in_ok-other.ensures.row) (member_occurs r es c.in-Some.i c.in-Some.v (list_over book c.args.equations.now c.opened.ensures c.requires.live) member.inside member.leads) in
    let row : 0 < degree (ranking_cmp r) c.in-Some.v (rest_of (polynomials_of c.args.row.components.items)) = subst (λ p. 0 < degree (ranking_cmp r) c.in-Some.v p) f member.occurs in
    (rw c.ranking.ensures at c.paired.ensures.rows) (length c.args.equations.now) c.in_ok-other.ensures.entries c.requires.row other row
