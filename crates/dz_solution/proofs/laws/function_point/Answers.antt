use Rattle.std.proofs.Common.{◌≤◌, ◌∙◌, refl, subst}
use Rattle.std.proofs.lemmas.List.{length-map}
use Rattle.dz_poly.specs.Books.{polynomial}
use Rattle.dz_rank.specs.Rankings.{RankingValue}
use Rattle.dz_domain.proofs.PointValues.{keepable}
use Rattle.dz_diff.specs.States.{polynomials}
use Rattle.dz_solution.proofs.FunctionPointProofs.{function_point_is, function_point_fits, vanishes_at_functions}
use Rattle.dz_solution.proofs.FunctionsInBook.{functions_are_ground}
use Rattle.dz_solution.proofs.laws.function_point.Goals as goal

pub returns-clause-point : goal.returns-clause-point
returns-clause-point c =
    let r = c.args.book.now.ranking in
    let few : r.signature.independents ≤ 4 = subst (λ (s : RankingValue). s.signature.independents ≤ 4) c.ranking.ensures c.signature.ensures.ranking.few_independents in
    function_point_is r.signature.independents few (polynomials c.args.book.now c.args.functions.now)

pub returns-clause-fits : goal.returns-clause-fits
returns-clause-fits c =
    let r = c.args.book.now.ranking in
    let few : r.signature.independents ≤ 4 = subst (λ (s : RankingValue). s.signature.independents ≤ 4) c.ranking.ensures c.signature.ensures.ranking.few_independents in
    function_point_fits r.signature.independents few (polynomials c.args.book.now c.args.functions.now) r.signature refl (length-map c.args.functions.now (polynomial c.args.book.now) ∙ c.requires.functions.one_each)

pub returns-clause-vanishes : goal.returns-clause-vanishes
returns-clause-vanishes c =
    let book = c.args.book.now in
    let r = book.ranking in
    let few : r.signature.independents ≤ 4 = subst (λ (s : RankingValue). s.signature.independents ≤ 4) c.ranking.ensures c.signature.ensures.ranking.few_independents in
    vanishes_at_functions r (polynomials book c.args.functions.now) (polynomial book c.args.p) few
    (length-map c.args.functions.now (polynomial book) ∙ c.requires.functions.one_each)
    (functions_are_ground book c.opened.ensures c.args.functions.now c.requires.functions)
    (keepable book c.args.p c.opened.ensures c.requires.lives).belongs
