use Rattle.std.proofs.Common.{◌∙◌, ap, sym, eqb-true}
use Rattle.dz_poly.specs.Books.{polynomial}
use Rattle.dz_monomials.specs.Ranked.{symbols_under}
use Rattle.dz_diff.specs.Tests.{same}
use Rattle.dz_diff.proofs.SameTests.{same_itself}
use Rattle.dz_move.proofs.SameLists.{told_same}
use Rattle.dz_move.proofs.moves.is_same.Goals as goal

pub returns-then-eq : goal.returns-then-eq
returns-then-eq c =
    let book = c.args.book.now in
    let e = eqb-true c.args.p c.args.q (sym c.eq.ensures ∙ c.if-eq.true) in
    sym (ap (λ q. same (symbols_under book.ranking) (polynomial book c.args.p) (polynomial book q)) (sym e) ∙ same_itself book.ranking (polynomial book c.args.p))

pub returns : goal.returns
returns c = told_same c.args.book.now.ranking (polynomial c.args.book.now c.args.p) (polynomial c.args.book.now c.args.q) c.same.result c.same.ensures
