use Rattle.std.proofs.lemmas.Result.{err_from_is_err_and}
use Rattle.dz_monomials.proofs.Halves.{factors_swapped}
use Rattle.dz_terms.proofs.products.product.Goals as goal

pub returns-in_err-product : goal.returns-in_err-product
returns-in_err-product c =
    let y = err_from_is_err_and c.from_residual.result c.from_residual.ensures.1 in
    let e = factors_swapped c.args.ranking.now c.args.p.now.terms _ c.args.q.now.terms _ c.requires.first c.requires.second in
    rw (y.1, y.2, e) c.in_err-product.ensures
