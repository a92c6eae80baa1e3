use Rattle.std.proofs.Common.{◌≡◌, ◌∙◌, ◌+◌, ◌++◌, ◌∷◌, [], ◌*ℤ◌, ap, ap₂, arith}
use Rattle.dz_algebra.specs.Amount.{amount}
use Rattle.dz_algebra.specs.Gather.{merge}
use Rattle.dz_algebra.specs.Monomial.{monomial_product}
use Rattle.std.proofs.lemmas.Result.{err_from_is_err_and}
use Rattle.dz_rank.specs.Rankings.{ranking_cmp}
use Rattle.dz_monomials.specs.Cells.{capped}
use Rattle.dz_monomials.proofs.Multiplying.{row_more, product_merges, monomial_at, low_at, row_refused}
use Rattle.dz_monomials.proofs.SymbolLaws.{ranking_order}
use Rattle.dz_terms.proofs.products.row_cells.Goals as goal

pub multiply-requires-clause-second : goal.multiply-requires-clause-second
multiply-requires-clause-second c = rw c.powers-in-loop-other.ensures (low_at (ranking_order c.args.ranking.now) c.args.q.now c.loop-other.other-index c.other-item.result (omega arith) c.other-item.is c.requires.low)

pub returns-in_err-powers-clause-refused : goal.returns-in_err-powers-clause-refused
returns-in_err-powers-clause-refused c =
    let y = err_from_is_err_and c.from_residual-in_err-powers.result c.from_residual-in_err-powers.ensures.1 in
    rw (y.1, y.2)
    (row_refused (ranking_order c.args.ranking.now) c.args.term.now.0 c.args.term.now.1 c.args.q.now c.loop-other.other-index c.other-item.result (omega arith) c.other-item.is c.requires.term c.requires.canonical _
    (rw (← c.powers.ensures, ← c.powers-in-loop-other.ensures) c.in_err-powers.ensures.refused))

pub loop-other-preserved : goal.loop-other-preserved
loop-other-preserved c =
    let cmp = ranking_cmp c.args.ranking.now in
    let t = c.args.term.now in
    let u = c.other-item.result in
    let i = c.loop-other.other-index in
    let powers : c.in_ok-powers.powers.items ≡ monomial_product cmp t.0 u.0 =
    c.in_ok-powers.ensures.ok ∙ ap₂ (λ m n. merge cmp ◌+◌ n m) c.powers.ensures c.powers-in-loop-other.ensures
    ∙ product_merges (ranking_order c.args.ranking.now) t.0 u.0 c.requires.term (monomial_at cmp c.args.q.now i u (omega arith) c.other-item.is c.requires.canonical) in
    let entry : c.product_cell.result ≡ (monomial_product cmp t.0 u.0, capped (amount (t.1 *ℤ u.1))) =
    c.product_cell.ensures ∙ ap (λ m. (m, capped (amount (t.1 *ℤ u.1)))) powers in
    c.in_ok-push_back.ensures.items
    ∙ ap₂ (λ l x. l ++ x ∷ []) c.loop-other.invariant entry
    ∙ row_more cmp t.0 t.1 i c.args.q.now u (omega arith) c.other-item.is
