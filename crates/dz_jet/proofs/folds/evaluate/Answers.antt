use Rattle.std.proofs.Common.{◌∙◌, ap, sym, arith}
use Rattle.std.specs.Prelude.{pos}
use Rattle.dz_poly.specs.Books.{polynomial}
use Rattle.dz_monomials.specs.Ranked.{symbols_under}
use Rattle.dz_jet.specs.Jets.{value_from, value_in}
use Rattle.dz_jet.proofs.FoldSteps.{made_whole, term_stops, term_goes_on, terms_end}
use Rattle.dz_jet.proofs.folds.evaluate.Goals as goal

pub loop-k-init : goal.loop-k-init
loop-k-init c = ap (value_from (value_in (symbols_under c.args.book.now.ranking) c.args.values.now) (polynomial c.args.book.now c.args.p)) (made_whole c.new-sum.result (pos 0) c.new-sum.ensures.fraction c.new-sum.ensures.value)

pub returns-in_err-sum : goal.returns-in_err-sum
returns-in_err-sum c =
    let at = value_in (symbols_under c.args.book.now.ranking) c.args.values.now in
    let q = polynomial c.args.book.now c.args.p in
    c.from_residual.ensures ∙ sym (term_stops at q c.loop-k.k c.loop-k.sum (omega (arith, c.loop-k-test.true, c.term_count-k-end.ensures)) c.add_term.result c.add_term.ensures c.in_err-sum.was) ∙ c.loop-k.invariant

pub loop-k-preserved : goal.loop-k-preserved
loop-k-preserved c =
    let at = value_in (symbols_under c.args.book.now.ranking) c.args.values.now in
    let q = polynomial c.args.book.now c.args.p in
    sym (term_goes_on at q c.loop-k.k c.loop-k.sum (omega (arith, c.loop-k-test.true, c.term_count-k-end.ensures)) c.add_term.result c.add_term.ensures c.in_ok-sum.sum c.in_ok-sum.was) ∙ c.loop-k.invariant

pub returns : goal.returns
returns c =
    let at = value_in (symbols_under c.args.book.now.ranking) c.args.values.now in
    sym (terms_end at (polynomial c.args.book.now c.args.p) c.loop-k.k c.loop-k.sum (omega (arith, c.loop-k-test.false, c.term_count-k-end.ensures))) ∙ c.loop-k.invariant
