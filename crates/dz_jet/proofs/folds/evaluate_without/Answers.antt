use Rattle.std.proofs.Common.{◌+◌, ◌∙◌, drop, ap, sym, arith}
use Rattle.std.specs.Prelude.{pos}
use Rattle.dz_algebra.specs.Parts.{coefficient_of}
use Rattle.dz_poly.specs.Books.{polynomial}
use Rattle.dz_rank.specs.Rankings.{ranking_cmp}
use Rattle.dz_monomials.specs.Ranked.{symbols_under}
use Rattle.dz_jet.specs.Jets.{value_from, value_in}
use Rattle.dz_jet.proofs.FoldSteps.{made_whole, rest_ends, rest_goes_on, rest_passed, rest_stops}
use Rattle.dz_jet.proofs.folds.evaluate_without.Goals as goal
use Rattle.dz_jet.proofs.folds.evaluate_without.Goals.{then-exponent_at-eq0+in_ok-sum, else-exponent_at-eq0}

pub loop-k-init : goal.loop-k-init
loop-k-init c = ap (value_from (value_in (symbols_under c.args.book.now.ranking) c.args.values.now) (coefficient_of (ranking_cmp c.args.book.now.ranking) c.args.w 0 (polynomial c.args.book.now c.args.p))) (made_whole c.new-sum.result (pos 0) c.new-sum.ensures.fraction c.new-sum.ensures.value)

pub returns-in_err-sum : goal.returns-in_err-sum
returns-in_err-sum c =
    let at = value_in (symbols_under c.args.book.now.ranking) c.args.values.now in
    let q = polynomial c.args.book.now c.args.p in
    c.from_residual.ensures
    ∙ sym (rest_stops (ranking_cmp c.args.book.now.ranking) c.args.w at q c.loop-k.k c.loop-k.sum (omega (arith, c.loop-k-test.true, c.term_count-k-end.ensures)) c.exponent_at.result c.exponent_at.ensures c.if-exponent_at-eq0.true c.add_term.result c.add_term.ensures c.in_err-sum.was)
    ∙ c.loop-k.invariant

pub loop-k-preserved : goal.loop-k-preserved
loop-k-preserved c =
    let at = value_in (symbols_under c.args.book.now.ranking) c.args.values.now in
    let q = polynomial c.args.book.now c.args.p in
    elim c.if-exponent_at-eq0.branch [
      | then-exponent_at-eq0+in_ok-sum w ↦ ap (value_from at (coefficient_of (ranking_cmp c.args.book.now.ranking) c.args.w 0 (drop (c.loop-k.k + 1) q))) w.sum-is ∙ sym (rest_goes_on (ranking_cmp c.args.book.now.ranking) c.args.w at q c.loop-k.k c.loop-k.sum (omega (arith, c.loop-k-test.true, c.term_count-k-end.ensures)) c.exponent_at.result c.exponent_at.ensures w.if-exponent_at-eq0.true w.add_term.result w.add_term.ensures w.in_ok-sum.sum w.in_ok-sum.was) ∙ c.loop-k.invariant
      | else-exponent_at-eq0 w ↦ ap (value_from at (coefficient_of (ranking_cmp c.args.book.now.ranking) c.args.w 0 (drop (c.loop-k.k + 1) q))) w.sum-is ∙ sym (rest_passed (ranking_cmp c.args.book.now.ranking) c.args.w at q c.loop-k.k c.loop-k.sum (omega (arith, c.loop-k-test.true, c.term_count-k-end.ensures)) c.exponent_at.result c.exponent_at.ensures w.if-exponent_at-eq0.false) ∙ c.loop-k.invariant
    ]

pub returns : goal.returns
returns c =
    let at = value_in (symbols_under c.args.book.now.ranking) c.args.values.now in
    sym (rest_ends (ranking_cmp c.args.book.now.ranking) c.args.w at (polynomial c.args.book.now c.args.p) c.loop-k.k c.loop-k.sum (omega (arith, c.loop-k-test.false, c.term_count-k-end.ensures))) ∙ c.loop-k.invariant
