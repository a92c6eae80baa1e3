use Rattle.std.proofs.Common.{◌<◌, ◌+◌, ◌-◌, ◌/◌, ◌∙◌, sym, ap, length, arith}
use Rattle.dz_algebra.specs.Monomial.{monomial_cmp}
use Rattle.dz_rank.specs.Rankings.{ranking_cmp}
use Rattle.dz_monomials.proofs.Searching.{middle_inside, turn_equal, turn_greater, turn_less}
use Rattle.dz_monomials.proofs.finding.place_of.Goals as goal

pub loop-low-preserved-in-Less : goal.loop-low-preserved-in-Less
loop-low-preserved-in-Less c =
    let v = c.loop-low.invariant in
    let i = c.loop-low.low + (c.loop-low.high - c.loop-low.low) / 2 in
    let half : i < c.loop-low.high = middle_inside c.loop-low.low c.loop-low.high c.loop-low-test.true in
    let inside : i < length c.args.terms.now = omega (arith, half, v.in_reach) in
    let order = ap (monomial_cmp (ranking_cmp c.args.ranking.now) c.args.powers.now) (sym c.powers.ensures) ∙ sym c.in-Less.ensures in
    record {
      ordered = omega (arith, half);
      in_reach = v.in_reach;
      below = turn_less c.args.ranking.now c.args.powers.now c.index-terms-middle.result i c.args.terms.now c.requires inside c.index-terms-middle.is order;
      above = v.above;
    }

pub returns-in-Equal-clause-found : goal.returns-in-Equal-clause-found
returns-in-Equal-clause-found c =
    let v = c.loop-low.invariant in
    let i = c.loop-low.low + (c.loop-low.high - c.loop-low.low) / 2 in
    let half : i < c.loop-low.high = middle_inside c.loop-low.low c.loop-low.high c.loop-low-test.true in
    let inside : i < length c.args.terms.now = omega (arith, half, v.in_reach) in
    let order = ap (monomial_cmp (ranking_cmp c.args.ranking.now) c.args.powers.now) (sym c.powers.ensures) ∙ sym c.in-Equal.ensures in
    turn_equal c.args.ranking.now c.args.powers.now c.index-terms-middle.result i c.args.terms.now inside c.index-terms-middle.is order

pub loop-low-preserved : goal.loop-low-preserved
loop-low-preserved c =
    let v = c.loop-low.invariant in
    let i = c.loop-low.low + (c.loop-low.high - c.loop-low.low) / 2 in
    let half : i < c.loop-low.high = middle_inside c.loop-low.low c.loop-low.high c.loop-low-test.true in
    let inside : i < length c.args.terms.now = omega (arith, half, v.in_reach) in
    let order = ap (monomial_cmp (ranking_cmp c.args.ranking.now) c.args.powers.now) (sym c.powers.ensures) ∙ sym c.in-Greater.ensures in
    record {
      ordered = omega arith;
      in_reach = omega (arith, inside);
      below = v.below;
      above = turn_greater c.args.ranking.now c.args.powers.now c.index-terms-middle.result i c.args.terms.now c.requires inside c.index-terms-middle.is order;
    }
