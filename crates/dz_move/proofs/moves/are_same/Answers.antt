use Rattle.std.proofs.Common.{◌∙◌, sym}
use Rattle.dz_move.proofs.SameLists.{two_differ, two_same, unequal_lengths}
use Rattle.dz_move.proofs.moves.are_same.Goals as goal

pub returns-then-polys-others : goal.returns-then-polys-others
returns-then-polys-others c = unequal_lengths c.args.book.now c.args.polys.now c.args.others.now c.if-polys-others.true

pub returns-then-not-is_same : goal.returns-then-not-is_same
returns-then-not-is_same c = two_differ c.args.book.now c.args.polys.now c.args.others.now c.places.k c.places.invariant c.index-polys-k.result c.index-others-k.result c.places-test.true c.if-polys-others.false c.index-polys-k.is c.index-others-k.is (sym c.is_same.ensures ∙ c.if-not-is_same.true)

pub places-preserved : goal.places-preserved
places-preserved c = two_same c.args.book.now c.args.polys.now c.args.others.now c.places.k c.places.invariant c.index-polys-k.result c.index-others-k.result c.places-test.true c.if-polys-others.false c.index-polys-k.is c.index-others-k.is (sym c.is_same.ensures ∙ c.if-not-is_same.false)
