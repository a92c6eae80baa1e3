use Rattle.dz_poly.proofs.Books.{kept_trans}
use Rattle.dz_sample.proofs.EquationLists.{mean_more}
use Rattle.dz_sample.proofs.system.equation_polys.Goals as goal

pub equations-preserved : goal.equations-preserved
equations-preserved c =
    let i = c.equations.invariant in
    record {
      means = rw c.in_ok-push-in-Ok.ensures.items
          (mean_more c.args.book.now c.equations.book c.equation_poly.new.book c.args.equations.now c.equations.equation-index _ c.equations.polys.items c.in-Ok.p
          c.equations-test.true i.kept c.in-Ok.ensures.kept i.means c.in-Ok.ensures.value);
      kept = kept_trans c.args.book.now c.equations.book c.equation_poly.new.book i.kept c.in-Ok.ensures.kept;
    }
