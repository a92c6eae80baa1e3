use Rattle.dz_poly.proofs.Books.{kept_trans}
use Rattle.dz_ask.proofs.KeptTerms.{live_more, polynomials_more}
use Rattle.dz_regular.proofs.runs.kept_polys.Goals as goal

pub entries-preserved : goal.entries-preserved
entries-preserved c =
    let old = c.entries.book in
    let new = c.keep_copy.new.book in
    let kept = c.in_ok-p.ensures.kept in
    record {
      live = live_more old new kept c.entries.all.items c.push.new.self.items c.in_ok-p.p c.entry-item.result.terms c.entries.invariant.live c.in_ok-p.ensures.means c.in_ok-push.ensures.items;
      are = polynomials_more old new kept c.args.entries.now c.entries.entry-index c.entry-item.result c.entries-test.true c.entry-item.is c.entries.all.items c.push.new.self.items c.in_ok-p.p c.entries.invariant.live c.in_ok-p.ensures.means c.in_ok-push.ensures.items c.entries.invariant.are;
      kept = kept_trans c.args.book.now old new c.entries.invariant.kept kept;
    }
