use Rattle.dz_poly.proofs.Books.{kept_trans}
use Rattle.dz_case.proofs.NewValues.{live_more}
use Rattle.dz_case.proofs.systems.values.Goals as goal

pub items-preserved : goal.items-preserved
items-preserved c =
    let i = c.items.invariant in
    let new = c.expand.new.book in
    record {
      live = live_more c.items.book new c.items.polys.items c.push.new.self.items c.in_ok-p.p i.live c.in_ok-p.ensures.kept c.in_ok-p.ensures.added c.in_ok-push.ensures.items;
      kept = kept_trans c.args.book.now c.items.book new i.kept c.in_ok-p.ensures.kept;
    }
