use Rattle.std.proofs.Common.{List, ◌+◌, Ok, subst}
use Rattle.dz_form.specs.Values.{item_answer}
use Rattle.dz_monomials.specs.Ranked.{symbols_under}
use Rattle.dz_poly.proofs.Books.{kept_trans}
use Rattle.dz_syntax.specs.declared.expression.Op.{Op}
use Rattle.dz_run.specs.System.{GivesNumbered, numbered}
use Rattle.dz_run.proofs.Lists.{items_more}
use Rattle.dz_run.proofs.system.expand_items.Goals as goal

pub items-preserved : goal.items-preserved
items-preserved c =
    let i = c.items.invariant in
    let given = subst (λ (item : List Op). GivesNumbered c.expand_numbered.new.book (Ok c.in_ok-p.p) (numbered c.args.group (c.items.index + 1) (item_answer (symbols_under c.items.book.ranking) item))) c.index-items-index.is c.in_ok-p.ensures.value in
    let more = items_more c.args.book.now c.items.book c.expand_numbered.new.book c.args.group c.args.items.now c.items.index c.index-items-index.result c.items.polys.items c.in_ok-p.p _ c.items-test.true i.live i.kept c.in_ok-p.ensures.kept given i.same in
    record { live = rw c.in_ok-push.ensures.items more.0; same = rw c.in_ok-push.ensures.items more.1; kept = kept_trans c.args.book.now c.items.book c.expand_numbered.new.book i.kept c.in_ok-p.ensures.kept }
