use Rattle.std.proofs.Common.{◌∙◌, ap}
use Rattle.dz_move.specs.Systems.{SystemValue, system_in}
use Rattle.dz_sample.proofs.Systems.{count_is, not_refused, system_is}
use Rattle.dz_sample.proofs.system.sample_system.Goals as goal

pub unreachable-requires : goal.unreachable-requires
unreachable-requires c =
    let is = system_is c.equation_polys.new.book c.args.book.now.ranking c.deref.result.now c.in_ok-polys.polys.items c.new.result.items c.args.seed c.args.size
    c.requires.ranking (c.deref.ensures.value ∙ c.in_ok-equations.ensures.value) c.new.ensures.items c.in_ok-polys.ensures.means in
    not_refused _ c.in-Err.field-0 c.args.seed c.args.size is c.requires.few c.in-Err.ensures.refused

pub returns-clause-value : goal.returns-clause-value
returns-clause-value c =
    ap (λ (s : SystemValue). system_in c.equation_polys.new.book s) c.in-Ok.ensures.ok
    ∙ system_is c.equation_polys.new.book c.args.book.now.ranking c.deref.result.now c.in_ok-polys.polys.items c.new.result.items c.args.seed c.args.size
    c.requires.ranking (c.deref.ensures.value ∙ c.in_ok-equations.ensures.value) c.new.ensures.items c.in_ok-polys.ensures.means

pub returns-clause-count : goal.returns-clause-count
returns-clause-count c =
    count_is c.equation_polys.new.book c.in-Ok.system c.args.seed c.args.size
    (ap (λ (s : SystemValue). system_in c.equation_polys.new.book s) c.in-Ok.ensures.ok
    ∙ system_is c.equation_polys.new.book c.args.book.now.ranking c.deref.result.now c.in_ok-polys.polys.items c.new.result.items c.args.seed c.args.size
    c.requires.ranking (c.deref.ensures.value ∙ c.in_ok-equations.ensures.value) c.new.ensures.items c.in_ok-polys.ensures.means)
