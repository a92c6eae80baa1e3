use Rattle.dz_syntax.specs.Systems.{tree_of}
use Rattle.dz_run.proofs.Lists.{limit_given, system_given, system_is}
use Rattle.dz_run.proofs.system.system_of.Goals as goal

pub returns-in-Ok-clause-system : goal.returns-in-Ok-clause-system
returns-in-Ok-clause-system c =
    let same = system_is (λ ps. ps.items) c.args.book.now c.expand_items.new.book c.expand_items-2.new.book (tree_of c.args.tree.now) c.in_ok-equations.equations c.in_ok-inequations.inequations c.deref.result.now c.deref-2.result.now
    c.requires.ranking c.in_ok-equations.ensures.kept c.in_ok-inequations.ensures.kept c.deref.ensures.value c.deref-2.ensures.value c.in_ok-equations.ensures.values c.in_ok-inequations.ensures.values in
    system_given c.expand_items-2.new.book c.in_ok-equations.equations.items c.in_ok-inequations.inequations.items _ same c.in-Ok.system c.in-Ok.ensures.ok c.in-Ok.ensures.within

pub returns-in-Err-clause-system : goal.returns-in-Err-clause-system
returns-in-Err-clause-system c =
    let same = system_is (λ ps. ps.items) c.args.book.now c.expand_items.new.book c.expand_items-2.new.book (tree_of c.args.tree.now) c.in_ok-equations.equations c.in_ok-inequations.inequations c.deref.result.now c.deref-2.result.now
    c.requires.ranking c.in_ok-equations.ensures.kept c.in_ok-inequations.ensures.kept c.deref.ensures.value c.deref-2.ensures.value c.in_ok-equations.ensures.values c.in_ok-inequations.ensures.values in
    limit_given c.expand_items-2.new.book c.in_ok-equations.equations.items c.in_ok-inequations.inequations.items _ same c.in-Err.limit c.in-Err.ensures.refused
