use Rattle.std.proofs.Common.{◌∙◌, [], ℕ, List, ap, subst, sym}
use Rattle.dz_monomials.specs.Ranked.{symbols_under}
use Rattle.dz_move.specs.Root.{kept_norms}
use Rattle.dz_diff.specs.States.{IsStateOf, MeanAll, polynomials, state_in}
use Rattle.dz_diff.specs.Tests.{is_unit, is_zero}
use Rattle.dz_move.proofs.RootFacts.{root_facts, root_is}
use Rattle.dz_move.proofs.roots.root_state.Goals as goal

pub new-requires-clause-facts : goal.new-requires-clause-facts
new-requires-clause-facts c =
    let old = c.args.book.now in
    let mid = c.kept_norms.new.book in
    let new = c.kept_norms-2.new.book in
    root_facts old mid new c.args.system.now.equations c.args.system.now.inequations c.in_ok-equations.equations.items c.in_ok-inequations.inequations.items c.requires c.in_ok-equations.ensures.kept c.in_ok-inequations.ensures.kept
    (subst (λ (ps : List ℕ). MeanAll mid c.in_ok-equations.equations.items (kept_norms (symbols_under old.ranking) is_zero [] (polynomials old ps))) c.equations.ensures c.in_ok-equations.ensures.value)
    (subst (λ (ps : List ℕ). MeanAll new c.in_ok-inequations.inequations.items (kept_norms (symbols_under mid.ranking) (is_unit (symbols_under mid.ranking)) [] (polynomials mid ps))) c.inequations.ensures c.in_ok-inequations.ensures.value)
    c.opened.ensures

pub returns-clause-root : goal.returns-clause-root
returns-clause-root c =
    let old = c.args.book.now in
    let mid = c.kept_norms.new.book in
    let new = c.kept_norms-2.new.book in
    ap (state_in new) c.new.ensures
    ∙ root_is old mid new c.args.system.now.equations c.args.system.now.inequations c.in_ok-equations.equations.items c.in_ok-inequations.inequations.items c.requires c.in_ok-equations.ensures.kept c.in_ok-inequations.ensures.kept
    (subst (λ (ps : List ℕ). MeanAll mid c.in_ok-equations.equations.items (kept_norms (symbols_under old.ranking) is_zero [] (polynomials old ps))) c.equations.ensures c.in_ok-equations.ensures.value)
    (subst (λ (ps : List ℕ). MeanAll new c.in_ok-inequations.inequations.items (kept_norms (symbols_under mid.ranking) (is_unit (symbols_under mid.ranking)) [] (polynomials mid ps))) c.inequations.ensures c.in_ok-inequations.ensures.value)

pub returns-clause-facts : goal.returns-clause-facts
returns-clause-facts c = subst (λ s. IsStateOf (symbols_under c.kept_norms-2.new.book.ranking) (state_in c.kept_norms-2.new.book s)) (sym c.new.ensures) (new-requires-clause-facts c.before)
