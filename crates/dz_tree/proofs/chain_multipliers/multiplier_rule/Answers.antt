use Rattle.std.proofs.Common.{◌≡◌, ◌∙◌, ◌&&◌, Bool, true, false, sym, ap, refl}
use Rattle.dz_monomials.specs.Ranked.{symbols_under}
use Rattle.dz_diff.specs.States.{state_in}
use Rattle.dz_tree.specs.ChainParts.{multipliers}
use Rattle.dz_tree.proofs.ChainParts.{rule_in_book}
use Rattle.dz_tree.proofs.chain_multipliers.multiplier_rule.Goals.{then-not-permitted, else-not-permitted}
use Rattle.dz_tree.proofs.chain_multipliers.multiplier_rule.Goals as goal

pub equations-preserved : goal.equations-preserved
equations-preserved c =
    let book = c.args.book.now in
    let g = symbols_under book.ranking in
    let s = state_in book c.args.state.now in
    rule_in_book g s book c.equations-p-items.result.now c.equations.p-index c.p-item.result c.equations-test.true c.p-item.is c.equations.before c.in-Some.permitted c.if-not-permitted.before
    (sym c.in-Some.is ∙ c.in_ok-permitted.ensures ∙ ap (multipliers g s) c.entry.ensures.value)
    (elim c.if-not-permitted.branch [
      | then-not-permitted w ↦ w.before-is ∙ sym (ap (λ b. c.equations.before && b) w.if-not-permitted.true ∙ never c.equations.before)
      | else-not-permitted w ↦ w.before-is ∙ sym (ap (λ b. c.equations.before && b) w.if-not-permitted.false ∙ ever c.equations.before)
    ])
    _ c.equations.invariant
  where
    never : (b : Bool) → (b && false) ≡ false
    never true = refl
    never false = refl

    ever : (b : Bool) → (b && true) ≡ b
    ever true = refl
    ever false = refl
