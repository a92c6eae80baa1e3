use Rattle.std.proofs.Common.{◌∙◌, ℕ, map, ap}
use Rattle.std.specs.Prelude.{reverse}
use Rattle.dz_check.specs.Collecting.{marked}
use Rattle.dz_check.proofs.ChainWalks.{reversed}
use Rattle.dz_check.proofs.taking.take_chain.Goals as goal

pub returns-clause-stack : goal.returns-clause-stack
returns-clause-stack c =
    ap reverse c.mark_all.ensures ∙ reversed (marked c.mark-mark.result) c.args.stack.now.items
    ∙ ap (λ (m : ℕ). map (marked m) (reverse c.args.stack.now.items)) c.mark-mark.ensures
