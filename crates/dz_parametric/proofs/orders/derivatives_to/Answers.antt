use Rattle.std.proofs.Common.{◌≡◌, ◌≤◌, ◌∙◌}
use Rattle.std.proofs.lemmas.Result.{IfOk-weaker}
use Rattle.dz_parametric.specs.Orders.{derivatives_to}
use Rattle.dz_parametric.proofs.UnledLists.{derivatives_unled}
use Rattle.dz_parametric.proofs.orders.derivatives_to.Goals as goal

pub returns : goal.returns
returns c =
    let r = c.args.ranking.now in
    IfOk-weaker c.unled_to.result _ (λ xs. xs.items ≡ derivatives_to r c.args.order) (λ xs is. is ∙ derivatives_unled r c.signature.ensures.ranking.few_independents c.args.order) c.unled_to.ensures
