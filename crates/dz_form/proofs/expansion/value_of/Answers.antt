use Rattle.std.proofs.lemmas.Result.{err_from_is_err_and}
use Rattle.dz_monomials.specs.Ranked.{symbols_under}
use Rattle.dz_terms.proofs.Answered.{answered}
use Rattle.dz_form.specs.Values.{values_of}
use Rattle.dz_form.proofs.Folding.{turn_refused, turns_done}
use Rattle.dz_form.proofs.expansion.value_of.Goals as goal

pub returns-in_err-step : goal.returns-in_err-step
returns-in_err-step c =
    let i = c.steps.invariant in
    let y = err_from_is_err_and c.from_residual.result c.from_residual.ensures.1 in
    rw (y.1, y.2) (turn_refused (symbols_under c.args.ranking.now) c.args.item.now c.steps-op-items.result.now c.steps.op-index (values_of c.steps.values.items) i.count i.whole _ c.steps-test.true _ c.in_err-step.ensures.refused)

pub returns : goal.returns
returns c =
    let i = c.steps.invariant in
    answered _ _ _
    (turns_done (symbols_under c.args.ranking.now) c.args.item.now c.steps-op-items.result.now c.steps.op-index (values_of c.steps.values.items) i.count i.whole c.steps-test.false _ _ c.take_latest.ensures.value)
    (c.take_latest.ensures.entry c.args.ranking.now i.entries)
