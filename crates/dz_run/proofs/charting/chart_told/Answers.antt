use Rattle.std.proofs.Common.{◌≡◌, IfOk, subst, sym}
use Rattle.dz_diff.specs.States.{state_in}
use Rattle.dz_run.specs.Answer.{answer_of, continued, printed}
use Rattle.dz_run.specs.Charted.{chart_answer}
use Rattle.dz_run.specs.declared.ending.Ending.TheVariants.{Done}
use Rattle.dz_run.proofs.charting.chart_told.Goals as goal

pub returns-in-Parametric : goal.returns-in-Parametric
returns-in-Parametric c =
    let book = c.args.book.now in
    let q = c.args.request in
    subst (λ what. IfOk c.parametric_told.result (λ told. answer_of told ≡ continued (printed c.args.document.items Done) (chart_answer what book.ranking c.args.names.now q.chain c.args.values.now q.order (state_in book c.args.chain.now))))
    (sym c.in-Parametric.is) (c.parametric_told.ensures c.args.values.now)
