use Rattle.std.proofs.Common.{◌≡◌, ◌∙◌, ◌++◌, ◌-◌, ap, sym, subst, map, slice_get, Option, Some, None, codes, decimal}
use Rattle.std.proofs.lemmas.List.Elements.{All-get_or}
use Rattle.dz_ask.proofs.ChainLists.{mapped_at}
use Rattle.dz_diff.specs.State.{State}
use Rattle.dz_diff.specs.States.{StandsIn, state_in}
use Rattle.dz_move.proofs.MemberLists.{if_ok}
use Rattle.dz_run.specs.Answer.{answer_of, continued, point_text, printed}
use Rattle.dz_run.specs.Charted.{chain_answer, chart_answer}
use Rattle.dz_run.specs.declared.ending.Ending.TheVariants.{Done, Point}
use Rattle.dz_run.proofs.ChartAnswers.{mapped_none, no_chain_is}
use Rattle.dz_run.proofs.charting.chain_told.Goals as goal

pub returns-in-None : goal.returns-in-None
returns-in-None c =
    let book = c.args.book.now in
    let q = c.args.request in
    let none : slice_get (map (λ s. state_in book s) c.args.chains.now) (q.chain - 1) ≡ None = mapped_none (λ s. state_in book s) c.args.chains.now (q.chain - 1) c.in-None.ensures.lookup.3 in
    if_ok (λ told. answer_of told ≡ record { output = c.args.document.items; ending = Point; point = point_text (codes "there is no chain " ++ decimal q.chain) })
    (λ told. answer_of told ≡ continued (printed c.args.document.items Done) (chain_answer c.args.what book.ranking c.args.names.now q.chain c.args.values.now q.order (slice_get (map (λ s. state_in book s) c.args.chains.now) (q.chain - 1))))
    c.no_chain_told.result
    (λ told e. e ∙ no_chain_is c.args.document.items (point_text (codes "there is no chain " ++ decimal q.chain))
    ∙ ap (λ (o : Option State). continued (printed c.args.document.items Done) (chain_answer c.args.what book.ranking c.args.names.now q.chain c.args.values.now q.order o)) (sym none))
    c.no_chain_told.ensures

pub chart_told-requires-clause-stands : goal.chart_told-requires-clause-stands
chart_told-requires-clause-stands c =
    subst (StandsIn c.args.book.now) (sym c.in-Some.ensures.lookup.1) (All-get_or (λ s. StandsIn c.args.book.now s) c.args.chains.now (c.args.request.chain - 1) c.in-Some.chain.now c.in-Some.ensures.lookup.3.0 c.requires.chains)

pub returns-in-Some : goal.returns-in-Some
returns-in-Some c =
    let book = c.args.book.now in
    let q = c.args.request in
    let document = c.args.document.items in
    let at : slice_get (map (λ s. state_in book s) c.args.chains.now) (q.chain - 1) ≡ Some (state_in book c.in-Some.chain.now) =
    mapped_at (λ s. state_in book s) c.args.chains.now (q.chain - 1) c.in-Some.chain.now c.in-Some.ensures.lookup.3.0 c.in-Some.ensures.lookup.1 in
    if_ok (λ told. answer_of told ≡ continued (printed document Done) (chart_answer c.args.what book.ranking c.args.names.now q.chain c.args.values.now q.order (state_in book c.in-Some.chain.now)))
    (λ told. answer_of told ≡ continued (printed document Done) (chain_answer c.args.what book.ranking c.args.names.now q.chain c.args.values.now q.order (slice_get (map (λ s. state_in book s) c.args.chains.now) (q.chain - 1))))
    c.chart_told.result
    (λ told e. e ∙ ap (λ (o : Option State). continued (printed document Done) (chain_answer c.args.what book.ranking c.args.names.now q.chain c.args.values.now q.order o)) (sym at))
    c.chart_told.ensures
