use Rattle.std.proofs.Common.{◌≡◌, ◌∙◌, ◌-◌, map, slice_get}
use Rattle.dz_diff.specs.States.{state_in}
use Rattle.dz_move.proofs.MemberLists.{if_ok}
use Rattle.dz_move.specs.Systems.{system_in}
use Rattle.dz_run.specs.Answer.{answer_of, continued, printed}
use Rattle.dz_run.specs.Charted.{chain_answer, charted}
use Rattle.dz_run.specs.declared.ending.Ending.TheVariants.{Done}
use Rattle.dz_run.proofs.ChartAnswers.{values_are}
use Rattle.dz_run.proofs.charting.values_told.Goals.{in-Done, in_default}
use Rattle.dz_run.proofs.charting.values_told.Goals as goal

pub returns : goal.returns
returns c =
    let done : c.in_ok-worked.worked.ending ≡ Done = elim c.match-matches.branch [ in-Done w ↦ w.in-Done.is | in_default w ↦ absurd (let a = w.matches-is in let b = c.if-not-matches.false in cc) ] in
    let new = c.worked_system.new.book in
    let q = c.args.request in
    let system = system_in c.args.book.now c.args.system.now in
    if_ok (λ told. answer_of told ≡ continued (printed c.in_ok-worked.worked.document.items Done) (chain_answer c.args.what new.ranking c.args.names.now q.chain c.args.values.now q.order (slice_get (map (λ s. state_in new s) c.deref.result.now) (q.chain - 1))))
    (λ told. answer_of told ≡ charted c.args.what c.args.book.now.ranking c.args.names.now q c.args.values.now system) c.chain_told.result
    (λ told e. e ∙ values_are c.args.what c.args.book.now new c.in_ok-worked.ensures.kept c.args.names.now q c.args.values.now system c.in_ok-worked.worked.document.items c.in_ok-worked.worked.ending
    c.in_ok-worked.ensures.answer done c.deref.result.now (rw c.deref.ensures.value c.in_ok-worked.ensures.chains))
    c.chain_told.ensures
