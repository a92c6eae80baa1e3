use Rattle.std.proofs.Common.{◌≡◌, ◌≤◌, length, ap, arith, rules}
use Rattle.std.proofs.lemmas.Grind.{common_steps}
use Rattle.std.proofs.lemmas.Result.{err_from_is_err_and}
use Rattle.dz_rank.specs.declared.rankings.Signature.{Signature}
use Rattle.dz_monomials.specs.Ranked.{symbols_under}
use Rattle.dz_diff.proofs.OperatorAnswers.{derivations_refused}
use Rattle.dz_diff.proofs.operators.applied.Goals as goal

pub returns-in_err-answer-2 : goal.returns-in_err-answer-2
returns-in_err-answer-2 c =
    let y = err_from_is_err_and c.from_residual-in_err-answer-2.result c.from_residual-in_err-answer-2.ensures.1 in
    let n : c.signature-independents.result.independents ≡ c.args.ranking.now.signature.independents = ap (λ (s : Signature). s.independents) c.signature-independents.ensures.value in
    let few : c.args.ranking.now.signature.independents ≤ 4 = c.signature-independents.ensures.ranking.few_independents in
    let four : length c.args.operator.counts ≡ 4 = first_of (search rules, grind (arith, common_steps)) in
    rw (y.1, y.2)
    (derivations_refused (symbols_under c.args.ranking.now) c.loop-i.i c.args.ranking.now.signature.independents c.args.operator.counts _ c.args.entry.now.terms c.loop-i.answer.terms _ (omega arith) (omega arith) c.loop-i.invariant.derived c.in_err-answer-2.ensures)
