use Rattle.std.proofs.lemmas.Result.{err_from_is_err_and}
use Rattle.dz_monomials.specs.Ranked.{symbols_under}
use Rattle.dz_form.proofs.Stacks.{sum_made, sum_refused}
use Rattle.dz_form.proofs.expansion.add_latest.Goals as goal

pub returns-in_err-sum-clause-entries : goal.returns-in_err-sum-clause-entries
returns-in_err-sum-clause-entries c = c.take_latest-first.ensures.entries c.args.ranking.now (c.take_latest-second.ensures.entries c.args.ranking.now c.requires.entries)

pub returns-in_err-sum-clause-refused : goal.returns-in_err-sum-clause-refused
returns-in_err-sum-clause-refused c =
    let y = err_from_is_err_and c.from_residual.result c.from_residual.ensures.1 in
    rw (y.1, y.2) (sum_refused (symbols_under c.args.ranking.now) _ _ _ _ _ _ c.take_latest-second.ensures.value c.take_latest-first.ensures.value c.in_err-sum.ensures)

pub returns-clause-made : goal.returns-clause-made
returns-clause-made c = sum_made (symbols_under c.args.ranking.now) _ _ _ _ _ _ c.take_latest-second.ensures.value c.take_latest-first.ensures.value c.in_ok-sum.ensures.ok

pub returns-clause-entries : goal.returns-clause-entries
returns-clause-entries c = c.take_latest-first.ensures.entries c.args.ranking.now (c.take_latest-second.ensures.entries c.args.ranking.now c.requires.entries)
