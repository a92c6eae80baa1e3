use Rattle.std.proofs.Common.{length, subst}
use Rattle.dz_monomials.specs.Ranked.{symbols_under}
use Rattle.dz_diff.specs.States.{polynomials}
use Rattle.dz_regular.specs.Progress.{IsAtStage}
use Rattle.dz_regular.specs.Working.{IsStage, stage_in}
use Rattle.dz_regular.specs.declared.stages.WorkingStage.{WorkingStage}
use Rattle.dz_regular.proofs.runs.run_on.Goals as goal

pub combinations-preserved : goal.combinations-preserved
combinations-preserved c =
    let r = c.args.book.now.ranking in
    let es = polynomials c.args.book.now c.args.equations.now in (
      subst (λ (s : WorkingStage). IsStage r (length c.args.equations.now) s) c.in-Ok-AtWork.field-0-is c.in-Ok-AtWork.ensures.rows,
      c.in-Ok-AtWork.ensures.room,
      λ budget course at.
          subst (λ (s : WorkingStage). IsAtStage (symbols_under r) es budget course c.advance.new.run (stage_in s)) c.in-Ok-AtWork.field-0-is (c.in-Ok-AtWork.ensures.advance budget course (c.combinations.invariant.2 budget course at)),
    )

pub returns-in-Ok-Ended-clause-outcome : goal.returns-in-Ok-Ended-clause-outcome
returns-in-Ok-Ended-clause-outcome c = λ budget course at.
    let r = c.args.book.now.ranking in
    let es = polynomials c.args.book.now c.args.equations.now in
    (subst (λ (s : WorkingStage). IsAtStage (symbols_under r) es budget course c.advance.new.run (stage_in s)) c.in-Ok-Ended.field-0-is (c.in-Ok-Ended.ensures.advance budget course (c.combinations.invariant.2 budget course at))).3

pub returns-in-Err-clause-outcome : goal.returns-in-Err-clause-outcome
returns-in-Err-clause-outcome c = λ budget course at. c.in-Err.ensures.advance budget course (c.combinations.invariant.2 budget course at)
