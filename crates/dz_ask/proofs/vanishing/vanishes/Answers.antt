use Rattle.std.proofs.Common.{◌∙◌, map, refl, sym, subst}
use Rattle.std.proofs.lemmas.Bool.{MatchBool-at_true, MatchBool-at_false}
use Rattle.dz_poly.specs.Books.{polynomial}
use Rattle.dz_diff.specs.Operations.{setting_of}
use Rattle.dz_diff.specs.States.{StandsIn, state_in}
use Rattle.dz_step.specs.Attempts.{IsAttemptOf}
use Rattle.dz_step.specs.FullRun.{full_run}
use Rattle.dz_step.specs.declared.Role.TheVariants.{Free}
use Rattle.dz_ask.specs.Vanishing.{LeavesRemainder, RunsToZero}
use Rattle.dz_ask.proofs.ChainLists.{mapped_at, all_taken_more}
use Rattle.dz_ask.proofs.vanishing.vanishes.Goals as goal

pub runs_to_zero-requires-clause-stands : goal.runs_to_zero-requires-clause-stands
runs_to_zero-requires-clause-stands c =
    subst (λ b. StandsIn b c.index-chains-i.result) (sym c.loop-i.invariant.same)
    (subst (StandsIn c.args.book.now) (sym c.index-chains-i.is) (c.requires.stand c.loop-i.i c.index-chains-i.result c.loop-i-test.true))

pub returns-in-Ok-false-clause-answer : goal.returns-in-Ok-false-clause-answer
returns-in-Ok-false-clause-answer c =
    let chain = c.index-chains-i.result in (
      c.loop-i.i,
      record {
        zeros = c.loop-i.invariant.zeros;
        chain = state_in c.args.book.now chain;
        stands = mapped_at (state_in c.args.book.now) c.args.chains.now c.loop-i.i chain c.loop-i-test.true c.index-chains-i.is;
        is_so = subst (λ b. LeavesRemainder (setting_of b.ranking) c.args.budget (polynomial b c.args.f) (state_in b chain)) c.loop-i.invariant.same (MatchBool-at_false _ _ c.in-Ok-false.field-0-test c.in-Ok-false.ensures.answer);
      },
    )

pub returns-in-Err-clause-stopped : goal.returns-in-Err-clause-stopped
returns-in-Err-clause-stopped c =
    let chain = c.index-chains-i.result in (
      c.loop-i.i,
      refl,
      record {
        zeros = c.loop-i.invariant.zeros;
        chain = state_in c.args.book.now chain;
        stands = mapped_at (state_in c.args.book.now) c.args.chains.now c.loop-i.i chain c.loop-i-test.true c.index-chains-i.is;
        is_so = subst (λ b. IsAttemptOf (full_run (setting_of b.ranking) (state_in b chain) Free c.args.budget (polynomial b c.args.f)) c.in-Err.attempt.run c.in-Err.attempt.stop) c.loop-i.invariant.same c.in-Err.ensures.stopped;
      },
    )

pub loop-i-preserved : goal.loop-i-preserved
loop-i-preserved c =
    let chain = c.index-chains-i.result in
    let zero = subst (λ b. RunsToZero (setting_of b.ranking) c.args.budget (polynomial b c.args.f) (state_in b chain)) c.loop-i.invariant.same (MatchBool-at_true _ _ c.in-Ok-true.field-0-test c.in-Ok-true.ensures.answer) in
    record {
      same = c.in-Ok-true.ensures.book ∙ c.loop-i.invariant.same;
      zeros = all_taken_more (RunsToZero (setting_of c.args.book.now.ranking) c.args.budget (polynomial c.args.book.now c.args.f)) (map (λ s. state_in c.args.book.now s) c.args.chains.now) c.loop-i.i (state_in c.args.book.now chain)
          (mapped_at (state_in c.args.book.now) c.args.chains.now c.loop-i.i chain c.loop-i-test.true c.index-chains-i.is) zero c.loop-i.invariant.zeros;
    }
