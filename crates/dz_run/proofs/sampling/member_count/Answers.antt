use Rattle.std.proofs.Common.{◌∙◌, ◌+◌, ℕ, map, length, take, sym, ap, arith}
use Rattle.dz_diff.specs.States.{state_in}
use Rattle.dz_run.specs.Sampled.{member_count}
use Rattle.dz_run.proofs.SampledTrees.{counted_more}
use Rattle.dz_run.proofs.sampling.member_count.Goals as goal

pub chains-preserved : goal.chains-preserved
chains-preserved c = record {
  same = λ book. ap (λ (n : ℕ). n + length c.equations.result.now) (c.chains.invariant.same book)
      ∙ ap (λ (n : ℕ). member_count (take c.chains.chain-index (map (λ s. state_in book s) c.args.chains.now)) + n) (ap length c.equations.ensures.items)
      ∙ sym (counted_more book c.args.chains.now c.chains.chain-index c.chain-item.result c.chains-test.true c.chain-item.is);
  bound = omega (arith, c.chains.invariant.bound, c.equations.ensures.few);
}
