use Rattle.std.proofs.Common.{◌≡◌}
use Rattle.dz_terms.specs.Entries.{IsEntry}
use Rattle.dz_monomials.specs.Ranked.{symbols_under}
use Rattle.dz_solution.specs.Evaluation.{multiplied}
use Rattle.dz_solution.proofs.evaluating.multiplied.Given as goal

abbrev pub invariant-loop-left : goal.invariant-loop-left
invariant-loop-left l = record {
  stands : IsEntry l.ranking l.multiple;
  rest : multiplied (symbols_under l.ranking) l.value.terms l.left l.multiple.terms ≡ multiplied (symbols_under l.fn.ranking) l.fn.value.terms l.fn.times l.fn.entry.terms;
}

abbrev pub decreases-loop-left : goal.decreases-loop-left
decreases-loop-left l = l.left
