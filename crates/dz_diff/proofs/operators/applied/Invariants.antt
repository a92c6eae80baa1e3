use Rattle.std.proofs.Common.{◌≡◌, Ok, take}
use Rattle.dz_terms.specs.Entries.{IsEntry}
use Rattle.dz_monomials.specs.Ranked.{symbols_under}
use Rattle.dz_diff.specs.Operations.{derivations_answer}
use Rattle.dz_diff.proofs.operators.applied.Given as goal

abbrev pub invariant-loop-i : goal.invariant-loop-i
invariant-loop-i l = record {
  derived : derivations_answer (symbols_under l.ranking) 0 (take l.i l.operator.counts) l.fn.entry.terms ≡ Ok l.answer.terms;
  stands : IsEntry l.ranking l.answer;
}
