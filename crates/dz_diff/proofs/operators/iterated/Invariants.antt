use Rattle.std.proofs.Common.{◌≡◌, Ok}
use Rattle.dz_terms.specs.Entries.{IsEntry}
use Rattle.dz_monomials.specs.Ranked.{symbols_under}
use Rattle.dz_diff.specs.Operations.{iterated_answer}
use Rattle.dz_diff.proofs.operators.iterated.Given as goal

abbrev pub invariant-loop-time : goal.invariant-loop-time
invariant-loop-time l = record {
  answer : iterated_answer (symbols_under l.ranking) l.i l._time l.initial.entry.terms ≡ Ok l.entry.terms;
  stands : IsEntry l.ranking l.entry;
}
