use Rattle.std.proofs.Common.{◌≡◌, drop}
use Rattle.dz_poly.specs.Books.{polynomial, term_at}
use Rattle.dz_terms.specs.Entries.{IsEntry}
use Rattle.dz_diff.specs.Operations.{setting_of}
use Rattle.dz_diff.specs.States.{polynomials}
use Rattle.dz_solution.specs.Evaluation.{powers_answer}
use Rattle.dz_solution.proofs.evaluating.times_powers.Given as goal

abbrev pub invariant-loop-j : goal.invariant-loop-j
invariant-loop-j l = record {
  stands : IsEntry l.book.ranking l.multiple;
  rest : powers_answer (setting_of l.book.ranking) (polynomials l.book l.functions) (drop l.j (term_at (polynomial l.book l.p) l.k).0) l.multiple.terms ≡ powers_answer (setting_of l.fn.book.ranking) (polynomials l.fn.book l.fn.functions) (term_at (polynomial l.fn.book l.fn.p) l.fn.k).0 l.fn.entry.terms;
}
