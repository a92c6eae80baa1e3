use Rattle.std.proofs.Common.{◌≡◌, drop}
use Rattle.dz_poly.specs.Books.{polynomial}
use Rattle.dz_terms.specs.Entries.{IsEntry}
use Rattle.dz_diff.specs.Operations.{setting_of}
use Rattle.dz_diff.specs.States.{polynomials}
use Rattle.dz_solution.specs.Evaluation.{substitution_answer, terms_answer}
use Rattle.dz_solution.proofs.evaluating.substituted.Given as goal

abbrev pub invariant-loop-k : goal.invariant-loop-k
invariant-loop-k l = record {
  stands : IsEntry l.book.ranking l.so_far;
  rest : terms_answer (setting_of l.book.ranking) (polynomials l.book l.functions) (drop l.k (polynomial l.book l.p)) l.so_far.terms ≡ substitution_answer (setting_of l.fn.book.ranking) (polynomials l.fn.book l.fn.functions) (polynomial l.fn.book l.fn.p);
}
