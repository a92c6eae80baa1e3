use Rattle.std.proofs.Common.{◌≡◌, ℕ, [], ◌∷◌, drop, map}
use Rattle.dz_algebra.specs.Polynomial.{Polynomial}
use Rattle.dz_rank.specs.declared.symbols.Symbol.{Symbol}
use Rattle.dz_diff.specs.Operations.{setting_of}
use Rattle.dz_diff.specs.States.{state_in}
use Rattle.dz_poly.specs.Books.{polynomial}
use Rattle.dz_report.specs.Asked.{answer_report}
use Rattle.dz_report.specs.Reports.{Report, ◌then◌, question_line, told}
use Rattle.dz_report.specs.Writing.{GoesOn}
use Rattle.dz_report.proofs.reports.push_answers.Given as goal

-- the book is as before, and what is written goes on
abbrev pub invariant-questions : goal.invariant-questions
invariant-questions l =
    let book = l.fn.book in
    let report : ℕ → Polynomial Symbol → Report = λ k f. told (question_line l.asked.names.now k f ∷ []) then answer_report l.what (setting_of book.ranking) l.asked.names.now l.asked.budget (map (λ s. state_in book s) l.asked.chains.now) f in
    record {
      same : l.book ≡ book;
      goes_on : GoesOn report l.fn.into.items l.into.items l.k (map (λ p. polynomial book p) (drop l.k l.questions)) (map (λ p. polynomial book p) l.questions);
    }
