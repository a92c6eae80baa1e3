-- What chains are asked, and what is told of it.
use Rattle.std.specs.Prelude.{◌≡◌, ℕ, List, All}
use Rattle.dz_algebra.specs.Polynomial.{Polynomial}
use Rattle.dz_rank.specs.declared.symbols.Symbol.{Symbol}
use Rattle.dz_poly.specs.Books.{BookValue}
use Rattle.dz_diff.specs.Operations.{Setting}
use Rattle.dz_diff.specs.State.{State}
use Rattle.dz_diff.specs.States.{StandsIn, StateValue}
use Rattle.dz_diff.specs.Tests.{Polynomials}
use Rattle.dz_syntax.specs.Names.{Declared, signature_of}
use Rattle.dz_report.specs.Preparations.{prepared_report, preparation_report}
use Rattle.dz_report.specs.Reductions.{question_report, reduction_report}
use Rattle.dz_report.specs.Reports.{Report}
use Rattle.dz_report.specs.declared.asked.Asked.{Asked}
use Rattle.dz_report.specs.declared.asked.Asked.TheVariants.{Reductions, Preparations}

-- chains of a book can be asked, with names under its ranking
abbrev pub CanBeAsked : BookValue → Declared → List StateValue → Type 0
CanBeAsked book names chains = All (λ s. StandsIn book s) chains × (signature_of names ≡ book.ranking.signature)

-- what is told of a question
abbrev pub answer_report : Asked → Setting → Declared → ℕ → List State → Polynomial Symbol → Report
answer_report Reductions g names budget chains f = question_report g names budget chains f
answer_report Preparations g names budget chains f = prepared_report g names budget chains f

-- what is told of questions
abbrev pub report_of : Asked → Setting → Declared → ℕ → Polynomials → List State → Report
report_of Reductions g names budget questions chains = reduction_report g names budget questions chains
report_of Preparations g names budget questions chains = preparation_report g names budget questions chains
