use Rattle.std.proofs.Common.{◌≡◌, ℕ, [], ◌∷◌, drop, map}
use Rattle.std.specs.Prelude.{codes}
use Rattle.dz_diff.specs.Operations.{setting_of}
use Rattle.dz_diff.specs.State.{State}
use Rattle.dz_diff.specs.States.{state_in}
use Rattle.dz_poly.specs.Books.{polynomial}
use Rattle.dz_ask.specs.Turns.{preparation}
use Rattle.dz_cert.specs.Documents.{numbered}
use Rattle.dz_report.specs.Preparations.{turns_report}
use Rattle.dz_report.specs.Reports.{Report, ◌then◌, told}
use Rattle.dz_report.specs.Writing.{GoesOn}
use Rattle.dz_report.proofs.preparing.push_preparation.Given as goal

-- the book is as before, and what is written goes on
abbrev pub invariant-chains : goal.invariant-chains
invariant-chains l =
    let book = l.fn.book in
    let g = setting_of book.ranking in
    let report : ℕ → State → Report = λ k s. told (numbered (codes "chain") k ∷ []) then turns_report g s l.names (preparation g s l.budget (polynomial book l.f)) in
    record {
      same : l.book ≡ book;
      goes_on : GoesOn report l.fn.into.items l.into.items l.k (map (λ s. state_in book s) (drop l.k l.chains)) (map (λ s. state_in book s) l.chains);
    }
