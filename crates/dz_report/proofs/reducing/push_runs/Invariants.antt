use Rattle.std.proofs.Common.{◌≡◌, ◌&&◌, ℕ, [], ◌∷◌, drop, map}
use Rattle.std.specs.Prelude.{codes}
use Rattle.dz_diff.specs.Operations.{setting_of}
use Rattle.dz_diff.specs.State.{State}
use Rattle.dz_diff.specs.States.{state_in}
use Rattle.dz_poly.specs.Books.{polynomial}
use Rattle.dz_step.specs.FullRun.{full_run}
use Rattle.dz_step.specs.declared.Role.TheVariants.{Free}
use Rattle.dz_cert.specs.Documents.{numbered}
use Rattle.dz_report.specs.Reductions.{all_run_to_zero, run_report}
use Rattle.dz_report.specs.Reports.{Report, ◌then◌, told}
use Rattle.dz_report.specs.Writing.{GoesOn}
use Rattle.dz_report.proofs.reducing.push_runs.Given as goal

-- the book is as before, what is written goes on, and all runs so far ended at zero or not
abbrev pub invariant-chains : goal.invariant-chains
invariant-chains l =
    let book = l.fn.book in
    let g = setting_of book.ranking in
    let f = polynomial book l.f in
    let all = map (λ s. state_in book s) l.chains in
    let left = map (λ s. state_in book s) (drop l.k l.chains) in
    let report : ℕ → State → Report = λ k s. told (numbered (codes "chain") k ∷ []) then run_report l.names (full_run g s Free l.budget f) in
    record {
      same : l.book ≡ book;
      goes_on : GoesOn report l.fn.into.items l.into.items l.k left all;
      zero : (l.zero && all_run_to_zero g l.budget f left) ≡ all_run_to_zero g l.budget f all;
    }
