use Rattle.std.proofs.Common.{◌≡◌, ◌++◌, drop, map}
use Rattle.dz_ask.specs.Attempts.{term_in}
use Rattle.dz_cert.specs.Documents.{ended_lines}
use Rattle.dz_report.specs.Preparations.{term_line}
use Rattle.dz_report.proofs.preparing.push_terms.Given as goal

-- what is written, and the terms that are left
abbrev pub invariant-terms : goal.invariant-terms
invariant-terms l =
    l.into.items ++ ended_lines (map (λ t. term_line l.names t) (map (term_in l.book) (drop l.term-index l.terms))) ≡ l.fn.into.items ++ ended_lines (map (λ t. term_line l.names t) (map (term_in l.book) l.terms))
