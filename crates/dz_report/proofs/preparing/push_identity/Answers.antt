use Rattle.std.proofs.Common.{◌++◌, ◌∙◌, ℕ, List, map, ap}
use Rattle.std.specs.Prelude.{codes}
use Rattle.dz_ask.specs.Attempts.{term_in}
use Rattle.dz_ask.specs.declared.preparing.PreparedTerm.{PreparedTerm}
use Rattle.dz_diff.specs.States.{polynomials}
use Rattle.dz_form.specs.Texts.{polynomial_text}
use Rattle.dz_cert.specs.Documents.{ended_lines, member_lines}
use Rattle.dz_cert.proofs.WrittenLines.{more_written}
use Rattle.dz_report.specs.Preparations.{term_line}
use Rattle.dz_report.proofs.preparing.push_identity.Goals as goal

pub returns : goal.returns
returns c =
    let book = c.args.book.now in
    let names = c.args.names.now in
    let factors : List ℕ → List (List ℕ) = λ ps. member_lines (codes "multiplier") (map (λ p. polynomial_text names p) (polynomials book ps)) in
    let terms : List PreparedTerm → List (List ℕ) = λ ts. map (λ t. term_line names t) (map (term_in book) ts) in
    more_written (factors c.args.prepared.now.factors.items) (terms c.args.prepared.now.terms.items) c.args.into.now.items c.write_members.new.into.items c.push_terms.new.into.items
    (c.in_ok-write_members.ensures ∙ ap (λ (ps : List ℕ). c.args.into.now.items ++ ended_lines (factors ps)) c.deref.ensures.value)
    (c.in_ok-push_terms.ensures ∙ ap (λ (ts : List PreparedTerm). c.write_members.new.into.items ++ ended_lines (terms ts)) c.deref-2.ensures.value)
