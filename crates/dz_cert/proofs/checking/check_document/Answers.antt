use Rattle.std.proofs.Common.{◌≡◌, ◌∙◌, Option, ℕ, map, ap, ap₂}
use Rattle.dz_diff.specs.Operations.{setting_of}
use Rattle.dz_diff.specs.States.{state_in}
use Rattle.dz_move.specs.Systems.{system_in}
use Rattle.dz_check.specs.Walk.{Verdict}
use Rattle.dz_cert.specs.Documents.{chain_texts}
use Rattle.dz_cert.specs.Readers.{texts_of}
use Rattle.dz_cert.specs.Verdicts.{document_verdict, first_other, judged_by}
use Rattle.dz_cert.proofs.DocumentVerdicts.{judged_bytes}
use Rattle.dz_cert.proofs.WrittenLines.{states_texts}
use Rattle.dz_cert.proofs.checking.check_document.Goals as goal

pub returns-clause-verdict : goal.returns-clause-verdict
unfolding document_verdict
returns-clause-verdict c =
    let old = c.args.book.now in
    let new = c.check_with_chains.new.book in
    let names = c.args.names.now in
    let d = c.args.document.now in
    let g = setting_of old.ranking in
    let same = states_texts g names (system_in old c.args.system.now) d.tree (state_in new) c.in_ok-verdict.field-0.chains.items c.in_ok-verdict.ensures.chains in
    let other : c.in_ok-other.field-0 ≡ first_other 1 (map texts_of d.chains.items) (chain_texts g names (system_in old c.args.system.now) d.tree) =
    rw (← c.deref.ensures.value, ← c.deref-2.ensures.value) c.in_ok-other.ensures ∙ ap (first_other 1 (map texts_of d.chains.items)) same in
    c.judged_by.ensures ∙ ap₂ (λ (o : Option ℕ) (v : Verdict). judged_by o v) other c.in_ok-verdict.ensures.verdict

pub returns-clause-bytes : goal.returns-clause-bytes
returns-clause-bytes c =
    judged_bytes (setting_of c.args.book.now.ranking) c.args.names.now (system_in c.args.book.now c.args.system.now) c.args.document.now.tree (map texts_of c.args.document.now.chains.items) c.opened.ensures c.judged_by.result (returns-clause-verdict c)
