-- What runs of `check` mean that are done.
use Rattle.std.proofs.Common.{◌≡◌, ◌⊎◌, inl, inr, List, ℕ, drop, Result, Ok, Err, ap, refl, subst, sym, ◌∙◌}
use Rattle.std.specs.Io.KnownBytes.{Appends}
use Rattle.dz_algebra.specs.Domain.{DomainLaws, Operations}
use Rattle.dz_domain.specs.Point.{Coordinates, IsPoint}
use Rattle.dz_rank.specs.Rankings.{RankingValue}
use Rattle.dz_diff.specs.Operations.{setting_of}
use Rattle.dz_diff.specs.Over.{AreOver}
use Rattle.dz_move.specs.Root.{System}
use Rattle.dz_move.proofs.KeepableStates.{keepables_over}
use Rattle.dz_tree.specs.Trees.{Tree}
use Rattle.dz_check.specs.Certified.{IsCertified}
use Rattle.dz_check.proofs.CertifiedChains.{chains_are}
use Rattle.dz_cert.specs.CertFaults.{tree_read}
use Rattle.dz_cert.specs.Documents.{IsDocument}
use Rattle.dz_cert.specs.Laws.{VerdictLaws}
use Rattle.dz_cert.specs.Reading.{Fault, Reading, bad_line, bytes_after, document_at, ends_early}
use Rattle.dz_cert.specs.Verdicts.{document_verdict}
use Rattle.dz_cert.specs.declared.checking.DocumentVerdict.{DocumentVerdict}
use Rattle.dz_cert.specs.declared.checking.DocumentVerdict.TheVariants as verdicts
use Rattle.dz_cert.proofs.DocumentVerdicts.{verdict_laws}
use Rattle.dz_cert.proofs.DocumentsFound.{document_at-found}
use Rattle.dz_syntax.specs.declared.endings.Form.TheVariants.{Document}
use Rattle.dz_syntax.specs.SystemGrammar.{IsSystem}
use Rattle.dz_syntax.specs.Systems.{Tree as Text, system_of}
use Rattle.dz_syntax.proofs.DeclaredNames.{system_declared}
use Rattle.dz_syntax.proofs.Ranked.{system_ranked}
use Rattle.dz_syntax.proofs.SystemExpressions.{system_expressions}
use Rattle.dz_syntax.proofs.SystemReadings.{system_found}
use Rattle.dz_words.specs.Words.{IsWritten}
use Rattle.dz_words.specs.declared.verbs.Verb.TheVariants.{Check}
use Rattle.dz_words.specs.declared.words.Request.{Request}
use Rattle.dz_words.proofs.Written.{one_asked}
use Rattle.dz_zeros.proofs.ZeroSetLaws.{zero_sets}
use Rattle.dz_run.specs.declared.ending.Ending.TheVariants.{Done}
use Rattle.dz_run.specs.Answer.{Answer, with_system}
use Rattle.dz_run.specs.Checked.{checked_document, document_told, verdict_answer}
use Rattle.dz_run.specs.Headline.{IsAcceptedInput, IsCertifiedInput, IsPartialInput}
use Rattle.dz_run.specs.Run.{Input, IsGiven, IsRead, Output}
use Rattle.dz_run.specs.System.{ranking_of, system_answer}
use Rattle.dz_run.specs.Verbs.{answer_to}
use Rattle.dz_run.proofs.Decompositions.{bytes_read}
use Rattle.dz_run.proofs.DoneAnswers.{done_expanded, told_done}
use Rattle.dz_run.proofs.ItemsStand.{system_stands}

-- ---- an answer of `check` that is done
-- A system was read and expands, a document was read behind it, and this is the verdict on it.
record IsJudged (bytes : List ℕ) (answer : Answer) : Type 0 where
  text : Text
  system : System
  reading : Reading
  spelled : system_of Document bytes ≡ Ok text
  expanded : system_answer text ≡ Ok system
  found : document_at text.names (drop text.document bytes) ≡ Ok reading
  is : answer ≡ verdict_answer (document_verdict (setting_of (ranking_of text)) text.names system (tree_read reading) reading.chains)

-- a document was read
document_read : (text : Text) (read : Result Reading Fault) → (document_told text read).ending ≡ Done
    → (reading : Reading) × (read ≡ Ok reading) × (document_told text read ≡ with_system text (checked_document (ranking_of text) text.names (tree_read reading) reading.chains))
document_read text (Ok reading) done = (reading, refl, refl)
document_read text (Err (bad_line n)) done = absurd cc
document_read text (Err ends_early) done = absurd cc
document_read text (Err bytes_after) done = absurd cc

answer_judged : (q : Request) → q.verb ≡ Check → (bytes : List ℕ) → (answer_to q bytes).ending ≡ Done → IsJudged bytes (answer_to q bytes)
answer_judged q verb bytes done =
    let told = told_done q Check verb Document refl bytes done in
    let read = document_read told.0 (document_at told.0.names (drop told.0.document bytes)) (sym (ap (λ a. a.ending) told.2) ∙ done) in
    let made = done_expanded (system_answer told.0) (checked_document (ranking_of told.0) told.0.names (tree_read read.0) read.0.chains) (sym (ap (λ a. a.ending) (told.2 ∙ read.2)) ∙ done) in
    record { text = told.0; system = made.0; reading = read.0; spelled = told.1; expanded = made.1; found = read.1; is = told.2 ∙ read.2 ∙ made.2 }

-- the verdict of an answer that is done
verdict_done : (v : DocumentVerdict) → (verdict_answer v).ending ≡ Done → (v ≡ verdicts.Accepted) ⊎ (v ≡ verdicts.Partial)
verdict_done verdicts.Accepted done = inl refl
verdict_done verdicts.Partial done = inr refl
verdict_done (verdicts.RejectedTree place rule) done = absurd cc
verdict_done (verdicts.RejectedChain k) done = absurd cc

-- ---- at a point
module _ {E : Type 0} {o : Operations E} (laws : DomainLaws o) {c : Coordinates E} (point : IsPoint o c) where
  judged_checked : (before after : Input) (out out' : Output) (bytes : List ℕ) → IsRead before after bytes → (answer : Answer) (a : IsJudged bytes answer)
      → answer.ending ≡ Done → Appends out.written out'.written answer.output
      → IsAcceptedInput o c before after out.written out'.written ⊎ IsPartialInput o c before after out.written out'.written
  judged_checked before after out out' bytes read answer a done printed =
      elim (verdict_done verdict (sym (ap (λ a. a.ending) a.is) ∙ done)) [
        | inl v ↦ (let h = judged.accepts.0 v in inl (record {
          input = input h.0 (inl v);
          complete = h.1;
          printed = subst (Appends out.written out'.written) (ap (λ a. a.output) a.is ∙ ap (λ v. (verdict_answer v).output) v) printed;
          solutions = λ fits. (zero_sets r o laws c point fits).of_complete a.system tree over h.0 h.1;
        }))
        | inr v ↦ (let h = judged.is_partial.0 v in inr (record {
          input = input h.0 (inr v);
          incomplete = h.1;
          printed = subst (Appends out.written out'.written) (ap (λ a. a.output) a.is ∙ ap (λ v. (verdict_answer v).output) v) printed;
          solutions = λ fits. (zero_sets r o laws c point fits).of_tree a.system tree over h.0;
        }))
      ]
    where
      r : RankingValue
      r = ranking_of a.text

      tree : Tree
      tree = tree_read a.reading

      verdict : DocumentVerdict
      verdict = document_verdict (setting_of r) a.text.names a.system tree a.reading.chains

      spelled : IsSystem Document bytes a.text
      spelled = system_found Document bytes a.text a.spelled

      is_document : IsDocument a.text.names tree a.reading.chains (drop a.text.document bytes)
      is_document = document_at-found a.text.names (drop a.text.document bytes) a.reading (system_declared Document bytes a.text spelled) a.found

      judged : VerdictLaws (setting_of r) a.text.names a.system tree a.reading.chains
      judged = verdict_laws (setting_of r) a.text.names a.system tree a.reading.chains is_document.is_tree

      over : AreOver r a.system.equations a.system.inequations
      over =
          let few = (system_ranked Document bytes a.text a.spelled).few_independents in
          let stands = (system_stands a.text a.system (system_expressions Document bytes a.text a.spelled) a.expanded).0 in
          record { equations_over = keepables_over r few a.system.equations stands.equations_keepable; inequations_over = keepables_over r few a.system.inequations stands.inequations_keepable }

      input : IsCertified (setting_of r) a.system tree → (verdict ≡ verdicts.Accepted) ⊎ (verdict ≡ verdicts.Partial) → IsCertifiedInput before after
      input certified v = record {
        bytes = bytes;
        text = a.text;
        system = a.system;
        tree = tree;
        read = read;
        spelled = spelled;
        expanded = a.expanded;
        document = judged.bytes (drop a.text.document bytes) is_document v;
        certified = certified;
        chains = chains_are (setting_of r) a.system tree certified;
      }

  -- what a run of `check` gives that is done
  pub given_checked : (words : List (List ℕ)) (before after : Input) (out out' : Output) (message : List ℕ) (request : Request) → IsWritten words request → request.verb ≡ Check
      → IsGiven words before after out out' Done message
      → IsAcceptedInput o c before after out.written out'.written ⊎ IsPartialInput o c before after out.written out'.written
  given_checked words before after out out' message request written verb given =
      let a = given.answered in
      let same : a.request ≡ request = one_asked words a.request request a.written written in
      let is : answer_to request a.bytes ≡ given.answer = subst (λ (q : Request). answer_to q a.bytes ≡ given.answer) same a.is in
      let judged = answer_judged request verb a.bytes (ap (λ a. a.ending) is ∙ given.ends) in
      let read = bytes_read a.request.verb Check (ap (λ q. q.verb) same ∙ verb) refl before after a.bytes a.taken in
      judged_checked before after out out' a.bytes read given.answer (subst (IsJudged a.bytes) is judged) given.ends given.printed
