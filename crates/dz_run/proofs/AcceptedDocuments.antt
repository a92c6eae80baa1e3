-- What `decompose` prints is accepted by `check`.
use Rattle.std.proofs.Common.{◌≡◌, ◌≤◌, ◌+◌, ℕ, List, ◌∷◌, ◌++◌, length, drop, Bool, true, false, Result, Ok, refl, sym, ap, ◌∙◌}
use Rattle.std.proofs.Math.Seq.{drop-append-add}
use Rattle.dz_cert.specs.CertFaults.{tree_read}
use Rattle.dz_cert.specs.Documents.{chain_texts, document_of}
use Rattle.dz_cert.specs.Laws.{IsWritten}
use Rattle.dz_cert.specs.Reading.{Fault, Reading, document_at}
use Rattle.dz_cert.specs.Verdicts.{document_verdict}
use Rattle.dz_cert.specs.declared.checking.DocumentVerdict.TheVariants as verdicts
use Rattle.dz_cert.specs.declared.checking.DocumentVerdict.{DocumentVerdict}
use Rattle.dz_cert.proofs.DocumentVerdicts.{verdict_laws}
use Rattle.dz_cert.proofs.DocumentsRead.{document_at-text}
use Rattle.dz_cert.proofs.WrittenDocuments.{document_laws}
use Rattle.dz_diff.specs.Operations.{Setting, setting_of}
use Rattle.dz_engine.specs.Worked.{IsWorked, worked_tree}
use Rattle.dz_engine.proofs.OrderLaws.{order_laws}
use Rattle.dz_engine.proofs.WorkedTrees.{worked_laws}
use Rattle.dz_rank.specs.Rankings.{RankingValue}
use Rattle.dz_syntax.specs.Following.{before_document}
use Rattle.dz_syntax.specs.Names.{Declared}
use Rattle.dz_syntax.specs.SystemGrammar.{IsSystem}
use Rattle.dz_syntax.specs.Systems.{Tree as Text, system_of}
use Rattle.dz_syntax.specs.declared.endings.Form.TheVariants.{Plain, Document}
use Rattle.dz_syntax.proofs.DeclaredNames.{system_declared}
use Rattle.dz_syntax.proofs.DocumentsFollow.{documents_follow}
use Rattle.dz_syntax.proofs.Ranked.{system_ranked, system_signature}
use Rattle.dz_syntax.proofs.SystemExpressions.{system_expressions}
use Rattle.dz_syntax.proofs.SystemReadings.{system_again}
use Rattle.dz_check.specs.Certified.{IsCertified}
use Rattle.dz_move.specs.Root.{System}
use Rattle.dz_tree.specs.Trees.{Tree}
use Rattle.dz_check.specs.Walk.{all_chains, ends_in, ends_of}
use Rattle.dz_words.specs.declared.verbs.Verb.TheVariants.{Check, Decompose}
use Rattle.dz_words.specs.declared.words.Request.{Request}
use Rattle.dz_run.specs.Accepted.{IsAccepted, taken}
use Rattle.dz_run.specs.Answer.{with_expanded}
use Rattle.dz_run.specs.Checked.{checked_document, document_told, verdict_answer}
use Rattle.dz_run.specs.Decomposed.{decomposed, lines_ending, tree_answer}
use Rattle.dz_run.specs.System.{ranking_of, system_answer}
use Rattle.dz_run.specs.Verbs.{answer_to, form_of, input_told, reading_told, verb_told}
use Rattle.dz_run.specs.declared.ending.Ending.{Ending}
use Rattle.dz_run.specs.declared.ending.Ending.TheVariants.{Done, Rejected, NotWritten, Syntax, Document as DocumentFault, Wide, Spent, Large, ReadFault, WriteFault, WriteStuck, NoMemory, Point, TooLong}
use Rattle.dz_run.proofs.Completeness.{complete_is_done, done_is_complete}
use Rattle.dz_run.proofs.ItemsStand.{system_stands}
use Rattle.dz_run.proofs.WorkedDocuments.{lines_named}

-- ---- the answers
-- the answer of `decompose` to a text whose system expands
decompose_told : (q : Request) → q.verb ≡ Decompose → (bytes : List ℕ) (text : Text) (system : System) → system_of Plain bytes ≡ Ok text → system_answer text ≡ Ok system
    → answer_to q bytes ≡ tree_answer (ranking_of text) text.names system (worked_tree (setting_of (ranking_of text)) q.budget system)
unfolding answer_to decomposed
decompose_told q v bytes text system spelled expanded =
    ap (λ verb. input_told q bytes (form_of verb)) v ∙ ap (reading_told q bytes) spelled ∙ ap (λ verb. verb_told verb q bytes text) v
    ∙ ap (λ a. with_expanded a (decomposed (ranking_of text) text.names q.budget)) expanded

-- the answer of `check` to a text with a document
check_told : (q : Request) → q.verb ≡ Check → (bytes : List ℕ) (text : Text) → system_of Document bytes ≡ Ok text → answer_to q bytes ≡ document_told text (document_at text.names (drop text.document bytes))
unfolding answer_to
check_told q v bytes text spelled =
    ap (λ verb. input_told q bytes (form_of verb)) v ∙ ap (reading_told q bytes) spelled ∙ ap (λ verb. verb_told verb q bytes text) v

-- a text before a document has the same system
same_system : (text : Text) (place : ℕ) → system_answer (before_document text place) ≡ system_answer text
unfolding system_answer
same_system text place = refl

-- ---- the verdict
-- what is told of a verdict, by how the making ended
told_by : (ending : Ending) (verdict : DocumentVerdict) → (ending ≡ Done → verdict ≡ verdicts.Accepted) → ((ending ≡ Done → ⊥) → verdict ≡ verdicts.Partial) → verdict_answer verdict ≡ taken ending
told_by Done verdict accepted partial = ap verdict_answer (accepted refl)
told_by Rejected verdict accepted partial = ap verdict_answer (partial (λ e. absurd cc))
told_by NotWritten verdict accepted partial = ap verdict_answer (partial (λ e. absurd cc))
told_by (Syntax fault) verdict accepted partial = ap verdict_answer (partial (λ e. absurd cc))
told_by (DocumentFault fault) verdict accepted partial = ap verdict_answer (partial (λ e. absurd cc))
told_by Wide verdict accepted partial = ap verdict_answer (partial (λ e. absurd cc))
told_by Spent verdict accepted partial = ap verdict_answer (partial (λ e. absurd cc))
told_by Large verdict accepted partial = ap verdict_answer (partial (λ e. absurd cc))
told_by ReadFault verdict accepted partial = ap verdict_answer (partial (λ e. absurd cc))
told_by WriteFault verdict accepted partial = ap verdict_answer (partial (λ e. absurd cc))
told_by WriteStuck verdict accepted partial = ap verdict_answer (partial (λ e. absurd cc))
told_by NoMemory verdict accepted partial = ap verdict_answer (partial (λ e. absurd cc))
told_by Point verdict accepted partial = ap verdict_answer (partial (λ e. absurd cc))
told_by TooLong verdict accepted partial = ap verdict_answer (partial (λ e. absurd cc))

-- a test that fails where it does not hold
fails : (b : Bool) → (b ≡ true → ⊥) → b ≡ false
fails true isnt = absurd (isnt refl)
fails false isnt = refl

-- the verdict on a certified tree with the texts of its chains
tree_told : (g : Setting) (names : Declared) (system : System) (tree : Tree) → IsCertified g system tree
    → verdict_answer (document_verdict g names system tree (chain_texts g names system tree)) ≡ taken (lines_ending tree.lines)
tree_told g names system tree certified =
    let laws = verdict_laws g names system tree (chain_texts g names system tree) certified.formed in
    told_by (lines_ending tree.lines) (document_verdict g names system tree (chain_texts g names system tree))
    (λ done. laws.accepts.1 (certified, done_is_complete g system tree certified done, refl))
    (λ open_one. laws.is_partial.1 (certified, fails (all_chains (ends_in (ends_of g system tree))) (λ complete. open_one (complete_is_done g system tree certified complete)), refl))

-- ---- the document
-- what is told of a text before the document of a certified tree for its system
document_taken : (text : Text) (place : ℕ) (system : System) (tree : Tree) (read : Result Reading Fault) (reading : Reading) → read ≡ Ok reading → tree_read reading ≡ tree
    → reading.chains ≡ chain_texts (setting_of (ranking_of text)) text.names system tree → system_answer text ≡ Ok system → IsCertified (setting_of (ranking_of text)) system tree
    → document_told (before_document text place) read ≡ taken (lines_ending tree.lines)
document_taken text place system tree read reading is tree_is chains_are expanded certified =
    let r : RankingValue = ranking_of text in
    ap (document_told (before_document text place)) is
    ∙ ap (λ a. with_expanded a (checked_document r text.names (tree_read reading) reading.chains)) (same_system text place ∙ expanded)
    ∙ ap (λ t. checked_document r text.names t reading.chains system) tree_is
    ∙ ap (λ chains. checked_document r text.names tree chains system) chains_are
    ∙ tree_told (setting_of r) text.names system tree certified

pub accepted_again : (q c : Request) (bytes : List ℕ) (text : Text) (system : System) → q.verb ≡ Decompose → q.budget ≤ 20000000 → c.verb ≡ Check → IsSystem Plain bytes text → system_answer text ≡ Ok system
    → IsAccepted q c bytes
accepted_again q c bytes text system v most w is expanded =
    let r : RankingValue = ranking_of text in
    let g = setting_of r in
    let tree : Tree = worked_tree g q.budget system in
    let document : List ℕ = document_of g text.names system tree in
    let spelled = system_again Plain bytes text is in
    let ranked = system_ranked Plain bytes text spelled in
    let signature = system_signature Plain bytes text spelled in
    let declared = system_declared Plain bytes text is in
    let stands = system_stands text system (system_expressions Plain bytes text spelled) expanded in
    let order = order_laws r ranked.few_independents ranked.few_dependents q.budget most in
    let worked : IsWorked g system tree = order.is_there system stands.0 stands.1 in
    let certified = (worked_laws g).certified system tree worked in
    let written : IsWritten text.names r system tree = record {
      signature = sym signature;
      stands = stands.0;
      within = stands.1;
      certified = certified;
      of_names = lines_named text.names r.signature (sym signature) tree.lines (order.belong system tree.lines stands.0 stands.1 worked);
    } in
    let read = document_at-text text.names tree (chain_texts g text.names system tree) document declared ((document_laws text.names declared).spelled r system tree written) in
    let followed = documents_follow bytes text is in
    let told = decompose_told q v bytes text system spelled expanded in
    let place = length followed.0 + 1 in
    let again = system_again Document (followed.0 ++ (10 ∷ document)) (before_document text place) (followed.3 document) in (
      followed.0,
      followed.1,
      followed.2,
      ap (λ answer. answer_to c (followed.0 ++ (10 ∷ answer.output))) told
          ∙ check_told c w (followed.0 ++ (10 ∷ document)) (before_document text place) again
          ∙ ap (λ bytes. document_told (before_document text place) (document_at text.names bytes)) (drop-append-add followed.0 (10 ∷ document) 1)
          ∙ document_taken text place system tree (document_at text.names document) read.reading read.reads read.tree_is read.chains_are expanded certified
          ∙ ap (λ answer. taken answer.ending) (sym told),
    )
