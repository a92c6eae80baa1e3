-- What is told of a document that was read.
use Rattle.std.proofs.Common.{◌≡◌, List, Result, Ok, Err, map, ap₂}
use Rattle.dz_cert.specs.CertFaults.{ReadsDocument}
use Rattle.dz_cert.specs.Documents.{ChainTexts}
use Rattle.dz_cert.specs.Readers.{texts_of}
use Rattle.dz_cert.specs.Reading.{Fault, Reading}
use Rattle.dz_cert.specs.declared.document.Document.{Document}
use Rattle.dz_syntax.specs.Systems.{Tree as Text}
use Rattle.dz_tree.specs.Trees.{Tree}
use Rattle.dz_run.specs.Answer.{with_system}
use Rattle.dz_run.specs.Checked.{checked_document, document_told}
use Rattle.dz_run.specs.System.{ranking_of}

pub read_told : (text : Text) (d : Document) (read : Result Reading Fault) → ReadsDocument (Ok d) read
    → with_system text (checked_document (ranking_of text) text.names d.tree (map texts_of d.chains.items)) ≡ document_told text read
read_told text d (Ok r) same = ap₂ (λ (tree : Tree) (chains : List ChainTexts). with_system text (checked_document (ranking_of text) text.names tree chains)) same.0 same.1
read_told text d (Err fault) same = absurd same
