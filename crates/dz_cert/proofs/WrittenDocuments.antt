-- The document of a certified tree spells it.
use Rattle.std.proofs.Common.{◌≡◌, ◌≤◌, ℕ, List, [], ◌∷◌, map, refl, sym, subst, ◌∙◌}
use Rattle.std.specs.List.{AllByRecursion}
use Rattle.std.proofs.lemmas.List.{length-map}
use Rattle.std.proofs.lemmas.List.Elements.{All-head, All-tail}
use Rattle.dz_monomials.specs.Lists.{AllOf}
use Rattle.dz_diff.specs.Operations.{setting_of}
use Rattle.dz_diff.specs.State.{State}
use Rattle.dz_diff.specs.States.{LiveAll, polynomials}
use Rattle.dz_poly.specs.Books.{BookValue, IsBook, Lives}
use Rattle.dz_rank.specs.Rankings.{RankingValue}
use Rattle.dz_rank.specs.declared.rankings.Signature.{Signature}
use Rattle.dz_syntax.specs.Names.{Declared, IsDeclared, signature_of}
use Rattle.dz_monomials.specs.Keeping.{IsKeepable}
use Rattle.dz_check.specs.Certified.{IsCertified}
use Rattle.dz_move.specs.Root.{System}
use Rattle.dz_move.specs.Standing.{IsStateOver}
use Rattle.dz_move.specs.Systems.{IsSystemIn, SystemValue, system_in}
use Rattle.dz_tree.specs.Trees.{Tree}
use Rattle.dz_check.specs.Walk.{chains_of, ends_in, ends_of}
use Rattle.dz_cert.specs.Documents.{AreTexts, IsDocument, canonical_texts, chain_texts, document_of}
use Rattle.dz_cert.specs.Laws.{DocumentLaws, IsWritten}
use Rattle.dz_cert.specs.LineTexts.{IsLineOf}
use Rattle.dz_cert.proofs.ChainEnds.{certified_chains}
use Rattle.dz_cert.proofs.DocumentsRead.{one_reading}
use Rattle.dz_cert.proofs.PrintedTexts.{canonical_are_texts}

-- the canonical texts of states over the ranking
all_texts : (names : Declared) (d : IsDeclared names) (r : RankingValue) (same : signature_of names ≡ r.signature) (states : List State) → AllOf (IsStateOver r) states → AllByRecursion (λ c. AreTexts c) (map (λ s. canonical_texts names s) states)
all_texts names d r same [] all = tt
all_texts names d r same (s ∷ states) all = (canonical_are_texts names d r same s all.0, all_texts names d r same states all.1)

-- the document of a certified tree is a document
pub is_document : (names : Declared) (r : RankingValue) (system : System) (tree : Tree) → IsDeclared names → IsWritten names r system tree
    → IsDocument names tree (chain_texts (setting_of r) names system tree) (document_of (setting_of r) names system tree)
unfolding chain_texts document_of
is_document names r system tree d w =
    let few : r.signature.independents ≤ 4 = subst (λ (g : Signature). g.independents ≤ 4) w.signature d.independents_fit in
    let states = chains_of (ends_in (ends_of (setting_of r) system tree)) in
    let chains = certified_chains r system tree few w.stands w.within w.certified in
    record {
      is_tree = w.certified.formed;
      of_names = w.of_names;
      sections = length-map states (λ s. canonical_texts names s) ∙ chains.count;
      texts = all_texts names d r w.signature states chains.over;
      bytes_are = refl;
    }

-- two certified trees with one document are equal
one_written : (names : Declared) (r q : RankingValue) (system other : System) (t u : Tree) → IsDeclared names → IsWritten names r system t → IsWritten names q other u
    → document_of (setting_of r) names system t ≡ document_of (setting_of q) names other u → t ≡ u
one_written names r q system other t u d v w e =
    let bytes = document_of (setting_of q) names other u in
    let cs = chain_texts (setting_of r) names system t in
    let first = subst (λ (bs : List ℕ). IsDocument names t cs bs) e (is_document names r system t d v) in
    (one_reading names bytes t u cs (chain_texts (setting_of q) names other u) d first (is_document names q other u d w)).0

-- both laws
pub document_laws : (names : Declared) → IsDeclared names → DocumentLaws names
document_laws names d = record {
  spelled = λ r system tree w. is_document names r system tree d w;
  one_tree = λ r q system other t u v w e. one_written names r q system other t u d v w e;
}

-- ---- in a book
-- the polynomials of a book may stand in it
keepables : (book : BookValue) → IsBook book → (ps : List ℕ) → LiveAll book ps → AllOf (IsKeepable book.ranking) (polynomials book ps)
keepables book h [] live = tt
keepables book h (p ∷ ps) live = (h.each p [] (All-head (λ p. Lives book p) p ps live), keepables book h ps (All-tail (λ p. Lives book p) p ps live))

-- a certified tree for a system of a book is written
written_in : (book : BookValue) (names : Declared) (system : SystemValue) (tree : Tree) → IsBook book → signature_of names ≡ book.ranking.signature → IsSystemIn book system → IsCertified (setting_of book.ranking) (system_in book system) tree
    → AllByRecursion (λ line. IsLineOf names line) tree.lines → IsWritten names book.ranking (system_in book system) tree
written_in book names system tree is same stands certified of = record {
  signature = same;
  stands = record { equations_keepable = keepables book is system.equations stands.equations_live; inequations_keepable = keepables book is system.inequations stands.inequations_live };
  within = stands.within_limits;
  certified = certified;
  of_names = of;
}

-- and bytes with its document spell it
pub book_document : (book : BookValue) (names : Declared) (system : SystemValue) (tree : Tree) (bytes : List ℕ) → IsBook book → IsDeclared names → signature_of names ≡ book.ranking.signature → IsSystemIn book system
    → IsCertified (setting_of book.ranking) (system_in book system) tree → AllByRecursion (λ line. IsLineOf names line) tree.lines → bytes ≡ document_of (setting_of book.ranking) names (system_in book system) tree
    → IsDocument names tree (chain_texts (setting_of book.ranking) names (system_in book system) tree) bytes
book_document book names system tree bytes is d same stands certified of e =
    let g = setting_of book.ranking in
    let s = system_in book system in
    subst (λ (bs : List ℕ). IsDocument names tree (chain_texts g names s tree) bs) (sym e) (is_document names book.ranking s tree d (written_in book names system tree is same stands certified of))
