-- The verdict on a document, by the verdict on its tree and its texts.
use Rattle.std.proofs.Common.{◌≡◌, ◌↔◌, ◌⊎◌, inl, inr, ℕ, Bool, true, false, cond, List, Option, Some, None, Result, Ok, Err, IsOk, refl, sym, ap, ◌∙◌}
use Rattle.dz_diff.specs.Operations.{Setting}
use Rattle.dz_syntax.specs.Names.{Declared}
use Rattle.dz_check.specs.Certified.{IsCertified}
use Rattle.dz_tree.specs.Forms.{IsTree}
use Rattle.dz_move.specs.Root.{System}
use Rattle.dz_tree.specs.Trees.{Tree}
use Rattle.dz_check.specs.Walk.{End, Verdict, accepted, partial, rejected, all_chains, ends_in, ends_of, judged, verdict_of}
use Rattle.dz_move.specs.declared.Rule.{Rule}
use Rattle.dz_check.proofs.LawProofs.{tree_laws}
use Rattle.dz_cert.specs.declared.checking.DocumentVerdict.{DocumentVerdict}
use Rattle.dz_cert.specs.declared.checking.DocumentVerdict.TheVariants as verdicts
use Rattle.dz_cert.specs.Documents.{ChainTexts, IsDocument, chain_texts, document_of, document_text}
use Rattle.dz_cert.specs.Laws.{IsFirstOther, VerdictLaws}
use Rattle.dz_cert.specs.Verdicts.{document_verdict, first_other, has_canonical_texts, judged_by}
use Rattle.dz_cert.proofs.OtherTexts.{first_other-none, first_other-some}

-- ---- by the verdict on the tree
-- accepted exactly where the tree is, and no chain is other
accepted_by : (other : Option ℕ) (v : Verdict) → (judged_by other v ≡ verdicts.Accepted) ↔ ((v ≡ accepted) × (other ≡ None))
accepted_by None accepted = ((λ e. (refl, refl)), (λ p. refl))
accepted_by (Some k) accepted = ((λ e. cc), (λ p. absurd (let bad = p.1 in cc)))
accepted_by None partial = ((λ e. cc), (λ p. absurd (let bad = p.0 in cc)))
accepted_by (Some k) partial = ((λ e. cc), (λ p. absurd (let bad = p.0 in cc)))
accepted_by other (rejected place rule) = ((λ e. cc), (λ p. absurd (let bad = p.0 in cc)))

-- partial exactly where the tree is, and no chain is other
partial_by : (other : Option ℕ) (v : Verdict) → (judged_by other v ≡ verdicts.Partial) ↔ ((v ≡ partial) × (other ≡ None))
partial_by None partial = ((λ e. (refl, refl)), (λ p. refl))
partial_by (Some k) partial = ((λ e. cc), (λ p. absurd (let bad = p.1 in cc)))
partial_by None accepted = ((λ e. cc), (λ p. absurd (let bad = p.0 in cc)))
partial_by (Some k) accepted = ((λ e. cc), (λ p. absurd (let bad = p.0 in cc)))
partial_by other (rejected place rule) = ((λ e. cc), (λ p. absurd (let bad = p.0 in cc)))

-- the tree is rejected exactly where it is
tree_by : (place : ℕ) (rule : Rule) (other : Option ℕ) (v : Verdict) → (judged_by other v ≡ verdicts.RejectedTree place rule) ↔ (v ≡ rejected place rule)
tree_by place rule None partial = ((λ e. cc), (λ e. cc))
tree_by place rule (Some k) partial = ((λ e. cc), (λ e. cc))
tree_by place rule None accepted = ((λ e. cc), (λ e. cc))
tree_by place rule (Some k) accepted = ((λ e. cc), (λ e. cc))
tree_by place rule other (rejected p r) = ((λ e. cc), (λ e. cc))

-- a chain is rejected exactly where the walk over the tree comes to its end, and this chain is other
chain_by : (n : ℕ) (other : Option ℕ) (q : Result (List End) (ℕ × Rule)) → (judged_by other (judged q) ≡ verdicts.RejectedChain n) ↔ (IsOk q × (other ≡ Some n))
chain_by n other (Ok ends) = by_ends (Ok ends) refl (all_chains ends) other
  where
    by_ends : (q : Result (List End) (ℕ × Rule)) → IsOk q → (done : Bool) (other : Option ℕ) → (judged_by other (cond done accepted partial) ≡ verdicts.RejectedChain n) ↔ (IsOk q × (other ≡ Some n))
    by_ends q ok true None = ((λ e. cc), (λ p. absurd (let bad = p.1 in cc)))
    by_ends q ok true (Some k) = ((λ e. (ok, cc)), (λ p. let same = p.1 in cc))
    by_ends q ok false None = ((λ e. cc), (λ p. absurd (let bad = p.1 in cc)))
    by_ends q ok false (Some k) = ((λ e. (ok, cc)), (λ p. let same = p.1 in cc))
chain_by n other (Err k) = ((λ e. cc), (λ p. absurd (let bad = p.0 in cc)))

-- ---- the laws
module _ (g : Setting) (names : Declared) (system : System) (tree : Tree) (chains : List ChainTexts) where
  -- the first chain with other texts
  abbrev other : Option ℕ
  other = first_other 1 chains (chain_texts g names system tree)

  -- accepted
  accepts : IsTree tree → (document_verdict g names system tree chains ≡ verdicts.Accepted)
      ↔ (IsCertified g system tree × (all_chains (ends_in (ends_of g system tree)) ≡ true) × (chains ≡ chain_texts g names system tree))
  unfolding document_verdict
  accepts formed =
      let tests = accepted_by other (verdict_of g system tree) in
      let tree_is = (tree_laws g).accepts system tree formed in
      let texts = first_other-none chains (chain_texts g names system tree) in
      ((λ e. let p = tests.0 e in let c = tree_is.0 p.0 in (c.0, c.1, texts.0 p.1)), (λ p. tests.1 (tree_is.1 (p.0, p.1), texts.1 p.2)))

  -- partial
  is_partial : IsTree tree → (document_verdict g names system tree chains ≡ verdicts.Partial)
      ↔ (IsCertified g system tree × (all_chains (ends_in (ends_of g system tree)) ≡ false) × (chains ≡ chain_texts g names system tree))
  unfolding document_verdict
  is_partial formed =
      let tests = partial_by other (verdict_of g system tree) in
      let tree_is = (tree_laws g).is_partial system tree formed in
      let texts = first_other-none chains (chain_texts g names system tree) in
      ((λ e. let p = tests.0 e in let c = tree_is.0 p.0 in (c.0, c.1, texts.0 p.1)), (λ p. tests.1 (tree_is.1 (p.0, p.1), texts.1 p.2)))

  -- a rejected tree
  rejects_tree : (place : ℕ) (rule : Rule) → (document_verdict g names system tree chains ≡ verdicts.RejectedTree place rule) ↔ (verdict_of g system tree ≡ rejected place rule)
  unfolding document_verdict
  rejects_tree place rule = tree_by place rule other (verdict_of g system tree)

  -- a rejected chain
  rejects_chain : IsTree tree → (n : ℕ) → (document_verdict g names system tree chains ≡ verdicts.RejectedChain n)
      ↔ (IsCertified g system tree × IsFirstOther 1 n chains (chain_texts g names system tree))
  unfolding document_verdict
  rejects_chain formed n =
      let tests = chain_by n other (ends_of g system tree) in
      let certified = (tree_laws g).certified system tree formed in
      let texts = first_other-some n chains (chain_texts g names system tree) in
      ((λ e. let p = tests.0 e in (certified.0 p.0, texts.0 p.1)), (λ p. tests.1 (certified.1 p.0, texts.1 p.1)))

  -- bytes with canonical texts
  canonical_bytes : (bytes : List ℕ) → IsDocument names tree chains bytes → chains ≡ chain_texts g names system tree → bytes ≡ document_of g names system tree
  unfolding document_of
  canonical_bytes bytes is e = sym is.bytes_are ∙ ap (document_text names tree) e

  -- the texts of a document that is accepted or partial
  texts_are : IsTree tree → (document_verdict g names system tree chains ≡ verdicts.Accepted) ⊎ (document_verdict g names system tree chains ≡ verdicts.Partial) → chains ≡ chain_texts g names system tree
  texts_are formed (inl e) = ((accepts formed).0 e).2
  texts_are formed (inr e) = ((is_partial formed).0 e).2

  -- all of them
  pub verdict_laws : IsTree tree → VerdictLaws g names system tree chains
  verdict_laws formed = record {
    accepts = accepts formed;
    is_partial = is_partial formed;
    rejects_tree = rejects_tree;
    rejects_chain = rejects_chain formed;
    bytes = λ bytes is v. canonical_bytes bytes is (texts_are formed v);
  }

  -- ---- in the code
  -- one of two verdicts
  one_of : (v : DocumentVerdict) → v ≡ document_verdict g names system tree chains → has_canonical_texts v ≡ true
      → (document_verdict g names system tree chains ≡ verdicts.Accepted) ⊎ (document_verdict g names system tree chains ≡ verdicts.Partial)
  one_of verdicts.Accepted is e = inl (sym is)
  one_of verdicts.Partial is e = inr (sym is)
  one_of (verdicts.RejectedTree place rule) is e = absurd cc
  one_of (verdicts.RejectedChain k) is e = absurd cc

  -- bytes that spell a document which is accepted or partial
  pub judged_bytes : IsTree tree → (v : DocumentVerdict) → v ≡ document_verdict g names system tree chains → (bytes : List ℕ) → IsDocument names tree chains bytes → has_canonical_texts v ≡ true → bytes ≡ document_of g names system tree
  judged_bytes formed v is bytes spelled e = canonical_bytes bytes spelled (texts_are formed (one_of v is e))
