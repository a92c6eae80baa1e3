-- Lines that are written one after the other.
use Rattle.std.proofs.Common.{◌≡◌, All, ℕ, zero, suc, ◌+◌, Bool, true, List, [], ◌∷◌, ◌++◌, length, drop, map, Some, refl, sym, ap, subst, ◌∙◌, append_assoc, arith, slice_get}
use Rattle.std.specs.Prelude.{codes}
use Rattle.std.specs.List.{AllByRecursion, list_all}
use Rattle.std.proofs.lemmas.List.{length-map}
use Rattle.std.proofs.lemmas.List.Elements.{All-get_or}
use Rattle.std.proofs.lemmas.Option.{get_or_from_slice_get, slice_get_within}
use Rattle.std.proofs.lemmas.Simd.{map-map}
use Rattle.dz_diff.specs.Operations.{Setting}
use Rattle.dz_diff.specs.State.{State}
use Rattle.dz_move.specs.Root.{System}
use Rattle.dz_form.proofs.TextTokens.{both_true}
use Rattle.dz_syntax.specs.Names.{Declared}
use Rattle.dz_tree.specs.Trees.{Tree}
use Rattle.dz_check.specs.Walk.{chains_of, ends_in, ends_of}
use Rattle.dz_cert.specs.LineTexts.{line_text}
use Rattle.dz_cert.specs.Documents.{ChainTexts, canonical_texts, chain_texts, document_lines, document_of, document_text, ended_lines, head_lines, numbered, section_lines, sections_from}
use Rattle.dz_cert.proofs.WrittenSteps.{drop_at}

-- lines behind lines
pub ended_lines-append : (a b : List (List ℕ)) → ended_lines (a ++ b) ≡ ended_lines a ++ ended_lines b
ended_lines-append [] b = refl
ended_lines-append (line ∷ a) b =
    ap (λ (t : List ℕ). line ++ codes "\n" ++ t) (ended_lines-append a b) ∙ sym (append_assoc (line ++ codes "\n") (ended_lines a) (ended_lines b))

-- lines that were written behind lines
pub more_written : (a b : List (List ℕ)) (old now new : List ℕ) → now ≡ old ++ ended_lines a → new ≡ now ++ ended_lines b → new ≡ old ++ ended_lines (a ++ b)
more_written a b old now new first second =
    second ∙ ap (λ (t : List ℕ). t ++ ended_lines b) first ∙ append_assoc old (ended_lines a) (ended_lines b) ∙ ap (λ (t : List ℕ). old ++ t) (sym (ended_lines-append a b))

-- what all elements of a list have, the one at a position has
pub holds_at : {A B : Type 0} (P : B → Type 0) (f : A → B) (xs : List A) (i : ℕ) (x : A) → slice_get xs i ≡ Some x → AllByRecursion P (map f xs) → P (f x)
holds_at P f [] i x e all = absurd cc
holds_at P f (y ∷ xs) zero x e all = let same : y ≡ x = cc in subst (λ z. P (f z)) same all.0
holds_at P f (y ∷ xs) (suc i) x e all = holds_at P f xs i x e all.1

-- what each element of a list has, the one at a position has
pub all_at : {A : Type 0} (P : A → Type 0) (xs : List A) (i : ℕ) (x : A) → slice_get xs i ≡ Some x → All P xs → P x
all_at P xs i x e all = subst P (get_or_from_slice_get xs i x x e) (All-get_or P xs i x (slice_get_within xs i x e) all)

-- a test that all elements of a list pass, the one at a position passes
pub passes_at : {A B : Type 0} (test : B → Bool) (f : A → B) (xs : List A) (i : ℕ) (x : A) → slice_get xs i ≡ Some x → list_all test (map f xs) ≡ true → test (f x) ≡ true
passes_at test f [] i x e all = absurd cc
passes_at test f (y ∷ xs) zero x e all = let same : y ≡ x = cc in ap (λ z. test (f z)) (sym same) ∙ (both_true (test (f y)) (list_all test (map f xs)) all).0
passes_at test f (y ∷ xs) (suc i) x e all = passes_at test f xs i x e (both_true (test (f y)) (list_all test (map f xs)) all).1

-- the section of one chain more
pub section_more : {A : Type 0} (texts : A → ChainTexts) (now new : List ℕ) (chains : List A) (k : ℕ) (s : A) (total : List ℕ) → slice_get chains k ≡ Some s → new ≡ now ++ ended_lines (section_lines (k + 1) (texts s))
    → now ++ ended_lines (sections_from (k + 1) (map texts (drop k chains))) ≡ total → new ++ ended_lines (sections_from (k + 1 + 1) (map texts (drop (k + 1) chains))) ≡ total
section_more {A = A} texts now new chains k s total e is whole =
    let rest = sections_from (k + 1 + 1) (map texts (drop (k + 1) chains)) in
    let next : suc (k + 1) ≡ k + 1 + 1 = omega arith in
    ap (λ (t : List ℕ). t ++ ended_lines rest) is ∙ append_assoc now (ended_lines (section_lines (k + 1) (texts s))) (ended_lines rest)
    ∙ ap (λ (t : List ℕ). now ++ t) (sym (ended_lines-append (section_lines (k + 1) (texts s)) rest)
    ∙ ap (λ (n : ℕ). ended_lines (section_lines (k + 1) (texts s) ++ sections_from n (map texts (drop (k + 1) chains)))) (sym next)
    ∙ sym (ap (λ (ss : List A). ended_lines (sections_from (k + 1) (map texts ss))) (drop_at chains k s e)))
    ∙ whole

-- the parts of a document
pub document_written : {A : Type 0} (names : Declared) (tree : Tree) (texts : A → ChainTexts) (chains : List A) (head lines count sections end : List ℕ) → head ≡ ended_lines (head_lines tree.budget)
    → lines ≡ head ++ ended_lines (map (λ line. line_text names line) tree.lines) → count ≡ lines ++ ended_lines (numbered (codes "chains") (length chains) ∷ []) → sections ≡ count ++ ended_lines (sections_from 1 (map texts chains))
    → end ≡ sections ++ codes "end\n" → end ≡ document_text names tree (map texts chains)
unfolding document_lines
document_written names tree texts chains head lines count sections end is_head is_lines is_count is_sections is_end =
    let n = numbered (codes "chains") (length chains) ∷ [] in
    let ss = sections_from 1 (map texts chains) in
    let front = more_written (head_lines tree.budget) (map (λ line. line_text names line) tree.lines) [] head lines is_head is_lines in
    let back = more_written (n ++ ss) (codes "end" ∷ []) lines sections end (more_written n ss lines count sections is_count is_sections) is_end in
    more_written (head_lines tree.budget ++ map (λ line. line_text names line) tree.lines) ((n ++ ss) ++ codes "end" ∷ []) [] lines end front back
    ∙ ap (λ (k : ℕ). ended_lines (head_lines tree.budget ++ map (λ line. line_text names line) tree.lines ++ (numbered (codes "chains") k ∷ ss ++ codes "end" ∷ []))) (sym (length-map chains texts))

-- the states of the chains of a tree have their texts
pub states_texts : {A : Type 0} (g : Setting) (names : Declared) (system : System) (tree : Tree) (state : A → State) (states : List A) → map state states ≡ chains_of (ends_in (ends_of g system tree))
    → map (λ s. canonical_texts names (state s)) states ≡ chain_texts g names system tree
unfolding chain_texts
states_texts g names system tree state states e = sym (map-map (λ s. canonical_texts names s) state states) ∙ ap (map (λ s. canonical_texts names s)) e

-- and so its document
pub states_document : {A : Type 0} (g : Setting) (names : Declared) (system : System) (tree : Tree) (state : A → State) (states : List A) → map state states ≡ chains_of (ends_in (ends_of g system tree))
    → document_text names tree (map (λ s. canonical_texts names (state s)) states) ≡ document_of g names system tree
unfolding document_of
states_document g names system tree state states e = ap (document_text names tree) (states_texts g names system tree state states e)
