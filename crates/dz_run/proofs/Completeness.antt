-- A certified tree whose lines have no open end is complete.
use Rattle.std.specs.Prelude.{IsOk, unwrap_or}
use Rattle.std.proofs.Common.{◌≡◌, ◌∙◌, ◌+◌, ◌++◌, ◌&&◌, ℕ, nat_le, Bool, true, false, List, [], ◌∷◌, length, map, refl, sym, ap, subst, None, Result, Ok, Err}
use Rattle.dz_diff.specs.Operations.{Setting}
use Rattle.dz_algebra.specs.Outcome.{◌>>=◌, told_as}
use Rattle.dz_diff.specs.State.{State}
use Rattle.dz_algebra.proofs.Outcomes.{bind_ok, ok_same, then_ok}
use Rattle.dz_check.specs.Certified.{IsCertified}
use Rattle.dz_tree.specs.Chain.{chain_weight}
use Rattle.dz_move.specs.Lines.{Evidence, Line, act, closed, chain, pair, spent, spent_pairs, open_wide, open_separant, open_large, Entry, entries_of, lines_of}
use Rattle.dz_move.specs.Moves.{perform}
use Rattle.dz_check.specs.Reasons.{reason_holds}
use Rattle.dz_move.specs.Root.{System, is_closed, root_of}
use Rattle.dz_tree.specs.Trees.{Tree}
use Rattle.dz_check.specs.Walk.{Below, End, all_chains, ended, ends_in, ends_of, entered, is_chain_end, nothing_below, told_at_line, walk}
use Rattle.dz_move.specs.declared.Rule.{Rule}
use Rattle.dz_check.proofs.Certifying.{answer_certified}
use Rattle.dz_tree.proofs.TreeEntries.{lines_of_entries}
use Rattle.dz_run.specs.declared.ending.Ending.{Ending}
use Rattle.dz_run.specs.declared.ending.Ending.TheVariants.{Done}
use Rattle.dz_run.specs.Decomposed.{lines_ending, open_ending}

-- ---- lines without an open end
-- the first is none, and the others have none
first_done : (line : Line) (later : Ending) → unwrap_or (open_ending line) later ≡ Done → (open_ending line ≡ None) × (later ≡ Done)
first_done (act action) later e = (refl, e)
first_done closed later e = (refl, e)
first_done chain later e = (refl, e)
first_done (pair x) later e = (refl, e)
first_done (spent action) later e = cc
first_done spent_pairs later e = cc
first_done (open_wide action) later e = cc
first_done (open_separant i) later e = cc
first_done (open_large limit action) later e = cc

-- evidence is no open end
behind_evidence : (es : List Evidence) (lines : List Line) → lines_ending (map pair es ++ lines) ≡ lines_ending lines
behind_evidence [] lines = refl
behind_evidence (e ∷ es) lines = behind_evidence es lines

-- ---- the ends of such lines
-- the ends of two lists are chains
chains_joined : (xs ys : List End) → all_chains xs ≡ true → all_chains ys ≡ true → all_chains (xs ++ ys) ≡ true
chains_joined [] ys h k = k
chains_joined (x ∷ xs) ys h k = by_test (is_chain_end x) h (λ i. chains_joined xs ys i k)
  where
    by_test : (b : Bool) → (b && all_chains xs) ≡ true → (all_chains xs ≡ true → all_chains (xs ++ ys) ≡ true) → (b && all_chains (xs ++ ys)) ≡ true
    by_test true h ih = ih h
    by_test false h ih = h

-- and each of two lists, where both have chains alone
chains_split : (xs ys : List End) → all_chains (xs ++ ys) ≡ true → (all_chains xs ≡ true) × (all_chains ys ≡ true)
chains_split [] ys h = (refl, h)
chains_split (x ∷ xs) ys h = by_test (is_chain_end x) h (λ i. chains_split xs ys i)
  where
    by_test : (b : Bool) → (b && all_chains (xs ++ ys)) ≡ true → (all_chains (xs ++ ys) ≡ true → (all_chains xs ≡ true) × (all_chains ys ≡ true)) → ((b && all_chains xs) ≡ true) × (all_chains ys ≡ true)
    by_test true h ih = ih h
    by_test false h ih = absurd cc

module _ (g : Setting) where
  -- what an entry leaves, whose line is no open end
  left_chains : (budget w : ℕ) (s : State) (line : Line) (es : List Evidence) (b : Below) → open_ending line ≡ None → entered g budget w s line es ≡ Ok b → all_chains b.ends ≡ true
  unfolding entered
  left_chains budget w s (act action) es b n e =
      let a = bind_ok (told_as told_at_line (perform g s action)) _ b e in
      let c = then_ok (nat_le (w + a.0.weight) budget) _ _ b a.2 in
      subst (λ (b : Below). all_chains b.ends ≡ true) (ok_same (record { states = a.0.after; ends = []; weight = a.0.weight }) b c.1) refl
  left_chains budget w s closed es b n e = subst (λ (b : Below). all_chains b.ends ≡ true) (ok_same nothing_below b (then_ok (is_closed g.symbols s) _ _ b e).1) refl
  left_chains budget w s chain es b n e =
      let a = bind_ok (chain_weight g s (λ n. nat_le (w + n) budget) es) _ b e in
      subst (λ (b : Below). all_chains b.ends ≡ true) (ok_same (ended chain s a.0) b a.2) refl
  left_chains budget w s (pair x) es b n e = cc
  left_chains budget w s (spent action) es b n e = cc
  left_chains budget w s spent_pairs es b n e = cc
  left_chains budget w s (open_wide action) es b n e = cc
  left_chains budget w s (open_separant i) es b n e = cc
  left_chains budget w s (open_large limit action) es b n e = cc

  -- the ends below the pending states
  walked_chains : (budget w place : ℕ) (pending : List State) (es : List Entry) (ends : List End) → lines_ending (lines_of es) ≡ Done → walk g budget w place pending es ≡ Ok ends → all_chains ends ≡ true
  walked_chains budget w place [] [] ends n e = subst (λ (ends : List End). all_chains ends ≡ true) (ok_same [] ends e) refl
  walked_chains budget w place (s ∷ pending) [] ends n e = cc
  walked_chains budget w place [] (x ∷ es) ends n e = cc
  walked_chains budget w place (s ∷ pending) (x ∷ es) ends n e =
      let k = first_done x.line (lines_ending (map pair x.evidence ++ lines_of es)) n in
      by_entry (entered g budget w s x.line x.evidence) refl k.0 (λ b ends f. walked_chains budget (w + b.weight) (place + 1 + length x.evidence) (b.states ++ pending) es ends (sym (behind_evidence x.evidence (lines_of es)) ∙ k.1) f) e
    where
      by_entry : (q : Result Below (ℕ × Rule)) → entered g budget w s x.line x.evidence ≡ q → open_ending x.line ≡ None
          → ((b : Below) (ends : List End) → walk g budget (w + b.weight) (place + 1 + length x.evidence) (b.states ++ pending) es ≡ Ok ends → all_chains ends ≡ true)
          → (elim q as (λ _. Result (List End) (ℕ × Rule)) [
            | Err r ↦ Err (place + r.0, r.1)
            | Ok b ↦ walk g budget (w + b.weight) (place + 1 + length x.evidence) (b.states ++ pending) es >>= (λ ends. Ok (b.ends ++ ends))
          ]) ≡ Ok ends → all_chains ends ≡ true
      by_entry (Err r) f n ih e = cc
      by_entry (Ok b) f n ih e =
          let a = bind_ok (walk g budget (w + b.weight) (place + 1 + length x.evidence) (b.states ++ pending) es) _ ends e in
          subst (λ (ends : List End). all_chains ends ≡ true) (ok_same (b.ends ++ a.0) ends a.2) (chains_joined b.ends a.0 (left_chains budget w s x.line x.evidence b n f) (ih b a.0 a.1))

  -- the ends of a tree that is certified
  ends_chains : (system : System) (tree : Tree) (ends : List End) → lines_ending (lines_of (entries_of tree.lines)) ≡ Done → ends_of g system tree ≡ Ok ends → all_chains ends ≡ true
  unfolding ends_of
  ends_chains system tree ends n e = walked_chains tree.budget 0 1 (root_of g.symbols system ∷ []) (entries_of tree.lines) ends n e

  -- such a tree is complete
  pub done_is_complete : (system : System) (tree : Tree) → IsCertified g system tree → lines_ending tree.lines ≡ Done → all_chains (ends_in (ends_of g system tree)) ≡ true
  done_is_complete system tree certified n = by_answer (ends_of g system tree) refl
    where
      by_answer : (q : Result (List End) (ℕ × Rule)) → ends_of g system tree ≡ q → all_chains (ends_in q) ≡ true
      by_answer (Ok ends) e = ends_chains system tree ends (ap lines_ending (lines_of_entries tree.lines certified.formed.lines) ∙ n) e
      by_answer (Err r) e = refl

  -- ---- and the other way round
  -- an end that is open is no chain
  open_at : (budget w : ℕ) (s : State) (line : Line) (es : List Evidence) (b : Below) → entered g budget w s line es ≡ Ok b → all_chains b.ends ≡ true → open_ending line ≡ None
  unfolding entered
  open_at budget w s (act action) es b e c = refl
  open_at budget w s closed es b e c = refl
  open_at budget w s chain es b e c = refl
  open_at budget w s (pair x) es b e c = refl
  open_at budget w s (spent action) es b e c = absurd (let k = ap (λ b. all_chains b.ends) (ok_same (ended (spent action) s 0) b (then_ok (reason_holds g budget w s (spent action) es) _ _ b e).1) ∙ c in cc)
  open_at budget w s spent_pairs es b e c = absurd (let k = ap (λ b. all_chains b.ends) (ok_same (ended spent_pairs s 0) b (then_ok (reason_holds g budget w s spent_pairs es) _ _ b e).1) ∙ c in cc)
  open_at budget w s (open_wide action) es b e c = absurd (let k = ap (λ b. all_chains b.ends) (ok_same (ended (open_wide action) s 0) b (then_ok (reason_holds g budget w s (open_wide action) es) _ _ b e).1) ∙ c in cc)
  open_at budget w s (open_separant i) es b e c = absurd (let k = ap (λ b. all_chains b.ends) (ok_same (ended (open_separant i) s 0) b (then_ok (reason_holds g budget w s (open_separant i) es) _ _ b e).1) ∙ c in cc)
  open_at budget w s (open_large limit action) es b e c = absurd (let k = ap (λ b. all_chains b.ends) (ok_same (ended (open_large limit action) s 0) b (then_ok (reason_holds g budget w s (open_large limit action) es) _ _ b e).1) ∙ c in cc)

  -- the lines below the pending states, where all ends are chains
  walked_done : (budget w place : ℕ) (pending : List State) (es : List Entry) (ends : List End) → all_chains ends ≡ true → walk g budget w place pending es ≡ Ok ends → lines_ending (lines_of es) ≡ Done
  walked_done budget w place [] [] ends c e = refl
  walked_done budget w place (s ∷ pending) [] ends c e = cc
  walked_done budget w place [] (x ∷ es) ends c e = cc
  walked_done budget w place (s ∷ pending) (x ∷ es) ends c e =
      by_entry (entered g budget w s x.line x.evidence) refl (λ b ends k f. walked_done budget (w + b.weight) (place + 1 + length x.evidence) (b.states ++ pending) es ends k f) e
    where
      by_entry : (q : Result Below (ℕ × Rule)) → entered g budget w s x.line x.evidence ≡ q
          → ((b : Below) (ends : List End) → all_chains ends ≡ true → walk g budget (w + b.weight) (place + 1 + length x.evidence) (b.states ++ pending) es ≡ Ok ends → lines_ending (lines_of es) ≡ Done)
          → (elim q as (λ _. Result (List End) (ℕ × Rule)) [
            | Err r ↦ Err (place + r.0, r.1)
            | Ok b ↦ walk g budget (w + b.weight) (place + 1 + length x.evidence) (b.states ++ pending) es >>= (λ ends. Ok (b.ends ++ ends))
          ]) ≡ Ok ends → unwrap_or (open_ending x.line) (lines_ending (map pair x.evidence ++ lines_of es)) ≡ Done
      by_entry (Err r) f ih e = cc
      by_entry (Ok b) f ih e =
          let a = bind_ok (walk g budget (w + b.weight) (place + 1 + length x.evidence) (b.states ++ pending) es) _ ends e in
          let both = chains_split b.ends a.0 (ap all_chains (ok_same (b.ends ++ a.0) ends a.2) ∙ c) in
          ap (λ o. unwrap_or o (lines_ending (map pair x.evidence ++ lines_of es))) (open_at budget w s x.line x.evidence b f both.0) ∙ behind_evidence x.evidence (lines_of es) ∙ ih b a.0 both.1 a.1

  -- a tree that is certified and complete has no line that is an open end
  pub complete_is_done : (system : System) (tree : Tree) → IsCertified g system tree → all_chains (ends_in (ends_of g system tree)) ≡ true → lines_ending tree.lines ≡ Done
  unfolding ends_of
  complete_is_done system tree certified c = by_answer (walk g tree.budget 0 1 (root_of g.symbols system ∷ []) (entries_of tree.lines)) refl (answer_certified g system tree certified)
    where
      by_answer : (q : Result (List End) (ℕ × Rule)) → walk g tree.budget 0 1 (root_of g.symbols system ∷ []) (entries_of tree.lines) ≡ q
          → IsOk (walk g tree.budget 0 1 (root_of g.symbols system ∷ []) (entries_of tree.lines)) → lines_ending tree.lines ≡ Done
      by_answer (Ok ends) e is = ap lines_ending (sym (lines_of_entries tree.lines certified.formed.lines)) ∙ walked_done tree.budget 0 1 (root_of g.symbols system ∷ []) (entries_of tree.lines) ends (ap (λ q. all_chains (ends_in q)) (sym e) ∙ c) e
      by_answer (Err r) e is = absurd (let k = subst IsOk e is in cc)
