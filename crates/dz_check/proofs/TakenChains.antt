-- The states of chains that are taken while a tree is checked.
use Rattle.std.specs.Prelude.{IfOk}
use Rattle.std.proofs.Common.{◌≡◌, ◌<◌, ◌+◌, ◌-◌, ℕ, Bool, true, false, cond, List, [], ◌∷◌, ◌++◌, length, map, take, drop, get_or, refl, sym, ap, subst, Result, Ok, Err, Some}
use Rattle.std.proofs.lemmas.List.{length-map}
use Rattle.std.proofs.lemmas.List.Elements.{All-nil}
use Rattle.dz_rank.specs.Rankings.{RankingValue}
use Rattle.dz_poly.specs.Books.{BookValue, IsKept}
use Rattle.dz_poly.proofs.Books.{kept_itself, kept_trans}
use Rattle.dz_monomials.specs.Ranked.{symbols_under}
use Rattle.dz_diff.specs.Operations.{Setting, setting_of}
use Rattle.dz_diff.specs.State.{State}
use Rattle.dz_diff.specs.States.{IsStateOf, StandsIn, StateValue, state_in}
use Rattle.dz_move.specs.declared.Rule.{Rule}
use Rattle.dz_move.specs.declared.lines.Line.{Line as ProgramLine}
use Rattle.dz_move.specs.Lines.{Line, grouped}
use Rattle.dz_move.specs.TreeLines.{line_of}
use Rattle.dz_tree.specs.Counting.{form_trees}
use Rattle.dz_tree.specs.EvidenceLines.{is_pair_line}
use Rattle.dz_check.specs.declared.verdict.Verdict.{Verdict as ProgramVerdict}
use Rattle.dz_check.specs.declared.verdict.Verdict.TheVariants as verdicts
use Rattle.dz_check.specs.Collecting.{AreCollected, Collects, CollectsOn, StandsFor, marked}
use Rattle.dz_check.specs.Pending.{PendingValue, StackedIn, cut}
use Rattle.dz_check.specs.Verdicts.{is_rejected, verdict_as}
use Rattle.dz_check.specs.Walk.{End, accepted, partial, rejected, all_chains, chains_of, ends_in, judged, walk}
use Rattle.dz_check.specs.Walking.{IsWalking, judged_after, verdict_from}
use Rattle.dz_check.proofs.ChainWalks.{all_taken, marked_stacked, marked_states, pair_collects}
use Rattle.dz_check.proofs.PendingStacks.{stack_kept}
use Rattle.dz_check.proofs.WalkedLines.{behind_is, lines_at}

-- ---- a stack in place of another
-- below a stack the book may be one that is kept by it
lowered : (base big : BookValue) → IsKept base big → (ps : List PendingValue) (book : BookValue) → StackedIn big book ps → StackedIn base book ps
lowered base big keeps [] book h = kept_trans base big book keeps h
lowered base big keeps (p ∷ ps) book h = (h.0, h.1, h.2, lowered base big keeps ps (cut p.mark book) h.3)

-- the same stack
pub stands_itself : (book : BookValue) (ps : List PendingValue) → StandsFor book ps ps
stands_itself book ps = record { stands = λ base h. h; same = λ base h. refl; count = refl }

-- all states with the mark of now
pub stands_marked : (book : BookValue) (ps qs : List PendingValue) → qs ≡ map (marked (length book.polynomials)) ps → StandsFor book ps qs
stands_marked book ps qs e = subst (StandsFor book ps) (sym e) (record {
  stands = λ base h. lowered base book (stack_kept base ps book h) (map (marked (length book.polynomials)) ps) book (marked_stacked book base ps book h (kept_itself book));
  same = λ base h. marked_states book base ps book h (kept_itself book);
  count = length-map ps (marked (length book.polynomials));
})

module _ (base book : BookValue) (old new : List PendingValue) (h : StandsFor book old new) (budget w : ℕ) (lines : List Line) where
  -- a walk goes on from it
  pub walks_for : IsWalking base book budget w old lines → IsWalking base book budget w new lines
  walks_for walks = record {
    within = walks.within;
    stacked = h.stands base walks.stacked;
    next = walks.next;
    formed = subst (λ n. form_trees n walks.next lines ≡ true) (sym h.count) walks.formed;
  }

  -- and comes to the same
  pub told_for : (g : Setting) (o : Bool) (place : ℕ) → StackedIn base book old → verdict_from g budget w o place book new lines ≡ verdict_from g budget w o place book old lines
  told_for g o place stacked = ap (λ (ss : List State). judged_after o (walk g budget w (place + length (grouped lines).0) ss (grouped lines).1)) (h.same base stacked)

-- a chain that is taken
module _ (base : BookValue) (g : Setting) (whole : List State) (book : BookValue) (stack now : List PendingValue) (taken after : List StateValue) (lines : List Line) where
  pub one_here : (s : StateValue) → now ≡ map (marked (length book.polynomials)) stack → after ≡ taken ++ s ∷ [] → CollectsOn base g whole book stack taken (Some s) lines → Collects base g whole book now after lines
  one_here s e f c = subst (λ (ps : List PendingValue). Collects base g whole book ps after lines) (sym e) (subst (λ (ts : List StateValue). Collects base g whole book (map (marked (length book.polynomials)) stack) ts lines) (sym f) c)

-- ---- all lines
-- at a line, by the ranking of another book, with the lines as they are handed on
module _ (base book : BookValue) (keeps : IsKept base book) (whole : List State) (at : BookValue) (stack : List PendingValue) (taken : List StateValue) (lines : List ProgramLine) (k : ℕ) where
  pub collects_here : (line : ProgramLine) → k < length lines → line ≡ get_or lines k line → Collects base (setting_of base.ranking) whole at stack taken (map line_of (drop k lines))
      → Collects base (setting_of book.ranking) whole at stack taken (line_of line ∷ map line_of (take (length lines - (k + 1)) (drop (k + 1) lines)))
  collects_here line h e c =
      subst (λ (ls : List ProgramLine). Collects base (setting_of book.ranking) whole at stack taken (line_of line ∷ map line_of ls)) (sym (behind_is lines (k + 1)))
      (subst (λ (r : RankingValue). Collects base (setting_of r) whole at stack taken (line_of line ∷ map line_of (drop (k + 1) lines))) (sym keeps.ranking)
      (subst (λ (ls : List Line). Collects base (setting_of base.ranking) whole at stack taken ls) (lines_at lines k line h e) c))

  -- and behind it
  pub collects_behind : Collects base (setting_of book.ranking) whole at stack taken (map line_of (take (length lines - k) (drop k lines))) → Collects base (setting_of base.ranking) whole at stack taken (map line_of (drop k lines))
  collects_behind c =
      subst (λ (r : RankingValue). Collects base (setting_of r) whole at stack taken (map line_of (drop k lines))) keeps.ranking
      (subst (λ (ls : List ProgramLine). Collects base (setting_of book.ranking) whole at stack taken (map line_of ls)) (behind_is lines k) c)

-- a line of evidence is passed over
pub pair_passed : (base : BookValue) (g : Setting) (whole : List State) (book : BookValue) (stack : List PendingValue) (taken : List StateValue) (line : Line) (lines : List Line) → is_pair_line line ≡ true
    → Collects base g whole book stack taken (line ∷ lines) → Collects base g whole book stack taken lines
pair_passed base g whole book stack taken line lines e c = record { mark = c.mark; is = pair_collects base g whole book c.mark stack taken line lines e c.is }

-- behind the last line all are taken
pub all_here : (base : BookValue) (g : Setting) (whole : List State) (book : BookValue) (stack : List PendingValue) (taken : List StateValue) → Collects base g whole book stack taken [] → AreCollected base book whole taken
all_here base g whole book stack taken c = all_taken base g whole book c.mark stack taken c.is

-- ---- the verdict
-- what is told by three clauses of an answer
pub three_ok : {A E : Type 0} {P Q S R : A → Type 0} → ((a : A) → P a → Q a → S a → R a) → (o : Result A E) → IfOk o P → IfOk o Q → IfOk o S → IfOk o R
three_ok f (Ok a) p q s = f a p q s
three_ok f (Err e) p q s = tt

-- the verdict on a tree that is certified
certified_told : (v : ProgramVerdict) (ends : List End) → verdict_as v ≡ judged (Ok ends) → is_rejected v ≡ false
certified_told verdicts.Accepted ends e = refl
certified_told verdicts.Partial ends e = refl
certified_told (verdicts.Rejected place r) ends e = absurd (by_test (all_chains ends) e)
  where
    by_test : (b : Bool) → rejected place r ≡ cond b accepted partial → ⊥
    by_test true e = cc
    by_test false e = cc

-- on one that is not
rejected_told : (v : ProgramVerdict) (place : ℕ) (r : Rule) → verdict_as v ≡ rejected place r → is_rejected v ≡ true
rejected_told verdicts.Accepted place r e = cc
rejected_told verdicts.Partial place r e = cc
rejected_told (verdicts.Rejected p q) place r e = refl

-- what is taken by the verdict is what the walk has
pub taken_by : (base new : BookValue) → IsKept base new → (v : ProgramVerdict) (taken : List StateValue) → (is_rejected v ≡ true → taken ≡ []) → (q : Result (List End) (ℕ × Rule)) → verdict_as v ≡ judged q
    → ((ends : List End) → q ≡ Ok ends → is_rejected v ≡ false → AreCollected base new (chains_of ends) taken) → AreCollected base new (chains_of (ends_in q)) taken
taken_by base new keeps v taken none (Ok ends) e f = f ends refl (certified_told v ends e)
taken_by base new keeps v taken none (Err r) e f = subst (AreCollected base new []) (sym (none (rejected_told v r.0 r.1 e))) (record {
  keeps = keeps;
  stand = All-nil (StandsIn new);
  facts = All-nil (λ s. IsStateOf (symbols_under new.ranking) (state_in new s));
  are = refl;
})
