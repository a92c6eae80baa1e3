-- The walk over a certified tree for the states of its chains.
use Rattle.std.specs.Prelude.{⊤, reverse, slice_set}
use Rattle.std.proofs.Common.{◌≡◌, ◌≤◌, ◌+◌, ◌∙◌, inl, inr, ℕ, zero, suc, ◌<◌, drop, get_or, add-one, nat_le, All, Bool, true, false, cond, List, [], ◌∷◌, ◌++◌, length, map, filter, take, refl, sym, ap, ap₂, subst, arith, Result, Ok, Err, IsOk, Option, Some, None}
use Rattle.std.proofs.lemmas.List.{append-nil, append_assoc, map-append, reverse-append}
use Rattle.std.proofs.lemmas.List.Elements.{All-cons, All-head, All-nil, All-push, All-tail, All-weaker, filter-append}
use Rattle.dz_rank.specs.Rankings.{RankingValue}
use Rattle.dz_poly.specs.Books.{BookValue, IsKept}
use Rattle.dz_poly.proofs.Books.{kept_itself, kept_trans}
use Rattle.dz_monomials.specs.Ranked.{symbols_under}
use Rattle.dz_monomials.specs.Lists.{AllOf}
use Rattle.dz_diff.specs.Operations.{Setting, setting_of}
use Rattle.dz_algebra.specs.Outcome.{◌>>=◌, needs, told_as}
use Rattle.dz_move.specs.Root.{System, is_closed, root_of}
use Rattle.dz_diff.specs.State.{State}
use Rattle.dz_diff.specs.States.{IsStateOf, StandsIn, StateValue, state_in}
use Rattle.dz_algebra.proofs.Outcomes.{bind_ok, ok_same, then_ok, told_ok}
use Rattle.dz_diff.proofs.KeptStates.{kept_state, stands_on}
use Rattle.dz_move.specs.declared.Rule.{Rule}
use Rattle.dz_move.specs.declared.drafts.Performed.{Performed}
use Rattle.dz_check.specs.declared.entering.Left.{Left}
use Rattle.dz_check.specs.declared.entering.Left.TheVariants as kinds
use Rattle.dz_check.specs.declared.entering.Outcome.{Outcome}
use Rattle.dz_check.specs.Leaving.{Leaves, below_in}
use Rattle.dz_move.specs.declared.fault.ActionStop.{ActionStop}
use Rattle.dz_move.specs.declared.fault.MoveFault.TheVariants.{Memory}
use Rattle.dz_move.specs.Actions.{IsActionStop, IsPerformed, reached_in, stop_in}
use Rattle.dz_check.specs.Certified.{IsCertified}
use Rattle.dz_tree.specs.Chain.{chain_weight}
use Rattle.dz_check.specs.Collecting.{AreCollected, CollectsOn, Holds, IsCollecting, LeavesAgain, chain_at, marked}
use Rattle.dz_tree.specs.Counting.{trees_after}
use Rattle.dz_tree.specs.EvidenceLines.{is_pair_line}
use Rattle.dz_move.specs.Lines.{Evidence, Line, act, closed, chain, pair, spent, spent_pairs, open_wide, open_separant, open_large, Entry, entries_of, grouped, is_chain_line}
use Rattle.dz_move.specs.Moves.{Action, Done, perform}
use Rattle.dz_move.specs.Parts.{is_act}
use Rattle.dz_check.specs.Pending.{PendingValue, StackedIn, cut, pending_states}
use Rattle.dz_check.specs.Reasons.{reason_holds}
use Rattle.dz_tree.specs.Trees.{Tree}
use Rattle.dz_check.specs.Walk.{Below, End, chains_of, ended, ends_in, ends_of, entered, is_chain_end, nothing_below, told_at_line, walk}
use Rattle.dz_check.specs.Walking.{pending_left}
use Rattle.dz_check.proofs.Certifying.{answer_certified}
use Rattle.dz_check.proofs.Entries.{left_states}
use Rattle.dz_check.proofs.PendingStacks.{cut_kept, grown_cut, pushed, pushed_states, stack_grows, stack_kept, states_stay, whole_cut}
use Rattle.dz_check.proofs.Walks.{begins, left_pending, left_stacked}

-- ---- an entry that holds
no_elements : {A : Type 0} (xs : List A) → length xs ≡ 0 → xs ≡ []
no_elements [] e = refl
no_elements (x ∷ xs) e = absurd (omega (arith, e))

none_after : (line : Line) → is_act line ≡ false → trees_after line ≡ 0
none_after (act action) e = cc
none_after closed e = refl
none_after chain e = refl
none_after (pair x) e = refl
none_after (spent action) e = refl
none_after spent_pairs e = refl
none_after (open_wide action) e = refl
none_after (open_separant i) e = refl
none_after (open_large limit action) e = refl

-- an end leaves no state
pub end_again : (book : BookValue) (g : Setting) (s : State) (line : Line) → is_act line ≡ false → LeavesAgain book g s line kinds.End
end_again book g s line e = record {
  same = λ h. no_elements (h.below).states (left_states g h.budget h.weight s line h.evidence h.below h.is ∙ none_after line e);
  stand = tt;
  facts = tt;
}

-- what an action that holds does
record IsDone (g : Setting) (s : State) (action : Action) (b : Below) : Type 0 where
  done : Done
  is : perform g s action ≡ Ok done
  states_are : b.states ≡ done.after

act_done : (g : Setting) (s : State) (action : Action) (h : Holds g s (act action)) → IsDone g s action h.below
unfolding entered
act_done g s action h =
    let e = h.is in
    let a1 = bind_ok (told_as told_at_line (perform g s action)) _ h.below e in
    let d = a1.0 in
    let a2 = then_ok (nat_le (h.weight + d.weight) h.budget) _ _ h.below a1.2 in
    record {
      done = d;
      is = told_ok told_at_line (perform g s action) d a1.1;
      states_are = ap (λ (x : Below). x.states) (sym (ok_same (record { states = d.after; ends = []; weight = d.weight }) h.below a2.1));
    }

module _ (g : Setting) (s : State) (line : Line) (action : Action) (is_line : line ≡ act action) where
  is_done : (h : Holds g s line) → IsDone g s action h.below
  is_done h = act_done g s action (record { budget = h.budget; weight = h.weight; evidence = h.evidence; below = h.below; is = ap (λ l. entered g h.budget h.weight s l h.evidence) (sym is_line) ∙ h.is })

  -- it leaves the states that it leads to
  pub act_again : (new : BookValue) (x : Performed) → IsPerformed new x (perform g s action) → AllOf (IsStateOf (symbols_under new.ranking)) (reached_in new x.after) → LeavesAgain new g s line (kinds.States x.after)
  act_again new x p facts = record {
    same = λ h.
        let d = is_done h in
        d.states_are ∙ ap (λ (y : Done). y.after) (ok_same d.done (record { after = reached_in new x.after; weight = p.weight }) (sym d.is ∙ p.is));
    stand = p.stand;
    facts = facts;
  }

  -- it has no stop
  pub act_goes : Holds g s line → (stop : ActionStop) → IsActionStop stop (perform g s action) → stop.fault ≡ Memory
  act_goes h stop (inl e) = e
  act_goes h stop (inr e) = absurd (none (ap stop_in (sym (is_done h).is) ∙ e))
    where
      none : ◌≡◌ {A = Option ActionStop} None (Some stop) → ⊥
      none e = cc

-- whenever an entry holds it leaves the same states
none_again : (g : Setting) (s : State) (line : Line) → is_act line ≡ false → (h k : Holds g s line) → (h.below).states ≡ (k.below).states
none_again g s line e h k =
    no_elements (h.below).states (left_states g h.budget h.weight s line h.evidence h.below h.is ∙ none_after line e)
    ∙ sym (no_elements (k.below).states (left_states g k.budget k.weight s line k.evidence k.below k.is ∙ none_after line e))

same_states : (g : Setting) (s : State) (line : Line) (h k : Holds g s line) → (h.below).states ≡ (k.below).states
same_states g s (act action) h k =
    let a = act_done g s action h in
    let b = act_done g s action k in
    a.states_are ∙ ap (λ (d : Done). d.after) (ok_same a.done b.done (sym a.is ∙ b.is)) ∙ sym b.states_are
same_states g s closed h k = none_again g s closed refl h k
same_states g s chain h k = none_again g s chain refl h k
same_states g s (pair e) h k = none_again g s (pair e) refl h k
same_states g s (spent action) h k = none_again g s (spent action) refl h k
same_states g s spent_pairs h k = none_again g s spent_pairs refl h k
same_states g s (open_wide action) h k = none_again g s (open_wide action) refl h k
same_states g s (open_separant i) h k = none_again g s (open_separant i) refl h k
same_states g s (open_large limit action) h k = none_again g s (open_large limit action) refl h k

-- so they are those that it was seen to leave
pub left_once : (new : BookValue) (g : Setting) (budget w : ℕ) (s : State) (line : Line) (es : List Evidence) (x : Outcome) → Leaves new line s x (entered g budget w s line es) → LeavesAgain new g s line x.left
left_once new g budget w s line es x h = record {
  same = λ k. same_states g s line k (record { budget = budget; weight = w; evidence = es; below = below_in new line s x; is = h.is });
  stand = h.stand;
  facts = h.facts;
}

-- ---- the ends of a walk
-- a walk by its first entry
record IsFirst (g : Setting) (budget w place : ℕ) (s : State) (pending : List State) (line : Line) (es : List Evidence) (rest : List Entry) (ends : List End) : Type 0 where
  below : Below
  entry : entered g budget w s line es ≡ Ok below
  more : List End
  is : walk g budget (w + below.weight) (place + 1 + length es) (below.states ++ pending) rest ≡ Ok more
  ends_are : below.ends ++ more ≡ ends

first_of : (g : Setting) (budget w place : ℕ) (s : State) (pending : List State) (line : Line) (es : List Evidence) (rest : List Entry) (ends : List End)
    → walk g budget w place (s ∷ pending) (record { line = line; evidence = es } ∷ rest) ≡ Ok ends → IsFirst g budget w place s pending line es rest ends
first_of g budget w place s pending line es rest ends e = by_entry (entered g budget w s line es) refl e
  where
    by_entry : (q : Result Below (ℕ × Rule)) → entered g budget w s line es ≡ q
        → (elim q as (λ _. Result (List End) (ℕ × Rule)) [
          | Err r ↦ Err (place + r.0, r.1)
          | Ok b ↦ walk g budget (w + b.weight) (place + 1 + length es) (b.states ++ pending) rest >>= (λ ends. Ok (b.ends ++ ends))
        ]) ≡ Ok ends → IsFirst g budget w place s pending line es rest ends
    by_entry (Err r) f e = cc
    by_entry (Ok b) f e =
        let a = bind_ok (walk g budget (w + b.weight) (place + 1 + length es) (b.states ++ pending) rest) _ ends e in
        record { below = b; entry = f; more = a.0; is = a.1; ends_are = ok_same (b.ends ++ a.0) ends a.2 }

-- the chains among ends
filter_joined : (xs ys : List End) → filter is_chain_end (xs ++ ys) ≡ filter is_chain_end xs ++ filter is_chain_end ys
filter_joined xs ys = filter-append is_chain_end xs ys

chains_joined : (xs ys : List End) → chains_of (xs ++ ys) ≡ chains_of xs ++ chains_of ys
chains_joined xs ys = ap (map (λ (e : End). e.state)) (filter_joined xs ys) ∙ map-append (λ (e : End). e.state) (filter is_chain_end xs) (filter is_chain_end ys)

-- the chain at an entry
module _ (g : Setting) (budget w : ℕ) (s : State) where
  by_end : (b : Bool) (r : ℕ × Rule) (x y : Below) → ◌>>=◌ {A = ⊤} {B = Below} {E = ℕ × Rule} (needs b r) (λ _. Ok x) ≡ Ok y → chains_of y.ends ≡ chains_of x.ends
  by_end b r x y e = ap (λ (z : Below). chains_of z.ends) (sym (ok_same x y (then_ok b r (λ _. Ok x) y e).1))

  chain_here : (line : Line) (es : List Evidence) (b : Below) → entered g budget w s line es ≡ Ok b → chains_of b.ends ≡ cond (is_chain_line line) (s ∷ []) []
  unfolding entered
  chain_here (act action) es b e =
      let a1 = bind_ok (told_as told_at_line (perform g s action)) _ b e in
      let d = a1.0 in
      let a2 = then_ok (nat_le (w + d.weight) budget) _ _ b a1.2 in
      ap (λ (x : Below). chains_of x.ends) (sym (ok_same (record { states = d.after; ends = []; weight = d.weight }) b a2.1))
  chain_here closed es b e = by_end (is_closed g.symbols s) _ nothing_below b e
  chain_here chain es b e =
      let a = bind_ok (chain_weight g s (λ n. nat_le (w + n) budget) es) _ b e in
      ap (λ (x : Below). chains_of x.ends) (sym (ok_same (ended chain s a.0) b a.2))
  chain_here (pair x) es b e = cc
  chain_here (spent action) es b e = by_end (reason_holds g budget w s (spent action) es) _ (ended (spent action) s 0) b e
  chain_here spent_pairs es b e = by_end (reason_holds g budget w s spent_pairs es) _ (ended spent_pairs s 0) b e
  chain_here (open_wide action) es b e = by_end (reason_holds g budget w s (open_wide action) es) _ (ended (open_wide action) s 0) b e
  chain_here (open_separant i) es b e = by_end (reason_holds g budget w s (open_separant i) es) _ (ended (open_separant i) s 0) b e
  chain_here (open_large limit action) es b e = by_end (reason_holds g budget w s (open_large limit action) es) _ (ended (open_large limit action) s 0) b e

-- ---- pending states with one mark
module _ (big : BookValue) where
  -- they stand in the whole book
  pub marked_stacked : (floor : BookValue) (ps : List PendingValue) (book : BookValue) → StackedIn floor book ps → IsKept book big → StackedIn big big (map (marked (length big.polynomials)) ps)
  marked_stacked floor [] book h keeps = kept_itself big
  marked_stacked floor (p ∷ ps) book h keeps =
      let all = kept_trans (cut p.mark book) book big (cut_kept p.mark book h.0) keeps in
      pushed big p.state (map (marked (length big.polynomials)) ps) big (stands_on (cut p.mark book) big all p.state h.1)
      (subst (λ r. IsStateOf (symbols_under r) (state_in big p.state)) (sym keeps.ranking) (subst (IsStateOf (symbols_under book.ranking)) (sym (kept_state (cut p.mark book) big all p.state h.1)) h.2))
      (marked_stacked floor ps (cut p.mark book) h.3 all)

  -- and are the same
  pub marked_states : (floor : BookValue) (ps : List PendingValue) (book : BookValue) → StackedIn floor book ps → IsKept book big → pending_states big (map (marked (length big.polynomials)) ps) ≡ pending_states book ps
  marked_states floor [] book h keeps = refl
  marked_states floor (p ∷ ps) book h keeps =
      let all = kept_trans (cut p.mark book) book big (cut_kept p.mark book h.0) keeps in
      pushed_states big p.state (map (marked (length big.polynomials)) ps) big
      ∙ ap₂ (λ (t : State) (ts : List State). t ∷ ts) (kept_state (cut p.mark book) big all p.state h.1) (marked_states floor ps (cut p.mark book) h.3 all)

-- ---- states that are taken
carried : (floor new : BookValue) → IsKept floor new → (ts : List StateValue) → All (StandsIn floor) ts → All (λ t. IsStateOf (symbols_under floor.ranking) (state_in floor t)) ts → All (λ t. IsStateOf (symbols_under new.ranking) (state_in new t)) ts
carried floor new keeps [] stand facts = All-nil (λ t. IsStateOf (symbols_under new.ranking) (state_in new t))
carried floor new keeps (t ∷ ts) stand facts =
    let here = All-head (StandsIn floor) t ts stand in
    All-cons (λ t. IsStateOf (symbols_under new.ranking) (state_in new t)) t ts
    (subst (λ r. IsStateOf (symbols_under r) (state_in new t)) (sym keeps.ranking) (subst (IsStateOf (symbols_under floor.ranking)) (sym (kept_state floor new keeps t here)) (All-head (λ t. IsStateOf (symbols_under floor.ranking) (state_in floor t)) t ts facts)))
    (carried floor new keeps ts (All-tail (StandsIn floor) t ts stand) (All-tail (λ t. IsStateOf (symbols_under floor.ranking) (state_in floor t)) t ts facts))

same_taken : (floor new : BookValue) → IsKept floor new → (ts : List StateValue) → All (StandsIn floor) ts → map (state_in new) ts ≡ map (state_in floor) ts
same_taken floor new keeps [] stand = refl
same_taken floor new keeps (t ∷ ts) stand = ap₂ (λ (x : State) (xs : List State). x ∷ xs) (kept_state floor new keeps t (All-head (StandsIn floor) t ts stand)) (same_taken floor new keeps ts (All-tail (StandsIn floor) t ts stand))

-- those that are taken, in a book that has grown
grown_collected : (base floor new : BookValue) → IsKept floor new → (whole : List State) (taken : List StateValue) → AreCollected base floor whole taken → AreCollected base new whole taken
grown_collected base floor new keeps whole taken c = record {
  keeps = kept_trans base floor new c.keeps keeps;
  stand = All-weaker (StandsIn floor) (StandsIn new) (λ t h. stands_on floor new keeps t h) taken c.stand;
  facts = carried floor new keeps taken c.stand c.facts;
  are = same_taken floor new keeps taken c.stand ∙ c.are;
}

-- one more is taken
one_more : (base floor new : BookValue) (before : List State) (taken : List StateValue) → AreCollected base floor before taken → IsKept floor new → (at : BookValue) (t : StateValue) → StandsIn at t → IsStateOf (symbols_under at.ranking) (state_in at t) → IsKept at new
    → AreCollected base new (before ++ state_in at t ∷ []) (taken ++ t ∷ [])
one_more base floor new before taken c kept at t stand facts keeps =
    let same : state_in new t ≡ state_in at t = kept_state at new keeps t stand in
    record {
      keeps = kept_trans base floor new c.keeps kept;
      stand = All-push (StandsIn new) taken t (All-weaker (StandsIn floor) (StandsIn new) (λ t h. stands_on floor new kept t h) taken c.stand) (stands_on at new keeps t stand);
      facts = All-push (λ t. IsStateOf (symbols_under new.ranking) (state_in new t)) taken t (carried floor new kept taken c.stand c.facts)
          (subst (λ r. IsStateOf (symbols_under r) (state_in new t)) (sym keeps.ranking) (subst (IsStateOf (symbols_under at.ranking)) (sym same) facts));
      are = map-append (state_in new) taken (t ∷ []) ∙ ap₂ (λ (ss : List State) (x : State). ss ++ x ∷ []) (same_taken floor new kept taken c.stand ∙ c.are) same;
    }

-- one more pending state gets the mark
pub one_marked : (m i : ℕ) (ps now : List PendingValue) (s : StateValue) (d : PendingValue) → i < length ps → now ≡ map (marked m) (take i ps) ++ drop i ps → s ≡ (get_or now i d).state
    → slice_set now i (record { state = s; mark = m }) ≡ map (marked m) (take (i + 1) ps) ++ drop (i + 1) ps
one_marked m i ps now s d l e f = rw add-one (at i ps now l e f)
  where
    at : (i : ℕ) (ps now : List PendingValue) → i < length ps → now ≡ map (marked m) (take i ps) ++ drop i ps → s ≡ (get_or now i d).state
        → slice_set now i (record { state = s; mark = m }) ≡ map (marked m) (take (suc i) ps) ++ drop (suc i) ps
    at i [] now l e f = absurd (omega arith)
    at zero (p ∷ ps) now l e f =
        ap (λ (xs : List PendingValue). slice_set xs 0 (record { state = s; mark = m })) e
        ∙ ap (λ (t : StateValue). record { state = t; mark = m } ∷ ps) (f ∙ ap (λ (xs : List PendingValue). (get_or xs 0 d).state) e)
    at (suc i) (p ∷ ps) [] l e f = absurd (nothing e)
      where
        nothing : {x : PendingValue} {xs : List PendingValue} → [] ≡ x ∷ xs → ⊥
        nothing e = cc
    at (suc i) (p ∷ ps) (q ∷ now) l e f =
        let first : q ≡ marked m p = cc in
        let rest : now ≡ map (marked m) (take i ps) ++ drop i ps = cc in
        ap₂ (λ (x : PendingValue) (xs : List PendingValue). x ∷ xs) first (at i ps now (omega (arith, l)) rest f)

-- a list from behind
pub reversed : {A B : Type 0} (f : A → B) (xs : List A) → reverse (map f xs) ≡ map f (reverse xs)
reversed f [] = refl
reversed f (x ∷ xs) =
    reverse-append (f x ∷ []) (map f xs) ∙ ap (λ ys. ys ++ f x ∷ []) (reversed f xs) ∙ sym (map-append f (reverse xs) (x ∷ [])) ∙ ap (map f) (sym (reverse-append (x ∷ []) xs))

-- ---- one line
-- the book under a stack stays when the state on top is taken up
pub under_kept : (floor book new : BookValue) (stack rest : List PendingValue) (top : PendingValue) → stack ≡ top ∷ rest → StackedIn floor book stack → IsKept (cut top.mark book) new → IsKept floor new
under_kept floor book new stack rest top e h keeps =
    let stacked = subst (λ (ps : List PendingValue). StackedIn floor book ps) e h in
    kept_trans floor (cut top.mark book) new (stack_kept floor rest (cut top.mark book) stacked.3) keeps

module _ (g : Setting) (base : BookValue) (whole : List State) (book : BookValue) (mark : ℕ) (top : PendingValue) (rest : List PendingValue) (taken : List StateValue) (line : Line) (lines : List Line) (no_pair : is_pair_line line ≡ false)
    (c : IsCollecting base g whole book mark (top ∷ rest) taken (line ∷ lines)) where
  abbrev s : State
  s = state_in (cut top.mark book) top.state

  abbrev pending : List State
  pending = pending_states (cut top.mark book) rest

  -- the first entry of what is left
  first : IsFirst g c.budget c.weight c.place s pending line (grouped lines).0 (grouped lines).1 c.ends
  first = first_of g c.budget c.weight c.place s pending line (grouped lines).0 (grouped lines).1 c.ends (ap (λ (r : List Evidence × List Entry). walk g c.budget c.weight c.place (s ∷ pending) r.1) (sym (begins line lines no_pair)) ∙ c.is)

  -- it holds
  pub first_holds : Holds g s line
  first_holds = record { budget = c.budget; weight = c.weight; evidence = (grouped lines).0; below = first.below; is = first.entry }

  module _ (new : BookValue) (keeps : IsKept (cut top.mark book) new) where
    floor_kept : IsKept c.floor new
    floor_kept = kept_trans c.floor (cut top.mark book) new (stack_kept c.floor rest (cut top.mark book) c.stacked.3) keeps

    module _ (left : Left) (h : LeavesAgain new g s line left) where
      abbrev stack : List PendingValue
      stack = pending_left (length new.polynomials) left ++ rest

      new_stacked : StackedIn c.floor new stack
      new_stacked = left_stacked c.floor left rest new h.stand h.facts (stack_grows c.floor rest (cut top.mark book) new keeps c.stacked.3)

      new_states : pending_states new stack ≡ (first.below).states ++ pending
      unfolding first first_holds
      new_states =
          left_pending left rest new
          ∙ ap₂ (λ (ss : List State) (ts : List State). ss ++ ts) (sym (h.same first_holds)) (states_stay c.floor rest (cut top.mark book) new keeps c.stacked.3)

      new_walk : walk g c.budget (c.weight + (first.below).weight) (c.place + 1 + length (grouped lines).0) (pending_states new stack) (grouped lines).1 ≡ Ok first.more
      new_walk = ap (λ (ss : List State). walk g c.budget (c.weight + (first.below).weight) (c.place + 1 + length (grouped lines).0) ss (grouped lines).1) new_states ∙ first.is

      -- the chains that are left, by that of the line
      chains_left : (b : Bool) → is_chain_line line ≡ b → chains_of c.ends ≡ cond b (s ∷ []) [] ++ chains_of first.more
      chains_left b e =
          ap chains_of (sym first.ends_are) ∙ chains_joined (first.below).ends first.more
          ∙ ap (λ (ss : List State). ss ++ chains_of first.more) (chain_here g c.budget c.weight s line (grouped lines).0 first.below first.entry ∙ ap (λ b. cond b (s ∷ []) []) e)

      -- behind a line that is no chain
      pub none_taken : is_chain_line line ≡ false → IsCollecting base g whole new mark stack taken lines
      none_taken e = record {
        floor = c.floor;
        is_mark = c.is_mark;
        stacked = new_stacked;
        budget = c.budget;
        weight = c.weight + (first.below).weight;
        place = c.place + 1 + length (grouped lines).0;
        ends = first.more;
        is = new_walk;
        before = c.before;
        taken_are = c.taken_are;
        all_are = ap (λ (ss : List State). c.before ++ ss) (sym (chains_left false e)) ∙ c.all_are;
      }

      -- behind a chain
      pub one_taken : is_chain_line line ≡ true → IsCollecting base g whole new (length new.polynomials) (map (marked (length new.polynomials)) stack) (taken ++ top.state ∷ []) lines
      one_taken e = record {
        floor = new;
        is_mark = refl;
        stacked = marked_stacked new c.floor stack new new_stacked (kept_itself new);
        budget = c.budget;
        weight = c.weight + (first.below).weight;
        place = c.place + 1 + length (grouped lines).0;
        ends = first.more;
        is = ap (λ (ss : List State). walk g c.budget (c.weight + (first.below).weight) (c.place + 1 + length (grouped lines).0) ss (grouped lines).1) (marked_states new c.floor stack new new_stacked (kept_itself new)) ∙ new_walk;
        before = c.before ++ s ∷ [];
        taken_are = one_more base c.floor new c.before taken c.taken_are floor_kept (cut top.mark book) top.state c.stacked.1 c.stacked.2 keeps;
        all_are = append_assoc c.before (s ∷ []) (chains_of first.more) ∙ ap (λ (ss : List State). c.before ++ ss) (sym (chains_left true e)) ∙ c.all_are;
      }

      -- behind any line, where a chain is still to be taken
      pub taken_on : CollectsOn base g whole new stack taken (chain_at line top.state) lines
      taken_on = by_test (is_chain_line line) refl
        where
          by_test : (b : Bool) → is_chain_line line ≡ b → CollectsOn base g whole new stack taken (cond b (Some top.state) None) lines
          by_test true e = record { mark = length new.polynomials; is = one_taken e }
          by_test false e = record { mark = mark; is = none_taken e }

-- the mark, the stack and the states that are taken, as they are then
pub collecting_is : (base : BookValue) (g : Setting) (whole : List State) (book : BookValue) (lines : List Line) (m n : ℕ) (qs rs : List PendingValue) (ss ts : List StateValue)
    → m ≡ n → qs ≡ rs → ss ≡ ts → IsCollecting base g whole book n rs ts lines → IsCollecting base g whole book m qs ss lines
collecting_is base g whole book lines m n qs rs ss ts e f h c =
    subst (λ (k : ℕ). IsCollecting base g whole book k qs ss lines) (sym e)
    (subst (λ (ps : List PendingValue). IsCollecting base g whole book n ps ss lines) (sym f)
    (subst (λ (us : List StateValue). IsCollecting base g whole book n rs us lines) (sym h) c))

-- ---- all lines
module _ (base : BookValue) (g : Setting) (whole : List State) (book : BookValue) (mark : ℕ) (stack : List PendingValue) (taken : List StateValue) where
  -- the book at first is in the one of now
  pub collecting_kept : (lines : List Line) → IsCollecting base g whole book mark stack taken lines → IsKept base book
  collecting_kept lines c = kept_trans base c.floor book c.taken_are.keeps (stack_kept c.floor stack book c.stacked)

  -- the mark is within it
  pub mark_inside : (lines : List Line) → IsCollecting base g whole book mark stack taken lines → mark ≤ length book.polynomials
  mark_inside lines c = let m = c.is_mark in let l = (stack_kept c.floor stack book c.stacked).later in omega (arith, m, l)

  -- a line of evidence is passed over
  pub pair_collects : (line : Line) (lines : List Line) → is_pair_line line ≡ true → IsCollecting base g whole book mark stack taken (line ∷ lines) → IsCollecting base g whole book mark stack taken lines
  pair_collects (act action) lines e c = cc
  pair_collects closed lines e c = cc
  pair_collects chain lines e c = cc
  pair_collects (pair x) lines e c = record {
    floor = c.floor;
    is_mark = c.is_mark;
    stacked = c.stacked;
    budget = c.budget;
    weight = c.weight;
    place = c.place;
    ends = c.ends;
    is = c.is;
    before = c.before;
    taken_are = c.taken_are;
    all_are = c.all_are;
  }
  pair_collects (spent action) lines e c = cc
  pair_collects spent_pairs lines e c = cc
  pair_collects (open_wide action) lines e c = cc
  pair_collects (open_separant i) lines e c = cc
  pair_collects (open_large limit action) lines e c = cc

  -- behind the last line all are taken, and stand in the book up to the mark
  pub all_collected : IsCollecting base g whole book mark stack taken [] → AreCollected base (cut mark book) whole taken
  all_collected c =
      let none : c.ends ≡ [] = no_ends (pending_states book stack) c.ends c.is in
      let kept = stack_kept c.floor stack book c.stacked in
      let floor : cut mark book ≡ c.floor = ap (λ (n : ℕ). cut n book) c.is_mark ∙ grown_cut (length c.floor.polynomials) c.floor book kept (omega arith) ∙ whole_cut c.floor in
      let all : c.before ≡ whole = sym (append-nil c.before) ∙ ap (λ (es : List End). c.before ++ chains_of es) (sym none) ∙ c.all_are in
      subst (λ b. AreCollected base b whole taken) (sym floor) (subst (λ (ss : List State). AreCollected base c.floor ss taken) all c.taken_are)
    where
      no_ends : (ss : List State) (ends : List End) → walk g c.budget c.weight c.place ss [] ≡ Ok ends → ends ≡ []
      no_ends [] ends e = sym (ok_same [] ends e)
      no_ends (s ∷ ss) ends e = cc

  -- and in all of it
  pub all_taken : IsCollecting base g whole book mark stack taken [] → AreCollected base book whole taken
  all_taken c = grown_collected base (cut mark book) book (cut_kept mark book (mark_inside [] c)) whole taken (all_collected c)

-- by the ranking of another book
pub collecting_by : (base : BookValue) (r q : RankingValue) → q ≡ r → (whole : List State) (book : BookValue) (mark : ℕ) (stack : List PendingValue) (taken : List StateValue) (lines : List Line)
    → IsCollecting base (setting_of r) whole book mark stack taken lines → IsCollecting base (setting_of q) whole book mark stack taken lines
collecting_by base r q e whole book mark stack taken lines c = subst (λ r. IsCollecting base (setting_of r) whole book mark stack taken lines) (sym e) c

-- the root alone is pending
pub root_collects : (book : BookValue) (g : Setting) (root : StateValue) → StandsIn book root → IsStateOf (symbols_under book.ranking) (state_in book root) → (lines : List Line) (budget : ℕ) (ends : List End)
    → walk g budget 0 1 (state_in book root ∷ []) (entries_of lines) ≡ Ok ends
    → IsCollecting book g (chains_of ends) book (length book.polynomials) (record { state = root; mark = length book.polynomials } ∷ []) [] lines
root_collects book g root stands facts lines budget ends e = record {
  floor = book;
  is_mark = refl;
  stacked = pushed book root [] book stands facts (kept_itself book);
  budget = budget;
  weight = 0;
  place = 1;
  ends = ends;
  is = ap (λ b. walk g budget 0 1 (state_in b root ∷ []) (entries_of lines)) (whole_cut book) ∙ e;
  before = [];
  taken_are = record {
    keeps = kept_itself book;
    stand = All-nil (StandsIn book);
    facts = All-nil (λ t. IsStateOf (symbols_under book.ranking) (state_in book t));
    are = refl;
  };
  all_are = refl;
}

-- the ends of a certified tree
pub certified_ends : (old new : RankingValue) → new ≡ old → (system : System) (tree : Tree) → IsCertified (setting_of old) system tree → (root : State) → root ≡ root_of (symbols_under old) system → (lines : List Line) → lines ≡ tree.lines
    → walk (setting_of new) tree.budget 0 1 (root ∷ []) (entries_of lines) ≡ Ok (ends_in (ends_of (setting_of old) system tree))
unfolding ends_of
certified_ends old new same system tree certified root is_root lines are_lines =
    ap₂ (λ (r : RankingValue) (s : State). walk (setting_of r) tree.budget 0 1 (s ∷ []) (entries_of lines)) same is_root
    ∙ ap (λ (ls : List Line). walk (setting_of old) tree.budget 0 1 (root_of (symbols_under old) system ∷ []) (entries_of ls)) are_lines
    ∙ by_answer (walk (setting_of old) tree.budget 0 1 (root_of (symbols_under old) system ∷ []) (entries_of tree.lines)) (answer_certified (setting_of old) system tree certified)
  where
    by_answer : (q : Result (List End) (ℕ × Rule)) → IsOk q → q ≡ Ok (ends_in q)
    by_answer (Ok ends) h = refl
    by_answer (Err r) h = cc

-- states that are taken, by a book that was there before
pub collected_since : (old base book : BookValue) → IsKept old base → (whole : List State) (taken : List StateValue) → AreCollected base book whole taken → AreCollected old book whole taken
collected_since old base book keeps whole taken c = record { keeps = kept_trans old base book keeps c.keeps; stand = c.stand; facts = c.facts; are = c.are }
