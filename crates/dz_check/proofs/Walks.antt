-- A walk over the lines of a tree, one entry at a time.
use Rattle.std.proofs.Common.{◌≡◌, ◌≤◌, ◌+◌, ◌-◌, ◌∙◌, inl, inr, ℕ, zero, suc, nat_lt, Bool, true, false, not, ◌&&◌, ◌||◌, cond, List, [], ◌∷◌, ◌++◌, length, refl, sym, ap, subst, arith, Result, Ok, Err, Some}
use Rattle.std.specs.Prelude.{reverse}
use Rattle.std.proofs.lemmas.List.{reverse-append}
use Rattle.dz_poly.specs.Books.{BookValue, IsKept}
use Rattle.dz_poly.proofs.Books.{kept_trans}
use Rattle.dz_monomials.specs.Ranked.{symbols_under}
use Rattle.dz_monomials.specs.Lists.{AllOf}
use Rattle.dz_diff.specs.Operations.{Setting}
use Rattle.dz_algebra.specs.Outcome.{◌>>=◌}
use Rattle.dz_diff.specs.State.{State}
use Rattle.dz_diff.specs.States.{IsStateOf, state_in}
use Rattle.dz_algebra.proofs.Outcomes.{both}
use Rattle.dz_move.specs.declared.Rule.{Rule}
use Rattle.dz_move.specs.declared.drafts.Reached.TheVariants as reached
use Rattle.dz_check.specs.declared.entering.Left.{Left}
use Rattle.dz_check.specs.declared.entering.Left.TheVariants as kinds
use Rattle.dz_check.specs.declared.entering.Outcome.{Outcome}
use Rattle.dz_tree.specs.declared.entry_fault.EntryFault.{EntryFault}
use Rattle.dz_tree.specs.declared.entry_fault.EntryFault.TheVariants as faults
use Rattle.dz_tree.specs.declared.forming.Expected.{Expected}
use Rattle.dz_tree.specs.Counting.{expected_after, form_trees, left_after, lets_line, may_stand, trees_after}
use Rattle.dz_tree.specs.Entering.{IsEntryFault, rule_in}
use Rattle.dz_tree.specs.EvidenceLines.{is_pair_line}
use Rattle.dz_tree.specs.Forms.{is_spelled}
use Rattle.dz_check.specs.Leaving.{LeftStand, Leaves, ends_left, states_left}
use Rattle.dz_move.specs.Lines.{Evidence, Line, act, closed, chain, pair, spent, spent_pairs, open_wide, open_separant, open_large, Entry, grouped}
use Rattle.dz_check.specs.Pending.{PendingValue, StackedIn, cut, pending_states}
use Rattle.dz_check.specs.Walk.{Below, End, accepted, partial, all_chains, entered, is_chain_end, walk}
use Rattle.dz_check.specs.Walking.{IsRejection, IsWalking, judged_after, line_in, pending_left, rejection, verdict_from}
use Rattle.dz_check.proofs.Entries.{broken_line, left_states, left_within}
use Rattle.dz_check.proofs.PendingStacks.{pushed, pushed_states, stack_grows, stack_kept, states_stay}

-- what is taken off the end of a list is the first of it from behind
pub popped : {A : Type 0} (xs ys : List A) (x : A) → xs ≡ ys ++ x ∷ [] → reverse xs ≡ x ∷ reverse ys
popped xs ys x e = ap reverse e ∙ reverse-append ys (x ∷ [])

-- ---- lines
-- a line that is no evidence begins an entry
pub begins : (line : Line) (lines : List Line) → is_pair_line line ≡ false → grouped (line ∷ lines) ≡ ([], record { line = line; evidence = (grouped lines).0 } ∷ (grouped lines).1)
begins (act action) lines e = refl
begins closed lines e = refl
begins chain lines e = refl
begins (pair x) lines e = cc
begins (spent action) lines e = refl
begins spent_pairs lines e = refl
begins (open_wide action) lines e = refl
begins (open_separant i) lines e = refl
begins (open_large limit action) lines e = refl

-- how many trees are to come after it
comes_after : (n : ℕ) (line : Line) → is_pair_line line ≡ false → left_after n line ≡ (n - 1) + trees_after line
comes_after n (act action) e = refl
comes_after n closed e = refl
comes_after n chain e = refl
comes_after n (pair x) e = cc
comes_after n (spent action) e = refl
comes_after n spent_pairs e = refl
comes_after n (open_wide action) e = refl
comes_after n (open_separant i) e = refl
comes_after n (open_large limit action) e = refl

-- such a line stands only where a tree is to come
some_left : (n : ℕ) (x : Expected) (line : Line) → may_stand n x line ≡ true → is_pair_line line ≡ false → 1 ≤ n
some_left n x line h e = positive n (by_line line h e)
  where
    positive : (n : ℕ) → nat_lt 0 n ≡ true → 1 ≤ n
    positive zero p = cc
    positive (suc n) p = omega arith

    by_line : (line : Line) → may_stand n x line ≡ true → is_pair_line line ≡ false → nat_lt 0 n ≡ true
    by_line (act action) h e = (both (lets_line x) (nat_lt 0 n) h).1
    by_line closed h e = (both (lets_line x) (nat_lt 0 n) h).1
    by_line chain h e = (both (lets_line x) (nat_lt 0 n) h).1
    by_line (pair p) h e = cc
    by_line (spent action) h e = (both (lets_line x) (nat_lt 0 n) h).1
    by_line spent_pairs h e = (both (lets_line x) (nat_lt 0 n) h).1
    by_line (open_wide action) h e = (both (lets_line x) (nat_lt 0 n) h).1
    by_line (open_separant i) h e = (both (lets_line x) (nat_lt 0 n) h).1
    by_line (open_large limit action) h e = (both (lets_line x) (nat_lt 0 n) h).1

-- a counted line stands where it may, and the lines after it are counted
counted : (n : ℕ) (x : Expected) (line : Line) (lines : List Line) → form_trees n x (line ∷ lines) ≡ true → (may_stand n x line ≡ true) × (form_trees (left_after n line) (expected_after line) lines ≡ true)
counted n x line lines h =
    let a = both (is_spelled line && may_stand n x line) (form_trees (left_after n line) (expected_after line) lines) h in
    ((both (is_spelled line) (may_stand n x line) a.0).1, a.1)

-- a stack is not empty at a line that is no evidence
pub some_pending : (base book : BookValue) (budget w : ℕ) (stack : List PendingValue) (line : Line) (lines : List Line) → IsWalking base book budget w stack (line ∷ lines) → is_pair_line line ≡ false → 1 ≤ length stack
some_pending base book budget w stack line lines h e = some_left (length stack) h.next line (counted (length stack) h.next line lines h.formed).0 e

-- ---- the states that are left
pub left_pending : (left : Left) (rest : List PendingValue) (new : BookValue) → pending_states new (pending_left (length new.polynomials) left ++ rest) ≡ states_left new left ++ pending_states new rest
left_pending kinds.Nothing rest new = refl
left_pending kinds.End rest new = refl
left_pending (kinds.States (reached.One s)) rest new = pushed_states new s rest new
left_pending (kinds.States (reached.Two s t)) rest new =
    pushed_states new s (record { state = t; mark = length new.polynomials } ∷ rest) new ∙ ap (λ (ss : List State). state_in new s ∷ ss) (pushed_states new t rest new)

pub left_stacked : (base : BookValue) (left : Left) (rest : List PendingValue) (new : BookValue) → LeftStand new left → AllOf (IsStateOf (symbols_under new.ranking)) (states_left new left) → StackedIn base new rest → StackedIn base new (pending_left (length new.polynomials) left ++ rest)
left_stacked base kinds.Nothing rest new stand facts h = h
left_stacked base kinds.End rest new stand facts h = h
left_stacked base (kinds.States (reached.One s)) rest new stand facts h = pushed base s rest new stand facts.0 h
left_stacked base (kinds.States (reached.Two s t)) rest new stand facts h =
    pushed base s (record { state = t; mark = length new.polynomials } ∷ rest) new stand.0 facts.0 (pushed base t rest new stand.1 facts.1.0 h)

left_count : (left : Left) (mark : ℕ) (rest : List PendingValue) (new : BookValue) → length (pending_left mark left ++ rest) ≡ length (states_left new left) + length rest
left_count kinds.Nothing mark rest new = let e : length rest ≡ 0 + length rest = omega arith in e
left_count kinds.End mark rest new = let e : length rest ≡ 0 + length rest = omega arith in e
left_count (kinds.States (reached.One s)) mark rest new = let e : suc (length rest) ≡ 1 + length rest = omega arith in e
left_count (kinds.States (reached.Two s t)) mark rest new = let e : suc (suc (length rest)) ≡ 2 + length rest = omega arith in e

-- ---- verdicts
chains_joined : (xs ys : List End) → all_chains (xs ++ ys) ≡ (all_chains xs && all_chains ys)
chains_joined [] ys = refl
chains_joined (x ∷ xs) ys = by_test (is_chain_end x) (chains_joined xs ys)
  where
    by_test : (b : Bool) → all_chains (xs ++ ys) ≡ (all_chains xs && all_chains ys) → (b && all_chains (xs ++ ys)) ≡ (b && all_chains xs && all_chains ys)
    by_test true e = e
    by_test false e = refl

one_test : (a b c : Bool) → (not a && (b && c)) ≡ (not (a || not b) && c)
one_test true b c = refl
one_test false true c = refl
one_test false false c = refl

judged_on : (o : Bool) (xs : List End) (q : Result (List End) (ℕ × Rule)) → judged_after o (q >>= (λ ends. Ok (xs ++ ends))) ≡ judged_after (o || not (all_chains xs)) q
judged_on o xs (Ok ys) = ap (λ b. cond b accepted partial) (ap (λ b. not o && b) (chains_joined xs ys) ∙ one_test o (all_chains xs) (all_chains ys))
judged_on o xs (Err r) = refl

module _ (g : Setting) (budget w : ℕ) (s : State) (pending : List State) (line : Line) (es : List Evidence) (rest : List Entry) where
  -- what follows the first entry
  abbrev follows : ℕ → Result Below (ℕ × Rule) → Result (List End) (ℕ × Rule)
  follows place q = elim q as (λ _. Result (List End) (ℕ × Rule)) [
    | Err r ↦ Err (place + r.0, r.1)
    | Ok b ↦ walk g budget (w + b.weight) (place + 1 + length es) (b.states ++ pending) rest >>= (λ ends. Ok (b.ends ++ ends))
  ]

  walk_by : (place : ℕ) (q : Result Below (ℕ × Rule)) → entered g budget w s line es ≡ q → walk g budget w place (s ∷ pending) (record { line = line; evidence = es } ∷ rest) ≡ follows place q
  walk_by place q e = ap (follows place) e

  -- an entry that holds
  one_entered : (o : Bool) (place : ℕ) (b : Below) → entered g budget w s line es ≡ Ok b → judged_after o (walk g budget w place (s ∷ pending) (record { line = line; evidence = es } ∷ rest)) ≡ judged_after (o || not (all_chains b.ends)) (walk g budget (w + b.weight) (place + 1 + length es) (b.states ++ pending) rest)
  one_entered o place b e = ap (judged_after o) (walk_by place (Ok b) e) ∙ judged_on o b.ends (walk g budget (w + b.weight) (place + 1 + length es) (b.states ++ pending) rest)

  -- one that does not
  one_refused : (o : Bool) (place : ℕ) (fault : EntryFault) → IsEntryFault fault (entered g budget w s line es) → IsRejection place fault (judged_after o (walk g budget w place (s ∷ pending) (record { line = line; evidence = es } ∷ rest)))
  one_refused o place fault (inl e) = inl e
  one_refused o place fault (inr e) = by_answer (entered g budget w s line es) refl e
    where
      by_answer : (q : Result Below (ℕ × Rule)) → entered g budget w s line es ≡ q → rule_in q ≡ Some fault → IsRejection place fault (judged_after o (walk g budget w place (s ∷ pending) (record { line = line; evidence = es } ∷ rest)))
      by_answer (Ok b) f e = cc
      by_answer (Err r) f e =
          let same : faults.Rule r.0 r.1 ≡ fault = cc in
          inr (ap (rejection place) (sym same) ∙ ap Some (sym (ap (judged_after o) (walk_by place (Err r) f))))

-- ---- a turn
module _ (g : Setting) (budget w : ℕ) (base book new : BookValue) (top : PendingValue) (rest : List PendingValue) (line : Line) (lines : List Line) (no_pair : is_pair_line line ≡ false) where
  abbrev s : State
  s = state_in (cut top.mark book) top.state

  -- what is told at the line, by its entry
  told : (o : Bool) (place : ℕ) → verdict_from g budget w o place book (top ∷ rest) (line ∷ lines)
      ≡ judged_after o (walk g budget w place (s ∷ pending_states (cut top.mark book) rest) (record { line = line; evidence = (grouped lines).0 } ∷ (grouped lines).1))
  told o place =
      let z : place + 0 ≡ place = omega arith in
      ap (λ (r : List Evidence × List Entry). judged_after o (walk g budget w (place + length r.0) (pending_states book (top ∷ rest)) r.1)) (begins line lines no_pair)
      ∙ ap (λ (k : ℕ). judged_after o (walk g budget w k (s ∷ pending_states (cut top.mark book) rest) (record { line = line; evidence = (grouped lines).0 } ∷ (grouped lines).1))) z

  -- the entry does not hold
  pub turn_refused : (fault : EntryFault) → IsEntryFault fault (entered g budget w s line (grouped lines).0) → (place : ℕ) (o : Bool) → IsRejection place fault (verdict_from g budget w o place book (top ∷ rest) (line ∷ lines))
  turn_refused fault h place o = subst (IsRejection place fault) (sym (told o place)) (one_refused g budget w s (pending_states (cut top.mark book) rest) line (grouped lines).0 (grouped lines).1 o place fault h)

  module _ (stacked : StackedIn base book (top ∷ rest)) (keeps : IsKept (cut top.mark book) new) where
    -- the book under the stack stays
    pub turn_keeps : IsKept base new
    turn_keeps = kept_trans base (cut top.mark book) new (stack_kept base rest (cut top.mark book) stacked.3) keeps

    module _ (x : Outcome) (h : Leaves new line s x (entered g budget w s line (grouped lines).0)) where
      -- the entry holds
      pub turn_told : (place : ℕ) (o : Bool) → verdict_from g budget w o place book (top ∷ rest) (line ∷ lines)
          ≡ verdict_from g budget (w + x.weight) (o || not (all_chains (ends_left line s x.left))) (place + 1) new (pending_left (length new.polynomials) x.left ++ rest) lines
      turn_told place o =
          let states : pending_states new (pending_left (length new.polynomials) x.left ++ rest) ≡ states_left new x.left ++ pending_states (cut top.mark book) rest =
          left_pending x.left rest new ∙ ap (λ (ss : List State). states_left new x.left ++ ss) (states_stay base rest (cut top.mark book) new keeps stacked.3) in
          told o place
          ∙ one_entered g budget w s (pending_states (cut top.mark book) rest) line (grouped lines).0 (grouped lines).1 o place _ h.is
          ∙ ap (λ (ss : List State). judged_after (o || not (all_chains (ends_left line s x.left))) (walk g budget (w + x.weight) (place + 1 + length (grouped lines).0) ss (grouped lines).1)) (sym states)

      -- the walk goes on
      pub turn_walks : IsWalking base book budget w (top ∷ rest) (line ∷ lines) → IsWalking base new budget (w + x.weight) (pending_left (length new.polynomials) x.left ++ rest) lines
      turn_walks walks =
          let count : length (states_left new x.left) ≡ trees_after line = left_states g budget w s line (grouped lines).0 _ h.is in
          let sums : length (pending_left (length new.polynomials) x.left ++ rest) ≡ length (states_left new x.left) + length rest = left_count x.left (length new.polynomials) rest new in
          let after : left_after (suc (length rest)) line ≡ (suc (length rest) - 1) + trees_after line = comes_after (suc (length rest)) line no_pair in
          let same : left_after (suc (length rest)) line ≡ length (pending_left (length new.polynomials) x.left ++ rest) = omega (arith, count, sums, after) in
          record {
            within = left_within g budget w s line (grouped lines).0 _ walks.within h.is;
            stacked = left_stacked base x.left rest new h.stand h.facts (stack_grows base rest (cut top.mark book) new keeps stacked.3);
            next = expected_after line;
            formed = subst (λ n. form_trees n (expected_after line) lines ≡ true) same (counted (suc (length rest)) walks.next line lines walks.formed).1;
          }

-- the line of a fault
pub turn_line : (g : Setting) (budget w : ℕ) (s : State) (line : Line) (es : List Evidence) (fault : EntryFault) → IsEntryFault fault (entered g budget w s line es) → line_in fault ≤ length es
turn_line g budget w s line es fault (inl e) = let z : line_in fault ≡ 0 = ap line_in e in omega (arith, z)
turn_line g budget w s line es fault (inr e) = by_answer (entered g budget w s line es) refl e
  where
    by_answer : (q : Result Below (ℕ × Rule)) → entered g budget w s line es ≡ q → rule_in q ≡ Some fault → line_in fault ≤ length es
    by_answer (Ok b) f e = cc
    by_answer (Err r) f e =
        let same : faults.Rule r.0 r.1 ≡ fault = cc in
        let k : r.0 ≡ line_in fault = ap line_in same in
        let l = broken_line g budget w s line es r f in
        omega (arith, k, l)
