-- The worked tree, turn by turn.
use Rattle.std.specs.Prelude.{MatchResult}
use Rattle.std.proofs.Common.{◌≡◌, ℕ, suc, ◌+◌, ◌*◌, ◌-◌, ◌≤◌, ◌<◌, ◌&&◌, Bool, nat_le, List, [], ◌∷◌, ◌++◌, length, map, refl, sym, ap, ap₂, subst, ◌∙◌, Some, None, Result, Ok, arith, append-nil}
use Rattle.std.proofs.lemmas.List.{append_assoc, map-append}
use Rattle.dz_algebra.specs.Polynomial.{Polynomial}
use Rattle.dz_rank.specs.Rankings.{RankingValue}
use Rattle.dz_rank.specs.declared.symbols.Symbol.{Symbol}
use Rattle.dz_monomials.specs.Ranked.{symbols_under}
use Rattle.dz_poly.specs.Books.{BookValue, IsKept}
use Rattle.dz_poly.proofs.Books.{kept_trans}
use Rattle.dz_monomials.specs.Lists.{AllOf}
use Rattle.dz_diff.specs.Operations.{Setting, setting_of}
use Rattle.dz_algebra.specs.Outcome.{numbered, told_as}
use Rattle.dz_diff.specs.State.{State, at_place}
use Rattle.dz_diff.specs.States.{IsStateOf, StandsIn, state_in}
use Rattle.dz_diff.specs.Tests.{is_zero}
use Rattle.dz_algebra.proofs.Outcomes.{bind_ok, given_then, ok_same, then_ok, told_ok}
use Rattle.dz_step.specs.declared.Role.TheVariants.{Free}
use Rattle.dz_step.specs.Run.{run}
use Rattle.dz_pair.specs.Pair.{common, delta_answer}
use Rattle.dz_algebra.specs.Size.{Refusal}
use Rattle.std.specs.List.{list_all}
use Rattle.dz_move.specs.declared.Rule.{Rule}
use Rattle.dz_move.specs.declared.lines.Line.{Line as ProgramLine}
use Rattle.dz_tree.specs.Chain.{chain_rule, evidence_from, evidence_weight, is_below, passes}
use Rattle.dz_move.specs.Fault.{rule_of, rule_of_refusal, run_fault}
use Rattle.dz_move.specs.Lines.{Evidence, Entry, Line, act, chain, closed, lines_of, lines_of_entry, open_large, open_separant, open_wide, pair, spent, spent_pairs}
use Rattle.dz_check.specs.Pending.{StackedIn, cut, pending_states}
use Rattle.dz_move.specs.Standing.{IsStateOver}
use Rattle.dz_move.specs.TreeLines.{line_of}
use Rattle.dz_check.specs.Walk.{Below, entered}
use Rattle.dz_check.proofs.Certifying.{entered_holds}
use Rattle.dz_move.proofs.KeptMembers.{all_give}
use Rattle.dz_check.proofs.PendingStacks.{pushed, pushed_states, stack_grows, stack_kept, states_stay}
use Rattle.dz_move.proofs.StateFacts.{state_laws}
use Rattle.dz_engine.specs.declared.decomposing.Pending.{Pending}
use Rattle.dz_engine.specs.declared.decomposing.Progress.{Progress}
use Rattle.dz_engine.specs.declared.working.Worked.{Worked}
use Rattle.dz_engine.specs.Naming.{IsDone, after_in, delta_weight, done_states, done_weight, line_weight, pair_weight, pairs_weight, run_weight, states_below}
use Rattle.dz_engine.specs.Order.{delta_at, next_entry}
use Rattle.dz_engine.specs.Turning.{ArePushed, AreWorkedLines, HasCome, IsTurn, pending_value, stacked}
use Rattle.dz_engine.specs.Worked.{IsWorkedFrom}
use Rattle.dz_engine.proofs.OrderOfWork.{goes_from, next_holds}
use Rattle.dz_engine.proofs.WorkedTrees.{Goes}

-- ---- what an entry that is entered weighs, and leaves
module _ (g : Setting) (s : State) where
  -- the weight of a run of evidence
  evidence_weighs : (e : Evidence) (n : ℕ) → evidence_weight g s e ≡ Ok n → n ≡ pair_weight g s e
  unfolding evidence_weight
  evidence_weighs e n h =
      let a = given_then (at_place e.first s.equations) _ _ n h in
      let b = given_then (at_place e.second s.equations) _ _ n a.2 in
      let c = bind_ok (told_as rule_of_refusal (delta_answer g a.0 b.0)) _ n b.2 in
      let d = bind_ok (told_as (λ e. rule_of (run_fault e).1) (run g s Free c.0 e.steps)) _ n c.2 in
      let k = then_ok (is_zero (d.0).end && passes (λ w. list_all (is_below g.symbols s w) e.steps) (common g.symbols a.0 b.0)) _ _ n d.2 in
      let delta : delta_at g s (e.first, e.second) ≡ Ok c.0 =
      ap (λ o. elim o as (λ _. Result (Polynomial Symbol) Refusal) [ None ↦ Ok [] | Some p ↦ elim (at_place e.second s.equations) as (λ _. Result (Polynomial Symbol) Refusal) [ None ↦ Ok [] | Some q ↦ delta_answer g p q ] ]) a.1
      ∙ ap (λ o. elim o as (λ _. Result (Polynomial Symbol) Refusal) [ None ↦ Ok [] | Some q ↦ delta_answer g a.0 q ]) b.1
      ∙ told_ok rule_of_refusal (delta_answer g a.0 b.0) c.0 c.1 in
      sym (ap (delta_weight g s e.steps) delta ∙ ap (run_weight (length c.0)) (told_ok (λ e. rule_of (run_fault e).1) (run g s Free c.0 e.steps) d.0 d.1) ∙ ok_same {E = Rule} (1 + length c.0 + (d.0).count) n k.1)

  -- the weight of several
  evidence_weigh : (affordable : ℕ → Bool) (k n m : ℕ) (es : List Evidence) → evidence_from g s affordable k n es ≡ Ok m → m ≡ n + pairs_weight g s es
  evidence_weigh affordable k n m [] h = let f : n ≡ m = ok_same {E = ℕ × Rule} n m h in omega (arith, f)
  evidence_weigh affordable k n m (e ∷ es) h =
      let a = bind_ok (numbered k (evidence_weight g s e)) _ m h in
      let b = then_ok (affordable (n + a.0)) _ _ m a.2 in
      let i = evidence_weigh affordable (suc k) (n + a.0) m es b.1 in
      let j = evidence_weighs e a.0 (told_ok (λ r. (k, r)) (evidence_weight g s e) a.0 a.1) in
      omega (arith, i, j)

  -- what an entry weighs and leaves
  pub record Leaves (line : Line) (es : List Evidence) (b : Below) : Type 0 where
    pub weight : b.weight ≡ line_weight g s line es
    pub states : b.states ≡ states_below g s line

  pub leaves : (budget w : ℕ) (line : Line) (es : List Evidence) (b : Below) → entered g budget w s line es ≡ Ok b → Leaves line es b
  leaves budget w (act action) es b e = let h = entered_holds g budget w s (act action) es b e in record { weight = sym (ap done_weight h.0); states = sym (ap done_states h.0) }
  leaves budget w closed es b e = let h = entered_holds g budget w s closed es b e in record { weight = h.free; states = h.none }
  leaves budget w chain es b e =
      let h = entered_holds g budget w s chain es b e in
      let a = bind_ok (numbered 0 (chain_rule g s es)) _ b.weight h.0 in
      let k = evidence_weigh (λ n. nat_le (w + n) budget) 1 0 b.weight es a.2 in
      record { weight = omega (arith, k); states = h.1 }
  leaves budget w (pair x) es b e = absurd (entered_holds g budget w s (pair x) es b e)
  leaves budget w (spent action) es b e = let h = entered_holds g budget w s (spent action) es b e in record { weight = h.free; states = h.none }
  leaves budget w spent_pairs es b e = let h = entered_holds g budget w s spent_pairs es b e in record { weight = h.free; states = h.none }
  leaves budget w (open_wide action) es b e = let h = entered_holds g budget w s (open_wide action) es b e in record { weight = h.free; states = h.none }
  leaves budget w (open_separant i) es b e = let h = entered_holds g budget w s (open_separant i) es b e in record { weight = h.free; states = h.none }
  leaves budget w (open_large limit action) es b e = let h = entered_holds g budget w s (open_large limit action) es b e in record { weight = h.free; states = h.none }

-- ---- the stack
-- its top is last
pub stacked-append : (ps : List Pending) (p : Pending) → stacked (ps ++ p ∷ []) ≡ pending_value p ∷ stacked ps
stacked-append [] p = refl
stacked-append (q ∷ ps) p = ap (λ xs. xs ++ pending_value q ∷ []) (stacked-append ps p)

length-append-one : {A : Type 0} (xs : List A) (x : A) → length (xs ++ x ∷ []) ≡ 1 + length xs
length-append-one [] x = refl
length-append-one (y ∷ xs) x = let ih = length-append-one xs x in omega (arith, ih)

-- a state on top
pub pushed_one : (book : BookValue) (old new : List Pending) (p : Pending) → new ≡ old ++ p ∷ [] → (pending_value p).mark ≡ length book.polynomials → StandsIn book (pending_value p).state → IsStateOf (symbols_under book.ranking) (state_in book (pending_value p).state)
    → ArePushed book old new (state_in book (pending_value p).state ∷ [])
pushed_one book old new p e m stands facts =
    let s = (pending_value p).state in
    let f : stacked new ≡ record { state = s; mark = length book.polynomials } ∷ stacked old = ap stacked e ∙ stacked-append old p ∙ ap (λ n. record { state = s; mark = n } ∷ stacked old) m in
    record {
      stand = λ base h. subst (StackedIn base book) (sym f) (pushed base s (stacked old) book stands facts h);
      are = ap (pending_states book) f ∙ pushed_states book s (stacked old) book;
      count = ap length e ∙ length-append-one old p;
    }

-- nothing more
pub pushed_none : (book : BookValue) (old : List Pending) → ArePushed book old old []
pushed_none book old = record { stand = λ base h. h; are = refl; count = omega arith }

-- two states
pub pushed_two : (book : BookValue) (old mid new : List Pending) (s t : State) → ArePushed book old mid (t ∷ []) → ArePushed book mid new (s ∷ []) → ArePushed book old new (s ∷ t ∷ [])
pushed_two book old mid new s t h k = record {
  stand = λ base i. k.stand base (h.stand base i);
  are = k.are ∙ ap (λ (ss : List State). s ∷ ss) h.are;
  count = let a = h.count in let b = k.count in omega (arith, a, b);
}

-- ---- a turn
module _ (book : BookValue) (few : book.ranking.signature.independents ≤ 4) (budget : ℕ) (old : Progress) (s : State) (fine : IsStateOver book.ranking s) (low : old.weight ≤ budget) where
  abbrev w : ℕ
  w = old.weight

  -- the order of work goes on
  pub goes : Goes (setting_of book.ranking) budget (IsStateOver book.ranking) w s
  goes = goes_from (setting_of book.ranking) budget w s (IsStateOver book.ranking) (λ action d e. (state_laws book.ranking few).kept s action d fine e) low (next_holds book.ranking few budget w s fine.stands fine.facts low)

  module _ (new : BookValue) (keeps : IsKept book new) (x : Worked) (done : IsDone new (setting_of book.ranking) s x (next_entry (setting_of book.ranking) budget w s)) where
    -- what it leaves
    left : Leaves (setting_of book.ranking) s (next_entry (setting_of book.ranking) budget w s).line (next_entry (setting_of book.ranking) budget w s).evidence (goes).below
    left = leaves (setting_of book.ranking) s budget w _ _ (goes).below (goes).holds

    states_are : after_in new x.after ≡ (goes).below.states
    states_are = done.states ∙ sym (left).states

    weight_is : x.weight ≡ (goes).below.weight
    weight_is = done.weighs ∙ sym (left).weight

    -- the states have the facts of states
    pub after_facts : AllOf (IsStateOf (symbols_under new.ranking)) (after_in new x.after)
    after_facts =
        subst (λ (r : RankingValue). AllOf (IsStateOf (symbols_under r)) (after_in new x.after)) (sym keeps.ranking)
        (subst (λ (ss : List State). AllOf (IsStateOf (symbols_under book.ranking)) ss) (sym states_are) (all_give (IsStateOver book.ranking) (IsStateOf (symbols_under book.ranking)) (λ s h. h.facts) (goes).below.states (goes).fine))

    -- the weight is affordable
    pub weight_low : w + x.weight ≤ budget
    weight_low = let a = (goes).affordable in let b = weight_is in omega (arith, a, b)

    -- a turn
    pub turned : (next : Progress) → next.weight ≡ w + x.weight → (next.lines).items ≡ (old.lines).items ++ (x.lines).items → ArePushed new (old.pending).items (next.pending).items (after_in new x.after)
        → IsTurn (setting_of book.ranking) budget s book new old next
    turned next f h k = record {
      below = (goes).below;
      holds = (goes).holds;
      are = ap (map line_of) h ∙ map-append line_of (old.lines).items (x.lines).items ∙ ap (λ (ls : List Line). map line_of (old.lines).items ++ ls) done.are;
      weighs = f ∙ ap (λ n. w + n) weight_is;
      low = let a = weight_low in omega (arith, a, f);
      few = (goes).few;
      count = k.count ∙ ap (λ (ss : List State). length ss + length (old.pending).items) states_are;
      stand = λ base i. k.stand base (stack_grows base (stacked (old.pending).items) book new keeps i);
      states = λ base i. k.are ∙ ap₂ (λ (ss ts : List State). ss ++ ts) states_are (states_stay base (stacked (old.pending).items) book new keeps i);
    }

-- ---- the tree so far
lines_of-append : (es : List Entry) (e : Entry) → lines_of (es ++ e ∷ []) ≡ lines_of es ++ lines_of_entry e
lines_of-append [] e = append-nil (lines_of_entry e)
lines_of-append (f ∷ es) e = ap (λ ls. lines_of_entry f ++ ls) (lines_of-append es e) ∙ sym (append_assoc (lines_of_entry f) (lines_of es) (lines_of_entry e))

-- it begins with the root
pub come_first : (g : Setting) (budget : ℕ) (root : State) (lines : List Line) (pending : List State) → lines ≡ [] → pending ≡ root ∷ [] → HasCome g budget root lines 0 pending
come_first g budget root lines pending e f = record { entries = []; are = e; goes_on = λ es h. subst (λ (ss : List State). IsWorkedFrom g budget 0 ss es) f h }

-- it goes on by an entry
pub come_on : (g : Setting) (budget w w' : ℕ) (root s : State) (lines lines' : List Line) (pending after : List State) (b : Below) → HasCome g budget root lines w (s ∷ pending)
    → entered g budget w s (next_entry g budget w s).line (next_entry g budget w s).evidence ≡ Ok b → lines' ≡ lines ++ lines_of_entry (next_entry g budget w s) → w' ≡ w + b.weight → after ≡ b.states ++ pending → HasCome g budget root lines' w' after
come_on g budget w w' root s lines lines' pending after b h holds e f k = record {
  entries = h.entries ++ next_entry g budget w s ∷ [];
  are = e ∙ ap (λ ls. ls ++ lines_of_entry (next_entry g budget w s)) h.are ∙ sym (lines_of-append h.entries (next_entry g budget w s));
  goes_on = λ es i. subst (λ (es : List Entry). IsWorkedFrom g budget 0 (root ∷ []) es) (sym (append_assoc h.entries (next_entry g budget w s ∷ []) es))
      (h.goes_on (next_entry g budget w s ∷ es) (
        refl,
        subst (λ q. MatchResult q (λ b. IsWorkedFrom g budget (w + b.weight) (b.states ++ pending) es) (λ r. ⊥)) (sym holds)
            (subst (λ n. IsWorkedFrom g budget n (b.states ++ pending) es) f (subst (λ (ss : List State). IsWorkedFrom g budget w' ss es) k i)),
      ));
}

-- and ends where nothing is pending
pub come_last : (g : Setting) (budget w : ℕ) (root : State) (lines : List ProgramLine) (pending : List State) → HasCome g budget root (map line_of lines) w pending → pending ≡ [] → AreWorkedLines g budget root lines
come_last g budget w root lines pending h e = record {
  entries = h.entries;
  are = h.are;
  worked = subst (λ (es : List Entry). IsWorkedFrom g budget 0 (root ∷ []) es) (append-nil h.entries) (h.goes_on [] (subst (λ (ss : List State). IsWorkedFrom g budget w ss []) (sym e) tt));
}

-- nothing is pending
pub none_pending : (book : BookValue) (items : List Pending) → length items ≡ 0 → pending_states book (stacked items) ≡ []
none_pending book [] e = refl
none_pending book (p ∷ ps) e = absurd (omega (arith, e))

-- ---- the state that is taken up
module _ (base book : BookValue) (items rest : List Pending) (p : Pending) (e : items ≡ rest ++ p ∷ []) where
  -- it is on top
  pub on_top : StackedIn base book (stacked items) → StackedIn base book (pending_value p ∷ stacked rest)
  on_top h = subst (StackedIn base book) (ap stacked e ∙ stacked-append rest p) h

  -- and comes first
  pub first_pending : pending_states book (stacked items) ≡ state_in (cut (pending_value p).mark book) (pending_value p).state ∷ pending_states (cut (pending_value p).mark book) (stacked rest)
  first_pending = ap (pending_states book) (ap stacked e ∙ stacked-append rest p)

  -- there is one less
  pub one_less : length items ≡ 1 + length rest
  one_less = ap length e ∙ length-append-one rest p

  -- what only grows after it was taken up is kept
  pub keeps_below : (cut_book new : BookValue) → cut_book ≡ cut (pending_value p).mark book → StackedIn base book (stacked items) → IsKept cut_book new → IsKept base new
  keeps_below cut_book new f h k = kept_trans base cut_book new (subst (IsKept base) (sym f) (stack_kept base (stacked rest) (cut (pending_value p).mark book) (on_top h).3)) k

-- a turn at it, where the book was restored to its mark
module _ (base book cut_book new_book : BookValue) (budget : ℕ) (root : State) (old next : Progress) (items : List Pending) (p : Pending) (e : items ≡ (old.pending).items ++ p ∷ []) where
  abbrev here : BookValue
  here = cut (pending_value p).mark book

  -- what is asked of the turn
  pub record IsTaken : Type 0 where
    pub cut_is : cut_book ≡ here
    pub stacks : StackedIn base book (stacked items)
    pub come : HasCome (setting_of base.ranking) budget root (map line_of (old.lines).items) old.weight (pending_states book (stacked items))
    pub turn : IsTurn (setting_of cut_book.ranking) budget (state_in cut_book (pending_value p).state) cut_book new_book old next

  module _ (h : IsTaken) where
    above : StackedIn base here (stacked (old.pending).items)
    above = (on_top base book items (old.pending).items p e h.stacks).3

    turn_here : IsTurn (setting_of base.ranking) budget (state_in here (pending_value p).state) here new_book old next
    turn_here =
        let ranked : here.ranking ≡ base.ranking = (stack_kept base (stacked (old.pending).items) here above).ranking in
        subst (λ (r : RankingValue). IsTurn (setting_of r) budget (state_in here (pending_value p).state) here new_book old next) ranked
        (subst (λ (b : BookValue). IsTurn (setting_of b.ranking) budget (state_in b (pending_value p).state) b new_book old next) h.cut_is h.turn)

    -- the stack stands again
    pub stands_again : StackedIn base new_book (stacked (next.pending).items)
    stands_again = (turn_here).stand base above

    -- the tree has come on
    pub comes_on : HasCome (setting_of base.ranking) budget root (map line_of (next.lines).items) next.weight (pending_states new_book (stacked (next.pending).items))
    comes_on =
        come_on (setting_of base.ranking) budget old.weight next.weight root (state_in here (pending_value p).state) (map line_of (old.lines).items) (map line_of (next.lines).items) (pending_states here (stacked (old.pending).items)) (pending_states new_book (stacked (next.pending).items)) (turn_here).below
        (subst (HasCome (setting_of base.ranking) budget root (map line_of (old.lines).items) old.weight) (first_pending base book items (old.pending).items p e) h.come)
        (turn_here).holds (turn_here).are (turn_here).weighs ((turn_here).states base above)

    -- within the budget, and nearer to the end
    pub within_again : next.weight ≤ budget
    within_again = (turn_here).low

    pub nearer : 2 * (budget - next.weight) + length (next.pending).items < 2 * (budget - old.weight) + length items
    nearer =
        let a = (turn_here).few in
        let b = (turn_here).count in
        let c = (turn_here).weighs in
        let d = (turn_here).low in
        let f = one_less base book items (old.pending).items p e in
        omega (arith, a, b, c, d, f)
