-- What entries leave below a state, by the tests that they come to.
use Rattle.std.specs.Prelude.{⊤}
use Rattle.std.proofs.Common.{◌≡◌, ◌≤◌, ◌<◌, ◌+◌, ◌-◌, ◌^◌, ◌∙◌, inl, inr, ℕ, suc, min, nat_le, Bool, true, false, cond, List, [], ◌∷◌, length, refl, sym, ap, subst, arith, Result, Ok, Err, Some}
use Rattle.std.proofs.lemmas.Bool.{leb-true, le-leb}
use Rattle.std.proofs.lemmas.Bool.Decides.{nat_tests}
use Rattle.dz_poly.specs.Books.{BookValue}
use Rattle.dz_monomials.specs.Ranked.{symbols_under}
use Rattle.dz_monomials.specs.Lists.{AllOf}
use Rattle.dz_diff.specs.Operations.{Setting}
use Rattle.dz_algebra.specs.Outcome.{◌>>=◌, needs, numbered, told_as}
use Rattle.dz_move.specs.Root.{is_closed}
use Rattle.dz_diff.specs.State.{State}
use Rattle.dz_diff.specs.States.{IsStateOf}
use Rattle.dz_algebra.proofs.Outcomes.{bind_ok, ok_same, then_ok, told_ok}
use Rattle.dz_move.specs.declared.Rule.{Rule}
use Rattle.dz_move.specs.declared.Rule.TheVariants as rules
use Rattle.dz_move.specs.declared.drafts.Performed.{Performed}
use Rattle.dz_check.specs.declared.entering.Left.TheVariants as kinds
use Rattle.dz_tree.specs.declared.entry_fault.EntryFault.{EntryFault}
use Rattle.dz_tree.specs.declared.entry_fault.EntryFault.TheVariants as faults
use Rattle.dz_move.specs.declared.fault.ActionStop.{ActionStop}
use Rattle.dz_move.specs.Actions.{IsActionStop, IsPerformed, move_fault, reached_in}
use Rattle.dz_tree.specs.Chain.{chain_rule, chain_weight, evidence_from, evidence_weight}
use Rattle.dz_tree.specs.Counting.{trees_after}
use Rattle.dz_tree.specs.Entering.{IsEntryFault, entry_fault, rule_in}
use Rattle.dz_move.specs.Fault.{Fault}
use Rattle.dz_check.specs.Leaving.{Leaves, is_open_line}
use Rattle.dz_move.specs.Lines.{Evidence, Line, act, closed, chain, pair, spent, spent_pairs, open_wide, open_separant, open_large}
use Rattle.dz_move.specs.Moves.{Action, Done, is_fork, perform}
use Rattle.dz_check.specs.Reasons.{reason_holds}
use Rattle.dz_check.specs.Walk.{Below, ended, entered, nothing_below, told_at_line}
use Rattle.dz_move.proofs.Progress.{perform_leads}
use Rattle.dz_tree.proofs.RunWeights.{fault_is}

-- a fault goes on through what would follow
pub bind_fault : {A B : Type 0} (fault : EntryFault) (q : Result A (ℕ × Rule)) (f : A → Result B (ℕ × Rule)) → IsEntryFault fault q → IsEntryFault fault (q >>= f)
bind_fault fault q f (inl e) = inl e
bind_fault fault (Ok x) f (inr e) = cc
bind_fault fault (Err r) f (inr e) = inr e

-- a rule that fails at the line itself
pub line_broken : {A : Type 0} (fault : EntryFault) (r : Rule) (q : Result A (ℕ × Rule)) → fault ≡ faults.Rule 0 r → q ≡ Err (0, r) → IsEntryFault fault q
line_broken fault r q e f = inr (ap rule_in f ∙ ap Some (sym e))

-- the stop of an action, as the fault of its line
pub act_stopped : {A : Type 0} (stop : ActionStop) (q : Result A (ℕ × Fault)) → IsActionStop stop q → IsEntryFault (entry_fault 0 stop.fault) (told_as told_at_line q)
act_stopped stop q (inl e) = inl (ap (entry_fault 0) e)
act_stopped stop (Ok x) (inr e) = cc
act_stopped stop (Err f) (inr e) =
    let same : move_fault f.1 ≡ stop.fault = cc in
    inr (ap Some (sym (fault_is 0 f.1) ∙ ap (entry_fault 0) same))

module _ (g : Setting) (budget w : ℕ) (s : State) where
  -- ---- moves and forks
  -- what follows the answer of an action
  abbrev acts : Result Done (ℕ × Fault) → Result Below (ℕ × Rule)
  acts q = told_as told_at_line q >>= (λ d. needs (nat_le (w + d.weight) budget) (0, rules.Weight) >>= (λ _. Ok (record { states = d.after; ends = []; weight = d.weight })))

  acts_by : (action : Action) (es : List Evidence) (q : Result Done (ℕ × Fault)) → perform g s action ≡ q → entered g budget w s (act action) es ≡ acts q
  unfolding entered
  acts_by action es q e = ap acts e

  weighed : (after : List State) (k : ℕ) (b : Bool) → nat_le (w + k) budget ≡ b → (action : Action) (es : List Evidence) → acts (Ok (record { after = after; weight = k })) ≡ cond b (Ok (record { states = after; ends = []; weight = k })) (Err (0, rules.Weight))
  weighed after k true e action es = ap (λ b. ◌>>=◌ {A = ⊤} {B = Below} {E = ℕ × Rule} (needs b (0, rules.Weight)) (λ _. Ok (record { states = after; ends = []; weight = k }))) e
  weighed after k false e action es = ap (λ b. ◌>>=◌ {A = ⊤} {B = Below} {E = ℕ × Rule} (needs b (0, rules.Weight)) (λ _. Ok (record { states = after; ends = []; weight = k }))) e

  module _ (line : Line) (action : Action) (is_line : line ≡ act action) (es : List Evidence) where
    -- the action does not hold
    pub act_fault : (fault : EntryFault) → IsEntryFault fault (told_as told_at_line (perform g s action)) → IsEntryFault fault (entered g budget w s line es)
    act_fault fault h = subst (λ l. IsEntryFault fault (entered g budget w s l es)) (sym is_line) (subst (IsEntryFault fault) (sym (acts_by action es (perform g s action) refl)) (bind_fault fault (told_as told_at_line (perform g s action)) _ h))

    module _ (new : BookValue) (x : Performed) (h : IsPerformed new x (perform g s action)) (few : budget < 2 ^ 32) where
      by_test : (b : Bool) → nat_le (w + h.weight) budget ≡ b → entered g budget w s line es ≡ cond b (Ok (record { states = reached_in new x.after; ends = []; weight = h.weight })) (Err (0, rules.Weight))
      by_test b e = ap (λ l. entered g budget w s l es) is_line ∙ acts_by action es _ h.is ∙ weighed (reached_in new x.after) h.weight b e action es

      -- its weight passes the budget
      pub act_heavy : budget < min (w + x.weight) (2 ^ 64 - 1) → entered g budget w s line es ≡ Err (0, rules.Weight)
      act_heavy l =
          let k = h.weighs in
          let more : budget < w + h.weight = omega (arith, k, l) in
          by_test false (grind (arith, nat_tests))

      -- it does not
      pub act_leaves : min (w + x.weight) (2 ^ 64 - 1) ≤ budget → AllOf (IsStateOf (symbols_under new.ranking)) (reached_in new x.after)
          → Leaves new line s (record { left = kinds.States x.after; weight = x.weight }) (entered g budget w s line es)
      act_leaves l facts =
          let k = h.weighs in
          let same : h.weight ≡ x.weight = omega (arith, k, l, few) in
          record {
            is = by_test true (le-leb (w + h.weight) budget (omega (arith, k, l, few))) ∙ ap (λ (n : ℕ). Ok (record { states = reached_in new x.after; ends = []; weight = n })) same;
            stand = h.stand;
            facts = facts;
          }

  -- ---- ends
  by_end : {E : Type 0} (b : Bool) (e : E) (x : Below) → ◌>>=◌ {A = ⊤} {B = Below} {E = E} (needs b e) (λ _. Ok x) ≡ cond b (Ok x) (Err e)
  by_end true e x = refl
  by_end false e x = refl

  -- a closed end
  pub closed_by : (b : Bool) → is_closed g.symbols s ≡ b → (es : List Evidence) → entered g budget w s closed es ≡ cond b (Ok nothing_below) (Err (0, rules.Closed))
  unfolding entered
  closed_by b e es = by_end (is_closed g.symbols s) (0, rules.Closed) nothing_below ∙ ap (λ b. cond b (Ok nothing_below) (Err (0, rules.Closed))) e

  -- a chain
  pub chain_ok : (es : List Evidence) (n : ℕ) → chain_weight g s (λ n. nat_le (w + n) budget) es ≡ Ok n → entered g budget w s chain es ≡ Ok (ended chain s n)
  unfolding entered
  chain_ok es n e = ap (λ q. q >>= (λ n. Ok (ended chain s n))) e

  pub chain_fault : (es : List Evidence) (fault : EntryFault) → IsEntryFault fault (chain_weight g s (λ n. nat_le (w + n) budget) es) → IsEntryFault fault (entered g budget w s chain es)
  unfolding entered
  chain_fault es fault h = bind_fault fault (chain_weight g s (λ n. nat_le (w + n) budget) es) (λ n. Ok (ended chain s n)) h

  -- an open end
  pub open_by : (line : Line) (es : List Evidence) → is_open_line line ≡ true → (b : Bool) → reason_holds g budget w s line es ≡ b → entered g budget w s line es ≡ cond b (Ok (ended line s 0)) (Err (0, rules.Reason))
  unfolding entered
  open_by (act action) es h b e = cc
  open_by closed es h b e = cc
  open_by chain es h b e = cc
  open_by (pair x) es h b e = cc
  open_by (spent action) es h b e = by_end (reason_holds g budget w s (spent action) es) (0, rules.Reason) (ended (spent action) s 0) ∙ ap (λ b. cond b (Ok (ended (spent action) s 0)) (Err (0, rules.Reason))) e
  open_by spent_pairs es h b e = by_end (reason_holds g budget w s spent_pairs es) (0, rules.Reason) (ended spent_pairs s 0) ∙ ap (λ b. cond b (Ok (ended spent_pairs s 0)) (Err (0, rules.Reason))) e
  open_by (open_wide action) es h b e = by_end (reason_holds g budget w s (open_wide action) es) (0, rules.Reason) (ended (open_wide action) s 0) ∙ ap (λ b. cond b (Ok (ended (open_wide action) s 0)) (Err (0, rules.Reason))) e
  open_by (open_separant i) es h b e = by_end (reason_holds g budget w s (open_separant i) es) (0, rules.Reason) (ended (open_separant i) s 0) ∙ ap (λ b. cond b (Ok (ended (open_separant i) s 0)) (Err (0, rules.Reason))) e
  open_by (open_large limit action) es h b e = by_end (reason_holds g budget w s (open_large limit action) es) (0, rules.Reason) (ended (open_large limit action) s 0) ∙ ap (λ b. cond b (Ok (ended (open_large limit action) s 0)) (Err (0, rules.Reason))) e

-- ---- what follows of an answer
-- a sum that is affordable
affordable_from : (g : Setting) (s : State) (test : ℕ → Bool) (es : List Evidence) (k n m : ℕ) → test n ≡ true → evidence_from g s test k n es ≡ Ok m → test m ≡ true
affordable_from g s test [] k n m h e = subst (λ x. test x ≡ true) (ok_same n m e) h
affordable_from g s test (x ∷ es) k n m h e =
    let a = bind_ok (numbered k (evidence_weight g s x)) _ m e in
    let b = then_ok (test (n + a.0)) (k, rules.Weight) _ m a.2 in
    affordable_from g s test es (suc k) (n + a.0) m b.0 b.1

-- the line of a fault in runs of evidence
fault_line : (g : Setting) (s : State) (test : ℕ → Bool) (es : List Evidence) (k n : ℕ) (r : ℕ × Rule) → evidence_from g s test k n es ≡ Err r → r.0 < k + length es
fault_line g s test [] k n r e = cc
fault_line g s test (x ∷ es) k n r e = by_weight (λ m f. fault_line g s test es (suc k) (n + m) r f) (evidence_weight g s x) refl
  where
    by_test : (m : ℕ) → (evidence_from g s test (suc k) (n + m) es ≡ Err r → r.0 < suc k + length es) → (b : Bool) → (needs b (k, rules.Weight) >>= (λ _. evidence_from g s test (suc k) (n + m) es)) ≡ Err r → r.0 < k + suc (length es)
    by_test m h true f = let l = h f in omega (arith, l)
    by_test m h false f = let same : k ≡ r.0 = cc in omega (arith, same)

    by_weight : ((m : ℕ) → evidence_from g s test (suc k) (n + m) es ≡ Err r → r.0 < suc k + length es) → (q : Result ℕ Rule) → evidence_weight g s x ≡ q → r.0 < k + suc (length es)
    by_weight h (Ok m) f = by_test m (h m) (test (n + m)) (ap (λ q. numbered k q >>= (λ m. needs (test (n + m)) (k, rules.Weight) >>= (λ _. evidence_from g s test (suc k) (n + m) es))) (sym f) ∙ e)
    by_weight h (Err t) f = let same : k ≡ r.0 = cc in omega (arith, same)

module _ (g : Setting) (budget w : ℕ) (s : State) where
  chain_within : (es : List Evidence) (n : ℕ) → w ≤ budget → chain_weight g s (λ n. nat_le (w + n) budget) es ≡ Ok n → w + n ≤ budget
  chain_within es n h e =
      let a = bind_ok (numbered 0 (chain_rule g s es)) _ n e in
      let z : w + 0 ≤ budget = omega (arith, h) in
      leb-true (w + n) budget (affordable_from g s (λ n. nat_le (w + n) budget) es 1 0 n (le-leb (w + 0) budget z) a.2)

  chain_line : (es : List Evidence) (r : ℕ × Rule) → chain_weight g s (λ n. nat_le (w + n) budget) es ≡ Err r → r.0 ≤ length es
  chain_line es r e = by_rule (chain_rule g s es) refl
    where
      by_rule : (q : Result ⊤ Rule) → chain_rule g s es ≡ q → r.0 ≤ length es
      by_rule (Ok x) f = let l = fault_line g s (λ n. nat_le (w + n) budget) es 1 0 r (ap (λ q. numbered 0 q >>= (λ _. evidence_from g s (λ n. nat_le (w + n) budget) 1 0 es)) (sym f) ∙ e) in omega (arith, l)
      by_rule (Err t) f = let same : 0 ≡ r.0 = cc in omega (arith, same)

  -- what holds of a closed or an open end
  end_below : (b : Bool) (r : ℕ × Rule) (x y : Below) → ◌>>=◌ {A = ⊤} {B = Below} {E = ℕ × Rule} (needs b r) (λ _. Ok x) ≡ Ok y → x ≡ y
  end_below b r x y e = ok_same x y (then_ok b r (λ _. Ok x) y e).1

  end_line : (b : Bool) (k : ℕ) (r : Rule) (x : Below) (y : ℕ × Rule) → ◌>>=◌ {A = ⊤} {B = Below} {E = ℕ × Rule} (needs b (k, r)) (λ _. Ok x) ≡ Err y → y.0 ≡ k
  end_line true k r x y e = cc
  end_line false k r x y e = cc

  -- with the weight that is left the budget is kept
  pub left_within : (line : Line) (es : List Evidence) (b : Below) → w ≤ budget → entered g budget w s line es ≡ Ok b → w + b.weight ≤ budget
  unfolding entered
  left_within (act action) es b h e =
      let a1 = bind_ok (told_as told_at_line (perform g s action)) _ b e in
      let d = a1.0 in
      let a2 = then_ok (nat_le (w + d.weight) budget) _ _ b a1.2 in
      subst (λ (x : Below). w + x.weight ≤ budget) (ok_same (record { states = d.after; ends = []; weight = d.weight }) b a2.1) (leb-true (w + d.weight) budget a2.0)
  left_within closed es b h e = subst (λ (x : Below). w + x.weight ≤ budget) (end_below (is_closed g.symbols s) _ nothing_below b e) (omega (arith, h))
  left_within chain es b h e =
      let a = bind_ok (chain_weight g s (λ n. nat_le (w + n) budget) es) _ b e in
      subst (λ (x : Below). w + x.weight ≤ budget) (ok_same (ended chain s a.0) b a.2) (chain_within es a.0 h a.1)
  left_within (pair x) es b h e = cc
  left_within (spent action) es b h e = subst (λ (x : Below). w + x.weight ≤ budget) (end_below (reason_holds g budget w s (spent action) es) _ (ended (spent action) s 0) b e) (omega (arith, h))
  left_within spent_pairs es b h e = subst (λ (x : Below). w + x.weight ≤ budget) (end_below (reason_holds g budget w s spent_pairs es) _ (ended spent_pairs s 0) b e) (omega (arith, h))
  left_within (open_wide action) es b h e = subst (λ (x : Below). w + x.weight ≤ budget) (end_below (reason_holds g budget w s (open_wide action) es) _ (ended (open_wide action) s 0) b e) (omega (arith, h))
  left_within (open_separant i) es b h e = subst (λ (x : Below). w + x.weight ≤ budget) (end_below (reason_holds g budget w s (open_separant i) es) _ (ended (open_separant i) s 0) b e) (omega (arith, h))
  left_within (open_large limit action) es b h e = subst (λ (x : Below). w + x.weight ≤ budget) (end_below (reason_holds g budget w s (open_large limit action) es) _ (ended (open_large limit action) s 0) b e) (omega (arith, h))

  -- so many states are left
  pub left_states : (line : Line) (es : List Evidence) (b : Below) → entered g budget w s line es ≡ Ok b → length b.states ≡ trees_after line
  unfolding entered
  left_states (act action) es b e =
      let a1 = bind_ok (told_as told_at_line (perform g s action)) _ b e in
      let d = a1.0 in
      let a2 = then_ok (nat_le (w + d.weight) budget) _ _ b a1.2 in
      subst (λ (x : Below). length x.states ≡ cond (is_fork action) 2 1) (ok_same (record { states = d.after; ends = []; weight = d.weight }) b a2.1) (perform_leads g s action d (told_ok told_at_line (perform g s action) d a1.1)).states
  left_states closed es b e = ap (λ (x : Below). length x.states) (sym (end_below (is_closed g.symbols s) _ nothing_below b e))
  left_states chain es b e =
      let a = bind_ok (chain_weight g s (λ n. nat_le (w + n) budget) es) _ b e in
      ap (λ (x : Below). length x.states) (sym (ok_same (ended chain s a.0) b a.2))
  left_states (pair x) es b e = cc
  left_states (spent action) es b e = ap (λ (x : Below). length x.states) (sym (end_below (reason_holds g budget w s (spent action) es) _ (ended (spent action) s 0) b e))
  left_states spent_pairs es b e = ap (λ (x : Below). length x.states) (sym (end_below (reason_holds g budget w s spent_pairs es) _ (ended spent_pairs s 0) b e))
  left_states (open_wide action) es b e = ap (λ (x : Below). length x.states) (sym (end_below (reason_holds g budget w s (open_wide action) es) _ (ended (open_wide action) s 0) b e))
  left_states (open_separant i) es b e = ap (λ (x : Below). length x.states) (sym (end_below (reason_holds g budget w s (open_separant i) es) _ (ended (open_separant i) s 0) b e))
  left_states (open_large limit action) es b e = ap (λ (x : Below). length x.states) (sym (end_below (reason_holds g budget w s (open_large limit action) es) _ (ended (open_large limit action) s 0) b e))

  act_line : (action : Action) (r : ℕ × Rule) → acts g budget w s (perform g s action) ≡ Err r → r.0 ≡ 0
  act_line action r e = by_answer (perform g s action) e
    where
      by_test : (d : Done) (b : Bool) → ◌>>=◌ {A = ⊤} {B = Below} {E = ℕ × Rule} (needs b (0, rules.Weight)) (λ _. Ok (record { states = d.after; ends = []; weight = d.weight })) ≡ Err r → r.0 ≡ 0
      by_test d b e = end_line b 0 rules.Weight (record { states = d.after; ends = []; weight = d.weight }) r e

      by_answer : (q : Result Done (ℕ × Fault)) → acts g budget w s q ≡ Err r → r.0 ≡ 0
      by_answer (Ok d) e = by_test d (nat_le (w + d.weight) budget) e
      by_answer (Err f) e = cc

  -- the line of a rule that fails
  pub broken_line : (line : Line) (es : List Evidence) (r : ℕ × Rule) → entered g budget w s line es ≡ Err r → r.0 ≤ length es
  unfolding entered
  broken_line (act action) es r e = let z = act_line action r e in omega (arith, z)
  broken_line closed es r e = let z = end_line (is_closed g.symbols s) 0 rules.Closed nothing_below r e in omega (arith, z)
  broken_line chain es r e = by_weight (chain_weight g s (λ n. nat_le (w + n) budget) es) refl e
    where
      by_weight : (q : Result ℕ (ℕ × Rule)) → chain_weight g s (λ n. nat_le (w + n) budget) es ≡ q → (q >>= (λ n. Ok (ended chain s n))) ≡ Err r → r.0 ≤ length es
      by_weight (Ok n) f e = cc
      by_weight (Err t) f e = chain_line es r (f ∙ cc)
  broken_line (pair x) es r e = let z : 0 ≡ r.0 = cc in omega (arith, z)
  broken_line (spent action) es r e = let z = end_line (reason_holds g budget w s (spent action) es) 0 rules.Reason (ended (spent action) s 0) r e in omega (arith, z)
  broken_line spent_pairs es r e = let z = end_line (reason_holds g budget w s spent_pairs es) 0 rules.Reason (ended spent_pairs s 0) r e in omega (arith, z)
  broken_line (open_wide action) es r e = let z = end_line (reason_holds g budget w s (open_wide action) es) 0 rules.Reason (ended (open_wide action) s 0) r e in omega (arith, z)
  broken_line (open_separant i) es r e = let z = end_line (reason_holds g budget w s (open_separant i) es) 0 rules.Reason (ended (open_separant i) s 0) r e in omega (arith, z)
  broken_line (open_large limit action) es r e = let z = end_line (reason_holds g budget w s (open_large limit action) es) 0 rules.Reason (ended (open_large limit action) s 0) r e in omega (arith, z)
