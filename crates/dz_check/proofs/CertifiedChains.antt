-- The state at each line `chain` of a certified tree is a chain.
use Rattle.std.specs.Prelude.{⊤, filter}
use Rattle.std.specs.List.{list_all}
use Rattle.std.proofs.Common.{◌≡◌, ◌∙◌, ◌&&◌, ◌==◌, ◌++◌, ◌+◌, ℕ, suc, nat_le, Bool, true, false, List, [], ◌∷◌, length, map, refl, ap, subst, Result, Ok, Err, Option, Some, None, cond}
use Rattle.std.proofs.lemmas.Bool.{eqb-true}
use Rattle.dz_algebra.specs.Polynomial.{Polynomial}
use Rattle.dz_rank.specs.declared.symbols.Symbol.{Symbol}
use Rattle.dz_monomials.specs.Lists.{AllOf}
use Rattle.dz_diff.specs.Operations.{Setting}
use Rattle.dz_algebra.specs.Outcome.{◌>>=◌, needs, numbered, told_as}
use Rattle.dz_diff.specs.State.{State, at_place}
use Rattle.dz_diff.specs.Tests.{is_zero}
use Rattle.dz_algebra.proofs.Outcomes.{both, bind_ok, given_then, ok_same, then_ok, told_ok}
use Rattle.dz_diff.proofs.Places.{all-append}
use Rattle.dz_step.specs.declared.Role.TheVariants.{Free}
use Rattle.dz_step.specs.Run.{run}
use Rattle.dz_pair.specs.Pair.{common, critical_pairs, delta_answer}
use Rattle.dz_move.specs.declared.Rule.{Rule}
use Rattle.dz_move.specs.declared.Rule.TheVariants as rules
use Rattle.dz_check.specs.Certified.{IsCertified}
use Rattle.dz_tree.specs.Chain.{chain_rule, chain_weight, evidence_from, evidence_weight, has_leaders, has_permitted, is_autoreduced, is_below, is_reduced, passes, same_pairs, separant_fits}
use Rattle.dz_tree.specs.Chains.{Cohere, IsChain}
use Rattle.dz_move.specs.Fault.{rule_of, rule_of_refusal, run_fault}
use Rattle.dz_move.specs.Lines.{Evidence, Line, act, closed, chain, pair, spent, spent_pairs, open_wide, open_separant, open_large, Entry, entries_of}
use Rattle.dz_move.specs.Moves.{perform}
use Rattle.dz_check.specs.Reasons.{reason_holds}
use Rattle.dz_move.specs.Root.{System, is_closed, root_of}
use Rattle.dz_tree.specs.Trees.{Tree}
use Rattle.dz_check.specs.Walk.{Below, End, chains_of, ended, ends_in, ends_of, entered, is_chain_end, nothing_below, told_at_line, walk}

module _ (g : Setting) (s : State) where
  -- ---- one run of evidence
  -- the least common derivative that a test passes
  passed : {A : Type 0} (test : A → Bool) (o : Option A) → passes test o ≡ true → (x : A) × (o ≡ Some x) × (test x ≡ true)
  passed test (Some x) h = (x, refl, h)
  passed test None h = cc

  -- a polynomial that is zero has no terms
  zero_is : (p : Polynomial Symbol) → is_zero p ≡ true → p ≡ []
  zero_is [] h = refl
  zero_is (t ∷ p) h = cc

  -- evidence that has a weight shows that its pair coheres
  coheres : (e : Evidence) (n : ℕ) → evidence_weight g s e ≡ Ok n → Cohere g s (e.first, e.second)
  unfolding evidence_weight
  coheres e n h =
      let p = given_then (at_place e.first s.equations) _ _ n h in
      let q = given_then (at_place e.second s.equations) _ _ n p.2 in
      let d = bind_ok (told_as rule_of_refusal (delta_answer g p.0 q.0)) _ n q.2 in
      let r = bind_ok (told_as (λ e. rule_of (run_fault e).1) (run g s Free d.0 e.steps)) _ n d.2 in
      let t = then_ok (is_zero r.0.end && passes (λ w. list_all (is_below g.symbols s w) e.steps) (common g.symbols p.0 q.0)) _ _ n r.2 in
      let b = both (is_zero r.0.end) (passes (λ w. list_all (is_below g.symbols s w) e.steps) (common g.symbols p.0 q.0)) t.0 in
      let w = passed (λ w. list_all (is_below g.symbols s w) e.steps) (common g.symbols p.0 q.0) b.1 in
      record {
        first = p.0;
        second = q.0;
        first_is = p.1;
        second_is = q.1;
        delta = d.0;
        delta_is = told_ok rule_of_refusal (delta_answer g p.0 q.0) d.0 d.1;
        steps = e.steps;
        count = r.0.count;
        to_zero = told_ok (λ e. rule_of (run_fault e).1) (run g s Free d.0 e.steps) r.0 r.1 ∙ ap (λ end. Ok (record { end = end; count = r.0.count })) (zero_is r.0.end b.0);
        least_common = w.0;
        least_common_is = w.1;
        below = w.2;
      }

  -- ---- all runs of evidence
  -- each run has a weight
  all_cohere : (affordable : ℕ → Bool) (k n : ℕ) (es : List Evidence) (m : ℕ) → evidence_from g s affordable k n es ≡ Ok m → AllOf (λ e. Cohere g s (e.first, e.second)) es
  all_cohere affordable k n [] m h = tt
  all_cohere affordable k n (e ∷ es) m h =
      let w = bind_ok (numbered k (evidence_weight g s e)) _ m h in
      let t = then_ok (affordable (n + w.0)) _ _ m w.2 in
      (coheres e w.0 (told_ok _ (evidence_weight g s e) w.0 w.1), all_cohere affordable (suc k) (n + w.0) es m t.1)

  -- the pairs for which there is evidence
  pairs_cohere : (es : List Evidence) (ps : List (ℕ × ℕ)) → same_pairs es ps ≡ true → AllOf (λ e. Cohere g s (e.first, e.second)) es → AllOf (Cohere g s) ps
  pairs_cohere [] [] e h = tt
  pairs_cohere [] (p ∷ ps) e h = cc
  pairs_cohere (x ∷ es) [] e h = cc
  pairs_cohere (x ∷ es) ((i, j) ∷ ps) e h =
      let a = both ((x.first == i) && (x.second == j)) (same_pairs es ps) e in
      let b = both (x.first == i) (x.second == j) a.0 in
      (subst (λ j. Cohere g s (i, j)) (eqb-true x.second j b.1) (subst (λ i. Cohere g s (i, x.second)) (eqb-true x.first i b.0) h.0), pairs_cohere es ps a.1 h.1)

  -- ---- the conditions on a chain
  -- they hold, but for the runs of the evidence
  record HasConditions (es : List Evidence) : Type 0 where
    leaders : has_leaders g.symbols s.equations ≡ true
    autoreduced : is_autoreduced g.symbols s.equations ≡ true
    multipliers : list_all (has_permitted g.symbols s) s.equations ≡ true
    inequations : list_all (is_reduced g.symbols s) s.inequations ≡ true
    pairs : same_pairs es (critical_pairs g.symbols s) ≡ true

  -- a test that ends a computation holds
  needed : (b : Bool) (r : Rule) (x : ⊤) → needs b r ≡ Ok x → b ≡ true
  needed true r x e = refl
  needed false r x e = cc

  conditions : (es : List Evidence) (x : ⊤) → chain_rule g s es ≡ Ok x → HasConditions es
  unfolding chain_rule
  conditions es x h =
      let a = then_ok (has_leaders g.symbols s.equations) rules.Leader _ x h in
      let b = then_ok (is_autoreduced g.symbols s.equations) rules.Autoreduced _ x a.1 in
      let c = then_ok (list_all (separant_fits g.symbols) s.equations) rules.Wide _ x b.1 in
      let d = then_ok (list_all (has_permitted g.symbols s) s.equations) rules.Multiplier _ x c.1 in
      let e = then_ok (list_all (is_reduced g.symbols s) s.inequations) rules.Inequation _ x d.1 in
      record {
        leaders = a.0;
        autoreduced = b.0;
        multipliers = d.0;
        inequations = e.0;
        pairs = needed (same_pairs es (critical_pairs g.symbols s)) rules.Pairs x e.1;
      }

  -- a state with evidence that has a weight is a chain
  pub chain_is : (affordable : ℕ → Bool) (es : List Evidence) (n : ℕ) → chain_weight g s affordable es ≡ Ok n → IsChain g s
  chain_is affordable es n h =
      let a = bind_ok (numbered 0 (chain_rule g s es)) _ n h in
      let c = conditions es a.0 (told_ok _ (chain_rule g s es) a.0 a.1) in
      record {
        leaders = c.leaders;
        autoreduced = c.autoreduced;
        coherent = pairs_cohere es (critical_pairs g.symbols s) c.pairs (all_cohere affordable 1 0 es n a.2);
        multipliers = c.multipliers;
        inequations = c.inequations;
      }

module _ (g : Setting) where
  -- ---- the ends of a tree
  -- the state at a chain's end is a chain
  abbrev IsChainThere : End → Type 0
  IsChainThere e = is_chain_end e ≡ true → IsChain g e.state

  -- an end that is no chain
  no_chain : (line : Line) (s : State) (w : ℕ) (b : Below) → is_chain_end (record { line = line; state = s }) ≡ false → ended line s w ≡ b → AllOf IsChainThere b.ends
  no_chain line s w b other e = subst (λ (b : Below). AllOf IsChainThere b.ends) e ((λ yes. cc), tt)

  -- an open end
  open_end : (budget w : ℕ) (s : State) (line : Line) (es : List Evidence) (b : Below) → is_chain_end (record { line = line; state = s }) ≡ false
      → ◌>>=◌ {A = ⊤} {B = Below} {E = ℕ × Rule} (needs (reason_holds g budget w s line es) (0, rules.Reason)) (λ _. Ok (ended line s 0)) ≡ Ok b → AllOf IsChainThere b.ends
  open_end budget w s line es b other e = no_chain line s 0 b other (ok_same (ended line s 0) b (then_ok (reason_holds g budget w s line es) _ _ b e).1)

  -- the ends that an entry leaves
  left_ends : (budget w : ℕ) (s : State) (line : Line) (es : List Evidence) (b : Below) → entered g budget w s line es ≡ Ok b → AllOf IsChainThere b.ends
  unfolding entered
  left_ends budget w s (act action) es b e =
      let a = bind_ok (told_as told_at_line (perform g s action)) _ b e in
      let c = then_ok (nat_le (w + a.0.weight) budget) _ _ b a.2 in
      subst (λ (b : Below). AllOf IsChainThere b.ends) (ok_same (record { states = a.0.after; ends = []; weight = a.0.weight }) b c.1) tt
  left_ends budget w s closed es b e = subst (λ (b : Below). AllOf IsChainThere b.ends) (ok_same nothing_below b (then_ok (is_closed g.symbols s) _ _ b e).1) tt
  left_ends budget w s chain es b e =
      let a = bind_ok (chain_weight g s (λ n. nat_le (w + n) budget) es) _ b e in
      subst (λ (b : Below). AllOf IsChainThere b.ends) (ok_same (ended chain s a.0) b a.2) ((λ yes. chain_is g s (λ n. nat_le (w + n) budget) es a.0 a.1), tt)
  left_ends budget w s (pair x) es b e = cc
  left_ends budget w s (spent action) es b e = open_end budget w s (spent action) es b refl e
  left_ends budget w s spent_pairs es b e = open_end budget w s spent_pairs es b refl e
  left_ends budget w s (open_wide action) es b e = open_end budget w s (open_wide action) es b refl e
  left_ends budget w s (open_separant i) es b e = open_end budget w s (open_separant i) es b refl e
  left_ends budget w s (open_large limit action) es b e = open_end budget w s (open_large limit action) es b refl e

  -- the ends below the pending states
  walked_ends : (budget w place : ℕ) (pending : List State) (es : List Entry) (ends : List End) → walk g budget w place pending es ≡ Ok ends → AllOf IsChainThere ends
  walked_ends budget w place [] [] ends e = subst (AllOf IsChainThere) (ok_same [] ends e) tt
  walked_ends budget w place (s ∷ pending) [] ends e = cc
  walked_ends budget w place [] (x ∷ es) ends e = cc
  walked_ends budget w place (s ∷ pending) (x ∷ es) ends e =
      by_entry (entered g budget w s x.line x.evidence) refl (λ b ends f. walked_ends budget (w + b.weight) (place + 1 + length x.evidence) (b.states ++ pending) es ends f) e
    where
      by_entry : (q : Result Below (ℕ × Rule)) → entered g budget w s x.line x.evidence ≡ q
          → ((b : Below) (ends : List End) → walk g budget (w + b.weight) (place + 1 + length x.evidence) (b.states ++ pending) es ≡ Ok ends → AllOf IsChainThere ends)
          → (elim q as (λ _. Result (List End) (ℕ × Rule)) [
            | Err r ↦ Err (place + r.0, r.1)
            | Ok b ↦ walk g budget (w + b.weight) (place + 1 + length x.evidence) (b.states ++ pending) es >>= (λ ends. Ok (b.ends ++ ends))
          ]) ≡ Ok ends → AllOf IsChainThere ends
      by_entry (Err r) f ih e = cc
      by_entry (Ok b) f ih e =
          let a = bind_ok (walk g budget (w + b.weight) (place + 1 + length x.evidence) (b.states ++ pending) es) _ ends e in
          subst (AllOf IsChainThere) (ok_same (b.ends ++ a.0) ends a.2) (all-append IsChainThere b.ends a.0 (left_ends budget w s x.line x.evidence b f) (ih b a.0 a.1))

  -- the states of the chains among ends
  chains_there : (ends : List End) → AllOf IsChainThere ends → AllOf (IsChain g) (chains_of ends)
  chains_there [] h = tt
  chains_there (e ∷ ends) h = by_test (is_chain_end e) h.0 (chains_there ends h.1)
    where
      by_test : (b : Bool) → (b ≡ true → IsChain g e.state) → AllOf (IsChain g) (chains_of ends) → AllOf (IsChain g) (map (λ (x : End). x.state) (cond b (e ∷ filter is_chain_end ends) (filter is_chain_end ends)))
      by_test true k ih = (k refl, ih)
      by_test false k ih = ih

  -- the ends of a tree
  tree_ends : (system : System) (tree : Tree) (ends : List End) → ends_of g system tree ≡ Ok ends → AllOf IsChainThere ends
  unfolding ends_of
  tree_ends system tree ends e = walked_ends tree.budget 0 1 (root_of g.symbols system ∷ []) (entries_of tree.lines) ends e

  -- the states of the chains of a certified tree are chains
  pub chains_are : (system : System) (tree : Tree) → IsCertified g system tree → AllOf (IsChain g) (chains_of (ends_in (ends_of g system tree)))
  chains_are system tree certified = by_answer (ends_of g system tree) refl
    where
      by_answer : (q : Result (List End) (ℕ × Rule)) → ends_of g system tree ≡ q → AllOf (IsChain g) (chains_of (ends_in q))
      by_answer (Ok ends) e = chains_there ends (tree_ends system tree ends e)
      by_answer (Err r) e = tt
