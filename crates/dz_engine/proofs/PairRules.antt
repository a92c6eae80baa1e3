-- The line of the rule of pairs holds: a chain with its evidence, an addition, or an open end.
use Rattle.std.specs.Prelude.{⊤, is_some}
use Rattle.std.specs.List.{list_all}
use Rattle.std.proofs.Common.{◌≡◌, ℕ, suc, ◌+◌, ◌-◌, ◌≤◌, ◌<◌, ◌==◌, nat_le, nat_lt, Bool, true, false, not, ◌&&◌, ◌||◌, cond, List, [], ◌∷◌, ◌++◌, length, refl, sym, ap, ◌∙◌, subst, Result, Ok, Err, Option, Some, None, is_ok, arith, append-nil}
use Rattle.std.proofs.lemmas.Bool.{ltb-true, ltb-false, lt-ltb, le-leb, eq-eqb}
use Rattle.dz_algebra.specs.declared.Limit.{Limit}
use Rattle.dz_algebra.specs.Polynomial.{Polynomial}
use Rattle.dz_algebra.specs.Norm.{norm}
use Rattle.dz_algebra.specs.Size.{Refusal, large}
use Rattle.dz_algebra.specs.Symbols.{Symbols}
use Rattle.dz_rank.specs.declared.symbols.Symbol.{Symbol}
use Rattle.dz_algebra.specs.Outcome.{◌>>=◌, needs, given, numbered, told_as}
use Rattle.dz_monomials.specs.Lists.{AllOf}
use Rattle.dz_diff.specs.Tests.{is_zero, is_member}
use Rattle.dz_diff.specs.Operations.{Setting}
use Rattle.dz_diff.specs.State.{State, at_place, limit_passed}
use Rattle.dz_diff.proofs.Places.{all-append}
use Rattle.dz_step.specs.declared.Role.TheVariants.{Free}
use Rattle.dz_step.specs.declared.Step.{Step}
use Rattle.dz_step.specs.Step.{Stop}
use Rattle.dz_step.specs.Run.{Ran, run}
use Rattle.dz_step.specs.FullRun.{Course, finished, stopped, passed, full_run, next_step, admits}
use Rattle.dz_step.proofs.FullRuns.{full_run_is_run, full_run_low}
use Rattle.dz_pair.specs.Pair.{is_pair, common, delta_answer, pairs_with, pairs_from, critical_pairs}
use Rattle.dz_move.specs.declared.Rule.{Rule}
use Rattle.dz_move.specs.declared.Rule.TheVariants as rules
use Rattle.dz_move.specs.Fault.{Fault, refusal, rule, fault_of, rule_of, rule_of_refusal, run_fault}
use Rattle.dz_move.specs.Moves.{add, Done, within, settled, with_equations, grown, perform}
use Rattle.dz_tree.specs.Chain.{chain_rule, passes, is_below, evidence_weight, evidence_from}
use Rattle.dz_move.specs.Lines.{Evidence, act, chain, spent_pairs, Entry}
use Rattle.dz_move.specs.PairRuns.{open_weight}
use Rattle.dz_tree.specs.Forms.{is_empty}
use Rattle.dz_check.specs.Reasons.{open_weights, weighs_more, is_increasing, reason_holds}
use Rattle.dz_check.specs.Walk.{Below, ended, told_at_line, entered}
use Rattle.dz_tree.proofs.CriticalPairs.{NamesPair, critical_pairs_name}
use Rattle.dz_move.proofs.KeptMembers.{all_give}
use Rattle.dz_engine.specs.Order.{line_alone, open_line, affordable, with_evidence, evidence, after_course, delta_at, after_delta, pairs_next}
use Rattle.dz_engine.specs.Resting.{EntryHolds}
use Rattle.dz_engine.proofs.EasyRules.{and_is, needs_is, given_is, holds_needs, open_holds}
use Rattle.dz_engine.proofs.RunRules.{StepsGo, full_run_fits, full_run_stopped, full_run_passed, is_not}

-- ---- critical pairs rise
-- a pair of places is before another
abbrev before : ℕ × ℕ → ℕ × ℕ → Bool
before p q = nat_lt p.0 q.0 || ((p.0 == q.0) && nat_lt p.1 q.1)

-- each is before all that follow
abbrev Sorted : List (ℕ × ℕ) → Type 0
Sorted [] = ⊤
Sorted (p ∷ ps) = AllOf (λ q. before p q ≡ true) ps × Sorted ps

-- two lists, the first before the second
sorted-append : (xs ys : List (ℕ × ℕ)) → Sorted xs → Sorted ys → AllOf (λ x. AllOf (λ y. before x y ≡ true) ys) xs → Sorted (xs ++ ys)
sorted-append [] ys h k l = k
sorted-append (x ∷ xs) ys h k l = (all-append (λ q. before x q ≡ true) xs ys h.0 l.0, sorted-append xs ys h.1 k l.1)

-- one part makes a disjunction
or_left : (a b : Bool) → a ≡ true → (a || b) ≡ true
or_left true b e = refl
or_left false b e = cc

-- the other part makes it too
pub or_right : (a b : Bool) → b ≡ true → (a || b) ≡ true
or_right true b e = refl
or_right false b e = e

-- before by the first place
before_first : (p q : ℕ × ℕ) → p.0 < q.0 → before p q ≡ true
before_first p q h = or_left _ _ (lt-ltb p.0 q.0 h)

-- before by the second place
before_second : (p q : ℕ × ℕ) → p.0 ≡ q.0 → p.1 < q.1 → before p q ≡ true
before_second p q e h = or_right (nat_lt p.0 q.0) _ (and_is _ _ (eq-eqb p.0 q.0 e) (lt-ltb p.1 q.1 h))

module _ (g : Symbols Symbol) where
  -- the pairs of one equation have its place first, and greater ones second
  with_all : (i j : ℕ) (p : Polynomial Symbol) (qs : List (Polynomial Symbol)) → AllOf (λ (x : ℕ × ℕ). (x.0 ≡ i) × (j ≤ x.1)) (pairs_with g i j p qs)
  with_all i j p [] = tt
  with_all i j p (q ∷ qs) = by_test (is_pair g p q) (all_give (λ (x : ℕ × ℕ). (x.0 ≡ i) × (suc j ≤ x.1)) (λ (x : ℕ × ℕ). (x.0 ≡ i) × (j ≤ x.1)) (λ x h. (h.0, omega (arith, h.1))) (pairs_with g i (suc j) p qs) (with_all i (suc j) p qs))
    where
      by_test : (b : Bool) → AllOf (λ (x : ℕ × ℕ). (x.0 ≡ i) × (j ≤ x.1)) (pairs_with g i (suc j) p qs) → AllOf (λ (x : ℕ × ℕ). (x.0 ≡ i) × (j ≤ x.1)) (cond b ((i, j) ∷ pairs_with g i (suc j) p qs) (pairs_with g i (suc j) p qs))
      by_test true h = ((refl, omega arith), h)
      by_test false h = h

  -- and they are in their order
  with_sorted : (i j : ℕ) (p : Polynomial Symbol) (qs : List (Polynomial Symbol)) → Sorted (pairs_with g i j p qs)
  with_sorted i j p [] = tt
  with_sorted i j p (q ∷ qs) = by_test (is_pair g p q) (with_sorted i (suc j) p qs)
    where
      by_test : (b : Bool) → Sorted (pairs_with g i (suc j) p qs) → Sorted (cond b ((i, j) ∷ pairs_with g i (suc j) p qs) (pairs_with g i (suc j) p qs))
      by_test true h = (all_give (λ (x : ℕ × ℕ). (x.0 ≡ i) × (suc j ≤ x.1)) (λ x. before (i, j) x ≡ true) (λ x h. before_second (i, j) x (sym h.0) h.1) (pairs_with g i (suc j) p qs) (with_all i (suc j) p qs), h)
      by_test false h = h

  -- the pairs from a place on have no smaller one first
  from_all : (i : ℕ) (ps : List (Polynomial Symbol)) → AllOf (λ (x : ℕ × ℕ). i ≤ x.0) (pairs_from g i ps)
  from_all i [] = tt
  from_all i (p ∷ ps) = all-append (λ (x : ℕ × ℕ). i ≤ x.0) (pairs_with g i (suc i) p ps) (pairs_from g (suc i) ps)
      (all_give (λ (x : ℕ × ℕ). (x.0 ≡ i) × (suc i ≤ x.1)) (λ (x : ℕ × ℕ). i ≤ x.0) (λ x h. omega (arith, h.0)) (pairs_with g i (suc i) p ps) (with_all i (suc i) p ps))
      (all_give (λ (x : ℕ × ℕ). suc i ≤ x.0) (λ (x : ℕ × ℕ). i ≤ x.0) (λ x h. omega (arith, h)) (pairs_from g (suc i) ps) (from_all (suc i) ps))

  -- and they are in their order
  from_sorted : (i : ℕ) (ps : List (Polynomial Symbol)) → Sorted (pairs_from g i ps)
  from_sorted i [] = tt
  from_sorted i (p ∷ ps) = sorted-append (pairs_with g i (suc i) p ps) (pairs_from g (suc i) ps) (with_sorted i (suc i) p ps) (from_sorted (suc i) ps)
      (all_give (λ (x : ℕ × ℕ). (x.0 ≡ i) × (suc i ≤ x.1)) (λ x. AllOf (λ y. before x y ≡ true) (pairs_from g (suc i) ps))
      (λ x h. all_give (λ (y : ℕ × ℕ). suc i ≤ y.0) (λ y. before x y ≡ true) (λ y k. before_first x y (omega (arith, h.0, k))) (pairs_from g (suc i) ps) (from_all (suc i) ps)) (pairs_with g i (suc i) p ps) (with_all i (suc i) p ps))

  -- the critical pairs are in their order
  pub critical_pairs_sorted : (s : State) → Sorted (critical_pairs g s)
  critical_pairs_sorted s = from_sorted 1 s.equations

-- ---- evidence
-- the pairs of places that evidence is for
abbrev pub places_of : List Evidence → List (ℕ × ℕ)
places_of [] = []
places_of (e ∷ es) = (e.first, e.second) ∷ places_of es

-- what is asked of a state at which the first six rules of the order of work name nothing
pub record PairsRest (g : Setting) (s : State) (Fits : Step → Type 0) : Type 0 where
  -- the steps of a run from the Delta-polynomial of a critical pair are below the least common derivative
  pub coherent : (i j : ℕ) (p q d : Polynomial Symbol) (steps : List Step) (x : Ran) → at_place i s.equations ≡ Some p → at_place j s.equations ≡ Some q → is_pair g.symbols p q ≡ true
      → delta_answer g p q ≡ Ok d → AllOf Fits steps → run g s Free d steps ≡ Ok x → passes (λ w. list_all (is_below g.symbols s w) steps) (common g.symbols p q) ≡ true
  -- it is a chain, but for the runs of its evidence
  pub is_chain : (es : List Evidence) → places_of es ≡ critical_pairs g.symbols s → chain_rule g s es ≡ Ok tt

-- the places of evidence, and of one more
places-append : (es : List Evidence) (e : Evidence) (ps : List (ℕ × ℕ)) → places_of (es ++ e ∷ []) ++ ps ≡ places_of es ++ ((e.first, e.second) ∷ ps)
places-append [] e ps = refl
places-append (f ∷ es) e ps = ap (λ (xs : List (ℕ × ℕ)). (f.first, f.second) ∷ xs) (places-append es e ps)

-- evidence for pairs in their order is increasing
increasing_is : (es : List Evidence) (ps : List (ℕ × ℕ)) → Sorted (places_of es ++ ps) → is_increasing es ≡ true
increasing_is [] ps h = refl
increasing_is (e ∷ []) ps h = refl
increasing_is (e ∷ f ∷ es) ps h = and_is _ _ h.0.0 (increasing_is (f ∷ es) ps h.1)

-- there is evidence
some_is : (es : List Evidence) (e : Evidence) → not (is_empty (es ++ e ∷ [])) ≡ true
some_is [] e = refl
some_is (f ∷ es) e = refl

module _ (g : Setting) (s : State) where
  -- the weight with one more run of a chain
  evidence-append : (affordable : ℕ → Bool) (k n m x : ℕ) (es : List Evidence) (e : Evidence) → evidence_from g s affordable k n es ≡ Ok m → evidence_weight g s e ≡ Ok x → affordable (m + x) ≡ true → evidence_from g s affordable k n (es ++ e ∷ []) ≡ Ok (m + x)
  evidence-append affordable k n m x [] e h i j =
      let l : n ≡ m = cc in
      ap (λ q. numbered k q >>= (λ w. needs (affordable (n + w)) (k, rules.Weight) >>= (λ _. Ok (n + w)))) i
      ∙ ap (λ n. ◌>>=◌ {A = ⊤} {B = ℕ} {E = ℕ × Rule} (needs (affordable (n + x)) (k, rules.Weight)) (λ _. Ok (n + x))) l
      ∙ needs_is (affordable (m + x)) (k, rules.Weight) (λ _. Ok (m + x)) j
  evidence-append affordable k n m x (f ∷ es) e h i j = by_weight (evidence_weight g s f) (λ w l. evidence-append affordable (suc k) (n + w) m x es e l i j) h
    where
      by_test : (w : ℕ) (b : Bool) → (evidence_from g s affordable (suc k) (n + w) es ≡ Ok m → evidence_from g s affordable (suc k) (n + w) (es ++ e ∷ []) ≡ Ok (m + x))
          → ◌>>=◌ {A = ⊤} {B = ℕ} {E = ℕ × Rule} (needs b (k, rules.Weight)) (λ _. evidence_from g s affordable (suc k) (n + w) es) ≡ Ok m
          → ◌>>=◌ {A = ⊤} {B = ℕ} {E = ℕ × Rule} (needs b (k, rules.Weight)) (λ _. evidence_from g s affordable (suc k) (n + w) (es ++ e ∷ [])) ≡ Ok (m + x)
      by_test w true ih h = ih h
      by_test w false ih h = cc

      by_weight : (q : Result ℕ Rule) → ((w : ℕ) → evidence_from g s affordable (suc k) (n + w) es ≡ Ok m → evidence_from g s affordable (suc k) (n + w) (es ++ e ∷ []) ≡ Ok (m + x))
          → ◌>>=◌ {A = ℕ} {B = ℕ} {E = ℕ × Rule} (numbered k q) (λ w. needs (affordable (n + w)) (k, rules.Weight) >>= (λ _. evidence_from g s affordable (suc k) (n + w) es)) ≡ Ok m
          → ◌>>=◌ {A = ℕ} {B = ℕ} {E = ℕ × Rule} (numbered k q) (λ w. needs (affordable (n + w)) (k, rules.Weight) >>= (λ _. evidence_from g s affordable (suc k) (n + w) (es ++ e ∷ []))) ≡ Ok (m + x)
      by_weight (Ok w) ih h = by_test w (affordable (n + w)) (ih w) h
      by_weight (Err r) ih h = cc

  -- the weight with one more run of an open end
  weights-append : (m x : ℕ) (es : List Evidence) (e : Evidence) → open_weights g s es ≡ Ok m → open_weight g s e ≡ Ok x → open_weights g s (es ++ e ∷ []) ≡ Ok (m + x)
  weights-append m x [] e h i =
      let l : 0 ≡ m = cc in
      ap (λ (q : Result ℕ (ℕ × Fault)). q >>= (λ n. Ok (n + 0))) i ∙ ap (λ (n : ℕ). Ok n) (omega (arith, l))
  weights-append m x (f ∷ es) e h i = by_weight (open_weight g s f) (open_weights g s es) refl (λ k l. weights-append k x es e l i) h
    where
      by_weight : (q r : Result ℕ (ℕ × Fault)) → open_weights g s es ≡ r → ((k : ℕ) → open_weights g s es ≡ Ok k → open_weights g s (es ++ e ∷ []) ≡ Ok (k + x))
          → ◌>>=◌ {A = ℕ} {B = ℕ} {E = ℕ × Fault} q (λ n. r >>= (λ m. Ok (n + m))) ≡ Ok m → ◌>>=◌ {A = ℕ} {B = ℕ} {E = ℕ × Fault} q (λ n. open_weights g s (es ++ e ∷ []) >>= (λ m. Ok (n + m))) ≡ Ok (m + x)
      by_weight (Err e') r j ih h = cc
      by_weight (Ok n) (Err e') j ih h = cc
      by_weight (Ok n) (Ok k) j ih h =
          let l : n + k ≡ m = cc in
          ap (λ (q : Result ℕ (ℕ × Fault)). q >>= (λ m. Ok (n + m))) (ih k j) ∙ ap (λ (z : ℕ). Ok z) (omega (arith, l))

-- ---- the pairs
module _ (g : Setting) (budget w0 : ℕ) (s : State) (Fine : Polynomial Symbol → Type 0) (Fits : Step → Type 0) (go : StepsGo g s Free Fine Fits) (rest : PairsRest g s Fits)
    (delta_fine : (i j : ℕ) (p q d : Polynomial Symbol) → at_place i s.equations ≡ Some p → at_place j s.equations ≡ Some q → delta_answer g p q ≡ Ok d → Fine (norm d))
    (admitting : (f : Polynomial Symbol) → is_member g.symbols f s.equations ≡ true → admits g s Free f ≡ true) where
  -- the evidence so far and the weight with it
  pub record SoFar (w : ℕ) (es : List Evidence) (ps : List (ℕ × ℕ)) : Type 0 where
    weight : ℕ
    weight_is : w ≡ w0 + weight
    within_budget : w ≤ budget
    chained : evidence_from g s (λ n. nat_le (w0 + n) budget) 1 0 es ≡ Ok weight
    weighed : open_weights g s es ≡ Ok weight
    names : places_of es ++ ps ≡ critical_pairs g.symbols s

  -- the line of a chain with all its evidence holds
  chain_holds : (w : ℕ) (es : List Evidence) → SoFar w es [] → EntryHolds g budget w0 s (with_evidence chain es)
  unfolding entered
  chain_holds w es h =
      ap (λ q. is_ok {T = Below} {E = ℕ × Rule} (numbered 0 q >>= (λ _. evidence_from g s (λ n. nat_le (w0 + n) budget) 1 0 es) >>= (λ n. Ok (ended chain s n)))) (rest.is_chain es (sym (append-nil (places_of es)) ∙ h.names))
      ∙ ap (λ (q : Result ℕ (ℕ × Rule)). is_ok {T = Below} {E = ℕ × Rule} (q >>= (λ n. Ok (ended chain s n)))) h.chained

  -- an open end holds where the evidence passes the budget
  spent_holds : (w x : ℕ) (es : List Evidence) (e : Evidence) (ps : List (ℕ × ℕ)) → SoFar w es ((e.first, e.second) ∷ ps) → open_weight g s e ≡ Ok x → budget < w + x → EntryHolds g budget w0 s (with_evidence spent_pairs (es ++ e ∷ []))
  unfolding entered reason_holds
  spent_holds w x es e ps h i l = holds_needs (not (is_empty (es ++ e ∷ [])) && is_increasing (es ++ e ∷ []) && weighs_more budget w0 (open_weights g s (es ++ e ∷ []))) _ rules.Reason
      (and_is _ _ (and_is _ _ (some_is es e) (increasing_is (es ++ e ∷ []) ps (subst Sorted (sym (places-append es e ps ∙ h.names)) (critical_pairs_sorted g.symbols s))))
      (ap (weighs_more budget w0) (weights-append g s h.weight x es e h.weighed i) ∙ lt-ltb budget (w0 + (h.weight + x)) (omega (arith, l, h.weight_is))))

  -- the parts of a pair's answers
  module _ (i j : ℕ) (n : NamesPair g.symbols s.equations (i, j)) where
    -- their Delta-polynomial
    delta_is : delta_at g s (i, j) ≡ delta_answer g n.first n.second
    delta_is =
        ap (λ o. elim o as (λ _. Result (Polynomial Symbol) Refusal) [ None ↦ Ok [] | Some a ↦ elim (at_place j s.equations) as (λ _. Result (Polynomial Symbol) Refusal) [ None ↦ Ok [] | Some b ↦ delta_answer g a b ] ]) n.first_is
        ∙ ap (λ o. elim o as (λ _. Result (Polynomial Symbol) Refusal) [ None ↦ Ok [] | Some b ↦ delta_answer g n.first b ]) n.second_is

    -- the weight of a run from it
    open_weight_is : (steps : List Step) (d : Polynomial Symbol) (x : Ran) → delta_answer g n.first n.second ≡ Ok d → run g s Free d steps ≡ Ok x → open_weight g s (evidence (i, j) steps) ≡ Ok (1 + length d + x.count)
    open_weight_is steps d x e f =
        given_is (at_place i s.equations) _ _ n.first n.first_is
        ∙ given_is (at_place j s.equations) (0, rule rules.Place) (λ q. needs (nat_lt i j && is_pair g.symbols n.first q) (0, rule rules.Pair) >>= (λ _. numbered 0 (told_as refusal (delta_answer g n.first q)) >>= (λ d. told_as run_fault (run g s Free d steps) >>= (λ r. Ok (1 + length d + r.count))))) n.second n.second_is
        ∙ needs_is (nat_lt i j && is_pair g.symbols n.first n.second) (0, rule rules.Pair) (λ _. numbered 0 (told_as refusal (delta_answer g n.first n.second)) >>= (λ d. told_as run_fault (run g s Free d steps) >>= (λ r. Ok (1 + length d + r.count)))) (and_is _ _ n.rises n.is_one)
        ∙ ap (λ q. numbered 0 (told_as refusal q) >>= (λ d. told_as run_fault (run g s Free d steps) >>= (λ r. Ok (1 + length d + r.count)))) e
        ∙ ap (λ (q : Result Ran (ℕ × Stop)). told_as run_fault q >>= (λ r. Ok (1 + length d + r.count))) f

    -- and of one that comes to zero
    evidence_weight_is : (steps : List Step) (d : Polynomial Symbol) (x : Ran) → delta_answer g n.first n.second ≡ Ok d → AllOf Fits steps → run g s Free d steps ≡ Ok x → is_zero x.end ≡ true → evidence_weight g s (evidence (i, j) steps) ≡ Ok (1 + length d + x.count)
    unfolding evidence_weight
    evidence_weight_is steps d x e fits f z =
        let ok : (q : Polynomial Symbol) → Polynomial Symbol → Ran → Result ℕ Rule = λ q d r. needs (is_zero r.end && passes (λ w. list_all (is_below g.symbols s w) steps) (common g.symbols n.first q)) rules.Coherence >>= (λ _. Ok (1 + length d + r.count)) in
        given_is (at_place i s.equations) _ _ n.first n.first_is
        ∙ given_is (at_place j s.equations) rules.Pairs (λ q. told_as rule_of_refusal (delta_answer g n.first q) >>= (λ d. told_as (λ e. rule_of (run_fault e).1) (run g s Free d steps) >>= ok q d)) n.second n.second_is
        ∙ ap (λ r. told_as rule_of_refusal r >>= (λ d. told_as (λ e. rule_of (run_fault e).1) (run g s Free d steps) >>= ok n.second d)) e
        ∙ ap (λ r. told_as (λ e. rule_of (run_fault e).1) r >>= ok n.second d) f
        ∙ needs_is (is_zero x.end && passes (λ w. list_all (is_below g.symbols s w) steps) (common g.symbols n.first n.second)) rules.Coherence (λ _. Ok (1 + length d + x.count)) (and_is _ _ z (rest.coherent i j n.first n.second d steps x n.first_is n.second_is n.is_one e fits f))

    -- the end of an addition
    abbrev last : List Step → Polynomial Symbol → Ran → Result Done (ℕ × Fault)
    last steps d r = needs (not (is_zero r.end) && not (is_member g.symbols r.end s.equations) && not (admits g s Free r.end)) (length steps, rule rules.End) >>= (λ _. settled (length steps) (with_equations s (s.equations ++ r.end ∷ []) ∷ []) (1 + length d + r.count))

    -- an addition takes the Delta-polynomial, a run, and its end
    grown_is : (steps : List Step) → perform g s (add i j steps) ≡ (numbered 0 (told_as refusal (delta_answer g n.first n.second)) >>= (λ d. told_as run_fault (run g s Free d steps) >>= last steps d))
    unfolding grown
    grown_is steps =
        needs_is (nat_lt i j) (0, rule rules.Place) (λ _. given (at_place i s.equations) (0, rule rules.Place) >>= (λ p. given (at_place j s.equations) (0, rule rules.Place) >>= (λ q. needs (is_pair g.symbols p q) (0, rule rules.Pair) >>= (λ _. numbered 0 (told_as refusal (delta_answer g p q)) >>= (λ d. told_as run_fault (run g s Free d steps) >>= last steps d))))) n.rises
        ∙ given_is (at_place i s.equations) (0, rule rules.Place) (λ p. given (at_place j s.equations) (0, rule rules.Place) >>= (λ q. needs (is_pair g.symbols p q) (0, rule rules.Pair) >>= (λ _. numbered 0 (told_as refusal (delta_answer g p q)) >>= (λ d. told_as run_fault (run g s Free d steps) >>= last steps d)))) n.first n.first_is
        ∙ given_is (at_place j s.equations) (0, rule rules.Place) (λ q. needs (is_pair g.symbols n.first q) (0, rule rules.Pair) >>= (λ _. numbered 0 (told_as refusal (delta_answer g n.first q)) >>= (λ d. told_as run_fault (run g s Free d steps) >>= last steps d))) n.second n.second_is
        ∙ needs_is (is_pair g.symbols n.first n.second) (0, rule rules.Pair) (λ _. numbered 0 (told_as refusal (delta_answer g n.first n.second)) >>= (λ d. told_as run_fault (run g s Free d steps) >>= last steps d)) n.is_one

    -- an addition whose Delta-polynomial is refused
    delta_refused : (steps : List Step) (r : Refusal) → delta_answer g n.first n.second ≡ Err r → perform g s (add i j steps) ≡ Err (0, refusal r)
    delta_refused steps r h = grown_is steps ∙ ap (λ q. numbered 0 (told_as refusal q) >>= (λ d. told_as run_fault (run g s Free d steps) >>= last steps d)) h

    -- an addition whose run is refused
    run_refused : (steps : List Step) (d : Polynomial Symbol) (e : ℕ × Stop) → delta_answer g n.first n.second ≡ Ok d → run g s Free d steps ≡ Err e → perform g s (add i j steps) ≡ Err (run_fault e)
    run_refused steps d e h k = grown_is steps ∙ ap (λ q. numbered 0 (told_as refusal q) >>= (λ d. told_as run_fault (run g s Free d steps) >>= last steps d)) h ∙ ap (λ (q : Result Ran (ℕ × Stop)). told_as run_fault q >>= last steps d) k

    -- and one that holds up to its state
    grown_settled : (steps : List Step) (d : Polynomial Symbol) (x : Ran) → delta_answer g n.first n.second ≡ Ok d → run g s Free d steps ≡ Ok x → is_zero x.end ≡ false → next_step g s Free x.end ≡ None
        → perform g s (add i j steps) ≡ settled (length steps) (with_equations s (s.equations ++ x.end ∷ []) ∷ []) (1 + length d + x.count)
    grown_settled steps d x e f z rests =
        let quiet : admits g s Free x.end ≡ false = ap is_some rests in
        grown_is steps
        ∙ ap (λ q. numbered 0 (told_as refusal q) >>= (λ d. told_as run_fault (run g s Free d steps) >>= last steps d)) e
        ∙ ap (λ (q : Result Ran (ℕ × Stop)). told_as run_fault q >>= last steps d) f
        ∙ needs_is (not (is_zero x.end) && not (is_member g.symbols x.end s.equations) && not (admits g s Free x.end)) (length steps, rule rules.End) (λ _. settled (length steps) (with_equations s (s.equations ++ x.end ∷ []) ∷ []) (1 + length d + x.count))
        (and_is _ _ (and_is _ _ (ap not z) (is_not _ (λ m. no_two (admits g s Free x.end) (admitting x.end m) quiet))) (ap not quiet))
      where
        no_two : (b : Bool) → b ≡ true → b ≡ false → ⊥
        no_two true h k = cc
        no_two false h k = cc

    -- the line of an addition within the budget holds
    affordable_goes : (steps : List Step) (after : List State) (x : ℕ) → perform g s (add i j steps) ≡ settled (length steps) after x → w0 + x ≤ budget → EntryHolds g budget w0 s (affordable g s (add i j steps))
    unfolding entered
    affordable_goes steps after x e low = by_limit (limit_passed after) refl
      where
        shape : (q : Result Done (ℕ × Fault)) → Entry
        shape q = elim q as (λ _. Entry) [ Ok d ↦ line_alone (act (add i j steps)) | Err e ↦ line_alone (open_line e.1 (add i j steps)) ]

        by_limit : (o : Option Limit) → limit_passed after ≡ o → EntryHolds g budget w0 s (affordable g s (add i j steps))
        by_limit None h =
            let p : perform g s (add i j steps) ≡ Ok (record { after = after; weight = x }) = e ∙ ap (λ o. numbered (length steps) (within o) >>= (λ _. Ok (record { after = after; weight = x }))) h in
            subst (EntryHolds g budget w0 s) (sym (ap shape p))
            (ap (λ q. is_ok {T = Below} {E = ℕ × Rule} (told_as told_at_line q >>= (λ d. needs (nat_le (w0 + d.weight) budget) (0, rules.Weight) >>= (λ _. Ok (record { states = d.after; ends = []; weight = d.weight }))))) p
            ∙ holds_needs (nat_le (w0 + x) budget) _ rules.Weight (le-leb (w0 + x) budget low))
        by_limit (Some limit) h =
            let p : perform g s (add i j steps) ≡ Err (length steps, refusal (large limit)) = e ∙ ap (λ o. numbered (length steps) (within o) >>= (λ _. Ok (record { after = after; weight = x }))) h in
            subst (EntryHolds g budget w0 s) (sym (ap shape p)) (open_holds g budget w0 s (add i j steps) (refusal (large limit)) p tt)

  -- the line that is next after some pairs holds
  pub pairs_go : (w : ℕ) (es : List Evidence) (ps : List (ℕ × ℕ)) → SoFar w es ps → AllOf (NamesPair g.symbols s.equations) ps → EntryHolds g budget w0 s (pairs_next g budget s w es ps)
  pairs_go w es [] h ns = chain_holds w es h
  pairs_go w es ((i, j) ∷ ps) h ns = by_delta (delta_at g s (i, j)) (sym (delta_is i j n)) (λ w' es' h'. pairs_go w' es' ps h' ns.1)
    where
      n : NamesPair g.symbols s.equations (i, j)
      n = ns.0

      next : ℕ → List Evidence → Entry
      next w' es' = pairs_next g budget s w' es' ps

      more : (d : Polynomial Symbol) (steps : List Step) (x : Ran) → delta_answer g n.first n.second ≡ Ok d → AllOf Fits steps → run g s Free d steps ≡ Ok x → is_zero x.end ≡ true → w + 1 + length d + x.count ≤ budget → SoFar (w + 1 + length d + x.count) (es ++ evidence (i, j) steps ∷ []) ps
      more d steps x e fits f z low = record {
        weight = h.weight + (1 + length d + x.count);
        weight_is = omega (arith, h.weight_is);
        within_budget = low;
        chained = evidence-append g s (λ n. nat_le (w0 + n) budget) 1 0 h.weight (1 + length d + x.count) es (evidence (i, j) steps) h.chained (evidence_weight_is i j n steps d x e fits f z) (le-leb (w0 + (h.weight + (1 + length d + x.count))) budget (omega (arith, h.weight_is, low)));
        weighed = weights-append g s h.weight (1 + length d + x.count) es (evidence (i, j) steps) h.weighed (open_weight_is i j n steps d x e f);
        names = places-append es (evidence (i, j) steps) ps ∙ h.names;
      }

      by_zero : (d : Polynomial Symbol) (steps : List Step) (f : Polynomial Symbol) (count : ℕ) (b : Bool) → delta_answer g n.first n.second ≡ Ok d → AllOf Fits steps → run g s Free d steps ≡ Ok (record { end = f; count = count }) → next_step g s Free f ≡ None → w + 1 + length d + count ≤ budget → is_zero f ≡ b
          → ((w' : ℕ) (es' : List Evidence) → SoFar w' es' ps → EntryHolds g budget w0 s (next w' es'))
          → EntryHolds g budget w0 s (cond b (next (w + 1 + length d + count) (es ++ evidence (i, j) steps ∷ [])) (affordable g s (add i j steps)))
      by_zero d steps f count true e fits r q low z ih = ih (w + 1 + length d + count) (es ++ evidence (i, j) steps ∷ []) (more d steps (record { end = f; count = count }) e fits r z low)
      by_zero d steps f count false e fits r q low z ih = affordable_goes i j n steps (with_equations s (s.equations ++ f ∷ []) ∷ []) (1 + length d + count) (grown_settled i j n steps d (record { end = f; count = count }) e r z q) (omega (arith, low, h.weight_is))

      by_course : (d : Polynomial Symbol) (c : Course) → delta_answer g n.first n.second ≡ Ok d → w + 1 + length d ≤ budget → full_run g s Free (budget - (w + 1 + length d)) d ≡ c
          → ((w' : ℕ) (es' : List Evidence) → SoFar w' es' ps → EntryHolds g budget w0 s (next w' es'))
          → EntryHolds g budget w0 s (after_course g budget s (w + 1 + length d) es (i, j) c next)
      by_course d (stopped steps stop) e low f ih =
          let fine = delta_fine i j n.first n.second d n.first_is n.second_is e in
          let r = full_run_stopped g s Free (budget - (w + 1 + length d)) Fine Fits go d steps stop fine f in
          open_holds g budget w0 s (add i j steps) (fault_of stop) (run_refused i j n steps d (length steps, stop) e r.0) r.1
      by_course d (passed steps) e low f ih =
          let fine = delta_fine i j n.first n.second d n.first_is n.second_is e in
          let r = full_run_passed g s Free (budget - (w + 1 + length d)) Fine Fits go d steps fine f in
          spent_holds w (1 + length d + (r.2).count) es (evidence (i, j) steps) ps h (open_weight_is i j n steps d r.2 e r.4) (omega (arith, low, r.5))
      by_course d (finished steps end count) e low f ih =
          let r = full_run_is_run g s Free (budget - (w + 1 + length d)) d steps end count f in
          let fits = full_run_fits g s Free (budget - (w + 1 + length d)) Fine Fits go d steps end count (delta_fine i j n.first n.second d n.first_is n.second_is e) f in
          by_zero d steps end count (is_zero end) e fits r.0 r.1 (omega (arith, low, full_run_low g s Free (budget - (w + 1 + length d)) d steps end count f)) refl ih

      by_test : (d : Polynomial Symbol) (b : Bool) → delta_answer g n.first n.second ≡ Ok d → nat_lt budget (w + 1 + length d) ≡ b
          → ((w' : ℕ) (es' : List Evidence) → SoFar w' es' ps → EntryHolds g budget w0 s (next w' es'))
          → EntryHolds g budget w0 s (cond b (with_evidence spent_pairs (es ++ evidence (i, j) [] ∷ [])) (after_course g budget s (w + 1 + length d) es (i, j) (full_run g s Free (budget - (w + 1 + length d)) d) next))
      by_test d true e f ih = spent_holds w (1 + length d + 0) es (evidence (i, j) []) ps h (open_weight_is i j n [] d (record { end = norm d; count = 0 }) e refl) (omega (arith, ltb-true budget (w + 1 + length d) f))
      by_test d false e f ih = by_course d (full_run g s Free (budget - (w + 1 + length d)) d) e (omega (arith, ltb-false budget (w + 1 + length d) f)) refl ih

      by_delta : (q : Result (Polynomial Symbol) Refusal) → delta_answer g n.first n.second ≡ q
          → ((w' : ℕ) (es' : List Evidence) → SoFar w' es' ps → EntryHolds g budget w0 s (next w' es'))
          → EntryHolds g budget w0 s (after_delta g budget s w es (i, j) q next)
      by_delta (Err r) e ih = open_holds g budget w0 s (add i j []) (refusal r) (delta_refused i j n [] r e) tt
      by_delta (Ok d) e ih = by_test d (nat_lt budget (w + 1 + length d)) e refl ih

  -- the line of the rule of pairs holds
  pub pairs_goes : w0 ≤ budget → EntryHolds g budget w0 s (pairs_next g budget s w0 [] (critical_pairs g.symbols s))
  pairs_goes low = pairs_go w0 [] (critical_pairs g.symbols s) (record { weight = 0; weight_is = omega arith; within_budget = low; chained = refl; weighed = refl; names = refl }) (critical_pairs_name g.symbols s)
