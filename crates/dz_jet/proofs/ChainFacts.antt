-- What the evidence of a chain says: its equations cross in pairs, and each pair has its run.
use Rattle.std.specs.Prelude.{⊤}
use Rattle.std.specs.List.{list_all, list_any}
use Rattle.std.proofs.Common.{◌≡◌, inl, inr, ◌<◌, ◌≤◌, ◌+◌, ◌-◌, ◌==◌, ◌∙◌, ℕ, zero, suc, nat_le, Bool, true, false, not, ◌&&◌, ◌||◌, cond, List, [], ◌∷◌, length, sum, Some, None, Ok, refl, sym, ap, ap₂, subst, arith, eqb-true, leb-true}
use Rattle.std.proofs.lemmas.Bool.{eq-eqb, le-leb}
use Rattle.std.proofs.lemmas.Cmp.{tied_itself}
use Rattle.std.proofs.lemmas.List.Sums.{sum_by-cons}
use Rattle.dz_algebra.specs.Parts.{degree, leader}
use Rattle.dz_algebra.specs.Polynomial.{Polynomial, IsPolynomial}
use Rattle.dz_algebra.specs.Symbols.{Symbols}
use Rattle.dz_rank.specs.Rankings.{RankingValue, ranking_cmp}
use Rattle.dz_rank.specs.Symbols.{IsOperatorOf}
use Rattle.dz_rank.specs.declared.symbols.Operator.{Operator}
use Rattle.dz_rank.specs.declared.symbols.Symbol.{Symbol}
use Rattle.dz_rank.specs.declared.symbols.Symbol.TheVariants.{Derivative}
use Rattle.dz_monomials.specs.Ranked.{symbols_under}
use Rattle.dz_monomials.proofs.SymbolLaws.{ranking_order}
use Rattle.dz_monomials.specs.Lists.{AllOf, SomeOf}
use Rattle.dz_algebra.specs.Outcome.{needs, numbered, told_as}
use Rattle.dz_diff.specs.Operations.{Setting}
use Rattle.dz_diff.specs.Operators.{is_proper, divides, exponent_differences, quotient}
use Rattle.dz_diff.specs.State.{State, at_place}
use Rattle.dz_diff.specs.Tests.{Polynomials, is_equal, is_zero, same_symbol}
use Rattle.dz_algebra.proofs.Outcomes.{bind_ok, told_ok, then_ok, given_then, both, is_false}
use Rattle.dz_diff.proofs.Places.{some_left, some_right}
use Rattle.dz_move.proofs.RootStates.{or_none}
use Rattle.dz_diff.proofs.LeaderBounds.{leader_degree}
use Rattle.dz_step.specs.declared.Role.TheVariants.{Free}
use Rattle.dz_step.specs.declared.Step.{Step}
use Rattle.dz_step.specs.FullRun.{derivatives_of}
use Rattle.dz_step.specs.Run.{Ran, run}
use Rattle.dz_step.specs.Step.{step_degree}
use Rattle.dz_step.proofs.NoSteps.{occurring}
use Rattle.dz_pair.specs.Pair.{is_pair, common, delta_answer, pairs_with, pairs_from, critical_pairs}
use Rattle.dz_move.specs.declared.Rule.TheVariants as rules
use Rattle.dz_move.specs.Lines.{Evidence}
use Rattle.dz_tree.specs.Chain.{passes, has_leaders, is_reducible, reducible_by, autoreduced_from, is_autoreduced, separant_fits, has_permitted, is_reduced, same_pairs, chain_rule, is_below, evidence_weight, evidence_from, chain_weight}
use Rattle.dz_move.specs.Fault.{rule_of, rule_of_refusal, run_fault}
use Rattle.dz_jet.proofs.IdealRuns.{passes_some}

-- ---- tests
not_both : (a b : Bool) → (a && b) ≡ false → a ≡ true → b ≡ false
not_both true b e h = e
not_both false b e h = cc

pub no_two : (b : Bool) → b ≡ true → b ≡ false → ⊥
no_two b e f = cc

is_not : (i j : ℕ) → (i ≡ j → ⊥) → not (i == j) ≡ true
is_not i j n = by_test (i == j) refl
  where
    by_test : (b : Bool) → (i == j) ≡ b → not b ≡ true
    by_test true e = absurd (n (eqb-true i j e))
    by_test false e = refl

needs_ok : {E : Type 0} (b : Bool) (k : E) (y : ⊤) → needs b k ≡ Ok y → b ≡ true
needs_ok true k y e = refl
needs_ok false k y e = cc

zero_is : (p : Polynomial Symbol) → is_zero p ≡ true → p ≡ []
zero_is [] e = refl
zero_is (t ∷ p) e = cc

-- ---- the conditions of a chain
pub record ChainFacts (g : Setting) (s : State) (evidence : List Evidence) : Type 0 where
  pub leaders : has_leaders g.symbols s.equations ≡ true
  pub autoreduced : is_autoreduced g.symbols s.equations ≡ true
  pub pairs : same_pairs evidence (critical_pairs g.symbols s) ≡ true
  pub runs : AllOf (λ e. (w : ℕ) × (evidence_weight g s e ≡ Ok w)) evidence

module _ (g : Setting) (s : State) where
  rule_facts : (evidence : List Evidence) (y : ⊤) → chain_rule g s evidence ≡ Ok y → (has_leaders g.symbols s.equations ≡ true) × (is_autoreduced g.symbols s.equations ≡ true) × (same_pairs evidence (critical_pairs g.symbols s) ≡ true)
  unfolding chain_rule
  rule_facts evidence y e =
      let a = then_ok (has_leaders g.symbols s.equations) rules.Leader _ y e in
      let b = then_ok (is_autoreduced g.symbols s.equations) rules.Autoreduced _ y a.1 in
      let c = then_ok (list_all (separant_fits g.symbols) s.equations) rules.Wide _ y b.1 in
      let d = then_ok (list_all (has_permitted g.symbols s) s.equations) rules.Multiplier _ y c.1 in
      let f = then_ok (list_all (is_reduced g.symbols s) s.inequations) rules.Inequation _ y d.1 in
      (a.0, b.0, needs_ok (same_pairs evidence (critical_pairs g.symbols s)) rules.Pairs y f.1)

  run_facts : (affordable : ℕ → Bool) (k n : ℕ) (evidence : List Evidence) (y : ℕ) → evidence_from g s affordable k n evidence ≡ Ok y → AllOf (λ e. (w : ℕ) × (evidence_weight g s e ≡ Ok w)) evidence
  run_facts affordable k n [] y e = tt
  run_facts affordable k n (x ∷ es) y e =
      let a = bind_ok (numbered k (evidence_weight g s x)) _ y e in
      let b = then_ok (affordable (n + a.0)) (k, rules.Weight) _ y a.2 in
      ((a.0, told_ok _ (evidence_weight g s x) a.0 a.1), run_facts affordable (suc k) (n + a.0) es y b.1)

  pub chain_facts : (affordable : ℕ → Bool) (evidence : List Evidence) (y : ℕ) → chain_weight g s affordable evidence ≡ Ok y → ChainFacts g s evidence
  chain_facts affordable evidence y e =
      let a = bind_ok (numbered 0 (chain_rule g s evidence)) (λ _. evidence_from g s affordable 1 0 evidence) y e in
      let b = rule_facts evidence a.0 (told_ok _ (chain_rule g s evidence) a.0 a.1) in
      record { leaders = b.0; autoreduced = b.1; pairs = b.2; runs = run_facts affordable 1 0 evidence y a.2 }

  -- ---- the run of a pair
  pub record PairRun (p q : Polynomial Symbol) (w : Symbol) (steps : List Step) : Type 0 where
    pub delta : Polynomial Symbol
    pub delta_is : delta_answer g p q ≡ Ok delta
    pub ran : Ran
    pub ran_is : run g s Free delta steps ≡ Ok ran
    pub to_zero : ran.end ≡ []
    pub below : list_all (is_below g.symbols s w) steps ≡ true

  pub pair_run : (e : Evidence) (k : ℕ) (p q : Polynomial Symbol) (w : Symbol) → evidence_weight g s e ≡ Ok k → at_place e.first s.equations ≡ Some p → at_place e.second s.equations ≡ Some q → common g.symbols p q ≡ Some w → PairRun p q w e.steps
  unfolding evidence_weight
  pair_run e k p q w h a b c =
      let f = given_then (at_place e.first s.equations) rules.Pairs _ k h in
      let first : f.0 ≡ p = cc in
      let i = given_then (at_place e.second s.equations) rules.Pairs _ k f.2 in
      let second : i.0 ≡ q = cc in
      let d = bind_ok (told_as rule_of_refusal (delta_answer g f.0 i.0)) _ k i.2 in
      let x = bind_ok (told_as (λ (e : ℕ × _). rule_of (run_fault e).1) (run g s Free d.0 e.steps)) _ k d.2 in
      let t = then_ok (is_zero x.0.end && passes (λ w. list_all (is_below g.symbols s w) e.steps) (common g.symbols f.0 i.0)) rules.Coherence _ k x.2 in
      let tests = both (is_zero x.0.end) _ t.0 in
      record {
        delta = d.0;
        delta_is = ap₂ (delta_answer g) (sym first) (sym second) ∙ told_ok rule_of_refusal (delta_answer g f.0 i.0) d.0 d.1;
        ran = x.0;
        ran_is = told_ok _ (run g s Free d.0 e.steps) x.0 x.1;
        to_zero = zero_is x.0.end tests.0;
        below = passes_some (λ w. list_all (is_below g.symbols s w) e.steps) (common g.symbols p q) w (ap₂ (λ (a b : Polynomial Symbol). passes (λ w. list_all (is_below g.symbols s w) e.steps) (common g.symbols a b)) (sym first) (sym second) ∙ tests.1) c;
      }

-- ---- each critical pair has evidence
module _ (g : Symbols Symbol) where
  pair_with : (i j : ℕ) (p : Polynomial Symbol) (qs : Polynomials) (b : ℕ) (q : Polynomial Symbol) → at_place (suc b) qs ≡ Some q → is_pair g p q ≡ true → SomeOf (λ z. (z.0 ≡ i) × (z.1 ≡ j + b)) (pairs_with g i j p qs)
  pair_with i j p [] b q e h = cc
  pair_with i j p (x ∷ qs) zero q e h =
      let same : q ≡ x = cc in
      subst (λ t. SomeOf (λ z. (z.0 ≡ i) × (z.1 ≡ j + zero)) (cond t ((i, j) ∷ pairs_with g i (suc j) p qs) (pairs_with g i (suc j) p qs))) (sym h ∙ ap (is_pair g p) same) (inl (refl, plus_none j))
    where
      plus_none : (j : ℕ) → j ≡ j + 0
      plus_none j = omega arith
  pair_with i j p (x ∷ qs) (suc b) q e h =
      by_test (is_pair g p x) (subst (λ n. SomeOf (λ z. (z.0 ≡ i) × (z.1 ≡ n)) (pairs_with g i (suc j) p qs)) (let f : suc j + b ≡ j + suc b = omega arith in f) (pair_with i (suc j) p qs b q e h))
    where
      by_test : (t : Bool) → SomeOf (λ z. (z.0 ≡ i) × (z.1 ≡ j + suc b)) (pairs_with g i (suc j) p qs) → SomeOf (λ z. (z.0 ≡ i) × (z.1 ≡ j + suc b)) (cond t ((i, j) ∷ pairs_with g i (suc j) p qs) (pairs_with g i (suc j) p qs))
      by_test true h = inr h
      by_test false h = h

  pub pair_from : (i : ℕ) (ps : Polynomials) (a b : ℕ) (p q : Polynomial Symbol) → at_place (suc a) ps ≡ Some p → at_place (suc b) ps ≡ Some q → a < b → is_pair g p q ≡ true → SomeOf (λ z. (z.0 ≡ i + a) × (z.1 ≡ i + b)) (pairs_from g i ps)
  pair_from i [] a b p q e f l h = cc
  pair_from i (x ∷ ps) a zero p q e f l h = absurd (omega arith)
  pair_from i (x ∷ ps) zero (suc b) p q e f l h =
      let same : p ≡ x = cc in
      some_left (λ z. (z.0 ≡ i + zero) × (z.1 ≡ i + suc b)) (pairs_with g i (suc i) x ps) (pairs_from g (suc i) ps)
      (subst (λ k. SomeOf (λ z. (z.0 ≡ k) × (z.1 ≡ i + suc b)) (pairs_with g i (suc i) x ps)) (let k : i ≡ i + zero = omega arith in k)
      (subst (λ n. SomeOf (λ z. (z.0 ≡ i) × (z.1 ≡ n)) (pairs_with g i (suc i) x ps)) (let k : suc i + b ≡ i + suc b = omega arith in k) (pair_with i (suc i) x ps b q f (ap (λ y. is_pair g y q) (sym same) ∙ h))))
  pair_from i (x ∷ ps) (suc a) (suc b) p q e f l h =
      some_right (λ z. (z.0 ≡ i + suc a) × (z.1 ≡ i + suc b)) (pairs_with g i (suc i) x ps) (pairs_from g (suc i) ps)
      (subst (λ k. SomeOf (λ z. (z.0 ≡ k) × (z.1 ≡ i + suc b)) (pairs_from g (suc i) ps)) (let k : suc i + a ≡ i + suc a = omega arith in k)
      (subst (λ n. SomeOf (λ z. (z.0 ≡ suc i + a) × (z.1 ≡ n)) (pairs_from g (suc i) ps)) (let k : suc i + b ≡ i + suc b = omega arith in k) (pair_from (suc i) ps a b p q e f (omega arith) h)))

-- the evidence for a pair of places, with what holds of all evidence
pub evidence_of : (P : Evidence → Type 0) (es : List Evidence) (zs : List (ℕ × ℕ)) (i j : ℕ) → same_pairs es zs ≡ true → AllOf P es → SomeOf (λ z. (z.0 ≡ i) × (z.1 ≡ j)) zs → (e : Evidence) × (e.first ≡ i) × (e.second ≡ j) × P e
evidence_of P [] [] i j e h k = absurd k
evidence_of P [] (z ∷ zs) i j e h k = cc
evidence_of P (x ∷ es) [] i j e h k = absurd k
evidence_of P (x ∷ es) (z ∷ zs) i j e h (inl k) =
    let a = both ((x.first == z.0) && (x.second == z.1)) (same_pairs es zs) e in
    let b = both (x.first == z.0) (x.second == z.1) a.0 in
    (x, eqb-true x.first z.0 b.0 ∙ k.0, eqb-true x.second z.1 b.1 ∙ k.1, h.0)
evidence_of P (x ∷ es) (z ∷ zs) i j e h (inr k) = evidence_of P es zs i j (both ((x.first == z.0) && (x.second == z.1)) (same_pairs es zs) e).1 h.1 k

pub all_two : (P Q : Evidence → Type 0) (es : List Evidence) → AllOf P es → AllOf Q es → AllOf (λ e. P e × Q e) es
all_two P Q [] h k = tt
all_two P Q (e ∷ es) h k = ((h.0, k.0), all_two P Q es h.1 k.1)

-- the steps of all evidence are by operators of the signature
abbrev pub AreInSignature : RankingValue → List Evidence → Type 0
AreInSignature r evidence = AllOf (λ e. AllOf (λ st. IsOperatorOf r.signature.independents st.operator) e.steps) evidence

-- ---- equations at two places cross
module _ (r : RankingValue) where
  any_at : (test : Polynomial Symbol → Bool) (ps : Polynomials) (j : ℕ) (q : Polynomial Symbol) → at_place j ps ≡ Some q → test q ≡ true → list_any test ps ≡ true
  any_at test [] j q e h = cc
  any_at test (x ∷ ps) zero q e h = cc
  any_at test (x ∷ ps) (suc zero) q e h = let same : q ≡ x = cc in ap (λ b. b || list_any test ps) (sym (ap test same) ∙ h)
  any_at test (x ∷ ps) (suc (suc j)) q e h = or_true (test x) (any_at test ps (suc j) q e h)
    where
      or_true : (a : Bool) {b : Bool} → b ≡ true → (a || b) ≡ true
      or_true true e = refl
      or_true false e = e

  -- they have different leaders
  pub leaders_differ : (ps : Polynomials) (i j : ℕ) (p q : Polynomial Symbol) (l m : Symbol) → has_leaders (symbols_under r) ps ≡ true → at_place i ps ≡ Some p → at_place j ps ≡ Some q → i < j
      → leader (symbols_under r) p ≡ Some l → leader (symbols_under r) q ≡ Some m → l ≡ m → ⊥
  leaders_differ [] i j p q l m h e f c a b n = cc
  leaders_differ (x ∷ ps) zero j p q l m h e f c a b n = cc
  leaders_differ (x ∷ ps) (suc i) zero p q l m h e f c a b n = absurd (omega arith)
  leaders_differ (x ∷ ps) (suc i) (suc zero) p q l m h e f c a b n = absurd (omega arith)
  leaders_differ (x ∷ ps) (suc zero) (suc (suc j)) p q l m h e f c a b n =
      let same : p ≡ x = cc in
      let test : Symbol → Polynomial Symbol → Bool = λ l q. passes (same_symbol (symbols_under r) l) (leader (symbols_under r) q) in
      let t = passes_some (λ l. not (list_any (test l) ps)) (leader (symbols_under r) x) l (both _ (has_leaders (symbols_under r) ps) h).0 (ap (leader (symbols_under r)) (sym same) ∙ a) in
      no_two (list_any (test l) ps) (any_at (test l) ps (suc j) q f (ap (passes (same_symbol (symbols_under r) l)) b ∙ ap (λ z. is_equal (ranking_cmp r l z)) (sym n) ∙ ap is_equal (tied_itself (ranking_order r).total l))) (is_false (list_any (test l) ps) t)
  leaders_differ (x ∷ ps) (suc (suc i)) (suc (suc j)) p q l m h e f c a b n =
      leaders_differ ps (suc i) (suc j) p q l m (both (passes (λ l. not (list_any (λ q. passes (same_symbol (symbols_under r) l) (leader (symbols_under r) q)) ps)) (leader (symbols_under r) x)) (has_leaders (symbols_under r) ps) h).1 e f (omega arith) a b n

  -- and none is reducible by another
  reducible_at : (i j : ℕ) (p : Polynomial Symbol) (qs : Polynomials) (a : ℕ) (q : Polynomial Symbol) → reducible_by (symbols_under r) i j p qs ≡ false → at_place (suc a) qs ≡ Some q → (i ≡ j + a → ⊥) → is_reducible (symbols_under r) p q ≡ false
  reducible_at i j p [] a q h e n = cc
  reducible_at i j p (x ∷ qs) zero q h e n =
      let same : q ≡ x = cc in
      let b = or_none (not (i == j) && is_reducible (symbols_under r) p x) (reducible_by (symbols_under r) i (suc j) p qs) h in
      ap (is_reducible (symbols_under r) p) same ∙ not_both (not (i == j)) (is_reducible (symbols_under r) p x) b.0 (is_not i j (λ f. n (omega (arith, f))))
  reducible_at i j p (x ∷ qs) (suc a) q h e n =
      reducible_at i (suc j) p qs a q (or_none (not (i == j) && is_reducible (symbols_under r) p x) (reducible_by (symbols_under r) i (suc j) p qs) h).1 e (λ f. n (omega (arith, f)))

  autoreduced_at : (all : Polynomials) (i : ℕ) (ps : Polynomials) (a : ℕ) (p : Polynomial Symbol) → autoreduced_from (symbols_under r) all i ps ≡ true → at_place (suc a) ps ≡ Some p → reducible_by (symbols_under r) (i + a) 1 p all ≡ false
  autoreduced_at all i [] a p h e = cc
  autoreduced_at all i (x ∷ ps) zero p h e =
      let same : p ≡ x = cc in
      let b = both (not (reducible_by (symbols_under r) i 1 x all)) (autoreduced_from (symbols_under r) all (suc i) ps) h in
      ap₂ (λ n y. reducible_by (symbols_under r) n 1 y all) (let f : i + zero ≡ i = omega arith in f) same ∙ is_false (reducible_by (symbols_under r) i 1 x all) b.0
  autoreduced_at all i (x ∷ ps) (suc a) p h e =
      ap (λ n. reducible_by (symbols_under r) n 1 p all) (let f : i + suc a ≡ suc i + a = omega arith in f)
      ∙ autoreduced_at all (suc i) ps a p (both (not (reducible_by (symbols_under r) i 1 x all)) (autoreduced_from (symbols_under r) all (suc i) ps) h).1 e

  pub not_reducible : (es : Polynomials) (a b : ℕ) (p q : Polynomial Symbol) → is_autoreduced (symbols_under r) es ≡ true → at_place (suc a) es ≡ Some p → at_place (suc b) es ≡ Some q → (a ≡ b → ⊥) → is_reducible (symbols_under r) p q ≡ false
  not_reducible es a b p q h e f n = reducible_at (1 + a) 1 p es b q (autoreduced_at es 1 es a p h e) f (λ k. n (omega (arith, k)))

  -- where the leader of q divides that of p, p is reducible by q
  pub none_of : (test : Symbol → Bool) (vs : List Symbol) → list_any test vs ≡ false → AllOf (λ v. test v ≡ false) vs
  none_of test [] e = tt
  none_of test (v ∷ vs) e = let b = or_none (test v) (list_any test vs) e in (b.0, none_of test vs b.1)

  no_excess : (xs ys : List ℕ) → divides ys xs ≡ true → length xs ≡ length ys → sum (exponent_differences xs ys) ≡ 0 → xs ≡ ys
  no_excess [] [] d e z = refl
  no_excess [] (b ∷ ys) d e z = absurd (omega arith)
  no_excess (a ∷ xs) [] d e z = absurd (omega arith)
  no_excess (a ∷ xs) (b ∷ ys) d e z =
      let t = both (nat_le b a) (divides ys xs) d in
      let k : (a - b) + sum (exponent_differences xs ys) ≡ 0 = omega (arith, z, sum_by-cons (λ x. x) (a - b) (exponent_differences xs ys)) in
      ap₂ (λ (z : ℕ) (zs : List ℕ). z ∷ zs) (omega (arith, leb-true b a t.0)) (no_excess xs ys t.1 (omega arith) (omega arith))

  improper : (k : ℕ) → not (k == 0) ≡ false → k ≡ 0
  improper k f = by_test (k == 0) refl
    where
      by_test : (b : Bool) → (k == 0) ≡ b → k ≡ 0
      by_test true e = eqb-true k 0 e
      by_test false e = let g : true ≡ false = sym (ap not e) ∙ f in cc

  module _ (p q : Polynomial Symbol) (u : ℕ) (x y : Operator) where
    -- the operator that takes the one leader to the other
    abbrev tau : Operator
    tau = record { counts = exponent_differences x.counts y.counts }

    -- p has a step at v by q
    abbrev test : Symbol → Bool
    test v = passes (λ t. nat_le (step_degree (symbols_under r) t (Derivative u y) q) (degree (ranking_cmp r) v p)) (quotient v (Derivative u y))

    quotient_is : divides y.counts x.counts ≡ true → quotient (Derivative u x) (Derivative u y) ≡ Some tau
    quotient_is d = ap (λ b. cond b (Some (record { counts = exponent_differences x.counts y.counts })) None) (ap₂ (λ a b. a && b) (eq-eqb u u refl) d)

    step_reaches : (t : Bool) → is_proper tau ≡ t → divides y.counts x.counts ≡ true → length x.counts ≡ length y.counts → (Derivative u x ≡ Derivative u y → ⊥) → 1 ≤ degree (ranking_cmp r) (Derivative u x) p
        → nat_le (step_degree (symbols_under r) tau (Derivative u y) q) (degree (ranking_cmp r) (Derivative u x) p) ≡ true
    step_reaches true f d c n h = ap (λ t. nat_le (cond t 1 (degree (ranking_cmp r) (Derivative u y) q)) (degree (ranking_cmp r) (Derivative u x) p)) f ∙ le-leb 1 (degree (ranking_cmp r) (Derivative u x) p) h
    step_reaches false f d c n h = absurd (n (ap (λ (ks : List ℕ). Derivative u (record { counts = ks })) (no_excess x.counts y.counts d c (improper (sum (exponent_differences x.counts y.counts)) f))))

    pub not_divided : IsPolynomial (ranking_cmp r) p → leader (symbols_under r) p ≡ Some (Derivative u x) → leader (symbols_under r) q ≡ Some (Derivative u y) → length x.counts ≡ length y.counts
        → (Derivative u x ≡ Derivative u y → ⊥) → is_reducible (symbols_under r) p q ≡ false → divides y.counts x.counts ≡ false
    not_divided h a b c n e = by_test (divides y.counts x.counts) refl
      where
        by_test : (t : Bool) → divides y.counts x.counts ≡ t → divides y.counts x.counts ≡ false
        by_test false d = d
        by_test true d =
            let one = leader_degree r (Derivative u x) p h a in
            let none = none_of test (derivatives_of (symbols_under r) p) (sym (ap (passes (λ l. list_any (λ v. passes (λ t. nat_le (step_degree (symbols_under r) t l q) (degree (ranking_cmp r) v p)) (quotient v l)) (derivatives_of (symbols_under r) p))) b) ∙ e) in
            let no = occurring (symbols_under r) (ranking_order r) (λ v. test v ≡ false) (Derivative u x) p refl one none in
            absurd (no_two _ (step_reaches (is_proper tau) refl d c n one) (sym (ap (passes (λ t. nat_le (step_degree (symbols_under r) t (Derivative u y) q) (degree (ranking_cmp r) (Derivative u x) p))) (quotient_is d)) ∙ no))
