-- At a state at rest the order of work names the line of a chain.
use Rattle.std.specs.Prelude.{is_some}
use Rattle.std.specs.List.{list_all, list_any}
use Rattle.std.proofs.Common.{◌≡◌, ℕ, zero, suc, ◌+◌, ◌≤◌, ◌==◌, max, nat_le, Bool, true, false, not, ◌&&◌, ◌||◌, cond, List, [], ◌∷◌, refl, sym, ap, ap₂, ◌∙◌, Result, Ok, Err, Option, Some, None, pos, arith}
use Rattle.std.proofs.lemmas.Bool.{le-leb}
use Rattle.std.specs.Cmp.{tied_itself}
use Rattle.std.specs.Ordering.{match_ordering}
use Rattle.dz_algebra.specs.Monomial.{monomial_cmp}
use Rattle.dz_algebra.specs.Norm.{norm}
use Rattle.dz_algebra.specs.Parts.{degree, initial, is_ground, leader}
use Rattle.dz_algebra.specs.Polynomial.{Polynomial, collect, symbol_polynomial}
use Rattle.dz_algebra.specs.Size.{Refusal}
use Rattle.dz_algebra.specs.Symbols.{Symbols}
use Rattle.dz_rank.specs.Rankings.{RankingValue, ranking_cmp}
use Rattle.dz_rank.specs.Symbols.{is_derivative}
use Rattle.dz_rank.specs.declared.symbols.Symbol.{Symbol}
use Rattle.dz_monomials.specs.Ranked.{symbols_under}
use Rattle.dz_monomials.proofs.SymbolLaws.{ranking_order}
use Rattle.dz_monomials.specs.Lists.{AllOf}
use Rattle.dz_diff.specs.Operators.{quotient}
use Rattle.dz_diff.specs.Operations.{Setting, setting_of}
use Rattle.dz_algebra.specs.Outcome.{needs}
use Rattle.dz_diff.specs.Over.{AreOver}
use Rattle.dz_diff.specs.State.{State, at_place}
use Rattle.dz_diff.specs.States.{IsStateOf}
use Rattle.dz_diff.specs.Tests.{Polynomials, is_member, is_unit, is_zero, same}
use Rattle.dz_algebra.proofs.Outcomes.{both, is_false, then_ok}
use Rattle.dz_diff.proofs.Places.{taken}
use Rattle.dz_move.proofs.RootStates.{or_none}
use Rattle.dz_diff.proofs.SameTests.{same_itself}
use Rattle.dz_step.specs.declared.Role.TheVariants.{Equation, Inequation}
use Rattle.dz_step.specs.declared.Step.{Step}
use Rattle.dz_step.specs.declared.Which.{Which}
use Rattle.dz_step.specs.declared.Which.TheVariants.{Initial, Separant}
use Rattle.dz_monomials.specs.PowerDivision.{is_divided}
use Rattle.dz_step.specs.FullRun.{admits, derivatives_of, next_step, or_else}
use Rattle.dz_step.specs.Step.{multiplier_answer, permitted_if, step_degree, usable}
use Rattle.dz_step.proofs.NextSteps.{found_first}
use Rattle.dz_step.proofs.NoSteps.{no_step_at}
use Rattle.dz_pair.specs.Pair.{critical_pairs}
use Rattle.dz_tree.specs.Chain.{passes, has_leaders, is_reducible, reducible_by, autoreduced_from, is_autoreduced, separant_fits, has_permitted, is_reduced, same_pairs, chain_rule}
use Rattle.dz_move.specs.Lines.{chain, closed, Entry}
use Rattle.dz_move.specs.Moves.{divide, factor}
use Rattle.dz_engine.specs.Order.{line_alone, plain, first_place, first_symbol, symbols_of, closed_next, divide_next, reduce_next, factor_next, split_on, split_next, weed_next, pairs_next, first_of, next_entry}
use Rattle.dz_engine.specs.Resting.{IsAtRest}
use Rattle.dz_engine.proofs.EasyRules.{and_is, are_derivatives}
use Rattle.dz_move.proofs.KeptMembers.{all_give}
use Rattle.dz_engine.proofs.PairRules.{or_right}
use Rattle.dz_engine.proofs.RestingMultipliers.{member_at, none_there}
use Rattle.dz_engine.proofs.RestingPlaces.{all_pass, quotient_by_itself}
use Rattle.dz_move.proofs.StateFacts.{units_none}

-- ---- nothing is named
-- at no place
nothing_named : {A : Type 0} (named : ℕ → A → Option Entry) (n : ℕ) (xs : List A) → ((k : ℕ) (x : A) → at_place (suc k) xs ≡ Some x → named (suc (n + k)) x ≡ None) → first_place (suc n) named xs ≡ None
nothing_named named n [] h = refl
nothing_named named n (x ∷ xs) h =
    ap (λ o. or_else o (first_place (suc (suc n)) named xs)) (ap (λ k. named (suc k) x) (omega arith) ∙ h 0 x refl)
    ∙ nothing_named named (suc n) xs (λ k y a. ap (λ k. named (suc k) y) (omega arith) ∙ h (suc k) y a)

-- where the test fails
not_named : {A : Type 0} (b : Bool) (x : A) → b ≡ false → cond b (Some x) None ≡ None
not_named true x e = cc
not_named false x e = refl

-- by no symbol
no_symbol : (test : Symbol → Bool) (vs : List Symbol) → AllOf (λ v. test v ≡ false) vs → first_symbol test vs ≡ None
no_symbol test [] h = refl
no_symbol test (v ∷ vs) h = ap (λ b. cond b (Some v) (first_symbol test vs)) h.0 ∙ no_symbol test vs h.1

-- what holds of all symbols holds of those of a list
of_all : {A : Type 0} (P : A → Type 0) → ((x : A) → P x) → (xs : List A) → AllOf P xs
of_all P h [] = tt
of_all P h (x ∷ xs) = (h x, of_all P h xs)

-- the first of what there is, where there is nothing first
first_none : {A : Type 0} (o : Option A) (os : List (Option A)) (x : A) → o ≡ None → first_of (o ∷ os) x ≡ first_of os x
first_none None os x e = refl
first_none (Some y) os x e = cc

-- two tests of which one fails
and_not : (a b : Bool) → (a ≡ true → b ≡ true → ⊥) → (a && b) ≡ false
and_not true true h = absurd (h refl refl)
and_not true false h = refl
and_not false b h = refl

-- ---- what a chain without evidence says
record ChainParts (g : Setting) (s : State) : Type 0 where
  autoreduced : is_autoreduced g.symbols s.equations ≡ true
  fitting : AllOf (λ p. separant_fits g.symbols p ≡ true) s.equations
  permitted : AllOf (λ p. has_permitted g.symbols s p ≡ true) s.equations
  no_pairs : critical_pairs g.symbols s ≡ []

chain_parts : (g : Setting) (s : State) → chain_rule g s [] ≡ Ok tt → ChainParts g s
unfolding chain_rule
chain_parts g s e =
    let a = then_ok (has_leaders g.symbols s.equations) _ _ tt e in
    let b = then_ok (is_autoreduced g.symbols s.equations) _ _ tt a.1 in
    let c = then_ok (list_all (separant_fits g.symbols) s.equations) _ _ tt b.1 in
    let d = then_ok (list_all (has_permitted g.symbols s) s.equations) _ _ tt c.1 in
    let f = then_ok (list_all (is_reduced g.symbols s) s.inequations) _ _ tt d.1 in
    record {
      autoreduced = b.0;
      fitting = all_pass (separant_fits g.symbols) s.equations c.0;
      permitted = all_pass (has_permitted g.symbols s) s.equations d.0;
      no_pairs = by_pairs (critical_pairs g.symbols s) (needed (same_pairs [] (critical_pairs g.symbols s)) _ f.1);
    }
  where
    needed : {E : Type 0} (b : Bool) (k : E) → needs b k ≡ Ok tt → b ≡ true
    needed true k e = refl
    needed false k e = cc

    by_pairs : (ps : List (ℕ × ℕ)) → same_pairs [] ps ≡ true → ps ≡ []
    by_pairs [] e = refl
    by_pairs (p ∷ ps) e = cc

-- ---- autoreduced equations at their places
module _ (g : Symbols Symbol) where
  reducible_at : (i n : ℕ) (p : Polynomial Symbol) (qs : Polynomials) → reducible_by g i (suc n) p qs ≡ false → (k : ℕ) (q : Polynomial Symbol) → at_place (suc k) qs ≡ Some q → (not (i == suc (n + k)) && is_reducible g p q) ≡ false
  reducible_at i n p [] e k q a = cc
  reducible_at i n p (x ∷ qs) e zero q a =
      let y : x ≡ q = cc in
      ap (λ m. not (i == suc m) && is_reducible g p q) (omega arith) ∙ ap (λ q. not (i == suc n) && is_reducible g p q) (sym y) ∙ (or_none (not (i == suc n) && is_reducible g p x) (reducible_by g i (suc (suc n)) p qs) e).0
  reducible_at i n p (x ∷ qs) e (suc k) q a =
      ap (λ m. not (i == suc m) && is_reducible g p q) (omega arith) ∙ reducible_at i (suc n) p qs (or_none (not (i == suc n) && is_reducible g p x) (reducible_by g i (suc (suc n)) p qs) e).1 k q a

  autoreduced_at : (all : Polynomials) (n : ℕ) (ps : Polynomials) → autoreduced_from g all (suc n) ps ≡ true → (k : ℕ) (p : Polynomial Symbol) → at_place (suc k) ps ≡ Some p → reducible_by g (suc (n + k)) 1 p all ≡ false
  autoreduced_at all n [] e k p a = cc
  autoreduced_at all n (x ∷ ps) e zero p a =
      let y : x ≡ p = cc in
      ap (λ m. reducible_by g (suc m) 1 p all) (omega arith) ∙ ap (λ p. reducible_by g (suc n) 1 p all) (sym y) ∙ is_false _ (both (not (reducible_by g (suc n) 1 x all)) (autoreduced_from g all (suc (suc n)) ps) e).0
  autoreduced_at all n (x ∷ ps) e (suc k) p a =
      ap (λ m. reducible_by g (suc m) 1 p all) (omega arith) ∙ autoreduced_at all (suc n) ps (both (not (reducible_by g (suc n) 1 x all)) (autoreduced_from g all (suc (suc n)) ps) e).1 k p a

-- ---- a symbol as a polynomial
module _ (r : RankingValue) (v : Symbol) (d : is_derivative v ≡ true) where
  symbol_leads : leader (symbols_under r) (symbol_polynomial v) ≡ Some v
  symbol_leads = ap (λ b. cond b (Some v) None) d

  symbol_degree : degree (ranking_cmp r) v (symbol_polynomial v) ≡ 1
  symbol_degree = ap (λ o. max (match_ordering o 0 1 0) 0) (tied_itself (ranking_order r).total v)

  symbol_initial : initial (ranking_cmp r) v (symbol_polynomial v) ≡ ([], pos 1) ∷ []
  symbol_initial = ap (λ o. cond (match_ordering o 0 1 0 == max (match_ordering o 0 1 0) 0) ((match_ordering o ((v, 1) ∷ []) [] ((v, 1) ∷ []), pos 1) ∷ []) []) (tied_itself (ranking_order r).total v)

-- a test that a member of a list passes is passed by some
all_any : (vs : List Symbol) → AllOf (λ v. (test : Symbol → Bool) → test v ≡ true → list_any test vs ≡ true) vs
all_any [] = tt
all_any (v ∷ vs) = (
  λ test e. ap (λ b. b || list_any test vs) e,
  all_give (λ v. (test : Symbol → Bool) → test v ≡ true → list_any test vs ≡ true) (λ x. (test : Symbol → Bool) → test x ≡ true → list_any test (v ∷ vs) ≡ true) (λ x h test e. or_right (test v) _ (h test e)) vs (all_any vs),
)

-- ---- a state at rest
module _ (r : RankingValue) (few : r.signature.independents ≤ 4) (budget w : ℕ) (s : State) (over : AreOver r s.equations s.inequations) (facts : IsStateOf (symbols_under r) s) (rest : IsAtRest (setting_of r) s) where
  abbrev g : Symbols Symbol
  g = symbols_under r

  parts : ChainParts (setting_of r) s
  parts = chain_parts (setting_of r) s rest.is_chain

  -- no symbol that is an inequation divides an equation
  undivided_by : (i : ℕ) (p : Polynomial Symbol) → at_place i s.equations ≡ Some p → (v : Symbol) → (is_member g (symbol_polynomial v) s.inequations && is_divided g.cmp v p) ≡ false
  undivided_by i p a v = and_not _ _ (λ m d. by_kind (is_derivative v) refl m d)
    where
      by_kind : (b : Bool) → is_derivative v ≡ b → is_member g (symbol_polynomial v) s.inequations ≡ true → is_divided g.cmp v p ≡ true → ⊥
      by_kind false e m d =
          let j = member_at r (symbol_polynomial v) s.inequations m in
          let unit : is_unit g (symbol_polynomial v) ≡ true = ap (λ b. (not (b || false) && true) && true) e in
          let none : is_unit g (symbol_polynomial v) ≡ false = (taken (λ q. is_unit g q ≡ false) (suc j.0) (symbol_polynomial v) s.inequations j.1 (units_none r few s.inequations facts.no_unit)).0 in
          let z : true ≡ false = sym unit ∙ none in cc
      by_kind true e m d =
          let j = member_at r (symbol_polynomial v) s.inequations m in
          let q = symbol_polynomial v in
          let b : at_place i s.equations ≡ Some q = a ∙ ap (λ x. Some x) (rest.undivided i p v a e d) in
          let t = quotient_by_itself v e in
          let one = symbol_degree r v e in
          no_step_at r s (Inequation (suc j.0)) q (none_there _ (rest.weeded (suc j.0) q j.1)) v e (omega (arith, one)) i q v t.0 b (symbol_leads r v e) t.1
          (and_is _ _ (ap (λ b. nat_le (cond b 1 (degree g.cmp v q)) (degree g.cmp v q)) t.2 ∙ le-leb (degree g.cmp v q) (degree g.cmp v q) (omega arith))
          (ap (λ b. permitted_if g (usable (Inequation (suc j.0)) s.inequations) (multiplier_answer g (cond b Separant Initial) v q)) t.2
          ∙ ap (λ x. permitted_if g (usable (Inequation (suc j.0)) s.inequations) (Ok (collect (monomial_cmp g.cmp) x))) (symbol_initial r v e)))

  divides_nothing : divide_next (setting_of r) budget w s ≡ None
  divides_nothing = nothing_named _ 0 s.equations (λ k p a.
      ap (λ (o : Option Symbol). elim o as (λ _. Option Entry) [ None ↦ None | Some v ↦ Some (plain (setting_of r) budget w s (divide (suc (0 + k)) v)) ])
      (no_symbol _ (symbols_of g p) (of_all _ (undivided_by (suc k) p a) (symbols_of g p))))

  -- no equation admits a step in its role
  admits_nothing : (k : ℕ) (p : Polynomial Symbol) → at_place (suc k) s.equations ≡ Some p → admits (setting_of r) s (Equation (suc k)) p ≡ false
  admits_nothing k p a = by_step (next_step (setting_of r) s (Equation (suc k)) p) refl
    where
      irreducible : (j : ℕ) (q : Polynomial Symbol) → at_place (suc j) s.equations ≡ Some q → (not (suc k == suc j) && is_reducible g p q) ≡ false
      irreducible j q b =
          ap (λ m. not (suc k == suc m) && is_reducible g p q) (omega arith)
          ∙ reducible_at g (suc k) 0 p s.equations (ap (λ m. reducible_by g (suc m) 1 p s.equations) (omega arith) ∙ autoreduced_at g s.equations 0 s.equations parts.autoreduced k p a) j q b

      at_index : (i : ℕ) (q : Polynomial Symbol) → at_place i s.equations ≡ Some q → not (suc k == i) ≡ true → is_reducible g p q ≡ true → ⊥
      at_index zero q b c h = no_zero s.equations b
        where
          no_zero : (xs : Polynomials) → at_place zero xs ≡ Some q → ⊥
          no_zero [] a = cc
          no_zero (x ∷ xs) a = cc
      at_index (suc j) q b c h = let z : true ≡ false = sym (and_is _ _ c h) ∙ irreducible j q b in cc

      by_step : (o : Option Step) → next_step (setting_of r) s (Equation (suc k)) p ≡ o → is_some o ≡ false
      by_step None e = refl
      by_step (Some st) e = absurd (
          let x = found_first r s (Equation (suc k)) p (λ v. (test : Symbol → Bool) → test v ≡ true → list_any test (derivatives_of g p) ≡ true) st (derivatives_of g p) e (all_any (derivatives_of g p)) in
          let q = x.2 in
          let b = both (not (suc k == st.place) && nat_le (step_degree g st.operator q.top q.equation) (degree g.cmp x.0 p)) _ q.tests in
          let c = both (not (suc k == st.place)) (nat_le (step_degree g st.operator q.top q.equation) (degree g.cmp x.0 p)) b.0 in
          at_index q.index q.equation q.is_there (ap (λ i. not (suc k == i)) (omega (arith, q.place_is)) ∙ c.0)
          (ap (passes (λ l. list_any (λ v. passes (λ t. nat_le (step_degree g t l q.equation) (degree g.cmp v p)) (quotient v l)) (derivatives_of g p))) q.leader_is
          ∙ x.1 (λ v. passes (λ t. nat_le (step_degree g t q.top q.equation) (degree g.cmp v p)) (quotient v q.top)) (ap (passes (λ t. nat_le (step_degree g t q.top q.equation) (degree g.cmp x.0 p))) q.quotient_is ∙ c.1)))

  reduces_nothing : reduce_next (setting_of r) budget w s ≡ None
  reduces_nothing = nothing_named _ 0 s.equations (λ k p a. not_named _ _ (ap (λ i. admits (setting_of r) s (Equation (suc i)) p) (omega arith) ∙ admits_nothing k p a))

  -- no derivative can be factored out
  undivided_other : (i : ℕ) (p : Polynomial Symbol) → at_place i s.equations ≡ Some p → (v : Symbol) → is_derivative v ≡ true → (is_divided g.cmp v p && not (same g p (symbol_polynomial v)) && not (is_member g (symbol_polynomial v) s.inequations)) ≡ false
  undivided_other i p a v d = and_not _ _ (λ h _.
      let b = both (is_divided g.cmp v p) (not (same g p (symbol_polynomial v))) h in
      let equal : same g p (symbol_polynomial v) ≡ true = ap (same g p) (sym (rest.undivided i p v a d b.0)) ∙ same_itself r p in
      let z : true ≡ false = sym equal ∙ is_false _ b.1 in cc)

  factors_nothing : factor_next (setting_of r) budget w s ≡ None
  factors_nothing = nothing_named _ 0 s.equations (λ k p a.
      ap (λ (o : Option Symbol). elim o as (λ _. Option Entry) [ None ↦ None | Some v ↦ Some (plain (setting_of r) budget w s (factor (suc (0 + k)) v)) ])
      (no_symbol _ (derivatives_of g p) (all_give (λ v. is_derivative v ≡ true) _ (undivided_other (suc k) p a) (derivatives_of g p) (are_derivatives g p))))

  -- every multiplier is permitted, so that there is nothing to split on
  settled : (i : ℕ) (which : Which) (q : Result (Polynomial Symbol) Refusal) → permitted_if g s.inequations q ≡ true → split_on (setting_of r) budget w s i which q ≡ None
  settled i which (Err x) e = cc
  settled i which (Ok m) e = by_tests (is_ground g m) (is_zero m) (is_member g (norm m) s.equations) (is_member g (norm m) s.inequations) _ e
    where
      by_tests : (a z b c : Bool) (x : Entry) → (a && not z || c) ≡ true → cond (a || b || c) None (Some x) ≡ None
      by_tests true z b c x e = refl
      by_tests false z true c x e = refl
      by_tests false z false true x e = refl
      by_tests false z false false x e = cc

  splits_nothing : split_next (setting_of r) budget w s ≡ None
  splits_nothing = nothing_named _ 0 s.equations (λ k p a. by_leader (suc (0 + k)) p (leader g p) refl (taken (λ q. has_permitted g s q ≡ true) (suc k) p s.equations a parts.permitted).0)
    where
      by_leader : (i : ℕ) (p : Polynomial Symbol) (o : Option Symbol) → leader g p ≡ o → has_permitted g s p ≡ true
          → (elim o as (λ _. Option Entry) [ None ↦ None | Some l ↦ or_else (split_on (setting_of r) budget w s i Initial (multiplier_answer g Initial l p)) (split_on (setting_of r) budget w s i Separant (multiplier_answer g Separant l p)) ]) ≡ None
      by_leader i p None e h = refl
      by_leader i p (Some l) e h =
          let k : (permitted_if g s.inequations (multiplier_answer g Initial l p) && permitted_if g s.inequations (multiplier_answer g Separant l p)) ≡ true =
          sym (ap (passes (λ l. permitted_if g s.inequations (multiplier_answer g Initial l p) && permitted_if g s.inequations (multiplier_answer g Separant l p))) e) ∙ h in
          let b = both (permitted_if g s.inequations (multiplier_answer g Initial l p)) (permitted_if g s.inequations (multiplier_answer g Separant l p)) k in
          ap₂ or_else (settled i Initial (multiplier_answer g Initial l p) b.0) (settled i Separant (multiplier_answer g Separant l p) b.1)

  weeds_nothing : weed_next (setting_of r) budget w s ≡ None
  weeds_nothing = nothing_named _ 0 s.inequations (λ k h a. not_named _ _ (ap (λ i. admits (setting_of r) s (Inequation (suc i)) h) (omega arith) ∙ rest.weeded (suc k) h a))

  -- so the line is that of a chain
  pub chain_line : next_entry (setting_of r) budget w s ≡ line_alone chain
  unfolding next_entry
  chain_line =
      first_none (closed_next (setting_of r) s) _ _ (ap (λ b. cond b (Some (line_alone closed)) None) rest.unclosed)
      ∙ first_none (divide_next (setting_of r) budget w s) _ _ divides_nothing
      ∙ first_none (reduce_next (setting_of r) budget w s) _ _ reduces_nothing
      ∙ first_none (factor_next (setting_of r) budget w s) _ _ factors_nothing
      ∙ first_none (split_next (setting_of r) budget w s) _ _ splits_nothing
      ∙ first_none (weed_next (setting_of r) budget w s) [] _ weeds_nothing
      ∙ ap (pairs_next (setting_of r) budget s w []) parts.no_pairs
