-- Moves keep the solutions of a state, and forks share them out.
use Rattle.std.proofs.Common.{◌≡◌, ◌⊎◌, inl, inr, ℕ, zero, suc, ◌+◌, ◌==◌, nat_lt, true, false, not, ◌&&◌, ◌||◌, eq-eqb, List, [], ◌∷◌, ◌++◌, length, refl, sym, ap, ◌∙◌, arith, subst, Ok, Some}
use Rattle.std.proofs.lemmas.Bool.{not-true}
use Rattle.dz_algebra.specs.Norm.{norm}
use Rattle.dz_algebra.specs.Parts.{is_ground, leader}
use Rattle.dz_algebra.specs.Polynomial.{Polynomial, symbol_polynomial}
use Rattle.dz_algebra.specs.Ring.{product_zero, zero_product}
use Rattle.dz_algebra.specs.Value.{power}
use Rattle.dz_rank.specs.Rankings.{RankingValue, ranking_cmp}
use Rattle.dz_rank.specs.Symbols.{is_derivative}
use Rattle.dz_rank.specs.declared.symbols.Symbol.{Symbol}
use Rattle.dz_rank.specs.declared.symbols.Symbol.TheVariants.{Independent, Derivative}
use Rattle.dz_monomials.specs.Ranked.{symbols_under}
use Rattle.dz_monomials.proofs.SymbolLaws.{ranking_order}
use Rattle.dz_algebra.specs.Outcome.{numbered, told_as}
use Rattle.dz_monomials.specs.Lists.{AllOf, SomeOf}
use Rattle.dz_diff.specs.Tests.{Polynomials, has_unit, has_zero, is_member, is_unit, is_zero, same}
use Rattle.dz_diff.specs.Operations.{setting_of}
use Rattle.dz_diff.specs.State.{State, at_place, without_place, put_equation, put_inequation, limit_passed, same_state}
use Rattle.dz_move.specs.Root.{is_closed}
use Rattle.dz_algebra.proofs.Outcomes.{bind_ok, told_ok, then_ok, given_then, both, either}
use Rattle.dz_diff.proofs.Goodness.{Good, good_norm}
use Rattle.dz_diff.proofs.Places.{taken, put_back, put_all, put_parts, at_other, all-append, all_parts}
use Rattle.dz_diff.proofs.SameTests.{member_is}
use Rattle.dz_step.specs.declared.Which.{Which}
use Rattle.dz_step.specs.declared.Role.TheVariants.{Free, Equation, Inequation}
use Rattle.dz_step.specs.declared.Step.{Step}
use Rattle.dz_step.specs.Step.{multiplier_answer}
use Rattle.dz_step.specs.Run.{run}
use Rattle.dz_step.specs.FullRun.{admits}
use Rattle.dz_step.proofs.TakenSteps.{good_multiplier}
use Rattle.dz_pair.specs.Pair.{is_pair, delta_answer}
use Rattle.dz_pair.proofs.DeltaParts.{delta_parts, good_rest, good_delta}
use Rattle.dz_move.specs.Fault.{refusal, run_fault}
use Rattle.dz_monomials.specs.PowerDivision.{divisor_power, quotient_by, is_divided}
use Rattle.dz_move.specs.Moves.{Action, reduce, weed, add, divide, split, factor, Done, within, settled, with_equations, with_inequations, forked, moved, reduced, weeded, grown, divided_at, split_at, factored, perform}
use Rattle.dz_move.proofs.Quotients.{good_quotient}
use Rattle.dz_zeros.proofs.Meaning.{Meaning, Vanishes, Differs, val, value_difference, vanishes_product, vanishes_operator, norm_vanishes, unit_nonzero, value_quotient, value_symbol, power_zero, one_nonzero}
use Rattle.dz_zeros.proofs.Steps.{Serves, run_alike, less_nothing}

module _ {r : RankingValue} {R : Type 0} (m : Meaning r R) where
  -- the equations vanish and the inequations do not
  abbrev pub Solution : State → Type 0
  Solution s = AllOf (Vanishes m) s.equations × AllOf (Differs m) s.inequations

  -- all polynomials of a state are canonical, in the signature
  abbrev pub GoodState : State → Type 0
  GoodState s = AllOf (Good r) s.equations × AllOf (Good r) s.inequations

  -- states that have the solutions of one
  pub record Shares (s : State) (after : List State) : Type 0 where
    pub down : Solution s → SomeOf Solution after
    pub up : SomeOf Solution after → Solution s
    pub good : AllOf GoodState after

  -- ---- putting at a place
  equation_dropped : (p : Polynomial Symbol) (es : Polynomials) → (is_zero p || is_member (symbols_under r) p es) ≡ true → AllOf (Vanishes m) es → Vanishes m p
  equation_dropped p es e h = elim (either (is_zero p) (is_member (symbols_under r) p es) e) [ inl z ↦ zero_vanishes p z | inr k ↦ member_is (symbols_under r) (ranking_order r) (Vanishes m) p es k h ]
    where
      zero_vanishes : (p : Polynomial Symbol) → is_zero p ≡ true → Vanishes m p
      zero_vanishes [] z = refl
      zero_vanishes (t ∷ p) z = cc

  put_equation_all : (i : ℕ) (p : Polynomial Symbol) (es : Polynomials) → Vanishes m p → AllOf (Vanishes m) (without_place i es) → AllOf (Vanishes m) (put_equation (symbols_under r) i p es)
  put_equation_all i p es z h = put_all (Vanishes m) (is_zero p || is_member (symbols_under r) p (without_place i es)) i p es z h

  put_equation_parts : (i : ℕ) (x p : Polynomial Symbol) (es : Polynomials) → at_place i es ≡ Some x → AllOf (Vanishes m) (put_equation (symbols_under r) i p es) → Vanishes m p × AllOf (Vanishes m) (without_place i es)
  put_equation_parts i x p es e h = put_parts (Vanishes m) (is_zero p || is_member (symbols_under r) p (without_place i es)) i x p es e (equation_dropped p (without_place i es)) h

  put_equation_good : (i : ℕ) (p : Polynomial Symbol) (es : Polynomials) → Good r p → AllOf (Good r) (without_place i es) → AllOf (Good r) (put_equation (symbols_under r) i p es)
  put_equation_good i p es z h = put_all (Good r) (is_zero p || is_member (symbols_under r) p (without_place i es)) i p es z h

  inequation_dropped : (p : Polynomial Symbol) (hs : Polynomials) → Good r p → (is_unit (symbols_under r) p || is_member (symbols_under r) p hs) ≡ true → AllOf (Differs m) hs → Differs m p
  inequation_dropped p hs good e h = elim (either (is_unit (symbols_under r) p) (is_member (symbols_under r) p hs) e) [ inl u ↦ unit_nonzero m p good u | inr k ↦ member_is (symbols_under r) (ranking_order r) (Differs m) p hs k h ]

  put_inequation_all : (i : ℕ) (p : Polynomial Symbol) (hs : Polynomials) → Differs m p → AllOf (Differs m) (without_place i hs) → AllOf (Differs m) (put_inequation (symbols_under r) i p hs)
  put_inequation_all i p hs z h = put_all (Differs m) (is_unit (symbols_under r) p || is_member (symbols_under r) p (without_place i hs)) i p hs z h

  put_inequation_parts : (i : ℕ) (x p : Polynomial Symbol) (hs : Polynomials) → at_place i hs ≡ Some x → Good r p → AllOf (Differs m) (put_inequation (symbols_under r) i p hs) → Differs m p × AllOf (Differs m) (without_place i hs)
  put_inequation_parts i x p hs e good h = put_parts (Differs m) (is_unit (symbols_under r) p || is_member (symbols_under r) p (without_place i hs)) i x p hs e (inequation_dropped p (without_place i hs) good) h

  put_inequation_good : (i : ℕ) (p : Polynomial Symbol) (hs : Polynomials) → Good r p → AllOf (Good r) (without_place i hs) → AllOf (Good r) (put_inequation (symbols_under r) i p hs)
  put_inequation_good i p hs z h = put_all (Good r) (is_unit (symbols_under r) p || is_member (symbols_under r) p (without_place i hs)) i p hs z h

  -- ---- what an answer says
  settled_after : (k : ℕ) (ss : List State) (w : ℕ) (d : Done) → settled k ss w ≡ Ok d → ss ≡ d.after
  settled_after k ss w d e = let a = bind_ok (numbered k (within (limit_passed ss))) _ d e in cc

  moved_after : (s : State) (k : ℕ) (after : State) (w : ℕ) (d : Done) → moved (setting_of r) s k after w ≡ Ok d → (after ∷ []) ≡ d.after
  moved_after s k after w d e = settled_after k (after ∷ []) w d (then_ok (not (same_state (symbols_under r) s after)) _ _ d e).1

  -- ---- the moves
  -- what stands among the equations is
  pub good_equations : (s : State) → GoodState s → (j : ℕ) (q : Polynomial Symbol) → at_place j s.equations ≡ Some q → Good r q
  good_equations s good j q e = (taken (Good r) j q s.equations e good.0).0

  serves_equation : (s : State) (i : ℕ) → AllOf (Vanishes m) (without_place i s.equations) → AllOf (Differs m) s.inequations → Serves m s (Equation i)
  serves_equation s i h k = record {
    divisors = λ j q n e. at_other (Vanishes m) i j q s.equations (apart i j n) e h;
    multipliers = k;
  }
    where
      apart : (i j : ℕ) → not (i == j) ≡ true → i ≡ j → ⊥
      apart i j n e = let a = not-true (i == j) n in let b = eq-eqb i j e in cc

  serves_inequation : (s : State) (j : ℕ) → AllOf (Vanishes m) s.equations → AllOf (Differs m) (without_place j s.inequations) → Serves m s (Inequation j)
  serves_inequation s j h k = record {
    divisors = λ i q n e. (taken (Vanishes m) i q s.equations e h).0;
    multipliers = k;
  }

  -- a solution serves free runs
  pub serves_free : (s : State) → Solution s → Serves m s Free
  serves_free s h = record {
    divisors = λ i q n e. (taken (Vanishes m) i q s.equations e h.0).0;
    multipliers = h.1;
  }

  only : (P : State → Type 0) (s : State) → SomeOf P (s ∷ []) → P s
  only P s (inl h) = h
  only P s (inr h) = absurd h

  one_state : (s t : State) (ss : List State) → (t ∷ []) ≡ ss → (Solution s → Solution t) → (Solution t → Solution s) → GoodState t → Shares s ss
  one_state s t ss e down up good = subst (Shares s) e (record { down = λ h. inl (down h); up = λ h. up (only Solution t h); good = (good, tt) })

  reduced_shares : (s : State) (i : ℕ) (steps : List Step) (d : Done) → reduced (setting_of r) s i steps ≡ Ok d → GoodState s → Shares s d.after
  unfolding reduced
  reduced_shares s i steps d e good =
      let a = given_then (at_place i s.equations) _ _ d e in
      let f = a.0 in
      let b = bind_ok (told_as run_fault (run (setting_of r) s (Equation i) f steps)) _ d a.2 in
      let x = b.0 in
      let gs = taken (Good r) i f s.equations a.1 good.0 in
      let c = run_alike m s (Equation i) f steps x (told_ok run_fault (run (setting_of r) s (Equation i) f steps) x b.1) (good_equations s good) gs.0 in
      one_state s (with_equations s (put_equation (symbols_under r) i x.end s.equations)) d.after (moved_after s (length steps) _ (1 + x.count) d b.2)
      (λ h. let k = taken (Vanishes m) i f s.equations a.1 h.0 in
      (put_equation_all i x.end s.equations ((c.0 (serves_equation s i k.1 h.1)).1 k.0) k.1, h.1))
      (λ h. let k = put_equation_parts i f x.end s.equations a.1 h.0 in
      (put_back (Vanishes m) i f s.equations a.1 ((c.0 (serves_equation s i k.1 h.1)).0 k.0) k.1, h.1))
      (put_equation_good i x.end s.equations c.1 gs.1, good.1)

  weeded_shares : (s : State) (j : ℕ) (steps : List Step) (d : Done) → weeded (setting_of r) s j steps ≡ Ok d → GoodState s → Shares s d.after
  unfolding weeded
  weeded_shares s j steps d e good =
      let a = given_then (at_place j s.inequations) _ _ d e in
      let f = a.0 in
      let b = bind_ok (told_as run_fault (run (setting_of r) s (Inequation j) f steps)) _ d a.2 in
      let x = b.0 in
      let gs = taken (Good r) j f s.inequations a.1 good.1 in
      let c = run_alike m s (Inequation j) f steps x (told_ok run_fault (run (setting_of r) s (Inequation j) f steps) x b.1) (good_equations s good) gs.0 in
      one_state s (with_inequations s (put_inequation (symbols_under r) j x.end s.inequations)) d.after (moved_after s (length steps) _ (1 + x.count) d b.2)
      (λ h. let k = taken (Differs m) j f s.inequations a.1 h.1 in
      (h.0, put_inequation_all j x.end s.inequations (λ z. k.0 ((c.0 (serves_inequation s j h.0 k.1)).0 z)) k.1))
      (λ h. let k = put_inequation_parts j f x.end s.inequations a.1 c.1 h.1 in
      (h.0, put_back (Differs m) j f s.inequations a.1 (λ z. k.0 ((c.0 (serves_inequation s j h.0 k.1)).1 z)) k.1))
      (good.0, put_inequation_good j x.end s.inequations c.1 gs.1)

  -- ---- the Delta-polynomial
  delta_vanishes : (p q d : Polynomial Symbol) → delta_answer (setting_of r) p q ≡ Ok d → Good r p → Good r q → Vanishes m p → Vanishes m q → Vanishes m d
  delta_vanishes p q d e gp gq zp zq =
      elim (delta_parts r p q d e) [
        | inl h ↦ subst (Vanishes m) h refl
        | inr k ↦
            let zl = vanishes_product m k.second_separant k.first k.left k.left_is (vanishes_operator m k.first_operator p k.first k.first_is zp) in
            let zr = vanishes_product m k.first_separant k.second k.right k.right_is (vanishes_operator m k.second_operator q k.second k.second_is zq) in
            subst (Vanishes m) k.end_is (norm_vanishes m k.rest (good_rest r p q d k gp gq) (value_difference m k.left k.right k.rest k.rest_is ∙ less_nothing m (val m k.left) (val m k.right) zr ∙ zl))
      ]

  grown_shares : (s : State) (i j : ℕ) (steps : List Step) (d : Done) → grown (setting_of r) s i j steps ≡ Ok d → GoodState s → Shares s d.after
  unfolding grown
  grown_shares s i j steps d e good =
      let a0 = then_ok (nat_lt i j) _ _ d e in
      let a1 = given_then (at_place i s.equations) _ _ d a0.1 in
      let a2 = given_then (at_place j s.equations) _ _ d a1.2 in
      let a3 = then_ok (is_pair (symbols_under r) a1.0 a2.0) _ _ d a2.2 in
      let a4 = bind_ok (numbered 0 (told_as refusal (delta_answer (setting_of r) a1.0 a2.0))) _ d a3.1 in
      let is_delta = told_ok refusal (delta_answer (setting_of r) a1.0 a2.0) a4.0 (told_ok _ (told_as refusal (delta_answer (setting_of r) a1.0 a2.0)) a4.0 a4.1) in
      let a5 = bind_ok (told_as run_fault (run (setting_of r) s Free a4.0 steps)) _ d a4.2 in
      let x = a5.0 in
      let a6 = then_ok (not (is_zero x.end) && not (is_member (symbols_under r) x.end s.equations) && not (admits (setting_of r) s Free x.end)) _ _ d a5.2 in
      let gp = good_equations s good i a1.0 a1.1 in
      let gq = good_equations s good j a2.0 a2.1 in
      let c = run_alike m s Free a4.0 steps x (told_ok run_fault (run (setting_of r) s Free a4.0 steps) x a5.1) (good_equations s good) (good_delta r a1.0 a2.0 a4.0 is_delta gp gq) in
      one_state s (with_equations s (s.equations ++ x.end ∷ [])) d.after (settled_after (length steps) _ (1 + length a4.0 + x.count) d a6.1)
      (λ h. (
        all-append (Vanishes m) s.equations (x.end ∷ []) h.0
            ((c.0 (serves_free s h)).1 (delta_vanishes a1.0 a2.0 a4.0 is_delta gp gq (taken (Vanishes m) i a1.0 s.equations a1.1 h.0).0 (taken (Vanishes m) j a2.0 s.equations a2.1 h.0).0), tt),
        h.1,
      ))
      (λ h. ((all_parts (Vanishes m) s.equations (x.end ∷ []) h.0).0, h.1))
      (all-append (Good r) s.equations (x.end ∷ []) good.0 (c.1, tt), good.1)

  -- ---- division by a symbol
  symbol_vanishes : (v : Symbol) → Vanishes m (symbol_polynomial v) → m.at v ≡ m.ring.zero
  symbol_vanishes v z = sym (value_symbol m v) ∙ z

  -- a polynomial vanishes where the quotient does, and with it the symbol or the quotient
  quotient_up : (v : Symbol) (p : Polynomial Symbol) → Vanishes m (quotient_by (ranking_cmp r) v p) → Vanishes m p
  quotient_up v p z = value_quotient m v p ∙ ap (m.ring.product _) z ∙ product_zero m.ring _

  quotient_down : (v : Symbol) (p : Polynomial Symbol) → Vanishes m p → Vanishes m (symbol_polynomial v) ⊎ Vanishes m (quotient_by (ranking_cmp r) v p)
  quotient_down v p z =
      elim (m.no_divisors (power m.ring.arithmetic (m.at v) (divisor_power (ranking_cmp r) v p)) (val m (quotient_by (ranking_cmp r) v p)) (sym (value_quotient m v p) ∙ z)) [
        | inl f ↦ inl (value_symbol m v ∙ power_zero m (m.at v) (divisor_power (ranking_cmp r) v p) f (one_nonzero m))
        | inr f ↦ inr f
      ]

  symbol_up : (v : Symbol) (p : Polynomial Symbol) → is_divided (ranking_cmp r) v p ≡ true → Vanishes m (symbol_polynomial v) → Vanishes m p
  symbol_up v p e z = value_quotient m v p ∙ ap (λ x. m.ring.product x (val m (quotient_by (ranking_cmp r) v p))) (power_of_zero (divisor_power (ranking_cmp r) v p) (not-true (divisor_power (ranking_cmp r) v p == 0) e)) ∙ zero_product m.ring _
    where
      power_of_zero : (k : ℕ) → (k == 0) ≡ false → power m.ring.arithmetic (m.at v) k ≡ m.ring.zero
      power_of_zero zero f = cc
      power_of_zero (suc k) f = ap (λ x. m.ring.product x (power m.ring.arithmetic (m.at v) k)) (symbol_vanishes v z) ∙ zero_product m.ring _

  divided_shares : (s : State) (i : ℕ) (v : Symbol) (d : Done) → divided_at (setting_of r) s i v ≡ Ok d → GoodState s → Shares s d.after
  unfolding divided_at
  divided_shares s i v d e good =
      let a1 = given_then (at_place i s.equations) _ _ d e in
      let p = a1.0 in
      let a2 = then_ok (is_divided (ranking_cmp r) v p && is_member (symbols_under r) (symbol_polynomial v) s.inequations) _ _ d a1.2 in
      let b = both (is_divided (ranking_cmp r) v p) (is_member (symbols_under r) (symbol_polynomial v) s.inequations) a2.0 in
      let gs = taken (Good r) i p s.equations a1.1 good.0 in
      one_state s (with_equations s (put_equation (symbols_under r) i (quotient_by (ranking_cmp r) v p) s.equations)) d.after (settled_after 0 _ (1 + length (quotient_by (ranking_cmp r) v p)) d a2.1)
      (λ h. let k = taken (Vanishes m) i p s.equations a1.1 h.0 in (
        put_equation_all i (quotient_by (ranking_cmp r) v p) s.equations
            (elim (quotient_down v p k.0) [ inl z ↦ absurd (member_is (symbols_under r) (ranking_order r) (Differs m) (symbol_polynomial v) s.inequations b.1 h.1 z) | inr z ↦ z ]) k.1,
        h.1,
      ))
      (λ h. let k = put_equation_parts i p (quotient_by (ranking_cmp r) v p) s.equations a1.1 h.0 in
      (put_back (Vanishes m) i p s.equations a1.1 (quotient_up v p k.0) k.1, h.1))
      (put_equation_good i (quotient_by (ranking_cmp r) v p) s.equations (good_quotient r v p gs.0) gs.1, good.1)

  -- ---- forks
  two_states : (s t u : State) (ss : List State) → (t ∷ u ∷ []) ≡ ss → (Solution s → Solution t ⊎ Solution u) → (Solution t → Solution s) → (Solution u → Solution s) → GoodState t → GoodState u → Shares s ss
  two_states s t u ss e down left right gt gu =
      subst (Shares s) e (record { down = λ h. first (down h); up = back; good = (gt, (gu, tt)) })
    where
      first : Solution t ⊎ Solution u → SomeOf Solution (t ∷ u ∷ [])
      first (inl h) = inl h
      first (inr h) = inr (inl h)

      back : SomeOf Solution (t ∷ u ∷ []) → Solution s
      back (inl h) = left h
      back (inr (inl h)) = right h
      back (inr (inr h)) = absurd h

  split_shares : (s : State) (i : ℕ) (which : Which) (d : Done) → split_at (setting_of r) s i which ≡ Ok d → GoodState s → Shares s d.after
  unfolding split_at
  split_shares s i which d e good =
      let a1 = given_then (at_place i s.equations) _ _ d e in
      let p = a1.0 in
      let a2 = given_then (leader (symbols_under r) p) _ _ d a1.2 in
      let a3 = bind_ok (numbered 0 (told_as refusal (multiplier_answer (symbols_under r) which a2.0 p))) _ d a2.2 in
      let x = a3.0 in
      let h = norm x in
      let a4 = then_ok (not (is_ground (symbols_under r) x) && not (is_member (symbols_under r) h s.equations) && not (is_member (symbols_under r) h s.inequations)) _ _ d a3.2 in
      let gh = good_norm r x (good_multiplier r which a2.0 p x (told_ok refusal (multiplier_answer (symbols_under r) which a2.0 p) x (told_ok _ (told_as refusal (multiplier_answer (symbols_under r) which a2.0 p)) x a3.1)) (good_equations s good i p a1.1)) in
      two_states s (forked s s.equations (s.inequations ++ h ∷ [])) (forked s (s.equations ++ h ∷ []) s.inequations) d.after (settled_after 0 _ (1 + length h) d a4.1)
      (λ k. elim (m.decide (val m h)) [
        | inl z ↦ inr (all-append (Vanishes m) s.equations (h ∷ []) k.0 (z, tt), k.1)
        | inr z ↦ inl (k.0, all-append (Differs m) s.inequations (h ∷ []) k.1 (z, tt))
      ])
      (λ k. (k.0, (all_parts (Differs m) s.inequations (h ∷ []) k.1).0))
      (λ k. ((all_parts (Vanishes m) s.equations (h ∷ []) k.0).0, k.1))
      (good.0, all-append (Good r) s.inequations (h ∷ []) good.1 (gh, tt))
      (all-append (Good r) s.equations (h ∷ []) good.0 (gh, tt), good.1)

  symbol_good : (v : Symbol) → is_derivative v ≡ true → Good r (symbol_polynomial v)
  symbol_good (Independent j) e = cc
  symbol_good (Derivative u t) e = (((λ f. cc), (omega arith, tt, tt), tt, tt), ((tt, tt), tt))

  factored_shares : (s : State) (i : ℕ) (v : Symbol) (d : Done) → factored (setting_of r) s i v ≡ Ok d → GoodState s → Shares s d.after
  unfolding factored
  factored_shares s i v d e good =
      let a1 = given_then (at_place i s.equations) _ _ d e in
      let p = a1.0 in
      let w = symbol_polynomial v in
      let q = quotient_by (ranking_cmp r) v p in
      let a2 = then_ok (is_derivative v && is_divided (ranking_cmp r) v p && not (same (symbols_under r) p w) && not (is_member (symbols_under r) w s.inequations)) _ _ d a1.2 in
      let b1 = both (is_derivative v && is_divided (ranking_cmp r) v p && not (same (symbols_under r) p w)) (not (is_member (symbols_under r) w s.inequations)) a2.0 in
      let b2 = both (is_derivative v && is_divided (ranking_cmp r) v p) (not (same (symbols_under r) p w)) b1.0 in
      let b3 = both (is_derivative v) (is_divided (ranking_cmp r) v p) b2.0 in
      let gw = symbol_good v b3.0 in
      let gs = taken (Good r) i p s.equations a1.1 good.0 in
      two_states s (forked s (put_equation (symbols_under r) i q s.equations) (s.inequations ++ w ∷ [])) (forked s (put_equation (symbols_under r) i w s.equations) s.inequations) d.after (settled_after 0 _ (1 + length q) d a2.1)
      (λ h. let k = taken (Vanishes m) i p s.equations a1.1 h.0 in
      elim (m.decide (val m w)) [
        | inl z ↦ inr (put_equation_all i w s.equations z k.1, h.1)
        | inr z ↦ inl (put_equation_all i q s.equations (elim (quotient_down v p k.0) [ inl y ↦ absurd (z y) | inr y ↦ y ]) k.1, all-append (Differs m) s.inequations (w ∷ []) h.1 (z, tt))
      ])
      (λ h. let k = put_equation_parts i p q s.equations a1.1 h.0 in
      (put_back (Vanishes m) i p s.equations a1.1 (quotient_up v p k.0) k.1, (all_parts (Differs m) s.inequations (w ∷ []) h.1).0))
      (λ h. let k = put_equation_parts i p w s.equations a1.1 h.0 in
      (put_back (Vanishes m) i p s.equations a1.1 (symbol_up v p b3.1 k.0) k.1, h.1))
      (put_equation_good i q s.equations (good_quotient r v p gs.0) gs.1, all-append (Good r) s.inequations (w ∷ []) good.1 (gw, tt))
      (put_equation_good i w s.equations gw gs.1, good.1)

  -- the states after an action share the solutions
  pub perform_shares : (s : State) (action : Action) (d : Done) → perform (setting_of r) s action ≡ Ok d → GoodState s → Shares s d.after
  perform_shares s (reduce i steps) d e good = reduced_shares s i steps d e good
  perform_shares s (weed j steps) d e good = weeded_shares s j steps d e good
  perform_shares s (add i j steps) d e good = grown_shares s i j steps d e good
  perform_shares s (divide i v) d e good = divided_shares s i v d e good
  perform_shares s (split i which) d e good = split_shares s i which d e good
  perform_shares s (factor i v) d e good = factored_shares s i v d e good

  -- a closed state has no solution
  pub closed_has_none : (s : State) → is_closed (symbols_under r) s ≡ true → GoodState s → Solution s → ⊥
  closed_has_none s e good h =
      elim (either (has_unit (symbols_under r) s.equations) (has_zero s.inequations) e) [
        | inl u ↦ no_units s.equations u good.0 h.0
        | inr z ↦ no_zeros s.inequations z h.1
      ]
    where
      no_units : (es : Polynomials) → has_unit (symbols_under r) es ≡ true → AllOf (Good r) es → AllOf (Vanishes m) es → ⊥
      no_units [] u gs h = cc
      no_units (p ∷ ps) u gs h = elim (either (is_unit (symbols_under r) p) (has_unit (symbols_under r) ps) u) [ inl f ↦ unit_nonzero m p gs.0 f h.0 | inr f ↦ no_units ps f gs.1 h.1 ]

      zero_at : (p : Polynomial Symbol) → is_zero p ≡ true → Vanishes m p
      zero_at [] z = refl
      zero_at (t ∷ p) z = cc

      no_zeros : (hs : Polynomials) → has_zero hs ≡ true → AllOf (Differs m) hs → ⊥
      no_zeros [] z h = cc
      no_zeros (p ∷ ps) z h = elim (either (is_zero p) (has_zero ps) z) [ inl f ↦ h.0 (zero_at p f) | inr f ↦ no_zeros ps f h.1 ]
