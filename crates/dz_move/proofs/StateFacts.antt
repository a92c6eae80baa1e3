-- Moves and forks keep the facts of a state.
use Rattle.std.proofs.Common.{◌≡◌, ◌≤◌, ℕ, zero, suc, ◌+◌, ◌-◌, Bool, true, false, not, ◌&&◌, ◌||◌, nat_lt, cond, List, [], ◌∷◌, ◌++◌, length, refl, sym, ap, ap₂, ◌∙◌, subst, Ok, Option, Some, None, ℤ, pos}
use Rattle.std.specs.Prelude.{int_div, int_lt, neg_ℤ, unsigned_abs}
use Rattle.std.specs.List.{IsDistinct, AllByRecursion}
use Rattle.dz_algebra.specs.declared.Limit.{Limit}
use Rattle.dz_algebra.specs.declared.Limit.TheVariants as limits
use Rattle.dz_algebra.specs.Norm.{content, divided, gcd, norm, signed_content}
use Rattle.dz_algebra.specs.Monomial.{exponent, without}
use Rattle.dz_algebra.specs.Parts.{has_derivative, is_ground, leader}
use Rattle.dz_algebra.specs.Polynomial.{Polynomial, symbol_polynomial}
use Rattle.dz_algebra.specs.Symbols.{Symbols}
use Rattle.dz_algebra.proofs.NormLaws.{norm_idempotent}
use Rattle.dz_rank.specs.Rankings.{RankingValue, ranking_cmp}
use Rattle.dz_rank.specs.Symbols.{is_derivative}
use Rattle.dz_rank.specs.declared.symbols.Symbol.{Symbol}
use Rattle.dz_monomials.specs.Ranked.{symbols_under}
use Rattle.dz_monomials.proofs.SymbolLaws.{ranking_order}
use Rattle.dz_monomials.specs.Lists.{AllOf}
use Rattle.dz_diff.specs.Operations.{setting_of}
use Rattle.dz_algebra.specs.Outcome.{numbered, told_as}
use Rattle.dz_diff.specs.Over.{AreOver, IsOver}
use Rattle.dz_diff.specs.Tests.{Polynomials, has_unit, has_zero, is_member, is_unit, is_zero, same}
use Rattle.dz_diff.specs.State.{State, at_place, limit_passed, member_count, put_equation, put_inequation, replaced, same_state, some_passes, term_count, without_place}
use Rattle.dz_diff.specs.States.{IsStateOf}
use Rattle.dz_algebra.proofs.Outcomes.{bind_ok, both, given_then, is_false, ok_same, then_ok, told_ok}
use Rattle.dz_diff.proofs.Overs.{good_over}
use Rattle.dz_diff.proofs.Places.{put_all, taken}
use Rattle.dz_move.proofs.RootStates.{AreKept, all_push, distinct_push, no_units, no_zeros, or_none, root_is_state, same_back}
use Rattle.dz_step.specs.declared.Role.{Role}
use Rattle.dz_step.specs.declared.Role.TheVariants.{Free, Equation, Inequation}
use Rattle.dz_step.specs.declared.Step.{Step}
use Rattle.dz_monomials.specs.PowerDivision.{divided_by, divisor_power, is_divided, quotient_by, with_exponent}
use Rattle.dz_step.specs.FullRun.{admits}
use Rattle.dz_step.specs.Run.{Ran, run, run_from}
use Rattle.dz_step.specs.Step.{multiplier_answer, step_in}
use Rattle.dz_monomials.proofs.QuotientsByPowers.{quotient_is}
use Rattle.dz_step.proofs.TakenSteps.{good_difference_of, good_multiplier, taken_step}
use Rattle.dz_pair.specs.Pair.{delta_answer, is_pair}
use Rattle.dz_move.specs.Fault.{refusal, run_fault}
use Rattle.dz_move.specs.Moves.{Action, Done, reduce, weed, add, divide, split, factor, divided_at, factored, forked, grown, perform, reduced, settled, split_at, weeded, with_equations, with_inequations, within}
use Rattle.dz_move.proofs.RootFacts.{root_within}
use Rattle.dz_move.specs.Laws.{StateLaws}
use Rattle.dz_move.specs.Standing.{IsStateOver, MayStand}
use Rattle.dz_move.proofs.KeepableStates.{keepables_over, perform_stands, root_stands}
use Rattle.dz_move.proofs.KeptMembers.{all_give}
use Rattle.dz_diff.proofs.OverOperations.{norm_over}
use Rattle.dz_step.proofs.OverSteps.{step_over}
use Rattle.dz_pair.proofs.OverDeltas.{delta_over}
use Rattle.dz_move.proofs.OverStates.{StateOver}

-- ---- lists without repeats, at their places
each_without : (P : Polynomial Symbol → Type 0) (i : ℕ) (ps : Polynomials) → AllByRecursion P ps → AllByRecursion P (without_place i ps)
each_without P i [] h = h
each_without P zero (p ∷ ps) h = h
each_without P (suc zero) (p ∷ ps) h = h.1
each_without P (suc (suc i)) (p ∷ ps) h = (h.0, each_without P (suc i) ps h.1)

each_replaced : (P : Polynomial Symbol → Type 0) (i : ℕ) (q : Polynomial Symbol) (ps : Polynomials) → AllByRecursion P ps → P q → AllByRecursion P (replaced i q ps)
each_replaced P i q [] h k = h
each_replaced P zero q (p ∷ ps) h k = h
each_replaced P (suc zero) q (p ∷ ps) h k = (k, h.1)
each_replaced P (suc (suc i)) q (p ∷ ps) h k = (h.0, each_replaced P (suc i) q ps h.1 k)

all_without : (P : Polynomial Symbol → Type 0) (i : ℕ) (ps : Polynomials) → AllOf P ps → AllOf P (without_place i ps)
all_without P i [] h = h
all_without P zero (p ∷ ps) h = h
all_without P (suc zero) (p ∷ ps) h = h.1
all_without P (suc (suc i)) (p ∷ ps) h = (h.0, all_without P (suc i) ps h.1)

-- a zero polynomial is none of a list without zeros
pub zeros_none : (ps : Polynomials) → has_zero ps ≡ false → AllOf (λ p. is_zero p ≡ false) ps
zeros_none [] e = tt
zeros_none (p ∷ ps) e = let two = or_none (is_zero p) (has_zero ps) e in (two.0, zeros_none ps two.1)

-- ---- limits
passed_none : (a b c : Bool) → cond a (Some limits.Polynomials) (cond b (Some limits.Node) (cond c (Some limits.Splits) None)) ≡ None → (a ≡ false) × (b ≡ false) × (c ≡ false)
passed_none true b c e = cc
passed_none false true c e = cc
passed_none false false true e = cc
passed_none false false false e = (refl, refl, refl)

none_passed : (a b c : Bool) → a ≡ false → b ≡ false → c ≡ false → cond a (Some limits.Polynomials) (cond b (Some limits.Node) (cond c (Some limits.Splits) None)) ≡ None
none_passed a b c e f h = ap (λ x. cond x (Some limits.Polynomials) (cond b (Some limits.Node) (cond c (Some limits.Splits) None))) e ∙ ap (λ x. cond x (Some limits.Node) (cond c (Some limits.Splits) None)) f ∙ ap (λ x. cond x (Some limits.Splits) None) h

-- each of some states passes no limit where all of them pass none
each_within : (ss : List State) → limit_passed ss ≡ None → AllOf (λ s. limit_passed (s ∷ []) ≡ None) ss
each_within [] e = tt
each_within (s ∷ ss) e =
    let three = passed_none (nat_lt 256 (member_count s) || some_passes member_count 256 ss) (nat_lt 65536 (term_count s) || some_passes term_count 65536 ss) (nat_lt 200 s.splits || some_passes (λ s. s.splits) 200 ss) e in
    let a = or_none (nat_lt 256 (member_count s)) (some_passes member_count 256 ss) three.0 in
    let b = or_none (nat_lt 65536 (term_count s)) (some_passes term_count 65536 ss) three.1 in
    let c = or_none (nat_lt 200 s.splits) (some_passes (λ s. s.splits) 200 ss) three.2 in (
      none_passed (nat_lt 256 (member_count s) || false) (nat_lt 65536 (term_count s) || false) (nat_lt 200 s.splits || false) (ap (λ x. x || false) a.0) (ap (λ x. x || false) b.0) (ap (λ x. x || false) c.0),
      each_within ss (none_passed (some_passes member_count 256 ss) (some_passes term_count 65536 ss) (some_passes (λ s. s.splits) 200 ss) a.1 b.1 c.1),
    )

within_none : (o : Option Limit) → within o ≡ Ok tt → o ≡ None
within_none None e = refl
within_none (Some limit) e = cc

-- states that are settled pass no limit, and are the states after
settled_is : (k : ℕ) (ss : List State) (w : ℕ) (d : Done) → settled k ss w ≡ Ok d → (limit_passed ss ≡ None) × (d.after ≡ ss)
settled_is k ss w d e =
    let a = bind_ok (numbered k (within (limit_passed ss))) _ d e in
    (within_none (limit_passed ss) (told_ok _ (within (limit_passed ss)) tt a.1), ap (λ (x : Done). x.after) (sym (ok_same (record { after = ss; weight = w }) d a.2)))

-- two things of each member
pub all_two : {A : Type 0} (P Q : A → Type 0) (xs : List A) → AllOf P xs → AllOf Q xs → AllOf (λ x. P x × Q x) xs
all_two P Q [] h k = tt
all_two P Q (x ∷ xs) h k = ((h.0, k.0), all_two P Q xs h.1 k.1)

module _ (r : RankingValue) (few : r.signature.independents ≤ 4) where
  abbrev g : Symbols Symbol
  g = symbols_under r

  pub units_none : (ps : Polynomials) → has_unit g ps ≡ false → AllOf (λ p. is_unit g p ≡ false) ps
  units_none [] e = tt
  units_none (p ∷ ps) e = let two = or_none (is_unit g p) (has_unit g ps) e in (two.0, units_none ps two.1)

  -- ---- lists
  -- without one of its places a list has no repeat either
  distinct_without : (i : ℕ) (ps : Polynomials) → IsDistinct (same g) ps → IsDistinct (same g) (without_place i ps)
  unfolding IsDistinct
  distinct_without i [] h = h
  distinct_without zero (p ∷ ps) h = h
  distinct_without (suc zero) (p ∷ ps) h = h.1
  distinct_without (suc (suc i)) (p ∷ ps) h = (each_without (λ q. same g p q ≡ false) (suc i) ps h.0, distinct_without (suc i) ps h.1)

  -- what is no member differs from each
  each_other : (p : Polynomial Symbol) (ps : Polynomials) → is_member g p ps ≡ false → AllByRecursion (λ q. same g p q ≡ false) ps
  each_other p [] e = tt
  each_other p (q ∷ ps) e = let two = or_none (same g p q) (is_member g p ps) e in (two.0, each_other p ps two.1)

  -- nor has it one where the place is taken by what is no other member
  distinct_replaced : (i : ℕ) (p : Polynomial Symbol) (ps : Polynomials) → IsDistinct (same g) ps → is_member g p (without_place i ps) ≡ false → IsDistinct (same g) (replaced i p ps)
  unfolding IsDistinct
  distinct_replaced i p [] h e = h
  distinct_replaced zero p (q ∷ ps) h e = h
  distinct_replaced (suc zero) p (q ∷ ps) h e = (each_other p ps e, h.1)
  distinct_replaced (suc (suc i)) p (q ∷ ps) h e =
      let two = or_none (same g p q) (is_member g p (without_place (suc i) ps)) e in
      (each_replaced (λ x. same g q x ≡ false) (suc i) p ps h.0 (same_back r p q two.0), distinct_replaced (suc i) p ps h.1 two.1)

  -- a test drops none of these, which are norms and have no repeat
  abbrev Kept : (Polynomial Symbol → Bool) → Polynomials → Type 0
  Kept d ps = AreKept r d ps

  kept_without : (d : Polynomial Symbol → Bool) (i : ℕ) (ps : Polynomials) → Kept d ps → Kept d (without_place i ps)
  kept_without d i ps h = record {
    normalised = all_without (λ p. norm p ≡ p) i ps h.normalised;
    distinct = distinct_without i ps h.distinct;
    none_dropped = all_without (λ p. d p ≡ false) i ps h.none_dropped;
  }

  -- with a norm put at a place
  kept_put : (d : Polynomial Symbol → Bool) (i : ℕ) (p : Polynomial Symbol) (ps : Polynomials) → norm p ≡ p → Kept d ps → Kept d (cond (d p || is_member g p (without_place i ps)) (without_place i ps) (replaced i p ps))
  kept_put d i p ps n h = by_tests (d p) (is_member g p (without_place i ps)) refl refl
    where
      by_tests : (a b : Bool) → d p ≡ a → is_member g p (without_place i ps) ≡ b → AreKept r d (cond (a || b) (without_place i ps) (replaced i p ps))
      by_tests true b e f = kept_without d i ps h
      by_tests false true e f = kept_without d i ps h
      by_tests false false e f = record {
        normalised = put_all (λ p. norm p ≡ p) false i p ps n (all_without (λ p. norm p ≡ p) i ps h.normalised);
        distinct = distinct_replaced i p ps h.distinct f;
        none_dropped = put_all (λ p. d p ≡ false) false i p ps e (all_without (λ p. d p ≡ false) i ps h.none_dropped);
      }

  -- with a norm behind them
  kept_push : (d : Polynomial Symbol → Bool) (p : Polynomial Symbol) (ps : Polynomials) → norm p ≡ p → d p ≡ false → is_member g p ps ≡ false → Kept d ps → Kept d (ps ++ p ∷ [])
  kept_push d p ps n e f h = record {
    normalised = all_push (λ p. norm p ≡ p) ps p h.normalised n;
    distinct = distinct_push r ps p h.distinct f;
    none_dropped = all_push (λ p. d p ≡ false) ps p h.none_dropped e;
  }

  -- ---- states
  equations_kept : (s : State) → IsStateOf g s → Kept is_zero s.equations
  equations_kept s h = record { normalised = h.equations_normalised; distinct = h.equations_distinct; none_dropped = zeros_none s.equations h.no_zero }

  inequations_kept : (s : State) → IsStateOf g s → Kept (is_unit g) s.inequations
  inequations_kept s h = record { normalised = h.inequations_normalised; distinct = h.inequations_distinct; none_dropped = units_none s.inequations h.no_unit }

  facts_of : (s : State) → Kept is_zero s.equations → Kept (is_unit g) s.inequations → limit_passed (s ∷ []) ≡ None → IsStateOf g s
  facts_of s es hs e = record {
    equations_normalised = es.normalised;
    inequations_normalised = hs.normalised;
    equations_distinct = es.distinct;
    inequations_distinct = hs.distinct;
    no_zero = no_zeros s.equations es.none_dropped;
    no_unit = no_units r s.inequations hs.none_dropped;
    within_limits = e;
  }

  -- ---- norms
  -- the result of a step is a norm
  step_normal : (s : State) (role : Role) (f x : Polynomial Symbol) (st : Step) → AllOf (IsOver r) s.equations → IsOver r f → step_in (setting_of r) s role f st ≡ Ok x → norm x ≡ x
  step_normal s role f x st over of_f e =
      let k = taken_step r s role f st x e in
      let rest = good_difference_of r s role f st x k (λ j q h. good_over r q (taken (IsOver r) j q s.equations h over).0) (good_over r f of_f) in
      ap norm (sym (k.parts).end_is) ∙ norm_idempotent (ranking_cmp r) (k.parts).rest rest.0 ∙ (k.parts).end_is

  run_from_normal : (s : State) (role : Role) (n : ℕ) (f : Polynomial Symbol) (count : ℕ) (steps : List Step) (x : Ran) → AllOf (IsOver r) s.equations → IsOver r f → norm f ≡ f → run_from (setting_of r) s role n f count steps ≡ Ok x → norm x.end ≡ x.end
  run_from_normal s role n f count [] x over of_f nf e = subst (λ (y : Ran). norm y.end ≡ y.end) (ok_same (record { end = f; count = count }) x e) nf
  run_from_normal s role n f count (st ∷ steps) x over of_f nf e =
      let a = bind_ok (numbered n (step_in (setting_of r) s role f st)) _ x e in
      let taken = told_ok _ (step_in (setting_of r) s role f st) a.0 a.1 in
      run_from_normal s role (suc n) a.0 (count + 1 + length a.0) steps x over (step_over r few s role f a.0 st over of_f taken) (step_normal s role f a.0 st over of_f taken) a.2

  -- so is the end of a run
  run_normal : (s : State) (role : Role) (f : Polynomial Symbol) (steps : List Step) (x : Ran) → AllOf (IsOver r) s.equations → IsOver r f → told_as run_fault (run (setting_of r) s role f steps) ≡ Ok x → norm x.end ≡ x.end
  run_normal s role f steps x over of_f e = run_from_normal s role 1 (norm f) 0 steps x over (norm_over r few f of_f) (norm_idempotent (ranking_cmp r) f of_f.canonical) (told_ok run_fault (run (setting_of r) s role f steps) x e)

  -- division by a power of a symbol leaves the coefficients
  divided_content : (v : Symbol) (k : ℕ) (p : Polynomial Symbol) → content (divided_by (ranking_cmp r) v k p) ≡ content p
  divided_content v k [] = refl
  divided_content v k (t ∷ p) = ap (gcd (unsigned_abs t.1)) (divided_content v k p)

  divided_signed : (v : Symbol) (k : ℕ) (p : Polynomial Symbol) → signed_content (divided_by (ranking_cmp r) v k p) ≡ signed_content p
  divided_signed v k [] = refl
  divided_signed v k (t ∷ p) = ap (λ n. cond (int_lt t.1 (pos 0)) (neg_ℤ (pos n)) (pos n)) (divided_content v k (t ∷ p))

  divided_same : (c : ℤ) (v : Symbol) (k : ℕ) (p : Polynomial Symbol) → divided c p ≡ p → divided c (divided_by (ranking_cmp r) v k p) ≡ divided_by (ranking_cmp r) v k p
  divided_same c v k [] e = refl
  divided_same c v k (t ∷ p) e =
      let first : int_div t.1 c ≡ t.1 = cc in
      let rest : divided c p ≡ p = cc in
      ap₂ (λ (x : ℤ) (q : Polynomial Symbol). (with_exponent (ranking_cmp r) v (exponent (ranking_cmp r) v t.0 - k) (without (ranking_cmp r) v t.0), x) ∷ q) first (divided_same c v k p rest)

  -- so the quotient of a norm by a power of a symbol is one
  quotient_normal : (v : Symbol) (p : Polynomial Symbol) → IsOver r p → norm p ≡ p → norm (quotient_by (ranking_cmp r) v p) ≡ quotient_by (ranking_cmp r) v p
  unfolding norm
  quotient_normal v p h n =
      let k = divisor_power (ranking_cmp r) v p in
      let is = quotient_is (ranking_order r) v k p h.canonical refl in
      ap norm is ∙ ap (λ c. divided c (divided_by (ranking_cmp r) v k p)) (divided_signed v k p) ∙ divided_same (signed_content p) v k p n ∙ sym is

  -- a symbol is one, and a derivative is not ground
  symbol_normal : (v : Symbol) → norm (symbol_polynomial v) ≡ symbol_polynomial v
  unfolding norm gcd
  symbol_normal v = refl

  symbol_no_unit : (v : Symbol) → is_derivative v ≡ true → is_unit g (symbol_polynomial v) ≡ false
  symbol_no_unit v e = ap (λ b. (not (b || false) && true) && true) e

  -- a norm has the derivatives of its polynomial
  divided_ground : (c : ℤ) (p : Polynomial Symbol) → is_ground g (divided c p) ≡ is_ground g p
  divided_ground c [] = refl
  divided_ground c (t ∷ p) = ap (λ b. not (has_derivative g t.0) && b) (divided_ground c p)

  norm_no_unit : (p : Polynomial Symbol) → is_ground g p ≡ false → is_unit g (norm p) ≡ false
  unfolding norm
  norm_no_unit p e = ap (λ b. b && not (is_zero (norm p))) (divided_ground (signed_content p) p ∙ e)

  norm_no_zero : (p : Polynomial Symbol) → is_ground g p ≡ false → is_zero (norm p) ≡ false
  unfolding norm
  norm_no_zero [] e = cc
  norm_no_zero (t ∷ p) e = refl

  -- ---- moves and forks
  -- What may be kept of a list from which a test drops members: it says that they are norms, and stays when a norm is put at
  -- a place, or pushed that is not dropped and no member.
  record IsListFact (L : (Polynomial Symbol → Bool) → Polynomials → Type 0) : Type 0 where
    normal : (d : Polynomial Symbol → Bool) (ps : Polynomials) → L d ps → AllOf (λ p. norm p ≡ p) ps
    put : (d : Polynomial Symbol → Bool) (i : ℕ) (p : Polynomial Symbol) (ps : Polynomials) → norm p ≡ p → L d ps → L d (cond (d p || is_member g p (without_place i ps)) (without_place i ps) (replaced i p ps))
    push : (d : Polynomial Symbol → Bool) (p : Polynomial Symbol) (ps : Polynomials) → norm p ≡ p → d p ≡ false → is_member g p ps ≡ false → L d ps → L d (ps ++ p ∷ [])

  module _ (L : (Polynomial Symbol → Bool) → Polynomials → Type 0) (fact : IsListFact L) where
    -- both lists of a state have it
    abbrev HasLists : State → Type 0
    HasLists s = L is_zero s.equations × L (is_unit g) s.inequations

    -- and the state passes no limit
    abbrev IsSettled : State → Type 0
    IsSettled s = HasLists s × (limit_passed (s ∷ []) ≡ None)

    settled_lists : (k : ℕ) (ss : List State) (w : ℕ) (d : Done) → AllOf HasLists ss → settled k ss w ≡ Ok d → AllOf IsSettled d.after
    settled_lists k ss w d h e =
        let a = settled_is k ss w d e in
        subst (AllOf IsSettled) (sym a.1) (all_two HasLists (λ s. limit_passed (s ∷ []) ≡ None) ss h (each_within ss a.0))

    -- moves and forks keep it
    perform_lists : (s : State) (action : Action) (d : Done) → StateOver r few s → HasLists s → perform (setting_of r) s action ≡ Ok d → AllOf IsSettled d.after
    unfolding reduced weeded grown divided_at split_at factored
    perform_lists s (reduce i steps) d h k e =
        let a = given_then (at_place i s.equations) _ _ d e in
        let b = bind_ok (told_as run_fault (run (setting_of r) s (Equation i) a.0 steps)) _ d a.2 in
        let p = taken (IsOver r) i a.0 s.equations a.1 h.equations_over in
        let normal = run_normal s (Equation i) a.0 steps b.0 h.equations_over p.0 b.1 in
        let after = with_equations s (put_equation g i (b.0).end s.equations) in
        settled_lists (length steps) (after ∷ []) (1 + (b.0).count) d ((fact.put is_zero i (b.0).end s.equations normal k.0, k.1), tt) (then_ok (not (same_state g s after)) _ _ d b.2).1
    perform_lists s (weed j steps) d h k e =
        let a = given_then (at_place j s.inequations) _ _ d e in
        let b = bind_ok (told_as run_fault (run (setting_of r) s (Inequation j) a.0 steps)) _ d a.2 in
        let p = taken (IsOver r) j a.0 s.inequations a.1 h.inequations_over in
        let normal = run_normal s (Inequation j) a.0 steps b.0 h.equations_over p.0 b.1 in
        let after = with_inequations s (put_inequation g j (b.0).end s.inequations) in
        settled_lists (length steps) (after ∷ []) (1 + (b.0).count) d ((k.0, fact.put (is_unit g) j (b.0).end s.inequations normal k.1), tt) (then_ok (not (same_state g s after)) _ _ d b.2).1
    perform_lists s (add i j steps) d h k e =
        let a0 = then_ok (nat_lt i j) _ _ d e in
        let a1 = given_then (at_place i s.equations) _ _ d a0.1 in
        let a2 = given_then (at_place j s.equations) _ _ d a1.2 in
        let a3 = then_ok (is_pair g a1.0 a2.0) _ _ d a2.2 in
        let a4 = bind_ok (numbered 0 (told_as refusal (delta_answer (setting_of r) a1.0 a2.0))) _ d a3.1 in
        let a5 = bind_ok (told_as run_fault (run (setting_of r) s Free a4.0 steps)) _ d a4.2 in
        let x = (a5.0).end in
        let a6 = then_ok (not (is_zero x) && not (is_member g x s.equations) && not (admits (setting_of r) s Free x)) _ _ d a5.2 in
        let b1 = both (not (is_zero x) && not (is_member g x s.equations)) (not (admits (setting_of r) s Free x)) a6.0 in
        let b2 = both (not (is_zero x)) (not (is_member g x s.equations)) b1.0 in
        let p = (taken (IsOver r) i a1.0 s.equations a1.1 h.equations_over).0 in
        let q = (taken (IsOver r) j a2.0 s.equations a2.1 h.equations_over).0 in
        let delta = delta_over r few a1.0 a2.0 a4.0 (told_ok refusal (delta_answer (setting_of r) a1.0 a2.0) a4.0 (told_ok _ (told_as refusal (delta_answer (setting_of r) a1.0 a2.0)) a4.0 a4.1)) p q in
        let normal = run_normal s Free a4.0 steps a5.0 h.equations_over delta a5.1 in
        let after = with_equations s (s.equations ++ x ∷ []) in
        settled_lists (length steps) (after ∷ []) (1 + length a4.0 + (a5.0).count) d ((fact.push is_zero x s.equations normal (is_false (is_zero x) b2.0) (is_false (is_member g x s.equations) b2.1) k.0, k.1), tt) a6.1
    perform_lists s (divide i v) d h k e =
        let a1 = given_then (at_place i s.equations) _ _ d e in
        let a2 = then_ok (is_divided (ranking_cmp r) v a1.0 && is_member g (symbol_polynomial v) s.inequations) _ _ d a1.2 in
        let p = (taken (IsOver r) i a1.0 s.equations a1.1 h.equations_over).0 in
        let n = (taken (λ p. norm p ≡ p) i a1.0 s.equations a1.1 (fact.normal is_zero s.equations k.0)).0 in
        let q = quotient_by (ranking_cmp r) v a1.0 in
        let after = with_equations s (put_equation g i q s.equations) in
        settled_lists 0 (after ∷ []) (1 + length q) d ((fact.put is_zero i q s.equations (quotient_normal v a1.0 p n) k.0, k.1), tt) a2.1
    perform_lists s (split i which) d h k e =
        let a1 = given_then (at_place i s.equations) _ _ d e in
        let a2 = given_then (leader g a1.0) _ _ d a1.2 in
        let a3 = bind_ok (numbered 0 (told_as refusal (multiplier_answer g which a2.0 a1.0))) _ d a2.2 in
        let m = a3.0 in
        let a4 = then_ok (not (is_ground g m) && not (is_member g (norm m) s.equations) && not (is_member g (norm m) s.inequations)) _ _ d a3.2 in
        let b1 = both (not (is_ground g m) && not (is_member g (norm m) s.equations)) (not (is_member g (norm m) s.inequations)) a4.0 in
        let b2 = both (not (is_ground g m)) (not (is_member g (norm m) s.equations)) b1.0 in
        let p = (taken (IsOver r) i a1.0 s.equations a1.1 h.equations_over).0 in
        let canonical = (good_multiplier r which a2.0 a1.0 m (told_ok refusal (multiplier_answer g which a2.0 a1.0) m (told_ok _ (told_as refusal (multiplier_answer g which a2.0 a1.0)) m a3.1)) (good_over r a1.0 p)).0 in
        let normal = norm_idempotent (ranking_cmp r) m canonical in
        let led = is_false (is_ground g m) b2.0 in
        let first = forked s s.equations (s.inequations ++ norm m ∷ []) in
        let second = forked s (s.equations ++ norm m ∷ []) s.inequations in
        settled_lists 0 (first ∷ second ∷ []) (1 + length (norm m)) d
        ((k.0, fact.push (is_unit g) (norm m) s.inequations normal (norm_no_unit m led) (is_false (is_member g (norm m) s.inequations) b1.1) k.1), ((fact.push is_zero (norm m) s.equations normal (norm_no_zero m led) (is_false (is_member g (norm m) s.equations) b2.1) k.0, k.1), tt)) a4.1
    perform_lists s (factor i v) d h k e =
        let a1 = given_then (at_place i s.equations) _ _ d e in
        let w = symbol_polynomial v in
        let a2 = then_ok (is_derivative v && is_divided (ranking_cmp r) v a1.0 && not (same g a1.0 w) && not (is_member g w s.inequations)) _ _ d a1.2 in
        let b1 = both (is_derivative v && is_divided (ranking_cmp r) v a1.0 && not (same g a1.0 w)) (not (is_member g w s.inequations)) a2.0 in
        let b2 = both (is_derivative v && is_divided (ranking_cmp r) v a1.0) (not (same g a1.0 w)) b1.0 in
        let b3 = both (is_derivative v) (is_divided (ranking_cmp r) v a1.0) b2.0 in
        let p = (taken (IsOver r) i a1.0 s.equations a1.1 h.equations_over).0 in
        let n = (taken (λ p. norm p ≡ p) i a1.0 s.equations a1.1 (fact.normal is_zero s.equations k.0)).0 in
        let q = quotient_by (ranking_cmp r) v a1.0 in
        let first = forked s (put_equation g i q s.equations) (s.inequations ++ w ∷ []) in
        let second = forked s (put_equation g i w s.equations) s.inequations in
        settled_lists 0 (first ∷ second ∷ []) (1 + length q) d
        ((fact.put is_zero i q s.equations (quotient_normal v a1.0 p n) k.0, fact.push (is_unit g) w s.inequations (symbol_normal v) (symbol_no_unit v b3.0) (is_false (is_member g w s.inequations) b1.1) k.1), ((fact.put is_zero i w s.equations (symbol_normal v) k.0, k.1), tt)) a2.1

  -- ---- all facts of a state
  kept_lists : IsListFact Kept
  kept_lists = record { normal = λ d ps h. h.normalised; put = kept_put; push = kept_push }

  pub perform_facts : (s : State) (action : Action) (d : Done) → StateOver r few s → IsStateOf g s → perform (setting_of r) s action ≡ Ok d → AllOf (IsStateOf g) d.after
  perform_facts s action d h k e =
      all_give (IsSettled Kept kept_lists) (IsStateOf g) (λ t x. facts_of t (x.0).0 (x.0).1 x.1) d.after (perform_lists Kept kept_lists s action d h (equations_kept s k, inequations_kept s k) e)

-- the root has the facts, and moves and forks keep them
pub state_laws : (r : RankingValue) → r.signature.independents ≤ 4 → StateLaws r
state_laws r few = record {
  root = λ system stands within. record { stands = root_stands r few system stands; facts = root_is_state r system (over system.equations system.inequations stands) (root_within (symbols_under r) system within) };
  kept = λ s action d h e.
      all_give (λ t. MayStand r t.equations t.inequations × IsStateOf (symbols_under r) t) (IsStateOver r) (λ t k. record { stands = k.0; facts = k.1 }) d.after
      (all_two (λ t. MayStand r t.equations t.inequations) (IsStateOf (symbols_under r)) d.after (perform_stands r few s action d h.stands e) (perform_facts r few s action d (over s.equations s.inequations h.stands) h.facts e));
}
  where
    over : (es hs : Polynomials) → MayStand r es hs → AreOver r es hs
    over es hs h = record { equations_over = keepables_over r few es h.equations_keepable; inequations_over = keepables_over r few hs h.inequations_keepable }
