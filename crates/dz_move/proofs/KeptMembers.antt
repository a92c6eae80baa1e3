-- What the operations keep of polynomials, moves and forks keep of the members of a state.
use Rattle.std.specs.Prelude.{if◌then◌else◌}
use Rattle.std.proofs.Common.{◌≡◌, ℕ, suc, ◌+◌, nat_lt, Bool, true, false, not, ◌&&◌, ◌||◌, List, [], ◌∷◌, ◌++◌, length, subst, Ok}
use Rattle.dz_algebra.specs.Norm.{norm}
use Rattle.dz_algebra.specs.Parts.{is_ground, leader}
use Rattle.dz_algebra.specs.Polynomial.{Polynomial, symbol_polynomial}
use Rattle.dz_rank.specs.Rankings.{RankingValue, ranking_cmp}
use Rattle.dz_rank.specs.Symbols.{is_derivative}
use Rattle.dz_rank.specs.declared.symbols.Symbol.{Symbol}
use Rattle.dz_monomials.specs.Ranked.{symbols_under}
use Rattle.dz_monomials.specs.Lists.{AllOf}
use Rattle.dz_diff.specs.Operations.{setting_of}
use Rattle.dz_algebra.specs.Outcome.{numbered, told_as}
use Rattle.dz_move.specs.Root.{System, kept_norms, root_of}
use Rattle.dz_diff.specs.State.{State, at_place, limit_passed, put_equation, put_inequation, same_state, without_place}
use Rattle.dz_diff.specs.Tests.{Polynomials, is_member, is_unit, is_zero, same}
use Rattle.dz_algebra.proofs.Outcomes.{bind_ok, both, given_then, told_ok, then_ok, ok_same}
use Rattle.dz_diff.proofs.Places.{all-append, put_all, taken}
use Rattle.dz_step.specs.declared.Role.{Role}
use Rattle.dz_step.specs.declared.Role.TheVariants.{Free, Equation, Inequation}
use Rattle.dz_step.specs.declared.Step.{Step}
use Rattle.dz_step.specs.declared.Which.{Which}
use Rattle.dz_step.specs.FullRun.{admits}
use Rattle.dz_step.specs.Run.{Ran, run_from, run}
use Rattle.dz_step.specs.Step.{multiplier_answer, step_in}
use Rattle.dz_pair.specs.Pair.{delta_answer, is_pair}
use Rattle.dz_monomials.specs.PowerDivision.{is_divided, quotient_by}
use Rattle.dz_move.specs.Fault.{refusal, run_fault}
use Rattle.dz_move.specs.Moves.{Action, Done, reduce, weed, add, divide, split, factor, divided_at, factored, forked, grown, perform, reduced, settled, split_at, weeded, with_equations, with_inequations, within}

-- what follows for each member
pub all_give : {A : Type 0} (P Q : A → Type 0) → ((x : A) → P x → Q x) → (xs : List A) → AllOf P xs → AllOf Q xs
all_give P Q give [] h = tt
all_give P Q give (x ∷ xs) h = (give x h.0, all_give P Q give xs h.1)

-- what holds of norms, of the results of steps, of Delta-polynomials, of quotients, of the norms of multipliers, and of symbols
-- that divide, where it holds of what they are made from
pub record AreKept (r : RankingValue) (P : Polynomial Symbol → Type 0) : Type 0 where
  pub norms : (p : Polynomial Symbol) → P p → P (norm p)
  pub steps : (s : State) (role : Role) (f x : Polynomial Symbol) (st : Step) → AllOf P s.equations → P f → step_in (setting_of r) s role f st ≡ Ok x → P x
  pub deltas : (p q d : Polynomial Symbol) → delta_answer (setting_of r) p q ≡ Ok d → P p → P q → P d
  pub quotients : (v : Symbol) (p : Polynomial Symbol) → P p → P (quotient_by (ranking_cmp r) v p)
  pub multipliers : (which : Which) (l : Symbol) (p m : Polynomial Symbol) → multiplier_answer (symbols_under r) which l p ≡ Ok m → P p → P (norm m)
  pub symbols : (v : Symbol) (p : Polynomial Symbol) → is_divided (ranking_cmp r) v p ≡ true → P p → P (symbol_polynomial v)

-- it holds of all members of a state
pub record HaveAll (P : Polynomial Symbol → Type 0) (s : State) : Type 0 where
  pub equations : AllOf P s.equations
  pub inequations : AllOf P s.inequations

module _ (r : RankingValue) (P : Polynomial Symbol → Type 0) (kept : AreKept r P) where
  -- the end of a run
  run_from_kept : (s : State) (role : Role) (n : ℕ) (f : Polynomial Symbol) (count : ℕ) (steps : List Step) (x : Ran) → AllOf P s.equations → P f → run_from (setting_of r) s role n f count steps ≡ Ok x → P x.end
  run_from_kept s role n f count [] x all of_f e = subst (λ (y : Ran). P y.end) (ok_same (record { end = f; count = count }) x e) of_f
  run_from_kept s role n f count (st ∷ steps) x all of_f e =
      let a = bind_ok (numbered n (step_in (setting_of r) s role f st)) _ x e in
      run_from_kept s role (suc n) a.0 (count + 1 + length a.0) steps x all (kept.steps s role f a.0 st all of_f (told_ok _ (step_in (setting_of r) s role f st) a.0 a.1)) a.2

  -- the end of a run, whose first step is on the norm
  run_kept : (s : State) (role : Role) (f : Polynomial Symbol) (steps : List Step) (x : Ran) → AllOf P s.equations → P f → told_as run_fault (run (setting_of r) s role f steps) ≡ Ok x → P x.end
  run_kept s role f steps x all of_f e = run_from_kept s role 1 (norm f) 0 steps x all (kept.norms f of_f) (told_ok run_fault (run (setting_of r) s role f steps) x e)

  -- ---- states
  -- states that are settled
  settled_kept : (k : ℕ) (ss : List State) (w : ℕ) (d : Done) → AllOf (HaveAll P) ss → settled k ss w ≡ Ok d → AllOf (HaveAll P) d.after
  settled_kept k ss w d h e =
      let a = bind_ok (numbered k (within (limit_passed ss))) _ d e in
      subst (λ (x : Done). AllOf (HaveAll P) x.after) (ok_same (record { after = ss; weight = w }) d a.2) h

  -- equations with one put at a place
  put_kept : (i : ℕ) (p : Polynomial Symbol) (es : Polynomials) → P p → AllOf P (without_place i es) → AllOf P (put_equation (symbols_under r) i p es)
  put_kept i p es z h = put_all P (is_zero p || is_member (symbols_under r) p (without_place i es)) i p es z h

  -- the states after an action
  pub perform_kept : (s : State) (action : Action) (d : Done) → HaveAll P s → perform (setting_of r) s action ≡ Ok d → AllOf (HaveAll P) d.after
  unfolding reduced weeded grown divided_at split_at factored
  perform_kept s (reduce i steps) d h e =
      let a = given_then (at_place i s.equations) _ _ d e in
      let b = bind_ok (told_as run_fault (run (setting_of r) s (Equation i) a.0 steps)) _ d a.2 in
      let p = taken P i a.0 s.equations a.1 h.equations in
      let end = run_kept s (Equation i) a.0 steps b.0 h.equations p.0 b.1 in
      let after = with_equations s (put_equation (symbols_under r) i (b.0).end s.equations) in
      settled_kept (length steps) (after ∷ []) (1 + (b.0).count) d (record { equations = put_kept i (b.0).end s.equations end p.1; inequations = h.inequations }, tt) (then_ok (not (same_state (symbols_under r) s after)) _ _ d b.2).1
  perform_kept s (weed j steps) d h e =
      let a = given_then (at_place j s.inequations) _ _ d e in
      let b = bind_ok (told_as run_fault (run (setting_of r) s (Inequation j) a.0 steps)) _ d a.2 in
      let p = taken P j a.0 s.inequations a.1 h.inequations in
      let end = run_kept s (Inequation j) a.0 steps b.0 h.equations p.0 b.1 in
      let after = with_inequations s (put_inequation (symbols_under r) j (b.0).end s.inequations) in
      settled_kept (length steps) (after ∷ []) (1 + (b.0).count) d (record { equations = h.equations; inequations = put_all P (is_unit (symbols_under r) (b.0).end || is_member (symbols_under r) (b.0).end (without_place j s.inequations)) j (b.0).end s.inequations end p.1 }, tt)
      (then_ok (not (same_state (symbols_under r) s after)) _ _ d b.2).1
  perform_kept s (add i j steps) d h e =
      let a0 = then_ok (nat_lt i j) _ _ d e in
      let a1 = given_then (at_place i s.equations) _ _ d a0.1 in
      let a2 = given_then (at_place j s.equations) _ _ d a1.2 in
      let a3 = then_ok (is_pair (symbols_under r) a1.0 a2.0) _ _ d a2.2 in
      let a4 = bind_ok (numbered 0 (told_as refusal (delta_answer (setting_of r) a1.0 a2.0))) _ d a3.1 in
      let a5 = bind_ok (told_as run_fault (run (setting_of r) s Free a4.0 steps)) _ d a4.2 in
      let a6 = then_ok (not (is_zero (a5.0).end) && not (is_member (symbols_under r) (a5.0).end s.equations) && not (admits (setting_of r) s Free (a5.0).end)) _ _ d a5.2 in
      let p = (taken P i a1.0 s.equations a1.1 h.equations).0 in
      let q = (taken P j a2.0 s.equations a2.1 h.equations).0 in
      let delta = kept.deltas a1.0 a2.0 a4.0 (told_ok refusal (delta_answer (setting_of r) a1.0 a2.0) a4.0 (told_ok _ (told_as refusal (delta_answer (setting_of r) a1.0 a2.0)) a4.0 a4.1)) p q in
      let end = run_kept s Free a4.0 steps a5.0 h.equations delta a5.1 in
      settled_kept (length steps) (with_equations s (s.equations ++ (a5.0).end ∷ []) ∷ []) (1 + length a4.0 + (a5.0).count) d (record { equations = all-append P s.equations ((a5.0).end ∷ []) h.equations (end, tt); inequations = h.inequations }, tt) a6.1
  perform_kept s (divide i v) d h e =
      let a1 = given_then (at_place i s.equations) _ _ d e in
      let a2 = then_ok (is_divided (ranking_cmp r) v a1.0 && is_member (symbols_under r) (symbol_polynomial v) s.inequations) _ _ d a1.2 in
      let p = taken P i a1.0 s.equations a1.1 h.equations in
      let q = quotient_by (ranking_cmp r) v a1.0 in
      settled_kept 0 (with_equations s (put_equation (symbols_under r) i q s.equations) ∷ []) (1 + length q) d (record { equations = put_kept i q s.equations (kept.quotients v a1.0 p.0) p.1; inequations = h.inequations }, tt) a2.1
  perform_kept s (split i which) d h e =
      let a1 = given_then (at_place i s.equations) _ _ d e in
      let a2 = given_then (leader (symbols_under r) a1.0) _ _ d a1.2 in
      let a3 = bind_ok (numbered 0 (told_as refusal (multiplier_answer (symbols_under r) which a2.0 a1.0))) _ d a2.2 in
      let a4 = then_ok (not (is_ground (symbols_under r) a3.0) && not (is_member (symbols_under r) (norm a3.0) s.equations) && not (is_member (symbols_under r) (norm a3.0) s.inequations)) _ _ d a3.2 in
      let p = (taken P i a1.0 s.equations a1.1 h.equations).0 in
      let m = kept.multipliers which a2.0 a1.0 a3.0 (told_ok refusal (multiplier_answer (symbols_under r) which a2.0 a1.0) a3.0 (told_ok _ (told_as refusal (multiplier_answer (symbols_under r) which a2.0 a1.0)) a3.0 a3.1)) p in
      settled_kept 0 (forked s s.equations (s.inequations ++ norm a3.0 ∷ []) ∷ forked s (s.equations ++ norm a3.0 ∷ []) s.inequations ∷ []) (1 + length (norm a3.0)) d
      (record { equations = h.equations; inequations = all-append P s.inequations (norm a3.0 ∷ []) h.inequations (m, tt) }, (record { equations = all-append P s.equations (norm a3.0 ∷ []) h.equations (m, tt); inequations = h.inequations }, tt)) a4.1
  perform_kept s (factor i v) d h e =
      let a1 = given_then (at_place i s.equations) _ _ d e in
      let a2 = then_ok (is_derivative v && is_divided (ranking_cmp r) v a1.0 && not (same (symbols_under r) a1.0 (symbol_polynomial v)) && not (is_member (symbols_under r) (symbol_polynomial v) s.inequations)) _ _ d a1.2 in
      let b1 = both (is_derivative v && is_divided (ranking_cmp r) v a1.0 && not (same (symbols_under r) a1.0 (symbol_polynomial v))) (not (is_member (symbols_under r) (symbol_polynomial v) s.inequations)) a2.0 in
      let b2 = both (is_derivative v && is_divided (ranking_cmp r) v a1.0) (not (same (symbols_under r) a1.0 (symbol_polynomial v))) b1.0 in
      let b3 = both (is_derivative v) (is_divided (ranking_cmp r) v a1.0) b2.0 in
      let p = taken P i a1.0 s.equations a1.1 h.equations in
      let q = quotient_by (ranking_cmp r) v a1.0 in
      let w = symbol_polynomial v in
      let of_w = kept.symbols v a1.0 b3.1 p.0 in
      settled_kept 0 (forked s (put_equation (symbols_under r) i q s.equations) (s.inequations ++ w ∷ []) ∷ forked s (put_equation (symbols_under r) i w s.equations) s.inequations ∷ []) (1 + length q) d
      (record { equations = put_kept i q s.equations (kept.quotients v a1.0 p.0) p.1; inequations = all-append P s.inequations (w ∷ []) h.inequations (of_w, tt) }, (record { equations = put_kept i w s.equations of_w p.1; inequations = h.inequations }, tt)) a2.1

  -- the norms that are kept
  norms_kept : (drops : Polynomial Symbol → Bool) (done ps : Polynomials) → AllOf P done → AllOf P ps → AllOf P (kept_norms (symbols_under r) drops done ps)
  norms_kept drops done [] h k = h
  norms_kept drops done (p ∷ ps) h k =
      by_test (drops (norm p) || is_member (symbols_under r) (norm p) done) (norms_kept drops done ps h k.1) (norms_kept drops (done ++ norm p ∷ []) ps (all-append P done (norm p ∷ []) h (kept.norms p k.0, tt)) k.1)
    where
      by_test : (b : Bool) → AllOf P (kept_norms (symbols_under r) drops done ps) → AllOf P (kept_norms (symbols_under r) drops (done ++ norm p ∷ []) ps)
          → AllOf P (if b then kept_norms (symbols_under r) drops done ps else kept_norms (symbols_under r) drops (done ++ norm p ∷ []) ps)
      by_test true x y = x
      by_test false x y = y

  -- the root
  pub root_kept : (system : System) → AllOf P system.equations → AllOf P system.inequations → HaveAll P (root_of (symbols_under r) system)
  unfolding root_of
  root_kept system h k = record {
    equations = norms_kept is_zero [] system.equations tt h;
    inequations = norms_kept (is_unit (symbols_under r)) [] system.inequations tt k;
  }
