-- The order of work never stands at a state without a line that holds, and leads to a tree.
use Rattle.std.specs.Prelude.{⊤, MatchResult}
use Rattle.std.proofs.Common.{◌≡◌, ℕ, suc, ◌+◌, ◌*◌, ◌≤◌, nat_le, Bool, true, false, cond, List, [], ◌∷◌, ◌++◌, length, refl, ap, ◌∙◌, arith, subst, Result, Ok, Err, Option, Some, None, IsOk}
use Rattle.std.proofs.lemmas.Bool.{leb-true}
use Rattle.dz_algebra.specs.Polynomial.{Polynomial}
use Rattle.dz_rank.specs.Rankings.{RankingValue}
use Rattle.dz_rank.specs.declared.symbols.Symbol.{Symbol}
use Rattle.dz_algebra.specs.Outcome.{◌>>=◌, needs, numbered, told_as}
use Rattle.dz_monomials.specs.Lists.{AllOf}
use Rattle.dz_monomials.proofs.SymbolLaws.{ranking_order}
use Rattle.dz_diff.specs.Operations.{Setting, setting_of}
use Rattle.dz_diff.specs.Over.{IsOver}
use Rattle.dz_diff.specs.State.{State, at_place}
use Rattle.dz_move.specs.Root.{is_closed}
use Rattle.dz_algebra.proofs.Outcomes.{bind_ok, told_ok, then_ok, ok_same}
use Rattle.dz_diff.specs.Tests.{Polynomials}
use Rattle.dz_monomials.specs.Keeping.{IsKeepable}
use Rattle.dz_monomials.specs.Ranked.{symbols_under}
use Rattle.dz_diff.specs.States.{IsStateOf}
use Rattle.dz_step.specs.declared.Role.TheVariants.{Free, Equation, Inequation}
use Rattle.dz_algebra.specs.Norm.{norm}
use Rattle.dz_rank.specs.Symbols.{IsOperatorOf}
use Rattle.dz_diff.proofs.Places.{taken}
use Rattle.dz_step.specs.declared.Role.{Role}
use Rattle.dz_step.specs.declared.Step.{Step}
use Rattle.dz_step.specs.Laws.{ReductionLaws}
use Rattle.dz_step.proofs.Falls.{reduction_laws}
use Rattle.dz_pair.specs.Pair.{critical_pairs, delta_answer}
use Rattle.dz_move.specs.declared.Rule.{Rule}
use Rattle.dz_move.specs.declared.Rule.TheVariants as rules
use Rattle.dz_move.specs.Moves.{Action, is_fork, Done, perform}
use Rattle.dz_tree.specs.Chain.{chain_rule, evidence_weight, evidence_from, chain_weight}
use Rattle.dz_move.specs.Lines.{Evidence, Line, act, closed, chain, pair, spent, spent_pairs, open_wide, open_separant, open_large, Entry, with_line, grouped, lines_of}
use Rattle.dz_check.specs.Reasons.{reason_holds}
use Rattle.dz_check.specs.Walk.{Below, ended, nothing_below, told_at_line, entered}
use Rattle.dz_move.proofs.Progress.{perform_leads}
use Rattle.dz_engine.specs.Order.{line_alone, closed_next, divide_next, reduce_next, factor_next, split_next, weed_next, pairs_next, first_of, next_entry}
use Rattle.dz_engine.specs.Worked.{IsWorkedFrom, worked_from}
use Rattle.dz_move.specs.Standing.{IsStateOver, MayStand}
use Rattle.dz_engine.specs.Resting.{EntryHolds}
use Rattle.dz_engine.proofs.WorkedTrees.{Goes, worked_is_there}
use Rattle.dz_engine.proofs.EasyRules.{SeparantsAreWide, closed_goes, divide_goes, factor_goes, split_goes}
use Rattle.dz_diff.proofs.OverOperations.{norm_over}
use Rattle.dz_step.proofs.OverSteps.{step_over, next_fits}
use Rattle.dz_pair.proofs.OverDeltas.{delta_over}
use Rattle.dz_move.proofs.KeepableStates.{keepables_over}
use Rattle.dz_tree.proofs.LowRuns.{coherent}
use Rattle.dz_tree.proofs.TreeEntries.{evidence_grouped}
use Rattle.dz_move.proofs.StateFacts.{state_laws}
use Rattle.dz_engine.proofs.RestingChains.{is_chain}
use Rattle.dz_engine.proofs.RestingPlaces.{chain_admits}
use Rattle.dz_engine.proofs.SmallSeparants.{separant_is_wide}
use Rattle.dz_engine.proofs.RunRules.{StepsGo, NeverReturns, reduce_goes, weed_goes}
use Rattle.dz_engine.proofs.PairRules.{PairsRest, pairs_goes}

-- ---- the line that is next
-- the first that there is, or else the rest
pub first_is : {A : Type 0} (P : A → Type 0) (o : Option A) (os : List (Option A)) (x : A) → ((e : A) → o ≡ Some e → P e) → (o ≡ None → P (first_of os x)) → P (first_of (o ∷ os) x)
first_is P None os x f k = k refl
first_is P (Some e) os x f k = f e refl

-- where nothing is closed
not_closed : (g : Setting) (s : State) → closed_next g s ≡ None → is_closed g.symbols s ≡ false
not_closed g s e = by_test (is_closed g.symbols s) e
  where
    by_test : (b : Bool) → cond b (Some (line_alone closed)) None ≡ None → b ≡ false
    by_test true e = cc
    by_test false e = refl

module _ (r : RankingValue) (few : r.signature.independents ≤ 4) (budget w : ℕ) (s : State) (stand : MayStand r s.equations s.inequations) (facts : IsStateOf (symbols_under r) s) (low : w ≤ budget) where
  abbrev g : Setting
  g = setting_of r

  -- an operator of the signature
  abbrev Fits : Step → Type 0
  Fits st = IsOperatorOf r.signature.independents st.operator

  -- all members are over the ranking
  over : AllOf (IsOver r) s.equations
  over = keepables_over r few s.equations stand.equations_keepable

  inequations_over : AllOf (IsOver r) s.inequations
  inequations_over = keepables_over r few s.inequations stand.inequations_keepable

  -- over the ranking, and normalised
  all_fine : (ps : Polynomials) → AllOf (IsOver r) ps → AllOf (λ p. norm p ≡ p) ps → AllOf (λ p. IsOver r p × (norm p ≡ p)) ps
  all_fine [] h k = tt
  all_fine (p ∷ ps) h k = ((h.0, k.0), all_fine ps h.1 k.1)

  -- the laws of reduction at the state
  laws : ReductionLaws r s
  laws = reduction_laws r s few over

  -- steps keep polynomials over the ranking, and full runs take steps
  pub steps_go : (role : Role) → StepsGo g s role (IsOver r) Fits
  steps_go role = record {
    keeps = λ f x st h e. step_over r few s role f x st over h e;
    next_is_step = λ f st h e. laws.next_is_step role f st h e;
    fits = λ f st h e. next_fits r few s role f st over h.belongs e;
  }

  -- runs never return
  never_returns : (role : Role) → NeverReturns g s role (IsOver r) Fits
  never_returns role f st steps x h fits e = laws.never_returns role f st steps x h fits e

  -- a separant is refused only where it does not fit
  separants_wide : SeparantsAreWide g s
  separants_wide i p l refusal a e h = separant_is_wide r l p refusal (taken (IsKeepable r) i p s.equations a stand.equations_keepable).0 h

  -- the equation at a place is over the ranking
  over_at : (i : ℕ) (p : Polynomial Symbol) → at_place i s.equations ≡ Some p → IsOver r p
  over_at i p a = (taken (IsOver r) i p s.equations a over).0

  -- a Delta-polynomial is over the ranking
  pub delta_fine : (i j : ℕ) (p q d : Polynomial Symbol) → at_place i s.equations ≡ Some p → at_place j s.equations ≡ Some q → delta_answer g p q ≡ Ok d → IsOver r (norm d)
  delta_fine i j p q d a b e = norm_over r few d (delta_over r few p q d e (over_at i p a) (over_at j q b))

  -- where the first six rules name nothing
  pairs_rest : closed_next g s ≡ None → reduce_next g budget w s ≡ None → split_next g budget w s ≡ None → weed_next g budget w s ≡ None → PairsRest g s Fits
  pairs_rest c q p v = record {
    coherent = λ i j p q d steps x a b pair h fits e. coherent r few s p q d steps x over (over_at i p a) (over_at j q b) pair h fits e;
    is_chain = is_chain r few budget w s over inequations_over (record { unclosed = not_closed g s c; no_zero = facts.no_zero; unreduced = q; unsplit = p }) v;
  }

  -- the line that is next holds
  pub next_holds : EntryHolds g budget w s (next_entry g budget w s)
  unfolding next_entry
  next_holds =
      first_is (EntryHolds g budget w s) (closed_next g s) _ _ (closed_goes g budget w s) (λ c.
      first_is (EntryHolds g budget w s) (divide_next g budget w s) _ _ (divide_goes g budget w s) (λ d.
      first_is (EntryHolds g budget w s) (reduce_next g budget w s) _ _ (reduce_goes g (ranking_order r) budget w s (IsOver r) Fits (λ i. (steps_go (Equation i), never_returns (Equation i))) (all_fine s.equations over facts.equations_normalised)) (λ q.
      first_is (EntryHolds g budget w s) (factor_next g budget w s) _ _ (factor_goes g budget w s) (λ f.
      first_is (EntryHolds g budget w s) (split_next g budget w s) _ _ (split_goes g budget w s separants_wide) (λ p.
      first_is (EntryHolds g budget w s) (weed_next g budget w s) [] (pairs_next g budget s w [] (critical_pairs g.symbols s)) (weed_goes g (ranking_order r) budget w s (IsOver r) Fits (λ i. (steps_go (Inequation i), never_returns (Inequation i))) (all_fine s.inequations inequations_over facts.inequations_normalised)) (λ v.
      let rest = pairs_rest c q p v in
      pairs_goes g budget w s (IsOver r) Fits (steps_go Free) rest delta_fine (chain_admits r few s over rest.is_chain) low))))))

-- ---- what stands below
module _ (g : Setting) (budget w : ℕ) (s : State) (FineState : State → Type 0) (kept : (action : Action) (d : Done) → perform g s action ≡ Ok d → AllOf FineState d.after) (low : w ≤ budget) where
  -- an action leads to few states
  few_states : (action : Action) (d : Done) → perform g s action ≡ Ok d → length d.after ≤ 2 * d.weight
  few_states action d e = let k = perform_leads g s action d e in by_fork (is_fork action) k.states k.weight
    where
      by_fork : (b : Bool) → length d.after ≡ cond b 2 1 → 1 ≤ d.weight → length d.after ≤ 2 * d.weight
      by_fork true e l = omega (arith, e, l)
      by_fork false e l = omega (arith, e, l)

  -- the weight of evidence is affordable
  evidence_low : (k n m : ℕ) (es : List Evidence) → w + n ≤ budget → evidence_from g s (λ n. nat_le (w + n) budget) k n es ≡ Ok m → w + m ≤ budget
  evidence_low k n m [] l e = let f : n ≡ m = cc in subst (λ x. w + x ≤ budget) f l
  evidence_low k n m (f ∷ es) l e =
      let a = bind_ok (numbered k (evidence_weight g s f)) _ m e in
      let b = then_ok (nat_le (w + (n + a.0)) budget) _ _ m a.2 in
      evidence_low (suc k) (n + a.0) m es (leb-true (w + (n + a.0)) budget b.0) b.1

  -- the weight is affordable, the states are few, and each is as asked
  abbrev IsBelow : Below → Type 0
  IsBelow b = (w + b.weight ≤ budget) × (length b.states ≤ 2 * b.weight) × AllOf FineState b.states

  -- what stands below an end
  nothing_is : (b : Bool) (k : ℕ × Rule) (x b' : Below) → IsBelow x → ◌>>=◌ {A = ⊤} {B = Below} {E = ℕ × Rule} (needs b k) (λ _. Ok x) ≡ Ok b' → IsBelow b'
  nothing_is true k x b' h e = subst IsBelow (ok_same x b' e) h
  nothing_is false k x b' h e = cc

  -- what stands below an open end
  open_is : (line : Line) → IsBelow (ended line s 0)
  open_is line = (omega (arith, low), omega arith, tt)

  -- what stands below an entry that holds
  pub below_is : (line : Line) (es : List Evidence) (b : Below) → entered g budget w s line es ≡ Ok b → IsBelow b
  unfolding entered
  below_is (act action) es b e =
      let a = bind_ok (told_as told_at_line (perform g s action)) _ b e in
      let c = then_ok (nat_le (w + (a.0).weight) budget) _ _ b a.2 in
      let p = told_ok told_at_line (perform g s action) a.0 a.1 in
      subst IsBelow (ok_same (record { states = (a.0).after; ends = []; weight = (a.0).weight }) b c.1) (leb-true (w + (a.0).weight) budget c.0, few_states action a.0 p, kept action a.0 p)
  below_is closed es b e = nothing_is (is_closed g.symbols s) (0, rules.Closed) nothing_below b (omega (arith, low), omega arith, tt) e
  below_is chain es b e =
      let a = bind_ok (chain_weight g s (λ n. nat_le (w + n) budget) es) _ b e in
      let c = bind_ok (numbered 0 (chain_rule g s es)) _ a.0 a.1 in
      subst IsBelow (ok_same (ended chain s a.0) b a.2) (evidence_low 1 0 a.0 es (omega (arith, low)) c.2, omega arith, tt)
  below_is (pair x) es b e = cc
  below_is (spent action) es b e = nothing_is (reason_holds g budget w s (spent action) es) (0, rules.Reason) (ended (spent action) s 0) b (open_is (spent action)) e
  below_is spent_pairs es b e = nothing_is (reason_holds g budget w s spent_pairs es) (0, rules.Reason) (ended spent_pairs s 0) b (open_is spent_pairs) e
  below_is (open_wide action) es b e = nothing_is (reason_holds g budget w s (open_wide action) es) (0, rules.Reason) (ended (open_wide action) s 0) b (open_is (open_wide action)) e
  below_is (open_separant i) es b e = nothing_is (reason_holds g budget w s (open_separant i) es) (0, rules.Reason) (ended (open_separant i) s 0) b (open_is (open_separant i)) e
  below_is (open_large limit action) es b e = nothing_is (reason_holds g budget w s (open_large limit action) es) (0, rules.Reason) (ended (open_large limit action) s 0) b (open_is (open_large limit action)) e

  -- so the order of work goes on
  pub goes_from : EntryHolds g budget w s (next_entry g budget w s) → Goes g budget FineState w s
  goes_from h = by_answer (entered g budget w s (next_entry g budget w s).line (next_entry g budget w s).evidence) refl h
    where
      by_answer : (q : Result Below (ℕ × Rule)) → entered g budget w s (next_entry g budget w s).line (next_entry g budget w s).evidence ≡ q → IsOk q → Goes g budget FineState w s
      by_answer (Ok b) e h = let k = below_is (next_entry g budget w s).line (next_entry g budget w s).evidence b e in record { below = b; holds = e; affordable = k.0; fine = k.2; few = k.1 }
      by_answer (Err r) e h = cc

-- ---- the worked tree
-- the worked entries from a state are there
pub entries_there : (r : RankingValue) → r.signature.independents ≤ 4 → (budget : ℕ) (s : State) → IsStateOver r s → IsWorkedFrom (setting_of r) budget 0 (s ∷ []) (worked_from (setting_of r) budget (2 * budget + 1) 0 (s ∷ []))
entries_there r few budget s h =
    worked_is_there (setting_of r) budget (IsStateOver r) (λ w t low k. goes_from (setting_of r) budget w t (IsStateOver r) (λ action d e. (state_laws r few).kept t action d k e) low (next_holds r few budget w t k.stands k.facts low))
    (2 * budget + 1) 0 budget (s ∷ []) (omega arith) (omega arith) (h, tt)

-- ---- lines and entries
module _ (g : Setting) (budget : ℕ) where
  -- a line that holds is not evidence
  line_grouped : (w : ℕ) (s : State) (line : Line) (es : List Evidence) (more : List Entry) (b : Below) → entered g budget w s line es ≡ Ok b → with_line line (es, more) ≡ ([], record { line = line; evidence = es } ∷ more)
  unfolding entered
  line_grouped w s (act action) es more b e = refl
  line_grouped w s closed es more b e = refl
  line_grouped w s chain es more b e = refl
  line_grouped w s (pair x) es more b e = cc
  line_grouped w s (spent action) es more b e = refl
  line_grouped w s spent_pairs es more b e = refl
  line_grouped w s (open_wide action) es more b e = refl
  line_grouped w s (open_separant i) es more b e = refl
  line_grouped w s (open_large limit action) es more b e = refl

  -- worked entries are those of their lines
  pub worked_grouped : (w : ℕ) (pending : List State) (es : List Entry) → IsWorkedFrom g budget w pending es → grouped (lines_of es) ≡ ([], es)
  worked_grouped w [] [] h = refl
  worked_grouped w [] (e ∷ es) h = absurd h
  worked_grouped w (s ∷ pending) [] h = absurd h
  worked_grouped w (s ∷ pending) (e ∷ es) h = by_answer (entered g budget w s e.line e.evidence) refl (λ b. worked_grouped (w + b.weight) (b.states ++ pending) es) h.1
    where
      by_answer : (q : Result Below (ℕ × Rule)) → entered g budget w s e.line e.evidence ≡ q → ((b : Below) → IsWorkedFrom g budget (w + b.weight) (b.states ++ pending) es → grouped (lines_of es) ≡ ([], es))
          → MatchResult q (λ b. IsWorkedFrom g budget (w + b.weight) (b.states ++ pending) es) (λ r. ⊥) → grouped (lines_of (e ∷ es)) ≡ ([], e ∷ es)
      by_answer (Ok b) f ih h = ap (with_line e.line) (evidence_grouped e.evidence (lines_of es) es (ih b h)) ∙ line_grouped w s e.line e.evidence es b f
      by_answer (Err r) f ih h = absurd h
