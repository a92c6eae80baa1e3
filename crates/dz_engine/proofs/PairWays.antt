-- The rule of pairs on its way: one pair after the other.
use Rattle.std.specs.Prelude.{is_some}
use Rattle.std.proofs.Common.{◌≡◌, ℕ, zero, suc, ◌+◌, ◌-◌, ◌^◌, ◌≤◌, ◌<◌, nat_le, nat_lt, Bool, true, false, cond, List, [], ◌∷◌, ◌++◌, length, map, drop, slice_index_or, refl, sym, ap, subst, ◌∙◌, Some, None, Result, Ok, Err, inl, inr, arith, is_ok}
use Rattle.std.proofs.lemmas.Bool.{ltb-true}
use Rattle.dz_algebra.specs.declared.Limit.{Limit}
use Rattle.dz_algebra.specs.Polynomial.{Polynomial}
use Rattle.dz_algebra.specs.Size.{Refusal, large, wide}
use Rattle.dz_algebra.specs.Symbols.{Symbols}
use Rattle.dz_rank.specs.declared.symbols.Symbol.{Symbol}
use Rattle.dz_monomials.specs.Stops.{IsStop}
use Rattle.dz_monomials.specs.declared.PolyStop.TheVariants as stops
use Rattle.dz_monomials.specs.Lists.{AllOf}
use Rattle.dz_diff.specs.Operations.{Setting}
use Rattle.dz_algebra.specs.Outcome.{◌>>=◌, numbered, told_as}
use Rattle.dz_diff.specs.State.{State, at_place}
use Rattle.dz_diff.specs.Tests.{is_zero}
use Rattle.dz_algebra.proofs.Outcomes.{bind_ok, ok_same, then_ok, told_ok}
use Rattle.dz_step.specs.declared.Role.TheVariants.{Free}
use Rattle.dz_step.specs.declared.Step.{Step}
use Rattle.dz_step.specs.FullRun.{Course, finished, full_run, passed}
use Rattle.dz_step.specs.Run.{Ran, run}
use Rattle.dz_step.specs.Step.{Stop}
use Rattle.dz_step.proofs.FullRuns.{full_run_low}
use Rattle.dz_step.proofs.FullRuns.{full_run_is_run}
use Rattle.dz_pair.specs.Pair.{critical_pairs, delta_answer}
use Rattle.dz_move.specs.declared.Rule.{Rule}
use Rattle.dz_move.specs.declared.lines.Line.{Line as ProgramLine}
use Rattle.dz_move.specs.declared.lines.Line.TheVariants as lines
use Rattle.dz_move.specs.Fault.{Fault, refusal, run_fault}
use Rattle.dz_move.specs.Lines.{Evidence, Entry, act, chain, pair, spent, spent_pairs}
use Rattle.dz_move.specs.Moves.{Action, Done, add, perform}
use Rattle.dz_move.specs.Parts.{placed_pair_run}
use Rattle.dz_move.specs.TreeLines.{line_of}
use Rattle.dz_check.specs.Walk.{Below, entered, told_at_line}
use Rattle.dz_move.specs.declared.pair_runs.ActionEnd.{ActionEnd}
use Rattle.dz_tree.proofs.CriticalPairs.{NamesPair, critical_pairs_name}
use Rattle.dz_move.proofs.Outcomes.{pair_ran}
use Rattle.dz_engine.specs.declared.naming.Named.{Named}
use Rattle.dz_engine.specs.declared.pairing.PairCourse.{PairCourse}
use Rattle.dz_engine.specs.declared.pairing.PairCourse.TheVariants as pairings
use Rattle.dz_engine.specs.Naming.{IsNamed, IsPairAt, IsPairCourse, IsPairStop, IsSoFar, delta_weight, pair_entry, pair_weight, pairs_entry, pairs_weight, run_weight}
use Rattle.dz_engine.specs.Order.{affordable, after_course, after_delta, delta_at, evidence, line_alone, open_line, pairs_next, plain, with_evidence}
use Rattle.dz_engine.specs.Resting.{EntryHolds}
use Rattle.dz_engine.proofs.Findings.{drop_end, drop_here}

-- what is not less
not_less : (a b : ℕ) → b ≤ a → nat_lt a b ≡ false
not_less a b h = by_test (nat_lt a b) refl
  where
    by_test : (x : Bool) → nat_lt a b ≡ x → x ≡ false
    by_test true e = absurd (omega (arith, h, ltb-true a b e))
    by_test false e = refl

-- ---- a pair of places
module _ (g : Setting) (s : State) (i j : ℕ) (n : IsPairAt g.symbols s i j) where
  -- its Delta-polynomial
  pub delta_of_pair : delta_at g s (i, j) ≡ delta_answer g n.first n.second
  delta_of_pair =
      ap (λ o. elim o as (λ _. Result (Polynomial Symbol) Refusal) [ None ↦ Ok [] | Some a ↦ elim (at_place j s.equations) as (λ _. Result (Polynomial Symbol) Refusal) [ None ↦ Ok [] | Some b ↦ delta_answer g a b ] ]) n.first_is
      ∙ ap (λ o. elim o as (λ _. Result (Polynomial Symbol) Refusal) [ None ↦ Ok [] | Some b ↦ delta_answer g n.first b ]) n.second_is

  -- the run from it
  pub run_of_pair : (steps : List Step) (d : Polynomial Symbol) (x : Ran) → delta_at g s (i, j) ≡ Ok d → run g s Free d steps ≡ Ok x → placed_pair_run g s i j steps ≡ Ok (record { terms = length d; ran = x })
  run_of_pair steps d x e f =
      pair_ran g s i j steps n.rises n.first n.first_is n.second n.second_is n.is_one
      ∙ ap (λ q. numbered 0 (told_as refusal q) >>= (λ d. told_as run_fault (run g s Free d steps) >>= (λ r. Ok (record { terms = length d; ran = r })))) (sym delta_of_pair ∙ e)
      ∙ ap (λ (q : Result Ran (ℕ × Stop)). told_as run_fault q >>= (λ r. Ok (record { terms = length d; ran = r }))) f

-- ---- the run of a pair from its Delta-polynomial on
module _ (g : Setting) (budget w : ℕ) (s : State) (i j : ℕ) (d : Polynomial Symbol) (low : w ≤ budget) (delta_is : delta_at g s (i, j) ≡ Ok d) where
  -- how it goes
  abbrev going : Course
  going = full_run g s Free (budget - (w + 1 + length d)) d

  -- it decides on the entry
  after_it : w + 1 + length d ≤ budget → (c : Course) → going ≡ c → (es : List Evidence) (next : ℕ → List Evidence → Entry)
      → after_delta g budget s w es (i, j) (delta_at g s (i, j)) next ≡ after_course g budget s (w + 1 + length d) es (i, j) c next
  after_it l c e es next =
      ap (λ q. after_delta g budget s w es (i, j) q next) delta_is
      ∙ ap (λ b. cond b (with_evidence spent_pairs (es ++ evidence (i, j) [] ∷ [])) (after_course g budget s (w + 1 + length d) es (i, j) going next)) (not_less budget (w + 1 + length d) l)
      ∙ ap (λ c. after_course g budget s (w + 1 + length d) es (i, j) c next) e

  module _ (left : ℕ) (left_is : left ≡ budget - w) (inside : length d < left) where
    -- what is left after the Delta-polynomial
    rest_is : left - 1 - length d ≡ budget - (w + 1 + length d)
    rest_is = omega (arith, left_is, inside, low)

    room : w + 1 + length d ≤ budget
    room = omega (arith, left_is, inside, low)

    -- it ends at zero
    pub zero_course : (steps : List Step) (end : Polynomial Symbol) (count cost : ℕ) → full_run g s Free (left - 1 - length d) d ≡ finished steps end count → is_zero end ≡ true → cost ≡ 1 + length d + count
        → IsPairCourse g budget w s (i, j) (pairings.Zero steps cost)
    zero_course steps end count cost e z k =
        let f : going ≡ finished steps end count = ap (λ n. full_run g s Free n d) (sym rest_is) ∙ e in
        let n = full_run_low g s Free (budget - (w + 1 + length d)) d steps end count f in
        record {
          names = λ es next.
              after_it room (finished steps end count) f es next
              ∙ ap (λ b. cond b (next (w + 1 + length d + count) (es ++ evidence (i, j) steps ∷ [])) (affordable g s (add i j steps))) z
              ∙ ap (λ n. next n (es ++ evidence (i, j) steps ∷ [])) (omega (arith, k));
          weighs = (k ∙ sym (ap (delta_weight g s steps) delta_is ∙ ap (run_weight (length d)) (full_run_is_run g s Free (budget - (w + 1 + length d)) d steps end count f).0), omega (arith, k, n, room));
          known = tt;
        }

    -- it ends elsewhere, and its end is known
    pub grown_course : IsPairAt g.symbols s i j → (steps : List Step) (x : ActionEnd) → x.terms ≡ length d → (x.run).count < 2 ^ 32 → full_run g s Free (left - 1 - length d) d ≡ finished steps ((x.run).end).terms (x.run).count → is_zero ((x.run).end).terms ≡ false
        → IsPairCourse g budget w s (i, j) (pairings.Grown steps x)
    grown_course n steps x k few e z =
        let end = ((x.run).end).terms in
        let count = (x.run).count in
        let f : going ≡ finished steps end count = ap (λ n. full_run g s Free n d) (sym rest_is) ∙ e in
        let ran = full_run_is_run g s Free (budget - (w + 1 + length d)) d steps end count f in
        record {
          names = λ es next.
              after_it room (finished steps end count) f es next
              ∙ ap (λ b. cond b (next (w + 1 + length d + count) (es ++ evidence (i, j) steps ∷ [])) (affordable g s (add i j steps))) z;
          weighs = tt;
          known = (
            record {
              count = count;
              is = run_of_pair g s i j n steps d (record { end = end; count = count }) delta_is ran.0 ∙ ap (λ (m : ℕ). Ok (record { terms = m; ran = record { end = end; count = count } })) (sym k);
              counted = omega (arith, few);
            },
            ap is_some ran.1,
          );
        }

    -- it stops
    pub stop_course : (c : Course) → full_run g s Free (left - 1 - length d) d ≡ c → (x : PairCourse) → IsPairStop x c → IsPairCourse g budget w s (i, j) x
    stop_course c e (pairings.Zero steps cost) k = absurd k
    stop_course c e (pairings.Spent steps) k = record { names = λ es next. after_it room (passed steps) (ap (λ n. full_run g s Free n d) (sym rest_is) ∙ e ∙ k) es next; weighs = tt; known = tt }
    stop_course c e (pairings.Grown steps x) k = absurd k
    stop_course c e (pairings.Wide steps) k = record { names = λ es next. after_it room _ (ap (λ n. full_run g s Free n d) (sym rest_is) ∙ e ∙ k) es next; weighs = tt; known = tt }
    stop_course c e (pairings.Large limit steps) k = record { names = λ es next. after_it room _ (ap (λ n. full_run g s Free n d) (sym rest_is) ∙ e ∙ k) es next; weighs = tt; known = tt }

-- ---- a Delta-polynomial that is refused
module _ (g : Setting) (s : State) (i j : ℕ) (n : IsPairAt g.symbols s i j) where
  -- the entry is decided
  by_refusal : (budget w : ℕ) (r : Refusal) → delta_answer g n.first n.second ≡ Err r → (es : List Evidence) (next : ℕ → List Evidence → Entry) → after_delta g budget s w es (i, j) (delta_at g s (i, j)) next ≡ after_delta g budget s w es (i, j) (Err r) next
  by_refusal budget w r e es next = ap (λ q. after_delta g budget s w es (i, j) q next) (delta_of_pair g s i j n ∙ e)

  pub wide_delta : (budget w : ℕ) (steps : List Step) → steps ≡ [] → IsStop stops.Wide (delta_answer g n.first n.second) → IsPairCourse g budget w s (i, j) (pairings.Wide steps)
  wide_delta budget w steps none h = subst (λ (steps : List Step). IsPairCourse g budget w s (i, j) (pairings.Wide steps)) (sym none) (record { names = λ es next. by_refusal budget w wide (is_wide (delta_answer g n.first n.second) h) es next; weighs = tt; known = tt })
    where
      is_wide : (q : Result (Polynomial Symbol) Refusal) → IsStop stops.Wide q → q ≡ Err wide
      is_wide (Ok d) (inl e) = cc
      is_wide (Ok d) (inr e) = cc
      is_wide (Err wide) h = refl
      is_wide (Err (large l)) (inl e) = cc
      is_wide (Err (large l)) (inr e) = cc

  pub large_delta : (budget w : ℕ) (limit : Limit) (steps : List Step) → steps ≡ [] → IsStop (stops.Large limit) (delta_answer g n.first n.second) → IsPairCourse g budget w s (i, j) (pairings.Large limit steps)
  large_delta budget w limit steps none h = subst (λ (steps : List Step). IsPairCourse g budget w s (i, j) (pairings.Large limit steps)) (sym none) (record { names = λ es next. by_refusal budget w (large limit) (is_large (delta_answer g n.first n.second) h) es next; weighs = tt; known = tt })
    where
      is_large : (q : Result (Polynomial Symbol) Refusal) → IsStop (stops.Large limit) q → q ≡ Err (large limit)
      is_large (Ok d) (inl e) = cc
      is_large (Ok d) (inr e) = cc
      is_large (Err wide) (inl e) = cc
      is_large (Err wide) (inr e) = cc
      is_large (Err (large l)) (inl e) = cc
      is_large (Err (large l)) (inr e) = let f : l ≡ limit = cc in ap (λ l. Err (large l)) f

-- ---- the pairs so far
-- the weight of one run more
pairs_weight-append : (g : Setting) (s : State) (es : List Evidence) (e : Evidence) → pairs_weight g s (es ++ e ∷ []) ≡ pairs_weight g s es + pair_weight g s e
pairs_weight-append g s [] e = omega arith
pairs_weight-append g s (f ∷ es) e = ap (λ n. pair_weight g s f + n) (pairs_weight-append g s es e) ∙ omega arith

-- the lines of one run more
lines_append : (ls : List ProgramLine) (l : ProgramLine) (es : List Evidence) (e : Evidence) → map line_of ls ≡ map pair es → line_of l ≡ pair e → map line_of (ls ++ l ∷ []) ≡ map pair (es ++ e ∷ [])
lines_append ls l es e h k = map-append line_of ls l ∙ ap (λ xs. xs ++ line_of l ∷ []) h ∙ ap (λ x. map pair es ++ x ∷ []) k ∙ sym (map-append pair es e)
  where
    map-append : {A B : Type 0} (f : A → B) (xs : List A) (x : A) → map f (xs ++ x ∷ []) ≡ map f xs ++ f x ∷ []
    map-append f [] x = refl
    map-append f (y ∷ xs) x = ap (λ ys. f y ∷ ys) (map-append f xs x)

module _ (g : Setting) (budget weight w : ℕ) (s : State) (ls : List ProgramLine) (i j : ℕ) (ps : List (ℕ × ℕ)) (h : IsSoFar g budget weight s ls w ((i, j) ∷ ps)) where
  -- the entry of all pairs, by the run of this one
  by_pair : (x : PairCourse) → IsPairCourse g budget w s (i, j) x → pairs_entry g budget weight s ≡ pair_entry g s w h.evidence (i, j) (λ w' es'. pairs_next g budget s w' es' ps) x
  by_pair x k = h.names ∙ k.names h.evidence (λ w' es'. pairs_next g budget s w' es' ps)

  -- a run to zero is evidence
  pub zero_onward : (steps : List Step) (cost : ℕ) → IsPairCourse g budget w s (i, j) (pairings.Zero steps cost) → IsSoFar g budget weight s (ls ++ lines.Pair i j steps ∷ []) (w + cost) ps
  zero_onward steps cost k = record {
    evidence = h.evidence ++ evidence (i, j) steps ∷ [];
    are = lines_append ls (lines.Pair i j steps) h.evidence (evidence (i, j) steps) h.are refl;
    weighs = omega (arith, h.weighs, k.weighs.0, pairs_weight-append g s h.evidence (evidence (i, j) steps));
    names = by_pair (pairings.Zero steps cost) k;
  }

  -- runs that pass the budget
  pub spent_onward : (steps : List Step) (x : Named) → IsPairCourse g budget w s (i, j) (pairings.Spent steps)
      → ((es : List Evidence) → map line_of (ls ++ lines.Pair i j steps ∷ []) ≡ map pair es → IsNamed g budget weight s x (with_evidence spent_pairs es)) → IsNamed g budget weight s x (pairs_entry g budget weight s)
  spent_onward steps x k f =
      subst (λ (e : Entry). IsNamed g budget weight s x e) (sym (by_pair (pairings.Spent steps) k))
      (f (h.evidence ++ evidence (i, j) steps ∷ []) (lines_append ls (lines.Pair i j steps) h.evidence (evidence (i, j) steps) h.are refl))

  -- an end that is not zero is added, if the entry holds
  pub grown_onward : (steps : List Step) (x : ActionEnd) → IsPairCourse g budget w s (i, j) (pairings.Grown steps x) → EntryHolds g budget weight s (pairs_entry g budget weight s)
      → pairs_entry g budget weight s ≡ plain g budget weight s (add i j steps)
  unfolding entered
  grown_onward steps x k holds =
      let e = by_pair (pairings.Grown steps x) k in
      e ∙ affordable_plain (add i j steps) (subst (EntryHolds g budget weight s) e holds)
    where
      alone : Action → Result Done (ℕ × Fault) → Entry
      alone action q = elim q as (λ _. Entry) [ Ok d ↦ line_alone (act action) | Err e ↦ line_alone (open_line e.1 action) ]

      bounded : Action → Result Done (ℕ × Fault) → Entry
      bounded action q = elim q as (λ _. Entry) [ Ok d ↦ line_alone (cond (nat_le (weight + d.weight) budget) (act action) (spent action)) | Err e ↦ line_alone (open_line e.1 action) ]

      low_enough : (action : Action) (d : Done) → perform g s action ≡ Ok d → (q : Result Below (ℕ × Rule)) → entered g budget weight s (act action) [] ≡ q → is_ok q ≡ true → nat_le (weight + d.weight) budget ≡ true
      low_enough action d e (Ok b) f h =
          let a = bind_ok (told_as told_at_line (perform g s action)) _ b f in
          let c = then_ok (nat_le (weight + (a.0).weight) budget) _ _ b a.2 in
          let p : a.0 ≡ d = ok_same {E = ℕ × Fault} a.0 d (sym (told_ok told_at_line (perform g s action) a.0 a.1) ∙ e) in
          subst (λ (x : Done). nat_le (weight + x.weight) budget ≡ true) p c.0
      low_enough action d e (Err r) f h = cc

      affordable_plain : (action : Action) → EntryHolds g budget weight s (affordable g s action) → affordable g s action ≡ plain g budget weight s action
      affordable_plain action h = by_answer (perform g s action) refl h
        where
          by_answer : (q : Result Done (ℕ × Fault)) → perform g s action ≡ q → EntryHolds g budget weight s (alone action q) → alone action q ≡ bounded action q
          by_answer (Ok d) e h = ap (λ b. line_alone (cond b (act action) (spent action))) (sym (low_enough action d e (entered g budget weight s (act action) []) refl h))
          by_answer (Err x) e h = refl

-- the pairs begin
pub begins : (g : Setting) (budget weight : ℕ) (s : State) → IsSoFar g budget weight s [] weight (critical_pairs g.symbols s)
begins g budget weight s = record { evidence = []; are = refl; weighs = omega arith; names = refl }

-- ---- the pairs of a list
-- the pair at a place
pub pair_at : (g : Symbols Symbol) (s : State) (k : ℕ) (found : List (ℕ × ℕ)) (x : ℕ × ℕ) → found ≡ critical_pairs g s → k < length found → x ≡ slice_index_or found k x → IsPairAt g s x.0 x.1
pair_at g s k found x e l f = subst (λ (x : ℕ × ℕ). IsPairAt g s x.0 x.1) (sym f) (named found k l (subst (λ (ps : List (ℕ × ℕ)). AllOf (NamesPair g s.equations) ps) (sym e) (critical_pairs_name g s)))
  where
    named : (ps : List (ℕ × ℕ)) (k : ℕ) → k < length ps → AllOf (NamesPair g s.equations) ps → IsPairAt g s (slice_index_or ps k x).0 (slice_index_or ps k x).1
    named [] k l h = absurd (omega (arith, l))
    named (p ∷ ps) zero l h = let n = h.0 in record { first = n.first; second = n.second; rises = n.rises; first_is = n.first_is; second_is = n.second_is; is_one = n.is_one }
    named (p ∷ ps) (suc k) l h = named ps k (omega (arith, l)) h.1

module _ (g : Setting) (budget weight : ℕ) (s : State) (ls : List ProgramLine) (w k : ℕ) (found : List (ℕ × ℕ)) where
  -- the pairs that are left begin with it
  pub next_pair : (x : ℕ × ℕ) → found ≡ critical_pairs g.symbols s → k < length found → x ≡ slice_index_or found k x → IsSoFar g budget weight s ls w (drop k (critical_pairs g.symbols s)) → IsSoFar g budget weight s ls w (x ∷ drop (k + 1) (critical_pairs g.symbols s))
  next_pair x e l f h =
      let more : suc k ≡ k + 1 = omega arith in
      subst (λ (ps : List (ℕ × ℕ)). IsSoFar g budget weight s ls w ps)
      (ap (drop k) (sym e) ∙ drop_here k found x l ∙ ap (λ (y : ℕ × ℕ). y ∷ drop (suc k) found) (sym f) ∙ ap (λ (ps : List (ℕ × ℕ)). x ∷ drop (suc k) ps) e ∙ ap (λ n. x ∷ drop n (critical_pairs g.symbols s)) more) h

  -- none is left: a chain with all evidence
  pub chain_onward : (x : Named) → found ≡ critical_pairs g.symbols s → length found ≤ k → IsSoFar g budget weight s ls w (drop k (critical_pairs g.symbols s))
      → ((es : List Evidence) → map line_of ls ≡ map pair es → w - weight ≡ pairs_weight g s es → ◌≡◌ {A = List State} [] [] → IsNamed g budget weight s x (with_evidence chain es)) → IsNamed g budget weight s x (pairs_entry g budget weight s)
  chain_onward x e l h f =
      subst (λ (e : Entry). IsNamed g budget weight s x e) (sym (h.names ∙ ap (pairs_next g budget s w h.evidence) (ap (drop k) (sym e) ∙ drop_end k found l)))
      (f h.evidence h.are (omega (arith, h.weighs)) refl)

-- the same lines
pub same_lines : (g : Setting) (budget weight : ℕ) (s : State) (ls new : List ProgramLine) (w : ℕ) (ps : List (ℕ × ℕ)) → new ≡ ls → IsSoFar g budget weight s ls w ps → IsSoFar g budget weight s new w ps
same_lines g budget weight s ls new w ps e h = subst (λ (ls : List ProgramLine). IsSoFar g budget weight s ls w ps) (sym e) h
