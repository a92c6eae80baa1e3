-- What full runs do: a run to an end within the budget, or up to a step that stops or cuts them.
use Rattle.std.proofs.Common.{◌≡◌, ◌≢◌, ℕ, zero, suc, ◌+◌, ◌-◌, ◌≤◌, ◌<◌, nat_lt, Bool, true, false, cond, List, [], ◌∷◌, ◌++◌, length, take, refl, sym, ap, subst, ◌∙◌, Result, Ok, Err, Option, Some, None, arith, append-nil, append_assoc}
use Rattle.std.proofs.lemmas.Bool.{ltb-true, ltb-false}
use Rattle.std.proofs.lemmas.List.{length_push}
use Rattle.std.proofs.Math.Seq.{take-append_seam}
use Rattle.dz_algebra.specs.Norm.{norm}
use Rattle.dz_algebra.specs.Polynomial.{Polynomial}
use Rattle.dz_rank.specs.declared.symbols.Symbol.{Symbol}
use Rattle.dz_algebra.specs.Outcome.{◌>>=◌, numbered}
use Rattle.dz_diff.specs.Operations.{Setting}
use Rattle.dz_diff.specs.State.{State}
use Rattle.dz_step.specs.declared.Role.{Role}
use Rattle.dz_step.specs.declared.Step.{Step}
use Rattle.dz_step.specs.Attempts.{IsPrefix, steps_taken}
use Rattle.dz_step.specs.Step.{Stop, step_in}
use Rattle.dz_step.specs.Run.{Ran, run_from}
use Rattle.dz_step.specs.FullRun.{Course, finished, stopped, passed, full_run_from, full_run, next_step}
use Rattle.dz_step.proofs.FullCourses.{after, in_turns, turned}

-- ---- lists with a last step
-- a list with a last step, without it
pub take-push : (steps : List Step) (st : Step) → take (length (steps ++ st ∷ []) - 1) (steps ++ st ∷ []) ≡ steps
take-push steps st =
    let n : length (steps ++ st ∷ []) - 1 ≡ length steps = omega (arith, length_push steps st) in
    ap (λ n. take n (steps ++ st ∷ [])) n ∙ take-append_seam steps (st ∷ [])

-- it is not empty
pub push_not_empty : (steps : List Step) (st : Step) → steps ++ st ∷ [] ≢ []
push_not_empty [] st e = cc
push_not_empty (first ∷ steps) st e = cc

-- it has one last step, and one list before that
pub push_same : (steps others : List Step) (st other : Step) → steps ++ st ∷ [] ≡ others ++ other ∷ [] → (steps ≡ others) × (st ≡ other)
push_same [] [] st other e = (refl, cc)
push_same [] (second ∷ others) st other e = absurd (let z : others ++ other ∷ [] ≡ [] = cc in push_not_empty others other z)
push_same (first ∷ steps) [] st other e = absurd (let z : steps ++ st ∷ [] ≡ [] = cc in push_not_empty steps st z)
push_same (first ∷ steps) (second ∷ others) st other e =
    let a : first ≡ second = cc in
    let b : steps ++ st ∷ [] ≡ others ++ other ∷ [] = cc in
    let k = push_same steps others st other b in
    let c = k.0 in
    (cc, k.1)

module _ (g : Setting) (s : State) (role : Role) where
  -- a run goes on by a step
  pub run_goes_on : (steps : List Step) (n : ℕ) (f : Polynomial Symbol) (count : ℕ) (x : Ran) (st : Step) (r : Polynomial Symbol) → run_from g s role n f count steps ≡ Ok x → step_in g s role x.end st ≡ Ok r
      → run_from g s role n f count (steps ++ st ∷ []) ≡ Ok (record { end = r; count = x.count + 1 + length r })
  run_goes_on [] n f count x st r e i =
      let same : record { end = f; count = count } ≡ x = cc in
      subst (λ (x : Ran). step_in g s role x.end st ≡ Ok r → run_from g s role n f count (st ∷ []) ≡ Ok (record { end = r; count = x.count + 1 + length r })) same
      (λ i. ap (λ q. numbered n q >>= (λ r. run_from g s role (suc n) r (count + 1 + length r) [])) i) i
  run_goes_on (first ∷ steps) n f count x st r e i = by_answer (step_in g s role f first) (λ y k h. run_goes_on steps (suc n) y k x st r h i) e
    where
      by_answer : (q : Result (Polynomial Symbol) Stop) → ((y : Polynomial Symbol) (k : ℕ) → run_from g s role (suc n) y k steps ≡ Ok x → run_from g s role (suc n) y k (steps ++ st ∷ []) ≡ Ok (record { end = r; count = x.count + 1 + length r }))
          → numbered n q >>= (λ y. run_from g s role (suc n) y (count + 1 + length y) steps) ≡ Ok x → numbered n q >>= (λ y. run_from g s role (suc n) y (count + 1 + length y) (steps ++ st ∷ [])) ≡ Ok (record { end = r; count = x.count + 1 + length r })
      by_answer (Ok y) ih e = ih y (count + 1 + length y) e
      by_answer (Err stop) ih e = cc

module _ (g : Setting) (s : State) (role : Role) (budget : ℕ) where
  -- ---- what a full run does from f on, after some steps
  -- it comes to its end: a run within the budget, to an end that admits no step
  pub record IsRun (f : Polynomial Symbol) (count n : ℕ) (done steps : List Step) (end : Polynomial Symbol) (c : ℕ) : Type 0 where
    pub more : List Step
    pub steps_are : steps ≡ done ++ more
    pub is_run : run_from g s role n f count more ≡ Ok (record { end = end; count = c })
    pub within : c ≤ budget
    pub at_rest : next_step g s role end ≡ None

  -- it comes to a last step: a run within the budget, after which that step is next
  pub record IsRunUpTo (f : Polynomial Symbol) (count n : ℕ) (done steps : List Step) : Type 0 where
    pub more : List Step
    pub last : Step
    pub steps_are : steps ≡ done ++ (more ++ last ∷ [])
    pub ran : Ran
    pub is_run : run_from g s role n f count more ≡ Ok ran
    pub within : (ran).count ≤ budget
    pub is_next : next_step g s role (ran).end ≡ Some last

  -- how a full run goes, told of its steps
  abbrev pub Goes : Polynomial Symbol → ℕ → ℕ → List Step → Course → Type 0
  Goes f count n done (finished steps end c) = IsRun f count n done steps end c
  Goes f count n done (stopped steps stop) = (k : IsRunUpTo f count n done steps) × (step_in g s role k.ran.end k.last ≡ Err stop)
  Goes f count n done (passed steps) = (k : IsRunUpTo f count n done steps) × (r : Polynomial Symbol) × (step_in g s role k.ran.end k.last ≡ Ok r) × (budget < k.ran.count + 1 + length r)

  -- up to a last step, by a step earlier
  abbrev earlier : (f r : Polynomial Symbol) (count n : ℕ) (done steps : List Step) (st : Step) → step_in g s role f st ≡ Ok r → IsRunUpTo r (count + 1 + length r) (suc n) (done ++ st ∷ []) steps → IsRunUpTo f count n done steps
  earlier f r count n done steps st i k = record {
    more = st ∷ k.more;
    last = k.last;
    steps_are = k.steps_are ∙ append_assoc done (st ∷ []) (k.more ++ k.last ∷ []);
    ran = k.ran;
    is_run = ap (λ q. numbered n q >>= (λ r. run_from g s role (suc n) r (count + 1 + length r) k.more)) i ∙ k.is_run;
    within = k.within;
    is_next = k.is_next;
  }

  -- how it goes, by a step earlier
  goes_earlier : (f r : Polynomial Symbol) (count n : ℕ) (done : List Step) (st : Step) → step_in g s role f st ≡ Ok r → (c : Course) → Goes r (count + 1 + length r) (suc n) (done ++ st ∷ []) c → Goes f count n done c
  goes_earlier f r count n done st i (finished steps end c) k = record {
    more = st ∷ k.more;
    steps_are = k.steps_are ∙ append_assoc done (st ∷ []) k.more;
    is_run = ap (λ q. numbered n q >>= (λ r. run_from g s role (suc n) r (count + 1 + length r) k.more)) i ∙ k.is_run;
    within = k.within;
    at_rest = k.at_rest;
  }
  goes_earlier f r count n done st i (stopped steps stop) k = (earlier f r count n done steps st i k.0, k.1)
  goes_earlier f r count n done st i (passed steps) k = (earlier f r count n done steps st i k.0, k.1, k.2, k.3)

  -- with rounds enough for what is left of the budget, it goes so
  pub full_run_goes : (rounds : ℕ) (done : List Step) (f : Polynomial Symbol) (count n : ℕ) → count ≤ budget → budget < rounds + count → Goes f count n done (full_run_from g s role budget rounds done f count)
  full_run_goes zero done f count n low enough = absurd (omega (arith, low, enough))
  full_run_goes (suc rounds) done f count n low enough =
      subst (Goes f count n done) (sym (in_turns g s role budget done f count rounds)) (by_step (next_step g s role f) refl (λ st x k h z. full_run_goes rounds (done ++ st ∷ []) x k (suc n) h z))
    where
      here : (st : Step) → next_step g s role f ≡ Some st → IsRunUpTo f count n done (done ++ st ∷ [])
      here st m = record { more = []; last = st; steps_are = refl; ran = record { end = f; count = count }; is_run = refl; within = low; is_next = m }

      by_test : (b : Bool) (st : Step) (x : Polynomial Symbol) → next_step g s role f ≡ Some st → step_in g s role f st ≡ Ok x → nat_lt budget (count + 1 + length x) ≡ b
          → ((st : Step) (x : Polynomial Symbol) (k : ℕ) → k ≤ budget → budget < rounds + k → Goes x k (suc n) (done ++ st ∷ []) (full_run_from g s role budget rounds (done ++ st ∷ []) x k))
          → Goes f count n done (cond b (passed (done ++ st ∷ [])) (full_run_from g s role budget rounds (done ++ st ∷ []) x (count + 1 + length x)))
      by_test true st x m i t ih = (here st m, x, i, ltb-true budget (count + 1 + length x) t)
      by_test false st x m i t ih =
          goes_earlier f x count n done st i (full_run_from g s role budget rounds (done ++ st ∷ []) x (count + 1 + length x))
          (ih st x (count + 1 + length x) (omega (arith, ltb-false budget (count + 1 + length x) t)) (omega (arith, enough)))

      by_answer : (st : Step) (q : Result (Polynomial Symbol) Stop) → next_step g s role f ≡ Some st → step_in g s role f st ≡ q
          → ((st : Step) (x : Polynomial Symbol) (k : ℕ) → k ≤ budget → budget < rounds + k → Goes x k (suc n) (done ++ st ∷ []) (full_run_from g s role budget rounds (done ++ st ∷ []) x k))
          → Goes f count n done (after g s role budget done f count rounds st q)
      by_answer st (Err stop) m i ih = (here st m, i)
      by_answer st (Ok x) m i ih = by_test (nat_lt budget (count + 1 + length x)) st x m i refl ih

      by_step : (o : Option Step) → next_step g s role f ≡ o
          → ((st : Step) (x : Polynomial Symbol) (k : ℕ) → k ≤ budget → budget < rounds + k → Goes x k (suc n) (done ++ st ∷ []) (full_run_from g s role budget rounds (done ++ st ∷ []) x k))
          → Goes f count n done (turned g s role budget done f count rounds o)
      by_step None m ih = record { more = []; steps_are = sym (append-nil done); is_run = refl; within = low; at_rest = m }
      by_step (Some st) m ih = by_answer st (step_in g s role f st) m refl ih

  -- ---- the steps that it takes
  -- those before a last step
  taken_before : (f : Polynomial Symbol) (count n : ℕ) (done steps : List Step) → IsRunUpTo f count n done steps → IsPrefix done (take (length steps - 1) steps)
  taken_before f count n done steps k = (
    k.more,
    sym (take-push (done ++ k.more) k.last) ∙ ap (λ l. take (length l - 1) l) (append_assoc done k.more (k.last ∷ []) ∙ sym k.steps_are),
  )

  -- the steps so far are the first of those that it takes
  pub so_far : (rounds : ℕ) (done : List Step) (f : Polynomial Symbol) (count : ℕ) → count ≤ budget → budget < rounds + count → IsPrefix done (steps_taken (full_run_from g s role budget rounds done f count))
  so_far rounds done f count low enough = by_course (full_run_from g s role budget rounds done f count) (full_run_goes rounds done f count 1 low enough)
    where
      by_course : (c : Course) → Goes f count 1 done c → IsPrefix done (steps_taken c)
      by_course (finished steps end c) k = (k.more, sym k.steps_are)
      by_course (stopped steps stop) k = taken_before f count 1 done steps k.0
      by_course (passed steps) k = taken_before f count 1 done steps k.0

  -- ---- the whole full run
  -- how the full run on f goes
  pub goes_from_norm : (f : Polynomial Symbol) → Goes (norm f) 0 1 [] (full_run g s role budget f)
  unfolding full_run
  goes_from_norm f = full_run_goes (suc budget) [] (norm f) 0 1 (omega arith) (omega arith)
