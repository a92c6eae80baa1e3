-- The order of work leads to at most one tree, which is certified.
use Rattle.std.specs.Prelude.{⊤, MatchResult}
use Rattle.std.proofs.Common.{◌≡◌, ℕ, zero, suc, ◌+◌, ◌-◌, ◌*◌, ◌≤◌, nat_le, nat_lt, Bool, true, false, cond, List, [], ◌∷◌, ◌++◌, length, refl, sym, ap, ap₂, ◌∙◌, arith, subst, Result, Ok, Err, is_ok, IsOk, length-append}
use Rattle.std.proofs.lemmas.Bool.{leb-false, lt-ltb}
use Rattle.dz_algebra.specs.Outcome.{◌>>=◌, needs, told_as}
use Rattle.dz_monomials.specs.Lists.{AllOf}
use Rattle.dz_diff.specs.Operations.{Setting}
use Rattle.dz_diff.specs.State.{State}
use Rattle.dz_move.specs.Root.{System, root_of}
use Rattle.dz_diff.proofs.Places.{all-append}
use Rattle.dz_move.specs.declared.Rule.{Rule}
use Rattle.dz_move.specs.declared.Rule.TheVariants as rules
use Rattle.dz_move.specs.Fault.{Fault}
use Rattle.dz_move.specs.Moves.{Action, Done, perform}
use Rattle.dz_check.specs.Certified.{IsCertified}
use Rattle.dz_tree.specs.Forms.{FormTree}
use Rattle.dz_move.specs.Lines.{Line, act, spent, Entry, entries_of, lines_of}
use Rattle.dz_check.proofs.Certifying.{certified_is}
use Rattle.dz_tree.proofs.TreeEntries.{lines_of_entries}
use Rattle.dz_check.specs.Reasons.{costs_more, reason_holds}
use Rattle.dz_tree.specs.Trees.{Tree}
use Rattle.dz_check.specs.Walk.{End, Below, ended, told_at_line, entered, walk, ends_of}
use Rattle.dz_engine.specs.Order.{plain, open_line, next_entry}
use Rattle.dz_engine.specs.Worked.{IsWorkedFrom, IsWorked, worked_from}
use Rattle.dz_engine.specs.Laws.{WorkedLaws}

module _ (g : Setting) (budget : ℕ) where
  -- there is at most one
  pub worked_once : (w : ℕ) (pending : List State) (es fs : List Entry) → IsWorkedFrom g budget w pending es → IsWorkedFrom g budget w pending fs → es ≡ fs
  worked_once w [] [] [] h k = refl
  worked_once w [] [] (f ∷ fs) h k = absurd k
  worked_once w [] (e ∷ es) fs h k = absurd h
  worked_once w (s ∷ pending) [] fs h k = absurd h
  worked_once w (s ∷ pending) (e ∷ es) [] h k = absurd k
  worked_once w (s ∷ pending) (e ∷ es) (f ∷ fs) h k =
      let same : e ≡ f = h.0 ∙ sym k.0 in
      ap₂ (λ x (xs : List Entry). x ∷ xs) same (rest (entered g budget w s e.line e.evidence) (λ b. worked_once (w + b.weight) (b.states ++ pending) es fs) h.1
      (subst (λ (x : Entry). MatchResult (entered g budget w s x.line x.evidence) (λ b. IsWorkedFrom g budget (w + b.weight) (b.states ++ pending) fs) (λ r. ⊥)) (sym same) k.1))
    where
      rest : (q : Result Below (ℕ × Rule)) → ((b : Below) → IsWorkedFrom g budget (w + b.weight) (b.states ++ pending) es → IsWorkedFrom g budget (w + b.weight) (b.states ++ pending) fs → es ≡ fs)
          → MatchResult q (λ b. IsWorkedFrom g budget (w + b.weight) (b.states ++ pending) es) (λ r. ⊥)
          → MatchResult q (λ b. IsWorkedFrom g budget (w + b.weight) (b.states ++ pending) fs) (λ r. ⊥) → es ≡ fs
      rest (Ok b) ih h k = ih b h k
      rest (Err r) ih h k = absurd h

  -- it is certified
  pub worked_is_certified : (w place : ℕ) (pending : List State) (es : List Entry) → IsWorkedFrom g budget w pending es → IsOk (walk g budget w place pending es)
  worked_is_certified w place [] [] h = refl
  worked_is_certified w place [] (e ∷ es) h = absurd h
  worked_is_certified w place (s ∷ pending) [] h = absurd h
  worked_is_certified w place (s ∷ pending) (e ∷ es) h = rest (entered g budget w s e.line e.evidence) (λ b. worked_is_certified (w + b.weight) (place + 1 + length e.evidence) (b.states ++ pending) es) h.1
    where
      more : (q : Result (List End) (ℕ × Rule)) (b : Below) → IsOk q → IsOk (◌>>=◌ {A = List End} {B = List End} {E = ℕ × Rule} q (λ ends. Ok (b.ends ++ ends)))
      more (Ok ends) b h = refl
      more (Err r) b h = cc

      rest : (q : Result Below (ℕ × Rule)) → ((b : Below) → IsWorkedFrom g budget (w + b.weight) (b.states ++ pending) es → IsOk (walk g budget (w + b.weight) (place + 1 + length e.evidence) (b.states ++ pending) es))
          → MatchResult q (λ b. IsWorkedFrom g budget (w + b.weight) (b.states ++ pending) es) (λ r. ⊥)
          → IsOk (elim q as (λ _. Result (List End) (ℕ × Rule)) [
            | Err r ↦ Err (place + r.0, r.1)
            | Ok b ↦ walk g budget (w + b.weight) (place + 1 + length e.evidence) (b.states ++ pending) es >>= (λ ends. Ok (b.ends ++ ends))
          ])
      rest (Ok b) ih h = more (walk g budget (w + b.weight) (place + 1 + length e.evidence) (b.states ++ pending) es) b (ih b h)
      rest (Err r) ih h = absurd h

  -- and it is there, where the entry that is next always holds
  pub record Goes (Fine : State → Type 0) (w : ℕ) (s : State) : Type 0 where
    pub below : Below
    pub holds : entered g budget w s (next_entry g budget w s).line (next_entry g budget w s).evidence ≡ Ok below
    pub affordable : w + below.weight ≤ budget
    pub fine : AllOf Fine below.states
    pub few : length below.states ≤ 2 * below.weight

  -- so the worked tree is there
  pub worked_is_there : (Fine : State → Type 0) → ((w : ℕ) (s : State) → w ≤ budget → Fine s → Goes Fine w s)
      → (n w left : ℕ) (pending : List State) → w + left ≡ budget → 2 * left + length pending ≤ n → AllOf Fine pending → IsWorkedFrom g budget w pending (worked_from g budget n w pending)
  worked_is_there Fine goes n w left [] e l h = no_pending n
    where
      no_pending : (n : ℕ) → IsWorkedFrom g budget w [] (worked_from g budget n w [])
      no_pending zero = tt
      no_pending (suc n) = tt
  worked_is_there Fine goes zero w left (s ∷ pending) e l h = absurd (omega arith)
  worked_is_there Fine goes (suc n) w left (s ∷ pending) e l h =
      let k = goes w s (omega arith) h.0 in
      let left' : ℕ = left - k.below.weight in
      let e' : w + k.below.weight + left' ≡ budget = omega (arith, k.affordable) in
      let l' : 2 * left' + length (k.below.states ++ pending) ≤ n = omega (arith, k.few, k.affordable, length-append k.below.states pending) in
      found (entered g budget w s (next_entry g budget w s).line (next_entry g budget w s).evidence) refl k.below k.holds
      (worked_is_there Fine goes n (w + k.below.weight) left' (k.below.states ++ pending) e' l' (all-append Fine k.below.states pending k.fine h.1))
    where
      found : (q : Result Below (ℕ × Rule)) → entered g budget w s (next_entry g budget w s).line (next_entry g budget w s).evidence ≡ q → (b : Below) → q ≡ Ok b
          → IsWorkedFrom g budget (w + b.weight) (b.states ++ pending) (worked_from g budget n (w + b.weight) (b.states ++ pending))
          → IsWorkedFrom g budget w (s ∷ pending) (elim q as (λ _. List Entry) [
            | Ok b ↦ next_entry g budget w s ∷ worked_from g budget n (w + b.weight) (b.states ++ pending)
            | Err r ↦ next_entry g budget w s ∷ []
          ])
      found (Err r) f b i h = cc
      found (Ok c) f b i h =
          let same : b ≡ c = cc in
          let h' = subst (λ (y : Below). IsWorkedFrom g budget (w + y.weight) (y.states ++ pending) (worked_from g budget n (w + y.weight) (y.states ++ pending))) same h in
          (refl, subst (λ q. MatchResult q (λ b. IsWorkedFrom g budget (w + b.weight) (b.states ++ pending) (worked_from g budget n (w + c.weight) (c.states ++ pending))) (λ r. ⊥)) (sym f) h')

-- ---- an action as it is
module _ (g : Setting) (budget w : ℕ) (s : State) where
  nat_lt_from : (a b : ℕ) → nat_le a b ≡ false → nat_lt b a ≡ true
  nat_lt_from a b e = lt-ltb b a (omega (arith, leb-false a b e))

  -- within the budget it is a line, and past it an open end that holds
  pub plain_holds : (action : Action) (d : Done) → perform g s action ≡ Ok d → IsOk (entered g budget w s (plain g budget w s action).line (plain g budget w s action).evidence)
  unfolding entered reason_holds
  plain_holds action d e = by_answer (perform g s action) e
    where
      by_test : (b : Bool) → nat_le (w + d.weight) budget ≡ b → IsOk (entered g budget w s (cond b (act action) (spent action)) [])
      by_test true h =
          ap (λ q. is_ok {T = Below} {E = ℕ × Rule} (told_as told_at_line q >>= (λ d. needs (nat_le (w + d.weight) budget) (0, rules.Weight) >>= (λ _. Ok (record { states = d.after; ends = []; weight = d.weight }))))) e
          ∙ ap (λ b. is_ok {T = Below} {E = ℕ × Rule} (◌>>=◌ {A = ⊤} {B = Below} {E = ℕ × Rule} (needs b (0, rules.Weight)) (λ _. Ok (record { states = d.after; ends = []; weight = d.weight })))) h
      by_test false h =
          ap (λ q. is_ok {T = Below} {E = ℕ × Rule} (◌>>=◌ {A = ⊤} {B = Below} {E = ℕ × Rule} (needs (costs_more budget w q) (0, rules.Reason)) (λ _. Ok (ended (spent action) s 0)))) e
          ∙ ap (λ b. is_ok {T = Below} {E = ℕ × Rule} (◌>>=◌ {A = ⊤} {B = Below} {E = ℕ × Rule} (needs b (0, rules.Reason)) (λ _. Ok (ended (spent action) s 0)))) (nat_lt_from (w + d.weight) budget h)

      by_answer : (q : Result Done (ℕ × Fault)) → q ≡ Ok d
          → IsOk (entered g budget w s (elim q as (λ _. Entry) [ Ok d ↦ record { line = cond (nat_le (w + d.weight) budget) (act action) (spent action); evidence = [] } | Err e ↦ record { line = open_line e.1 action; evidence = [] } ]).line (elim q as (λ _. Entry) [ Ok d ↦ record { line = cond (nat_le (w + d.weight) budget) (act action) (spent action); evidence = [] } | Err e ↦ record { line = open_line e.1 action; evidence = [] } ]).evidence)
      by_answer (Ok c) f = let h : c ≡ d = cc in subst (λ x. IsOk (entered g budget w s (cond (nat_le (w + x.weight) budget) (act action) (spent action)) [])) (sym h) (by_test (nat_le (w + d.weight) budget) refl)
      by_answer (Err r) f = cc

-- ---- the laws
-- a worked tree is certified
certified_tree : (g : Setting) (system : System) (tree : Tree) → IsWorked g system tree → IsCertified g system tree
unfolding ends_of
certified_tree g system tree h = (certified_is g system tree h.formed).0 (worked_is_certified g tree.budget 0 1 (root_of g.symbols system ∷ []) (entries_of tree.lines) h.named)

-- equal entries are those of equal lines, where these form one tree
same_lines : (lines more : List Line) → FormTree lines → FormTree more → entries_of lines ≡ entries_of more → lines ≡ more
same_lines lines more h k e = sym (lines_of_entries lines h) ∙ ap lines_of e ∙ lines_of_entries more k

-- the laws of worked trees
pub worked_laws : (g : Setting) → WorkedLaws g
worked_laws g = record {
  once = λ system budget lines more h k. same_lines lines more h.formed.lines k.formed.lines (worked_once g budget 0 (root_of g.symbols system ∷ []) (entries_of lines) (entries_of more) h.named k.named);
  certified = certified_tree g;
}
