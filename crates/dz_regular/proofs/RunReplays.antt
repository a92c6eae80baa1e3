-- The combinations of a run hold on the rows of their numbers, and do not weigh more than the budget.
use Rattle.std.specs.Prelude.{⊤, nat_lt, cond, slice_get}
use Rattle.std.proofs.Common.{◌≡◌, ◌<◌, ◌≤◌, ◌+◌, ◌==◌, ◌++◌, ◌∙◌, ℕ, zero, suc, Bool, true, false, List, [], ◌∷◌, length, refl, ap, subst, arith, Result, Ok, Err, Option, Some, None}
use Rattle.std.proofs.lemmas.Bool.Decides.{nat_tests}
use Rattle.std.proofs.lemmas.List.{length-append}
use Rattle.dz_algebra.specs.Parts.{degree}
use Rattle.dz_algebra.specs.Polynomial.{Polynomial}
use Rattle.dz_algebra.specs.Size.{Refusal}
use Rattle.dz_algebra.specs.Symbols.{Symbols}
use Rattle.dz_rank.specs.declared.symbols.Symbol.{Symbol}
use Rattle.dz_algebra.specs.Outcome.{◌>>=◌, given, told_as}
use Rattle.dz_diff.specs.Tests.{Polynomials}
use Rattle.dz_regular.specs.Combining.{combined, terms_in_all}
use Rattle.dz_regular.specs.Replays.{Replay, HoldsCourse, HoldsWithin, equation_rows, first_rows, replay, replayed}
use Rattle.dz_regular.specs.Rows.{Numbered, equation_row, inequation_row, rest_of}
use Rattle.dz_regular.specs.Runs.{Course, Pair, Stage, ended, at_work, stopped, passed, after, greatest_leader, in_hand, is_first, next_combine, next_row, paired, regularity_run, run_from}
use Rattle.dz_regular.specs.declared.answers.Combine.{Combine}
use Rattle.dz_regular.proofs.Members.{found_member}

-- ---- lists
older : {X : Type 0} (xs : List X) (y a : X) (i : ℕ) → slice_get xs i ≡ Some a → slice_get (xs ++ y ∷ []) i ≡ Some a
older [] y a i e = cc
older (x ∷ xs) y a zero e = e
older (x ∷ xs) y a (suc i) e = older xs y a i e

newest : {X : Type 0} (xs : List X) (y : X) → slice_get (xs ++ y ∷ []) (length xs) ≡ Some y
newest [] y = refl
newest (x ∷ xs) y = newest xs y

-- ---- one more combination
module _ (g : Symbols Symbol) where
  nothing_more : (q : Result Replay ⊤) → (q >>= (λ y. Ok y)) ≡ q
  nothing_more (Ok y) = refl
  nothing_more (Err e) = refl

  replay-append : (x : Replay) (run : List Combine) (c : Combine) → replay g x (run ++ c ∷ []) ≡ (replay g x run >>= (λ y. replayed g y c))
  replay-append x [] c = nothing_more (replayed g x c)
  replay-append x (d ∷ run) c = by_first (replayed g x d) (λ y. replay-append y run c)
    where
      by_first : (q : Result Replay ⊤) → ((y : Replay) → replay g y (run ++ c ∷ []) ≡ (replay g y run >>= (λ y. replayed g y c)))
          → (q >>= (λ y. replay g y (run ++ c ∷ []))) ≡ ((q >>= (λ y. replay g y run)) >>= (λ y. replayed g y c))
      by_first (Ok y) more = more y
      by_first (Err e) more = refl

  -- on rows that stand there
  replayed_is : (x : Replay) (c : Combine) (a b row : Polynomials) → slice_get x.rows c.first ≡ Some a → slice_get x.rows c.second ≡ Some b → combined g c.symbol a b ≡ Ok row
      → replayed g x c ≡ Ok (record { rows = x.rows ++ row ∷ []; weight = x.weight + 1 + terms_in_all row })
  replayed_is x c a b row e f k =
      let last : Polynomials → Result Replay ⊤ = λ row. Ok (record { rows = x.rows ++ row ∷ []; weight = x.weight + 1 + terms_in_all row }) in
      ap (λ (o : Option Polynomials). given o tt >>= (λ a. given (slice_get x.rows c.second) tt >>= (λ b. told_as (λ _. tt) (combined g c.symbol a b) >>= last))) e
      ∙ ap (λ (o : Option Polynomials). given o tt >>= (λ b. told_as (λ _. tt) (combined g c.symbol a b) >>= last)) f
      ∙ ap (λ (q : Result Polynomials Refusal). told_as (λ _. tt) q >>= last) k

-- ---- runs
module _ (g : Symbols Symbol) (es : Polynomials) (h : Polynomial Symbol) where
  -- a row stands there under its number
  abbrev Stands : Replay → Numbered → Type 0
  Stands x a = slice_get x.rows a.number ≡ Some a.components

  -- a run has come so far
  record Reached (run : List Combine) (number count : ℕ) : Type 0 where
    now : Replay
    replays : replay g (first_rows es h) run ≡ Ok now
    width : length now.rows ≡ number
    weight : now.weight ≡ count
    members : (i : ℕ) → i < length es → slice_get now.rows (i + 1) ≡ Some (equation_row es i)

  abbrev StageStands : Replay → Stage → Type 0
  StageStands x (ended row) = Stands x row
  StageStands x (at_work pair) = Stands x pair.first × Stands x pair.second

  paired_stands : (x : Replay) (s : Symbol) (a b : Numbered) → Stands x a → Stands x b → StageStands x (at_work (paired g s a b))
  paired_stands x s a b of_a of_b = by_test (is_first g s a b)
    where
      by_test : (t : Bool) → StageStands x (at_work (cond t (record { symbol = s; first = a; second = b }) (record { symbol = s; first = b; second = a })))
      by_test true = (of_a, of_b)
      by_test false = (of_b, of_a)

  in_hand_stands : (x : Replay) (row : Numbered) → ((i : ℕ) → i < length es → slice_get x.rows (i + 1) ≡ Some (equation_row es i)) → Stands x row → StageStands x (in_hand g es row)
  in_hand_stands x row members of_row = by_leader (greatest_leader g es (rest_of row.components)) refl
    where
      by_leader : (o : Option (ℕ × Symbol)) → greatest_leader g es (rest_of row.components) ≡ o
          → StageStands x (elim o as (λ _. Stage) [
            | None ↦ ended row
            | Some best ↦ at_work (paired g best.1 (record { number = best.0 + 1; components = equation_row es best.0 }) row)
          ])
      by_leader None e = of_row
      by_leader (Some best) e = paired_stands x best.1 (record { number = best.0 + 1; components = equation_row es best.0 }) row (members best.0 (found_member g es (rest_of row.components) best e).inside) of_row

  after_stands : (x : Replay) (pair : Pair) (row : Numbered) → ((i : ℕ) → i < length es → slice_get x.rows (i + 1) ≡ Some (equation_row es i)) → Stands x pair.second → Stands x row → StageStands x (after g es pair row)
  after_stands x pair row members of_second of_row = by_test (degree g.cmp pair.symbol (rest_of row.components) == 0)
    where
      by_test : (t : Bool) → StageStands x (cond t (in_hand g es row) (at_work (paired g pair.symbol row pair.second)))
      by_test true = in_hand_stands x row members of_row
      by_test false = paired_stands x pair.symbol row pair.second of_row of_second

  -- one more combination was made
  abbrev more : Replay → Polynomials → Replay
  more x row = record { rows = x.rows ++ row ∷ []; weight = x.weight + 1 + terms_in_all row }

  abbrev reached_more : (run : List Combine) (number count : ℕ) (k : Reached run number count) (pair : Pair) (row : Polynomials) → replayed g k.now (next_combine pair) ≡ Ok (more k.now row) → Reached (run ++ next_combine pair ∷ []) (number + 1) (count + 1 + terms_in_all row)
  reached_more run number count k pair row e = record {
    now = more k.now row;
    replays = replay-append g (first_rows es h) run (next_combine pair) ∙ ap (λ (q : Result Replay ⊤). q >>= (λ y. replayed g y (next_combine pair))) k.replays ∙ e;
    width = length-append k.now.rows (row ∷ []) ∙ ap (λ n. n + 1) k.width;
    weight = ap (λ n. n + 1 + terms_in_all row) k.weight;
    members = λ i l. older k.now.rows row (equation_row es i) (i + 1) (k.members i l);
  }

  abbrev Holds : ℕ → Course → Type 0
  Holds budget course = HoldsCourse g es h budget course

  abbrev within : (budget number count : ℕ) (run : List Combine) (k : Reached run number count) → count ≤ budget → HoldsWithin g es h budget run
  within budget number count run k l = record { end = k.now; replays = k.replays; within = let w = k.weight in omega (arith, l, w) }

  -- how a run goes on after a row was made
  abbrev goes_on : (budget rounds number count : ℕ) → List Combine → Pair → Polynomials → Course
  goes_on budget rounds number count run pair row = run_from g es budget rounds (number + 1) (count + 1 + terms_in_all row) (run ++ next_combine pair ∷ []) (after g es pair (record { number = number; components = row }))

  from : (budget rounds number count : ℕ) (run : List Combine) (stage : Stage) (k : Reached run number count) → StageStands k.now stage → count ≤ budget → budget < count + rounds → Holds budget (run_from g es budget rounds number count run stage)
  from budget zero number count run stage k s l m = absurd (omega (arith, l, m))
  from budget (suc rounds) number count run (ended row) k s l m = (within budget number count run k l, s)
  from budget (suc rounds) number count run (at_work pair) k s l m =
      by_answer
      (λ row j t low high. from budget rounds (number + 1) (count + 1 + terms_in_all row) (run ++ next_combine pair ∷ []) (after g es pair (record { number = number; components = row })) j t low high)
      (next_row g pair) refl
    where
      by_budget : (row : Polynomials) (e : replayed g k.now (next_combine pair) ≡ Ok (more k.now row)) (t : Bool) → nat_lt budget (count + 1 + terms_in_all row) ≡ t
          → (count + 1 + terms_in_all row ≤ budget → Holds budget (goes_on budget rounds number count run pair row))
          → Holds budget (cond t (passed run (next_combine pair)) (goes_on budget rounds number count run pair row))
      by_budget row e true d next =
          let high : budget < count + 1 + terms_in_all row = grind (arith, nat_tests) in
          let w = k.weight in
          (within budget number count run k l, (more k.now row, e, omega (arith, high, w)))
      by_budget row e false d next = next (grind (arith, nat_tests))

      by_answer : ((row : Polynomials) (j : Reached (run ++ next_combine pair ∷ []) (number + 1) (count + 1 + terms_in_all row)) → StageStands j.now (after g es pair (record { number = number; components = row }))
          → count + 1 + terms_in_all row ≤ budget → budget < count + 1 + terms_in_all row + rounds → Holds budget (goes_on budget rounds number count run pair row))
          → (q : Result Polynomials Refusal) → next_row g pair ≡ q
          → Holds budget (elim q as (λ _. Course) [
            | Err refusal ↦ stopped run (next_combine pair) refusal
            | Ok row ↦ cond (nat_lt budget (count + 1 + terms_in_all row)) (passed run (next_combine pair)) (goes_on budget rounds number count run pair row)
          ])
      by_answer deeper (Err refusal) e = within budget number count run k l
      by_answer deeper (Ok row) e =
          let made = replayed_is g k.now (next_combine pair) pair.first.components pair.second.components row s.0 s.1 e in
          let next = reached_more run number count k pair row made in
          let here : slice_get (k.now.rows ++ row ∷ []) number ≡ Some row = subst (λ n. slice_get (k.now.rows ++ row ∷ []) n ≡ Some row) k.width (newest k.now.rows row) in
          by_budget row made (nat_lt budget (count + 1 + terms_in_all row)) refl
          (λ low. deeper row next
          (after_stands (more k.now row) pair (record { number = number; components = row }) next.members (older k.now.rows row pair.second.components pair.second.number s.1) here) low (omega (arith, m)))

  -- ---- the beginning
  rows_count : (i : ℕ) (others : Polynomials) → length (equation_rows es i others) ≡ length others
  rows_count i [] = refl
  rows_count i (e ∷ others) = ap suc (rows_count (i + 1) others)

  row_there : (i j : ℕ) (others : Polynomials) → j < length others → slice_get (equation_rows es i others) j ≡ Some (equation_row es (i + j))
  row_there i j [] l = absurd (omega (arith, l))
  row_there i zero (e ∷ others) l = let k : i ≡ i + 0 = omega arith in ap (λ n. Some (equation_row es n)) k
  row_there i (suc j) (e ∷ others) l = let k : i + 1 + j ≡ i + suc j = omega arith in row_there (i + 1) j others (omega (arith, l)) ∙ ap (λ n. Some (equation_row es n)) k

  abbrev reached_first : Reached [] (length es + 1) 0
  reached_first = record {
    now = first_rows es h;
    replays = refl;
    width = let c : length (equation_rows es 0 es) ≡ length es = rows_count 0 es in omega (arith, c);
    weight = refl;
    members = λ i l. by_next i l;
  }
    where
      by_next : (i : ℕ) → i < length es → slice_get (inequation_row es h ∷ equation_rows es 0 es) (i + 1) ≡ Some (equation_row es i)
      by_next i l =
          let k : i + 1 ≡ suc i = omega arith in
          let z : 0 + i ≡ i = omega arith in
          ap (slice_get (inequation_row es h ∷ equation_rows es 0 es)) k ∙ row_there 0 i es l ∙ ap (λ n. Some (equation_row es n)) z

  pub run_holds : (budget : ℕ) → Holds budget (regularity_run g es budget h)
  unfolding regularity_run
  run_holds budget =
      from budget (suc budget) (length es + 1) 0 [] (in_hand g es (record { number = 0; components = inequation_row es h })) reached_first
      (in_hand_stands (first_rows es h) (record { number = 0; components = inequation_row es h }) reached_first.members refl) (omega arith) (omega arith)

-- for all of them
pub runs_hold : (g : Symbols Symbol) (equations : Polynomials) (h : Polynomial Symbol) (budget : ℕ) → HoldsCourse g equations h budget (regularity_run g equations budget h)
runs_hold g equations h budget = run_holds g equations h budget
