-- The laws of worked trees; the crate's law functions ask for their proofs.
use Rattle.std.specs.Prelude.{◌≡◌, ◌≤◌, ◌+◌, ◌*◌, ℕ, true, List, [], ◌∷◌, Ok, Err, Some, None}
use Rattle.std.specs.List.{AllByRecursion, list_all}
use Rattle.dz_algebra.specs.Parts.{leader}
use Rattle.dz_algebra.specs.Polynomial.{Polynomial}
use Rattle.dz_algebra.specs.Size.{Refusal, wide, separant_answer}
use Rattle.dz_rank.specs.declared.symbols.Symbol.{Symbol}
use Rattle.dz_rank.specs.Rankings.{RankingValue}
use Rattle.dz_diff.specs.Operations.{Setting, setting_of}
use Rattle.dz_monomials.specs.Ranked.{symbols_under}
use Rattle.dz_step.specs.FullRun.{full_run}
use Rattle.dz_step.specs.StepOperators.{course_steps}
use Rattle.dz_step.specs.declared.Role.TheVariants.{Free}
use Rattle.dz_pair.specs.Pair.{common, delta_answer, is_pair}
use Rattle.dz_tree.specs.Chain.{is_below, passes}
use Rattle.dz_move.specs.Root.{System, is_closed, root_of}
use Rattle.dz_diff.specs.State.{State, at_place}
use Rattle.dz_move.specs.Systems.{system_limit}
use Rattle.dz_move.specs.Standing.{IsStateOver, MayStand}
use Rattle.dz_tree.specs.Belonging.{IsLineOf}
use Rattle.dz_move.specs.Lines.{Line, closed, chain}
use Rattle.dz_tree.specs.Trees.{Tree}
use Rattle.dz_check.specs.Certified.{IsCertified}
use Rattle.dz_engine.specs.Order.{line_alone, next_entry}
use Rattle.dz_engine.specs.Worked.{IsWorked, worked_lines}
use Rattle.dz_engine.specs.Resting.{EntryHolds, IsAtRest}

-- two worked trees of a system with one budget have the same lines, and a worked tree is certified
pub record WorkedLaws (g : Setting) : Type 0 where
  pub once : (system : System) (budget : ℕ) (lines more : List Line) → IsWorked g system (record { budget = budget; lines = lines }) → IsWorked g system (record { budget = budget; lines = more })
      → lines ≡ more
  pub certified : (system : System) (tree : Tree) → IsWorked g system tree → IsCertified g system tree

-- the order of work never stands without an answer, over a ranking and within a budget
pub record OrderLaws (r : RankingValue) (budget : ℕ) : Type 0 where
  -- at a state that has the facts of one, the line that is named holds, with its evidence
  pub holds : (w : ℕ) (s : State) → w ≤ budget → IsStateOver r s → EntryHolds (setting_of r) budget w s (next_entry (setting_of r) budget w s)
  -- for a system whose polynomials may stand in a book, within its limits, there is a worked tree, found in so many rounds
  pub is_there : (system : System) → MayStand r system.equations system.inequations → system_limit system ≡ None
      → IsWorked (setting_of r) system (record { budget = budget; lines = worked_lines (setting_of r) budget (2 * budget + 1) system })
  -- at such a state the separant of an equation is refused only where it is too wide
  pub separants : (s : State) (i : ℕ) (p : Polynomial Symbol) (l : Symbol) (refusal : Refusal) → IsStateOver r s → at_place i s.equations ≡ Some p → leader (symbols_under r) p ≡ Some l → separant_answer (symbols_under r) l p ≡ Err refusal → refusal ≡ wide
  -- each step of a full run from the Delta-polynomial of a critical pair is below the least common derivative
  pub coherent : (s : State) (i j : ℕ) (p q d : Polynomial Symbol) (left : ℕ) → IsStateOver r s → at_place i s.equations ≡ Some p → at_place j s.equations ≡ Some q → is_pair (symbols_under r) p q ≡ true → delta_answer (setting_of r) p q ≡ Ok d
      → passes (λ w. list_all (is_below (symbols_under r) s w) (course_steps (full_run (setting_of r) s Free left d))) (common (symbols_under r) p q) ≡ true
  -- each line of a worked tree belongs to the signature
  pub belong : (system : System) (lines : List Line) → MayStand r system.equations system.inequations → system_limit system ≡ None → IsWorked (setting_of r) system (record { budget = budget; lines = lines })
      → AllByRecursion (λ line. IsLineOf r.signature line) lines
  -- the line at a closed state is `closed`, and at a state at rest `chain`, at every running weight
  pub closed_line : (w : ℕ) (s : State) → is_closed (symbols_under r) s ≡ true → next_entry (setting_of r) budget w s ≡ line_alone closed
  pub chain_line : (w : ℕ) (s : State) → IsStateOver r s → IsAtRest (setting_of r) s → next_entry (setting_of r) budget w s ≡ line_alone chain
  -- where the root is closed or at rest, this line is the whole tree
  pub closed_tree : (system : System) → is_closed (symbols_under r) (root_of (symbols_under r) system) ≡ true → worked_lines (setting_of r) budget (2 * budget + 1) system ≡ closed ∷ []
  pub chain_tree : (system : System) → MayStand r system.equations system.inequations → system_limit system ≡ None → IsAtRest (setting_of r) (root_of (symbols_under r) system)
      → worked_lines (setting_of r) budget (2 * budget + 1) system ≡ chain ∷ []
