-- Ends of runs that are known before their action is performed.
use Rattle.std.specs.Prelude.{◌≡◌, false}
use Rattle.dz_diff.specs.Operations.{Setting}
use Rattle.dz_diff.specs.State.{State}
use Rattle.dz_step.specs.FullRun.{admits}
use Rattle.dz_step.specs.declared.Role.TheVariants.{Equation, Free, Inequation}
use Rattle.dz_step.specs.Replays.{IsRunEnd}
use Rattle.dz_move.specs.declared.pair_runs.ActionEnd.{ActionEnd}
use Rattle.dz_move.specs.Moves.{Action, add, reduce, weed}
use Rattle.dz_move.specs.Parts.{IsPairRun, placed_pair_run, placed_run}

-- the run of a reduce or a weed has this end, with its count; that of an add has it from a Delta-polynomial of so many terms on,
-- and the end admits no free step
abbrev pub IsKnownEnd : Setting → State → Action → ActionEnd → Type 0
IsKnownEnd g s (reduce i steps) x = IsRunEnd x.run (placed_run g s (Equation i) i s.equations steps)
IsKnownEnd g s (weed j steps) x = IsRunEnd x.run (placed_run g s (Inequation j) j s.inequations steps)
IsKnownEnd g s (add i j steps) x = IsPairRun x (placed_pair_run g s i j steps) × (admits g s Free ((x.run).end).terms ≡ false)
IsKnownEnd g s action x = ⊥
