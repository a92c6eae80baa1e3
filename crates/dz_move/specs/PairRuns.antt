-- The weight of a run from the Delta-polynomial of a critical pair, which may stop anywhere (this project).
use Rattle.std.specs.Prelude.{ℕ, ◌+◌, nat_lt, ◌&&◌, length, Result, Ok}
use Rattle.dz_algebra.specs.Outcome.{◌>>=◌, needs, given, numbered, told_as}
use Rattle.dz_diff.specs.Operations.{Setting}
use Rattle.dz_diff.specs.State.{State, at_place}
use Rattle.dz_step.specs.declared.Role.TheVariants.{Free}
use Rattle.dz_step.specs.Run.{run}
use Rattle.dz_pair.specs.Pair.{is_pair, delta_answer}
use Rattle.dz_move.specs.declared.Rule.TheVariants as rules
use Rattle.dz_move.specs.Fault.{Fault, refusal, rule, run_fault}
use Rattle.dz_move.specs.Lines.{Evidence}

-- the weight of a run from the Delta-polynomial of a critical pair, which may stop anywhere
abbrev pub open_weight : Setting → State → Evidence → Result ℕ (ℕ × Fault)
open_weight g s e = do
  p ← given (at_place e.first s.equations) (0, rule rules.Place)
  q ← given (at_place e.second s.equations) (0, rule rules.Place)
  _ ← needs (nat_lt e.first e.second && is_pair g.symbols p q) (0, rule rules.Pair)
  d ← numbered 0 (told_as refusal (delta_answer g p q))
  r ← told_as run_fault (run g s Free d e.steps)
  Ok (1 + length d + r.count)
