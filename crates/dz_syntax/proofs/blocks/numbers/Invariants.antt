use Rattle.std.proofs.Common.{◌≡◌, ◌++◌, ◌-◌}
use Rattle.dz_syntax.specs.Blocks.{numbers_from}
use Rattle.dz_syntax.proofs.blocks.numbers.Given as goal

abbrev pub invariant-loop-number : goal.invariant-loop-number
invariant-loop-number l = l.numbers.items ++ numbers_from l.number (l.end - l.number) ≡ numbers_from l.first (l.end - l.first)
