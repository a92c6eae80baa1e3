use Rattle.std.proofs.Common.{◌≡◌}
use Rattle.dz_syntax.specs.Functions.{first_names}
use Rattle.dz_syntax.proofs.functions.independents_alone.Given as goal

abbrev pub invariant-loop-i : goal.invariant-loop-i
invariant-loop-i l = l.alone ≡ first_names l.i l.names
