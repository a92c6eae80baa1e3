use Rattle.std.proofs.Common.{◌≡◌, ◌≤◌, length}
use Rattle.dz_syntax.specs.Numbers.{number_from}
use Rattle.dz_syntax.proofs.number.number_of.Given as goal

abbrev pub invariant-digits : goal.invariant-digits
invariant-digits l = record {
  same : number_from l.value l.rest ≡ number_from 0 l.digits;
  within : l.value ≤ l.most;
}

abbrev pub decreases-digits : goal.decreases-digits
decreases-digits l = length l.rest
