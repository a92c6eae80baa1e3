use Rattle.std.proofs.Common.{◌≡◌, ◌≤◌, length, false}
use Rattle.dz_syntax.specs.Tokens.{skip_from}
use Rattle.dz_syntax.proofs.token.skip.Given as goal

abbrev pub invariant-bytes : goal.invariant-bytes
invariant-bytes l = record {
  same : skip_from l.comment l.rest ≡ skip_from false l.text;
  within : length l.rest ≤ length l.text;
}

abbrev pub decreases-bytes : goal.decreases-bytes
decreases-bytes l = length l.rest
