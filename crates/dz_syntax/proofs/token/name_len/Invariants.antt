use Rattle.std.proofs.Common.{◌≡◌, ◌+◌, length}
use Rattle.dz_syntax.specs.Tokens.{front_len, is_name_byte}
use Rattle.dz_syntax.proofs.token.name_len.Given as goal

abbrev pub invariant-letters : goal.invariant-letters
invariant-letters l = record {
  counted : l.size + front_len is_name_byte l.rest ≡ front_len is_name_byte l.text;
  within : l.size + length l.rest ≡ length l.text;
}

abbrev pub decreases-letters : goal.decreases-letters
decreases-letters l = length l.rest
