use Rattle.std.proofs.Common.{◌≡◌, ◌+◌, length}
use Rattle.std.specs.Char.{is_ascii_digit}
use Rattle.dz_syntax.specs.Tokens.{front_len}
use Rattle.dz_syntax.proofs.token.number_len.Given as goal

abbrev pub invariant-digits : goal.invariant-digits
invariant-digits l = record {
  counted : l.size + front_len is_ascii_digit l.rest ≡ front_len is_ascii_digit l.text;
  within : l.size + length l.rest ≡ length l.text;
}

abbrev pub decreases-digits : goal.decreases-digits
decreases-digits l = length l.rest
