use Rattle.std.proofs.Common.{◌≡◌, ◌<◌, ◌+◌, ◌-◌, ◌^◌, drop}
use Rattle.std.specs.Prelude.{min}
use Rattle.dz_diff.specs.State.{terms_of}
use Rattle.dz_diff.specs.States.{polynomials}
use Rattle.dz_move.proofs.system.terms_of.Given as goal

abbrev pub invariant-polys : goal.invariant-polys
invariant-polys l = record {
  fits : l.terms < 2 ^ 64;
  same : min (l.terms + terms_of (polynomials l.book (drop l.p-index l.polys))) (2 ^ 64 - 1) ≡ min (terms_of (polynomials l.book l.polys)) (2 ^ 64 - 1);
}
