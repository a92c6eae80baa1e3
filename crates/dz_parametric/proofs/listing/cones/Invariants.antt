use Rattle.std.specs.List.{flat_map, range_with_len}
use Rattle.std.proofs.Common.{◌≡◌, ◌≤◌, length}
use Rattle.dz_diff.specs.States.{state_in}
use Rattle.dz_parametric.specs.Cones.{cones_with}
use Rattle.dz_parametric.specs.Parametric.{leaders_in}
use Rattle.dz_parametric.proofs.listing.cones.Given as goal

abbrev pub invariant-loop-u : goal.invariant-loop-u
invariant-loop-u l = record {
  listed : l.found.items ≡ flat_map (cones_with l.fn.book.ranking.signature.independents (leaders_in l.fn.book.ranking (state_in l.fn.book l.fn.chain))) (range_with_len 0 l.u);
  room : length l.found.items ≤ 4096;
}
