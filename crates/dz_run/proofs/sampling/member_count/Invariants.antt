use Rattle.std.proofs.Common.{◌≡◌, ◌≤◌, ◌*◌, map, take}
use Rattle.dz_diff.specs.States.{state_in}
use Rattle.dz_poly.specs.Books.{BookValue}
use Rattle.dz_run.specs.Sampled.{member_count}
use Rattle.dz_run.proofs.sampling.member_count.Given as goal

abbrev pub invariant-chains : goal.invariant-chains
invariant-chains l = record {
  same : (book : BookValue) → l.count ≡ member_count (take l.chain-index (map (λ s. state_in book s) l.chains));
  bound : l.count ≤ l.chain-index * 18446744073709551615;
}
