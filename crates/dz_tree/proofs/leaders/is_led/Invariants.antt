use Rattle.std.proofs.Common.{◌≡◌, drop}
use Rattle.std.specs.List.{list_any}
use Rattle.dz_algebra.specs.Parts.{leader}
use Rattle.dz_monomials.specs.Ranked.{symbols_under}
use Rattle.dz_diff.specs.States.{polynomials}
use Rattle.dz_diff.specs.Tests.{same_symbol}
use Rattle.dz_tree.specs.Chain.{passes}
use Rattle.dz_tree.proofs.leaders.is_led.Given as goal

abbrev pub invariant-places : goal.invariant-places
invariant-places l =
    list_any (λ q. passes (same_symbol (symbols_under l.book.ranking) l.lead) (leader (symbols_under l.book.ranking) q)) (polynomials l.book (drop l.k l.polys))
    ≡ list_any (λ q. passes (same_symbol (symbols_under l.book.ranking) l.lead) (leader (symbols_under l.book.ranking) q)) (polynomials l.book (drop l.from l.polys))
