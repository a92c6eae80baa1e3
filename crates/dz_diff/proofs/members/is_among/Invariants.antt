use Rattle.std.proofs.Common.{◌≡◌, ◌-◌, drop}
use Rattle.dz_monomials.specs.Ranked.{symbols_under}
use Rattle.dz_diff.specs.State.{without_place}
use Rattle.dz_diff.specs.States.{polynomials}
use Rattle.dz_diff.specs.Tests.{is_member}
use Rattle.dz_diff.proofs.members.is_among.Given as goal

abbrev pub invariant-places : goal.invariant-places
invariant-places l =
    is_member (symbols_under l.book.ranking) l.entry.terms (without_place (l.left_out - l.k) (polynomials l.book (drop l.k l.polys))) ≡ is_member (symbols_under l.book.ranking) l.entry.terms (without_place l.left_out (polynomials l.book l.polys))
