use Rattle.std.proofs.Common.{◌≡◌, [], drop}
use Rattle.dz_poly.specs.Books.{IsKept}
use Rattle.dz_monomials.specs.Ranked.{symbols_under}
use Rattle.dz_move.specs.Root.{kept_norms}
use Rattle.dz_diff.specs.States.{LiveAll, polynomials}
use Rattle.dz_move.specs.Members.{is_left_out}
use Rattle.dz_move.proofs.roots.kept_norms.Given as goal

abbrev pub invariant-polys : goal.invariant-polys
invariant-polys l = record {
  live : LiveAll l.book l.kept.items;
  same : kept_norms (symbols_under l.fn.book.ranking) (is_left_out (symbols_under l.fn.book.ranking) l.members) (polynomials l.book l.kept.items) (polynomials l.fn.book (drop l.p-index l.polys))
      ≡ kept_norms (symbols_under l.fn.book.ranking) (is_left_out (symbols_under l.fn.book.ranking) l.members) [] (polynomials l.fn.book l.polys);
  kept : IsKept l.fn.book l.book;
}
