use Rattle.dz_poly.specs.Books.{IsKept}
use Rattle.dz_diff.specs.States.{LiveAll}
use Rattle.dz_rows.proofs.states.values.Given as goal

abbrev pub invariant-items : goal.invariant-items
invariant-items l = record { live : LiveAll l.book l.values.items; kept : IsKept l.fn.book l.book }
