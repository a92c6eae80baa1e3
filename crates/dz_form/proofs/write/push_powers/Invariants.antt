use Rattle.std.proofs.Common.{◌≡◌, ◌++◌, true, codes, take, map}
use Rattle.dz_poly.specs.Books.{polynomial, term_at}
use Rattle.dz_form.specs.Texts.{power_text}
use Rattle.dz_form.specs.Writing.{marked}
use Rattle.dz_form.proofs.write.push_powers.Given as goal

abbrev pub invariant-powers : goal.invariant-powers
invariant-powers l = l.into.items ≡ l.fn.into.items ++ marked (codes "*") true (map (λ q. power_text l.names q.0 q.1) (take l.j (term_at (polynomial l.book l.p) l.k).0))
