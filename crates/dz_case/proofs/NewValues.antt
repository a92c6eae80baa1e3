-- A list of a book, with one polynomial that was added.
use Rattle.std.proofs.Common.{◌≡◌, ℕ, List, [], ◌∷◌, ◌++◌, length, length-append, ap, subst, sym, arith}
use Rattle.std.proofs.lemmas.List.Elements.{All-push}
use Rattle.dz_poly.specs.Books.{BookValue, IsAdded, IsKept, Lives, polynomial}
use Rattle.dz_diff.specs.States.{LiveAll}
use Rattle.dz_diff.proofs.KeptStates.{live_on}

-- what was added lives
added_lives : (old new : BookValue) (p : ℕ) → IsAdded old new p → Lives new p
added_lives old new p h = let a = ap length h.last in let b = length-append old.polynomials (polynomial new p ∷ []) in omega (arith, a, b, h.number)

-- and so does the list with it
pub live_more : (old new : BookValue) (ps all : List ℕ) (p : ℕ) → LiveAll old ps → IsKept old new → IsAdded old new p → all ≡ ps ++ p ∷ [] → LiveAll new all
live_more old new ps all p live kept added e = subst (LiveAll new) (sym e) (All-push (λ p. Lives new p) ps p (live_on old new kept ps live) (added_lives old new p added))
