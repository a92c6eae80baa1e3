-- Tests of polynomials, by computation.
use Rattle.std.specs.Prelude.{Bool, true, false, not, ◌&&◌, ◌||◌, ◌==◌, List, [], ◌∷◌, ℤ, pos, negsuc}
use Rattle.std.specs.declared.cmp.Ordering.{Ordering}
use Rattle.std.specs.declared.cmp.Ordering.TheVariants.{Equal}
use Rattle.dz_algebra.specs.Monomial.{monomial_cmp}
use Rattle.dz_algebra.specs.Polynomial.{Polynomial}
use Rattle.dz_algebra.specs.Parts.{is_ground}
use Rattle.dz_algebra.specs.Symbols.{Symbols}
use Rattle.dz_rank.specs.declared.symbols.Symbol.{Symbol}

-- the polynomials of a system or a state, in their order
abbrev pub Polynomials : Type 0
Polynomials = List (Polynomial Symbol)

-- the polynomial is zero
abbrev pub is_zero : Polynomial Symbol → Bool
is_zero [] = true
is_zero (t ∷ p) = false

-- the polynomial is ground and not zero
abbrev pub is_unit : Symbols Symbol → Polynomial Symbol → Bool
is_unit g p = is_ground g p && not (is_zero p)

-- some polynomial is ground and not zero
abbrev pub has_unit : Symbols Symbol → Polynomials → Bool
has_unit g [] = false
has_unit g (p ∷ ps) = is_unit g p || has_unit g ps

-- some polynomial is zero
abbrev pub has_zero : Polynomials → Bool
has_zero [] = false
has_zero (p ∷ ps) = is_zero p || has_zero ps

-- the order of two equal things
abbrev pub is_equal : Ordering → Bool
is_equal Equal = true
is_equal o = false

-- two whole numbers are equal
abbrev pub same_whole : ℤ → ℤ → Bool
same_whole (pos m) (pos n) = m == n
same_whole (negsuc m) (negsuc n) = m == n
same_whole a b = false

-- two polynomials have the same terms
abbrev pub same : Symbols Symbol → Polynomial Symbol → Polynomial Symbol → Bool
same g [] [] = true
same g [] (u ∷ q) = false
same g (t ∷ p) [] = false
same g (t ∷ p) (u ∷ q) = (is_equal (monomial_cmp g.cmp t.0 u.0) && same_whole t.1 u.1) && same g p q

-- two lists have the same polynomials, in one order
abbrev pub same_all : Symbols Symbol → Polynomials → Polynomials → Bool
same_all g [] [] = true
same_all g [] (q ∷ qs) = false
same_all g (p ∷ ps) [] = false
same_all g (p ∷ ps) (q ∷ qs) = same g p q && same_all g ps qs

-- the polynomial stands in a list
abbrev pub is_member : Symbols Symbol → Polynomial Symbol → Polynomials → Bool
is_member g p [] = false
is_member g p (q ∷ qs) = same g p q || is_member g p qs

-- two symbols are equal
abbrev pub same_symbol : Symbols Symbol → Symbol → Symbol → Bool
same_symbol g s t = is_equal (g.cmp s t)
