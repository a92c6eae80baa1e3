-- A row decides its inequation where the equations have value zero.
use Rattle.std.specs.Prelude.{IsTrue}
use Rattle.std.proofs.Common.{◌≡◌, ◌∙◌, List, [], ◌∷◌, refl, sym, ap, ap₂}
use Rattle.dz_algebra.specs.Domain.{DomainLaws, Operations}
use Rattle.dz_algebra.specs.Polynomial.{Polynomial, polynomial_product}
use Rattle.dz_algebra.specs.Ring.{Ring, Value, product_zero, right_neutral, ring_of_values, same_value}
use Rattle.dz_algebra.specs.Value.{value}
use Rattle.dz_algebra.proofs.DomainValues.{symbol_at, value_there}
use Rattle.dz_rank.specs.Rankings.{RankingValue, ranking_cmp}
use Rattle.dz_rank.specs.declared.symbols.Symbol.{Symbol}
use Rattle.dz_monomials.specs.Lists.{AllOf}
use Rattle.dz_diff.specs.Tests.{Polynomials}
use Rattle.dz_ask.proofs.RingValues.{val, of_product, of_sum}
use Rattle.dz_regular.specs.Identities.{IsRowFor, sum_of_products}
use Rattle.dz_poly.specs.Books.{BookValue}
use Rattle.dz_domain.specs.Point.{Coordinates, IsPoint, symbol_value}
use Rattle.dz_domain.proofs.Points.{symbol_is_value}
use Rattle.dz_regular.specs.Answers.{components_in}
use Rattle.dz_regular.specs.Laws.{RowValues}
use Rattle.dz_regular.specs.Points.{AreRowsFor, HaveValueZero, NoneHasValueZero, rests_in}
use Rattle.dz_regular.specs.declared.answers.Row.{Row}
use Rattle.dz_regular.specs.Rows.{rest_of}

module _ {E : Type 0} (r : RankingValue) (o : Operations E) (laws : DomainLaws o) (at : Symbol → E) (are_values : (s : Symbol) → IsTrue (o.is_value (at s))) where
  abbrev ring : Ring (Value o)
  ring = ring_of_values laws

  -- the value of a polynomial
  abbrev v : Polynomial Symbol → Value o
  v p = val ring r (symbol_at laws at are_values) p

  -- where its element is zero, so is it
  vanishes : (p : Polynomial Symbol) → value o.arithmetic at p ≡ o.zero → v p ≡ ring.zero
  vanishes p e = same_value o (v p) ring.zero (value_there laws at are_values p ∙ e)

  -- multiples of equations that vanish vanish
  nothing_added : (cs es : Polynomials) → AllOf (λ e. value o.arithmetic at e ≡ o.zero) es → v (sum_of_products (ranking_cmp r) cs es) ≡ ring.zero
  nothing_added [] es h = refl
  nothing_added (c ∷ cs) [] h = refl
  nothing_added (c ∷ cs) (e ∷ es) h =
      of_sum ring r (symbol_at laws at are_values) (polynomial_product (ranking_cmp r) c e) (sum_of_products (ranking_cmp r) cs es)
      ∙ ap₂ ring.sum (of_product ring r (symbol_at laws at are_values) c e ∙ ap (ring.product (v c)) (vanishes e h.0) ∙ product_zero ring (v c)) (nothing_added cs es h.1)
      ∙ ring.zero_is_neutral ring.zero

  -- where the inequation vanishes, so does the rest
  rest_vanishes : (equations : Polynomials) (h : Polynomial Symbol) (components : Polynomials) → IsRowFor (ranking_cmp r) equations h components
      → AllOf (λ e. value o.arithmetic at e ≡ o.zero) equations → value o.arithmetic at h ≡ o.zero → value o.arithmetic at (rest_of components) ≡ o.zero
  rest_vanishes equations h components row zeros e =
      let left : v (polynomial_product (ranking_cmp r) row.cofactor h) ≡ ring.zero = of_product ring r (symbol_at laws at are_values) row.cofactor h ∙ ap (ring.product (v row.cofactor)) (vanishes h e) ∙ product_zero ring (v row.cofactor) in
      let right = of_sum ring r (symbol_at laws at are_values) row.rest (sum_of_products (ranking_cmp r) row.parts equations) ∙ ap (ring.sum (v row.rest)) (nothing_added row.parts equations zeros) ∙ right_neutral ring (v row.rest) in
      let none : v row.rest ≡ ring.zero = sym (ap v row.identity ∙ right) ∙ left in
      ap (λ cs. value o.arithmetic at (rest_of cs)) row.components_are ∙ sym (value_there laws at are_values row.rest) ∙ ap (λ x. x.0) none

  -- so a row decides
  pub row_values : RowValues r o at
  row_values = record { decides = λ equations h components row zeros rest e. rest (rest_vanishes equations h components row zeros e) }

-- so do rows of all inequations at a point
pub none_vanishes : {E : Type 0} (r : RankingValue) {o : Operations E} (laws : DomainLaws o) {c : Coordinates E} (point : IsPoint o c) (book : BookValue) (equations inequations : Polynomials) (rows : List Row) → AreRowsFor (ranking_cmp r) equations inequations book rows
    → HaveValueZero o c equations → NoneHasValueZero o c (rests_in book rows) → NoneHasValueZero o c inequations
none_vanishes r laws point book equations [] [] are zeros rests = tt
none_vanishes r laws point book equations [] (row ∷ rows) are zeros rests = absurd are
none_vanishes r laws point book equations (h ∷ hs) [] are zeros rests = absurd are
none_vanishes r {o} laws {c} point book equations (h ∷ hs) (row ∷ rows) are zeros rests = (
  (row_values r o laws (symbol_value o c) (symbol_is_value laws point)).decides equations h (components_in book row) are.0 zeros rests.0,
  none_vanishes r laws point book equations hs rows are.1 zeros rests.1,
)
