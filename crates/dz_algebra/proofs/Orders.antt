-- The order of monomials is total, and only equal monomials tie.
use Rattle.std.proofs.Common.{◌≡◌, refl, ap, ap₂, ◌∙◌, nat_cmp}
use Rattle.std.specs.declared.cmp.Ordering.{Ordering}
use Rattle.std.specs.declared.cmp.Ordering.TheVariants.{Less, Equal, Greater}
use Rattle.std.specs.Cmp.{IsTotalOrder, nat_cmp_total}
use Rattle.std.specs.FinMap.{nat_cmp-IsAntisymmetric, slice_cmp-IsAntisymmetric}
use Rattle.std.specs.Ordering.{ordering_reverse, ordering_then}
use Rattle.std.proofs.lemmas.Cmp.{lists_total, then_total, on_total}
use Rattle.dz_algebra.specs.Monomial.{Monomial, monomial_cmp}
use Rattle.dz_algebra.specs.Order.{IsOrder}

-- what is greater has the other as less
pub less_reversed : {S : Type 0} {cmp : S → S → Ordering} → IsTotalOrder cmp → (s t : S) → cmp s t ≡ Greater → cmp t s ≡ Less
less_reversed total s t h = total.antisymm t s ∙ ap ordering_reverse h

-- what is less has the other as greater
pub greater_reversed : {S : Type 0} {cmp : S → S → Ordering} → IsTotalOrder cmp → (s t : S) → cmp s t ≡ Less → cmp t s ≡ Greater
greater_reversed total s t h = total.antisymm t s ∙ ap ordering_reverse h

-- greater passes on
pub greater_trans : {S : Type 0} {cmp : S → S → Ordering} → IsTotalOrder cmp → (s t u : S) → cmp s t ≡ Greater → cmp t u ≡ Greater → cmp s u ≡ Greater
greater_trans total s t u h g = greater_reversed total u s (total.trans u t s (less_reversed total t u g) (less_reversed total s t h))

-- the order of monomials is total
pub monomial_cmp_total : {S : Type 0} {cmp : S → S → Ordering} → IsOrder cmp → IsTotalOrder (monomial_cmp cmp)
monomial_cmp_total order = lists_total (then_total (on_total (λ p. p.0) order.total) (on_total (λ p. p.1) nat_cmp_total))

-- two keys in turn tie only where both do
pub then_equal : (o u : Ordering) → ordering_then o u ≡ Equal → (o ≡ Equal) × (u ≡ Equal)
then_equal Less u e = cc
then_equal Equal u e = (refl, e)
then_equal Greater u e = cc

-- only equal monomials tie
pub same_monomial : {S : Type 0} {cmp : S → S → Ordering} → IsOrder cmp → (m n : Monomial S) → monomial_cmp cmp m n ≡ Equal → m ≡ n
same_monomial {cmp = cmp} order m n = slice_cmp-IsAntisymmetric (λ p q e. let b = then_equal (cmp p.0 q.0) (nat_cmp p.1 q.1) e in ap₂ (λ s k. (s, k)) (order.same p.0 q.0 b.0) (nat_cmp-IsAntisymmetric p.1 q.1 b.1)) m n
