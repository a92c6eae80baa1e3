-- The order of steps and of products is total, and only equal ones tie; so is an order turned round.
use Rattle.std.proofs.Common.{◌≡◌, ℕ, List, sym, ap, ap₂, nat_cmp}
use Rattle.std.specs.declared.cmp.Ordering.{Ordering}
use Rattle.std.specs.declared.cmp.Ordering.TheVariants.{Equal}
use Rattle.std.specs.Cmp.{IsTotalOrder, nat_cmp_total}
use Rattle.std.specs.FinMap.{nat_cmp-IsAntisymmetric, slice_cmp-IsAntisymmetric}
use Rattle.std.specs.Cmp.Lexicographic.{slice_cmp}
use Rattle.std.proofs.lemmas.Cmp.{lists_total, then_total, on_total}
use Rattle.dz_algebra.specs.Order.{IsOrder}
use Rattle.dz_algebra.proofs.Operations.{monomial_order}
use Rattle.dz_algebra.proofs.Orders.{then_equal}
use Rattle.dz_step.specs.declared.Step.{Step}
use Rattle.dz_ask.specs.Products.{step_cmp, product_cmp, turned_round}

-- the order of steps is total
step_total : IsTotalOrder step_cmp
step_total = then_total (on_total (λ (s : Step). s.place) nat_cmp_total) (on_total (λ (s : Step). s.operator.counts) (lists_total nat_cmp_total))

-- only equal steps tie
same_step : (s t : Step) → step_cmp s t ≡ Equal → s ≡ t
same_step s t e =
    let b = then_equal (nat_cmp s.place t.place) (slice_cmp nat_cmp s.operator.counts t.operator.counts) e in
    ap₂ (λ (i : ℕ) (ks : List ℕ). record { place = i; operator = record { counts = ks } }) (nat_cmp-IsAntisymmetric s.place t.place b.0) (slice_cmp-IsAntisymmetric nat_cmp-IsAntisymmetric s.operator.counts t.operator.counts b.1)

-- so it is an order
pub step_order : IsOrder step_cmp
step_order = record { total = step_total; same = same_step }

-- and products have one
pub product_order : IsOrder product_cmp
product_order = monomial_order step_order

-- an order turned round is one
pub turned_order : {A : Type 0} {cmp : A → A → Ordering} → IsOrder cmp → IsOrder (turned_round cmp)
turned_order {cmp = cmp} order = record {
  total = record {
    antisymm = λ x y. order.total.antisymm y x;
    trans = λ x y z h k. order.total.trans z y x k h;
    congr = λ x y z h. ap (λ a. cmp z a) (sym (order.same y x h));
  };
  same = λ s t e. sym (order.same t s e);
}
