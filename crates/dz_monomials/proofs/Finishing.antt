-- The polynomial that cells make.
use Rattle.std.proofs.Common.{◌≡◌, ◌≤◌, ◌∙◌, ℕ, max, Bool, true, false, cond, List, [], ◌∷◌, length, refl, ap, ap₂, arith}
use Rattle.std.specs.Prelude.{Option, Some, None}
use Rattle.std.specs.declared.cmp.Ordering.{Ordering}
use Rattle.dz_algebra.specs.declared.Limit.TheVariants.{Order, Exponent}
use Rattle.dz_algebra.specs.Whole.{whole_is_zero}
use Rattle.dz_algebra.specs.Gather.{onto}
use Rattle.dz_algebra.specs.Monomial.{Monomial}
use Rattle.dz_algebra.specs.Polynomial.{Polynomial}
use Rattle.dz_algebra.specs.Amount.{Amount}
use Rattle.dz_monomials.specs.Cells.{keep_fitting, finished}
use Rattle.dz_monomials.specs.Degrees.{degrees, has_high_order, has_high_exponent, limit_of_counts, limit_by}

module _ {S : Type 0} (cmp : S → S → Ordering) where
  abbrev Cells : Type 0
  Cells = List (Monomial S × Option Amount)

  one_more : (t : Monomial S × Option Amount) (cells : Cells) (o : Option (Polynomial S)) → ((p : Polynomial S) → o ≡ Some p → (length p ≤ length cells) × (length cells ≡ length p → degrees cmp cells ≡ degrees cmp p)) → (p : Polynomial S) → keep_fitting t.0 t.1 o ≡ Some p → (length p ≤ length (t ∷ cells)) × (length (t ∷ cells) ≡ length p → degrees cmp (t ∷ cells) ≡ degrees cmp p)
  one_more (m, None) cells o h p e = cc
  one_more (m, Some a) cells None h p e = cc
  one_more (m, Some a) cells (Some q) h p e = by_zero (whole_is_zero a.total) (h q refl) e
    where
      by_zero : (z : Bool) → (length q ≤ length cells) × (length cells ≡ length q → degrees cmp cells ≡ degrees cmp q) → Some (cond z q ((m, a.total) ∷ q)) ≡ Some p → (length p ≤ length ((m, Some a) ∷ cells)) × (length ((m, Some a) ∷ cells) ≡ length p → onto cmp max m (degrees cmp cells) ≡ degrees cmp p)
      by_zero true k e = let f : q ≡ p = cc in let n : length q ≡ length p = ap length f in (omega (arith, k.0, n), λ l. absurd (omega (arith, k.0, n, l)))
      by_zero false k e = let f : (m, a.total) ∷ q ≡ p = cc in let n : length ((m, a.total) ∷ q) ≡ length p = ap length f in (omega (arith, k.0, n), λ l. ap (onto cmp max m) (k.1 (omega (arith, n, l))) ∙ ap (degrees cmp) f)

  kept : (cells : Cells) (p : Polynomial S) → finished cells ≡ Some p → (length p ≤ length cells) × (length cells ≡ length p → degrees cmp cells ≡ degrees cmp p)
  kept [] p e = let f : [] ≡ p = cc in (omega (arith, ap length f), λ l. ap (degrees cmp) f)
  kept (t ∷ cells) p e = one_more t cells (finished cells) (kept cells) p e

  -- where nothing cancels, the terms have the degrees of the cells
  pub nothing_cancelled : (cells : Cells) (p : Polynomial S) (table : Monomial S) → table ≡ degrees cmp cells → finished cells ≡ Some p → length cells ≡ length p → table ≡ degrees cmp p
  nothing_cancelled cells p table f e l = f ∙ (kept cells p e).1 l

-- where orders and exponents pass no limit, the counts decide
pub limit_known : {S : Type 0} (order : S → ℕ) (m : Monomial S) (terms : ℕ) → has_high_order order m ≡ false → has_high_exponent m ≡ false → limit_by order m terms ≡ limit_of_counts (length m) terms
limit_known order m terms e f = ap₂ (λ a b. cond a (Some Order) (cond b (Some Exponent) (limit_of_counts (length m) terms))) e f
