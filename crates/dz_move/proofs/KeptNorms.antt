-- What holds of the norms that are kept, and of the polynomials that they come from.
use Rattle.std.proofs.Common.{◌≡◌, inl, inr, Bool, true, false, ◌||◌, if◌then◌else◌, [], ◌∷◌, ◌++◌, refl}
use Rattle.dz_algebra.specs.Norm.{norm}
use Rattle.dz_algebra.specs.Order.{IsOrder}
use Rattle.dz_algebra.specs.Polynomial.{Polynomial}
use Rattle.dz_algebra.specs.Symbols.{Symbols}
use Rattle.dz_rank.specs.declared.symbols.Symbol.{Symbol}
use Rattle.dz_monomials.specs.Lists.{AllOf}
use Rattle.dz_move.specs.Root.{kept_norms}
use Rattle.dz_diff.specs.Tests.{Polynomials, is_member}
use Rattle.dz_algebra.proofs.Outcomes.{either}
use Rattle.dz_diff.proofs.Places.{all-append, all_parts}
use Rattle.dz_diff.proofs.SameTests.{member_is}

-- C is what is known of each polynomial.
module _ (g : Symbols Symbol) (drops : Polynomial Symbol → Bool) (C Q : Polynomial Symbol → Type 0) where
  -- what passes to norms passes from what is kept and the further members to the result
  pub kept_all : ((p : Polynomial Symbol) → C p → Q p → Q (norm p)) → (kept ps : Polynomials) → AllOf C ps → AllOf Q kept → AllOf Q ps → AllOf Q (kept_norms g drops kept ps)
  kept_all to kept [] known k h = k
  kept_all to kept (p ∷ ps) known k h =
      by_test (drops (norm p) || is_member g (norm p) kept)
      (kept_all to kept ps known.1 k h.1)
      (kept_all to (kept ++ norm p ∷ []) ps known.1 (all-append Q kept (norm p ∷ []) k (to p known.0 h.0, tt)) h.1)
    where
      by_test : (b : Bool) → AllOf Q (kept_norms g drops kept ps) → AllOf Q (kept_norms g drops (kept ++ norm p ∷ []) ps) → AllOf Q (if b then kept_norms g drops kept ps else kept_norms g drops (kept ++ norm p ∷ []) ps)
      by_test true x y = x
      by_test false x y = y

  module _ (order : IsOrder g.cmp) (from : (p : Polynomial Symbol) → C p → Q (norm p) → Q p) (drop : (p : Polynomial Symbol) → C p → drops (norm p) ≡ true → Q (norm p)) where
    -- what passes from norms, and what each dropped norm has, passes from the result to all
    pub kept_back : (kept ps : Polynomials) → AllOf C ps → AllOf Q (kept_norms g drops kept ps) → AllOf Q kept × AllOf Q ps
    kept_back kept [] known h = (h, tt)
    kept_back kept (p ∷ ps) known h = by_test (drops (norm p) || is_member g (norm p) kept) refl (kept_back kept ps known.1) (kept_back (kept ++ norm p ∷ []) ps known.1) h
      where
        dropped : (drops (norm p) || is_member g (norm p) kept) ≡ true → AllOf Q kept × AllOf Q ps → AllOf Q kept × (Q p × AllOf Q ps)
        dropped e k = (
          k.0,
          (from p known.0 (elim (either (drops (norm p)) (is_member g (norm p) kept) e) [ inl f ↦ drop p known.0 f | inr f ↦ member_is g order Q (norm p) kept f k.0 ]), k.1),
        )

        added : AllOf Q (kept ++ norm p ∷ []) × AllOf Q ps → AllOf Q kept × (Q p × AllOf Q ps)
        added k = let parts = all_parts Q kept (norm p ∷ []) k.0 in (parts.0, (from p known.0 (parts.1).0, k.1))

        by_test : (b : Bool) → (drops (norm p) || is_member g (norm p) kept) ≡ b
            → (AllOf Q (kept_norms g drops kept ps) → AllOf Q kept × AllOf Q ps)
            → (AllOf Q (kept_norms g drops (kept ++ norm p ∷ []) ps) → AllOf Q (kept ++ norm p ∷ []) × AllOf Q ps)
            → AllOf Q (if b then kept_norms g drops kept ps else kept_norms g drops (kept ++ norm p ∷ []) ps)
            → AllOf Q kept × (Q p × AllOf Q ps)
        by_test true e x y h = dropped e (x h)
        by_test false e x y h = added (y h)
