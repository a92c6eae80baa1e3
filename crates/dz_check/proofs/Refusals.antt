-- Whether the separant at a place is refused as wide.
use Rattle.std.proofs.Common.{◌≡◌, ◌∙◌, inl, inr, true, false, ap, sym, refl, Result, Ok, Err, Option, Some, None}
use Rattle.dz_algebra.specs.Parts.{leader}
use Rattle.dz_algebra.specs.Polynomial.{Polynomial}
use Rattle.dz_algebra.specs.Size.{Refusal, wide, large, separant_answer}
use Rattle.dz_algebra.specs.Symbols.{Symbols}
use Rattle.dz_algebra.specs.declared.Limit.{Limit}
use Rattle.dz_rank.specs.declared.symbols.Symbol.{Symbol}
use Rattle.dz_monomials.specs.Stops.{IsStop}
use Rattle.dz_monomials.specs.declared.PolyStop.TheVariants as stops
use Rattle.dz_algebra.specs.Outcome.{numbered, told_as}
use Rattle.dz_tree.specs.Chain.{passes}
use Rattle.dz_move.specs.Fault.{refusal}
use Rattle.dz_check.specs.Reasons.{is_wide, refused_after, separant_refused}

-- an answer that is refused as wide
pub answer_wide : (x : Result (Polynomial Symbol) Refusal) → IsStop stops.Wide x → true ≡ refused_after 0 is_wide (numbered 0 (told_as refusal x))
answer_wide (Ok a) (inl e) = cc
answer_wide (Ok a) (inr e) = cc
answer_wide (Err wide) h = refl
answer_wide (Err (large l)) (inl e) = cc
answer_wide (Err (large l)) (inr e) = cc

-- an answer that is refused as large
pub answer_large : (l : Limit) (x : Result (Polynomial Symbol) Refusal) → IsStop (stops.Large l) x → false ≡ refused_after 0 is_wide (numbered 0 (told_as refusal x))
answer_large l (Ok a) h = refl
answer_large l (Err wide) (inl e) = cc
answer_large l (Err wide) (inr e) = cc
answer_large l (Err (large m)) h = refl

module _ (g : Symbols Symbol) (o : Option (Polynomial Symbol)) where
  -- nothing stands there
  pub no_separant : o ≡ None → false ≡ passes (separant_refused g) o
  no_separant e = sym (ap (passes (separant_refused g)) e)

  module _ (p : Polynomial Symbol) (there : o ≡ Some p) where
    -- it is ground
    pub ground_separant : leader g p ≡ None → false ≡ passes (separant_refused g) o
    ground_separant e = sym (ap (passes (separant_refused g)) there ∙ ap (passes (λ l. refused_after 0 is_wide (numbered 0 (told_as refusal (separant_answer g l p))))) e)

    -- it has a leader
    pub led_separant : (l : Symbol) → leader g p ≡ Some l → refused_after 0 is_wide (numbered 0 (told_as refusal (separant_answer g l p))) ≡ passes (separant_refused g) o
    led_separant l e = sym (ap (passes (separant_refused g)) there ∙ ap (passes (λ l. refused_after 0 is_wide (numbered 0 (told_as refusal (separant_answer g l p))))) e)
