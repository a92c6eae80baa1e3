-- What the tests of permission find.
use Rattle.std.proofs.Common.{◌≡◌, ◌∙◌, inl, inr, false, refl, sym, ap, Result, Ok, Err, Option, Some, None}
use Rattle.dz_algebra.specs.Parts.{degree, initial}
use Rattle.dz_algebra.specs.Polynomial.{Polynomial, IsPolynomial}
use Rattle.dz_algebra.specs.Size.{Refusal}
use Rattle.dz_algebra.specs.Symbols.{Symbols}
use Rattle.dz_algebra.proofs.Canonical.{collected}
use Rattle.dz_algebra.proofs.Coefficients.{coefficient_of_is}
use Rattle.dz_rank.specs.declared.symbols.Symbol.{Symbol}
use Rattle.dz_rank.specs.Rankings.{RankingValue, ranking_cmp}
use Rattle.dz_monomials.specs.Ranked.{symbols_under}
use Rattle.dz_monomials.specs.Stops.{IsStop}
use Rattle.dz_monomials.specs.declared.PolyStop.{PolyStop}
use Rattle.dz_monomials.specs.declared.PolyStop.TheVariants.{Memory}
use Rattle.dz_monomials.proofs.SymbolLaws.{ranking_order}
use Rattle.dz_diff.specs.Tests.{Polynomials}
use Rattle.dz_step.specs.declared.Which.TheVariants.{Initial}
use Rattle.dz_step.specs.Step.{multiplier_answer, permitted_if}

-- an initial has no term twice
pub initial_answered : (r : RankingValue) (l : Symbol) (q m : Polynomial Symbol) → IsPolynomial (ranking_cmp r) q → m ≡ initial (ranking_cmp r) l q → multiplier_answer (symbols_under r) Initial l q ≡ Ok m
initial_answered r l q m h e = ap Ok (collected (ranking_order r) (initial (ranking_cmp r) l q) (coefficient_of_is (ranking_order r) l (degree (ranking_cmp r) l q) q h) ∙ sym e)

-- no multiplier is permitted where it is refused
pub refused_not_permitted : (g : Symbols Symbol) (hs : Polynomials) (stop : PolyStop) (x : Result (Polynomial Symbol) Refusal) → (stop ≡ Memory → ⊥) → IsStop stop x → permitted_if g hs x ≡ false
refused_not_permitted g hs stop x n (inl e) = absurd (n e)
refused_not_permitted g hs stop (Ok m) n (inr e) = absurd (nothing e)
  where
    nothing : ◌≡◌ {A = Option PolyStop} None (Some stop) → ⊥
    nothing e = cc
refused_not_permitted g hs stop (Err refusal) n (inr e) = refl
