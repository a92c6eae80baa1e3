-- Operations that add nothing up answer the contributions themselves.
use Rattle.std.proofs.Common.{◌≡◌, ◌∙◌, ap, true, map, None, Ok}
use Rattle.dz_algebra.specs.Amount.{amounts, amounts_fit, gathered}
use Rattle.dz_algebra.specs.Polynomial.{Polynomial}
use Rattle.dz_algebra.specs.Size.{fits, limit_of, operation, support}
use Rattle.dz_algebra.proofs.Canonical.{collected}
use Rattle.dz_algebra.proofs.Operations.{gathered_polynomial, operation_ok}
use Rattle.dz_rank.specs.declared.symbols.Symbol.{Symbol}
use Rattle.dz_rank.specs.Rankings.{RankingValue, ranking_cmp}
use Rattle.dz_monomials.specs.Keeping.{IsKeepable}
use Rattle.dz_monomials.specs.Ranked.{symbols_under}
use Rattle.dz_monomials.proofs.SymbolLaws.{ranking_order}
use Rattle.dz_monomials.proofs.Changes.{amounts_in_range, same_keys}

-- the operation whose contributions are a polynomial that may stand in a book answers that polynomial
pub operation_keeps : (r : RankingValue) (p : Polynomial Symbol) → IsKeepable r p → operation (symbols_under r) p ≡ Ok p
unfolding support fits
operation_keeps r p h =
    let order = ranking_order r in
    let same : gathered (ranking_cmp r) p ≡ amounts p = gathered_polynomial order p h.canonical in
    let small : limit_of (symbols_under r) (support (ranking_cmp r) p) ≡ None = ap (λ ts. limit_of (symbols_under r) (map (λ t. t.0) ts)) same ∙ ap (limit_of (symbols_under r)) (same_keys p) ∙ h.small in
    let fit : fits (ranking_cmp r) p ≡ true = ap amounts_fit same ∙ amounts_in_range p h.in_range in
    operation_ok (symbols_under r) p small fit ∙ ap (λ q. Ok q) (collected order p h.canonical)
