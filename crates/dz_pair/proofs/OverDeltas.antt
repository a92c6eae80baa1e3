-- Delta-polynomials are over the ranking that their equations are over.
use Rattle.std.proofs.Common.{◌≡◌, ◌≤◌, subst, Ok, inl, inr}
use Rattle.dz_algebra.specs.Polynomial.{Polynomial, PolynomialIn}
use Rattle.dz_algebra.proofs.Inside.{in_norm}
use Rattle.dz_rank.specs.Rankings.{RankingValue, ranking_cmp}
use Rattle.dz_rank.specs.Symbols.{BelongsTo}
use Rattle.dz_rank.specs.declared.symbols.Symbol.{Symbol}
use Rattle.dz_diff.specs.Operations.{setting_of}
use Rattle.dz_diff.specs.Over.{IsOver}
use Rattle.dz_diff.proofs.Overs.{good_over}
use Rattle.dz_pair.specs.Pair.{delta_answer}
use Rattle.dz_pair.proofs.DeltaParts.{DeltaParts, delta_parts, good_delta, good_products}
use Rattle.dz_diff.proofs.OverOperations.{difference_in, operator_belongs, product_in, separant_in}

module _ (r : RankingValue) (few : r.signature.independents ≤ 4) where
  -- the symbol belongs to the signature
  abbrev Belongs : Symbol → Type 0
  Belongs = BelongsTo r.signature

  -- and so do all symbols of a polynomial
  abbrev AllBelong : Polynomial Symbol → Type 0
  AllBelong = PolynomialIn (BelongsTo r.signature)

  -- the products of a Delta-polynomial are over the ranking
  pub delta_products : (p q d : Polynomial Symbol) (k : DeltaParts r p q d) → IsOver r p → IsOver r q → IsOver r k.left × IsOver r k.right
  delta_products p q d k of_p of_q =
      let good = good_products r p q d k (good_over r p of_p) (good_over r q of_q) in (
        record { canonical = good.0.0; belongs = product_in r Belongs k.second_separant k.first k.left k.left_is (separant_in r Belongs k.second_leader q k.second_separant k.second_separant_is of_q.belongs) (operator_belongs r few k.first_operator p k.first k.first_is of_p.belongs) },
        record { canonical = good.1.0; belongs = product_in r Belongs k.first_separant k.second k.right k.right_is (separant_in r Belongs k.first_leader p k.first_separant k.first_separant_is of_p.belongs) (operator_belongs r few k.second_operator q k.second k.second_is of_q.belongs) },
      )

  -- and the polynomial
  pub delta_over : (p q d : Polynomial Symbol) → delta_answer (setting_of r) p q ≡ Ok d → IsOver r p → IsOver r q → IsOver r d
  delta_over p q d e of_p of_q = record { canonical = (good_delta r p q d e (good_over r p of_p) (good_over r q of_q)).0; belongs = belong }
    where
      belong : AllBelong d
      belong = elim (delta_parts r p q d e) [
        | inl h ↦ subst AllBelong h tt
        | inr k ↦
            let both = delta_products p q d k of_p of_q in
            subst AllBelong k.end_is (in_norm (ranking_cmp r) Belongs k.rest (difference_in r Belongs k.left k.right k.rest k.rest_is both.0.belongs both.1.belongs))
      ]
