-- The symbols of a ranking are ordered totally, and their rates commute.
use Rattle.std.proofs.Common.{◌≡◌, ◌==◌, ℕ, zero, suc, Bool, true, false, cond, List, [], ◌∷◌, refl, ap}
use Rattle.dz_algebra.specs.Order.{IsOrder}
use Rattle.dz_algebra.specs.Derivation.{constant, unit, symbol, rate_again, RatesCommute}
use Rattle.dz_rank.specs.declared.symbols.Symbol.TheVariants.{Independent, Derivative}
use Rattle.dz_rank.specs.Rankings.{RankingValue, ranking_cmp}
use Rattle.dz_rank.specs.Symbols.{raised}
use Rattle.dz_rank.proofs.RankingOrders.{ranking_total, ranking_same}
use Rattle.dz_monomials.specs.Ranked.{symbol_rate}

pub ranking_order : (r : RankingValue) → IsOrder (ranking_cmp r)
ranking_order r = record { total = ranking_total r; same = ranking_same r }

raised_twice : (i j : ℕ) (ks : List ℕ) → raised i (raised j ks) ≡ raised j (raised i ks)
raised_twice zero zero ks = refl
raised_twice zero (suc j) [] = refl
raised_twice zero (suc j) (k ∷ ks) = refl
raised_twice (suc i) zero [] = refl
raised_twice (suc i) zero (k ∷ ks) = refl
raised_twice (suc i) (suc j) [] = ap (λ l. 0 ∷ l) (raised_twice i j [])
raised_twice (suc i) (suc j) (k ∷ ks) = ap (λ l. k ∷ l) (raised_twice i j ks)

pub rates_commute : (i j : ℕ) → RatesCommute (symbol_rate i) (symbol_rate j)
unfolding symbol_rate
rates_commute i j (Independent k) = by_tests (i == k) (j == k)
  where
    by_tests : (a b : Bool) → rate_again (symbol_rate i) (cond b unit constant) ≡ rate_again (symbol_rate j) (cond a unit constant)
    by_tests true true = refl
    by_tests true false = refl
    by_tests false true = refl
    by_tests false false = refl
rates_commute i j (Derivative u t) = ap (λ ks. symbol (Derivative u (record { counts = ks }))) (raised_twice i j t.counts)
