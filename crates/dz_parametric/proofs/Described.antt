-- What a report on a state says holds, whatever book the state stands in.
use Rattle.std.proofs.Common.{◌≤◌, ℕ, All, List, subst}
use Rattle.std.specs.List.{Contains}
use Rattle.dz_algebra.specs.Polynomial.{PolynomialIn}
use Rattle.dz_rank.specs.Rankings.{RankingValue}
use Rattle.dz_rank.specs.Symbols.{BelongsTo}
use Rattle.dz_rank.specs.declared.symbols.Symbol.{Symbol}
use Rattle.dz_monomials.specs.Lists.{AllOf}
use Rattle.dz_diff.specs.State.{State}
use Rattle.dz_parametric.specs.Choosing.{parametric_to}
use Rattle.dz_parametric.specs.Laws.{IsDescribed}
use Rattle.dz_parametric.specs.Parametric.{IsParametricTo, leaders_in}
use Rattle.dz_parametric.proofs.Chosen.{all_chosen, chosen_parametric}
use Rattle.dz_parametric.proofs.ConeLaws.{belong_four, covers, leaders_belong}

-- what holds of all members holds of one
of_member : (P : Symbol → Type 0) (xs : List Symbol) (w : Symbol) → All P xs → Contains xs w → P w
of_member P xs w all (i, within, is) = subst P is (all i w within)

-- a state over a ranking is as it is told to be
pub described : (r : RankingValue) → r.signature.independents ≤ 4 → (s : State) → AllOf (PolynomialIn (BelongsTo r.signature)) s.equations → (m : ℕ) → IsDescribed r s m
described r few s over m =
    let ls = leaders_in r s in
    let belong = leaders_belong r s.equations over in
    let four = belong_four r ls belong in
    record {
      listed = λ w. (of_member (IsParametricTo r ls m) (parametric_to r s m) w (chosen_parametric r few m ls four), all_chosen r few m ls four w);
      covered = covers r few s belong;
    }
