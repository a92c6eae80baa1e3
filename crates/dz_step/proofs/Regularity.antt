-- The symbols of an entry have operators with four exponents.
use Rattle.std.proofs.Common.{◌≡◌, Some}
use Rattle.dz_algebra.specs.Monomial.{Monomial}
use Rattle.dz_algebra.specs.Parts.{leader}
use Rattle.dz_algebra.specs.Polynomial.{Polynomial}
use Rattle.dz_rank.specs.Rankings.{RankingValue}
use Rattle.dz_rank.specs.Symbols.{HasFourExponents}
use Rattle.dz_rank.specs.declared.symbols.Symbol.{Symbol}
use Rattle.dz_rank.specs.declared.symbols.Symbol.TheVariants.{Independent, Derivative}
use Rattle.dz_monomials.specs.Keeping.{IsTabled}
use Rattle.dz_monomials.specs.Ranked.{symbols_under}
use Rattle.dz_diff.proofs.LeaderBounds.{leader_regular}
use Rattle.dz_diff.proofs.LeaderDerivations.{IsRegular}
use Rattle.dz_diff.proofs.Overs.{regular_over}

-- a regular symbol has four exponents
has_four : (l : Symbol) → IsRegular 4 l → HasFourExponents l
has_four (Independent j) h = tt
has_four (Derivative u t) h = h

-- so has the leader
pub leader_has_four : (r : RankingValue) (p : Polynomial Symbol) (table : Monomial Symbol) (l : Symbol) → IsTabled r p table → leader (symbols_under r) p ≡ Some l → HasFourExponents l
leader_has_four r p table l h e = has_four l (leader_regular r p l e (regular_over r p (record { canonical = h.keepable.canonical; belongs = h.keepable.belongs })))
