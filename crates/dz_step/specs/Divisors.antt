-- What a full run keeps of the divisors of a state. No public clause cites this module.
use Rattle.std.specs.Prelude.{◌≡◌, ◌⊎◌, ⊤, ℕ, suc, Bool, true, false, List, [], ◌∷◌, Option, Some, None}
use Rattle.dz_algebra.specs.Parts.{degree, leader}
use Rattle.dz_algebra.specs.Polynomial.{Polynomial}
use Rattle.dz_rank.specs.Rankings.{RankingValue, ranking_cmp}
use Rattle.dz_rank.specs.Symbols.{HasFourExponents}
use Rattle.dz_rank.specs.declared.symbols.Symbol.{Symbol}
use Rattle.dz_monomials.specs.Ranked.{symbols_under}
use Rattle.dz_diff.specs.State.{State}
use Rattle.dz_diff.specs.Tests.{Polynomials}
use Rattle.dz_step.specs.declared.Which.{Which}
use Rattle.dz_step.specs.declared.Which.TheVariants.{Initial, Separant}
use Rattle.dz_step.specs.declared.Role.{Role}
use Rattle.dz_step.specs.declared.divisors.Answer.{Answer}
use Rattle.dz_step.specs.declared.divisors.Answer.TheVariants.{NotAsked, Granted, Refused}
use Rattle.dz_step.specs.declared.divisors.Divisor.{Divisor}
use Rattle.dz_step.specs.Step.{is_divisor, multiplier_answer, permitted_if, usable}

-- an answer is right where it was given
abbrev pub IsAnswerTo : Bool → Answer → Type 0
IsAnswerTo b NotAsked = ⊤
IsAnswerTo b Granted = b ≡ true
IsAnswerTo b Refused = b ≡ false

-- a multiplier of q with the leader l is permitted by some inequations
abbrev pub is_multiplier : RankingValue → Polynomials → Which → Symbol → Polynomial Symbol → Bool
is_multiplier r hs which l q = permitted_if (symbols_under r) hs (multiplier_answer (symbols_under r) which l q)

-- what is kept of the equation q is so
pub record IsDivisorOf (r : RankingValue) (hs : Polynomials) (q : Polynomial Symbol) (d : Divisor) : Type 0 where
  pub leads : leader (symbols_under r) q ≡ Some d.lead
  pub regular : HasFourExponents d.lead
  pub degree_is : d.degree ≡ degree (ranking_cmp r) d.lead q
  pub initial_is : IsAnswerTo (is_multiplier r hs Initial d.lead q) d.initial
  pub separant_is : IsAnswerTo (is_multiplier r hs Separant d.lead q) d.separant

-- these are the answers for the multipliers of q, if it has a leader
pub record AreAnswersOf (r : RankingValue) (hs : Polynomials) (q : Polynomial Symbol) (initial separant : Bool) : Type 0 where
  pub initial_is : (l : Symbol) → leader (symbols_under r) q ≡ Some l → initial ≡ is_multiplier r hs Initial l q
  pub separant_is : (l : Symbol) → leader (symbols_under r) q ≡ Some l → separant ≡ is_multiplier r hs Separant l q

-- and nothing is kept of one at place j only where it is no divisor
abbrev pub IsKeptOf : RankingValue → Polynomials → Role → ℕ → Polynomial Symbol → Option Divisor → Type 0
IsKeptOf r hs role j q None = (is_divisor role j ≡ false) ⊎ (leader (symbols_under r) q ≡ None)
IsKeptOf r hs role j q (Some d) = (is_divisor role j ≡ true) × IsDivisorOf r hs q d

-- what is kept of the equations from place j on
abbrev pub AreKeptOf : RankingValue → Polynomials → Role → ℕ → Polynomials → List (Option Divisor) → Type 0
AreKeptOf r hs role j [] [] = ⊤
AreKeptOf r hs role j [] (d ∷ ds) = ⊥
AreKeptOf r hs role j (q ∷ qs) [] = ⊥
AreKeptOf r hs role j (q ∷ qs) (d ∷ ds) = IsKeptOf r hs role j q d × AreKeptOf r hs role (suc j) qs ds

-- what is kept of all equations of a state
pub record AreDivisors (r : RankingValue) (s : State) (role : Role) (ds : List (Option Divisor)) : Type 0 where
  pub each : AreKeptOf r (usable role s.inequations) role 1 s.equations ds
