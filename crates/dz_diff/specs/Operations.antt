-- The operations on differential polynomials in a setting (Kolchin), each with its refusal.
use Rattle.std.specs.Prelude.{ℕ, zero, suc, take, List, [], ◌∷◌, Result, Ok}
use Rattle.dz_algebra.specs.Polynomial.{Polynomial}
use Rattle.dz_algebra.specs.Size.{Refusal, derivation_answer}
use Rattle.dz_algebra.specs.Symbols.{Symbols}
use Rattle.dz_rank.specs.Rankings.{RankingValue}
use Rattle.dz_rank.specs.declared.symbols.Operator.{Operator}
use Rattle.dz_rank.specs.declared.symbols.Symbol.{Symbol}
use Rattle.dz_monomials.specs.Ranked.{symbols_under}
use Rattle.dz_algebra.specs.Outcome.{◌>>=◌}

-- what a computation is over: the symbols in their order, and the number of independents
pub record Setting : Type 0 where
  pub symbols : Symbols Symbol
  pub independents : ℕ

-- the setting of a ranking
abbrev pub setting_of : RankingValue → Setting
setting_of r = record { symbols = symbols_under r; independents = r.signature.independents }

-- the i-th derivation taken k times
abbrev pub iterated_answer : Symbols Symbol → ℕ → ℕ → Polynomial Symbol → Result (Polynomial Symbol) Refusal
iterated_answer g i zero a = Ok a
iterated_answer g i (suc k) a = iterated_answer g i k a >>= derivation_answer g i

-- the derivations from the i-th on, each as often as its exponent says, the first first
abbrev pub derivations_answer : Symbols Symbol → ℕ → List ℕ → Polynomial Symbol → Result (Polynomial Symbol) Refusal
derivations_answer g i [] a = Ok a
derivations_answer g i (k ∷ ks) a = iterated_answer g i k a >>= derivations_answer g (suc i) ks

-- an operator's derivations, the first independent's first
abbrev pub operator_answer : Setting → Operator → Polynomial Symbol → Result (Polynomial Symbol) Refusal
operator_answer g t a = derivations_answer g.symbols 0 (take g.independents t.counts) a
