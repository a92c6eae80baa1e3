-- The laws of jets; the crate's law functions ask for their proofs.
use Rattle.std.specs.Prelude.{◌≡◌, ◌≤◌, ℕ, Bool, IsTrue, Ok}
use Rattle.dz_algebra.specs.Domain.{Operations}
use Rattle.dz_rank.specs.Rankings.{RankingValue, IsOrderly}
use Rattle.dz_rank.specs.Symbols.{total_order}
use Rattle.dz_rank.specs.declared.symbols.Symbol.{Symbol}
use Rattle.dz_diff.specs.State.{State}
use Rattle.dz_monomials.specs.Ranked.{symbols_under}
use Rattle.dz_monomials.specs.Lists.{AllOf}
use Rattle.dz_jet.specs.Clashes.{AgreesAt, IsFixed, IsInitialSegment}
use Rattle.dz_jet.specs.Fractions.{fraction_operations, is_reduced}
use Rattle.dz_jet.specs.Jets.{Values, value_in, jet_order, jet_answer}

-- for values at which the equations of a chain vanish and its initials and separants do not
pub record ClashLaws {E : Type 0} (r : RankingValue) (s : State) (o : Operations E) (at : Symbol → E) : Type 0 where
  -- where each derivative of an initial segment is fixed by one member, it agrees with all
  pub on_segment : (test : Symbol → Bool) → IsInitialSegment r test → ((w : Symbol) → IsTrue (test w) → IsFixed r s o at w) → (w : Symbol) → IsTrue (test w)
      → AgreesAt r s o at w
  -- so it is up to every total order, if the ranking is orderly
  pub to_order : IsOrderly r → (m : ℕ) → ((w : Symbol) → total_order w ≤ m → IsFixed r s o at w) → (w : Symbol) → total_order w ≤ m → AgreesAt r s o at w

-- the values are fractions in lowest terms
abbrev pub AreReduced : Values → Type 0
AreReduced known = AllOf (λ p. IsTrue (is_reduced p.1)) known

-- of jets of a chain under an orderly ranking
pub record JetLaws (r : RankingValue) (s : State) : Type 0 where
  -- every derivative of an equation that leads to a symbol within the order has value zero at the jet
  pub agrees : (known jet : Values) (n : ℕ) → AreReduced known → jet_answer r s known n ≡ Ok jet → (w : Symbol) → total_order w ≤ jet_order (symbols_under r) s n
      → AgreesAt r s fraction_operations (value_in (symbols_under r) jet) w
