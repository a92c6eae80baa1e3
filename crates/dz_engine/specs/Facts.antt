-- What a search has found out of the equations of a state. No public clause cites this file.
use Rattle.std.specs.Prelude.{◌≡◌, ⊤, ℕ, All, Bool, List, map, Option, Some, None, is_some, not, Result, Ok, Err}
use Rattle.dz_algebra.specs.Monomial.{Monomial}
use Rattle.dz_algebra.specs.Norm.{norm}
use Rattle.dz_algebra.specs.Parts.{is_ground, leader}
use Rattle.dz_algebra.specs.Polynomial.{Polynomial}
use Rattle.dz_algebra.specs.Size.{Refusal}
use Rattle.dz_algebra.specs.Symbols.{Symbols}
use Rattle.dz_poly.specs.Books.{BookValue, Lives, polynomial}
use Rattle.dz_rank.specs.Rankings.{RankingValue}
use Rattle.dz_rank.specs.declared.symbols.Symbol.{Symbol}
use Rattle.dz_terms.specs.Entries.{IsEntry}
use Rattle.dz_monomials.specs.Keeping.{IsTabled}
use Rattle.dz_monomials.specs.Ranked.{symbols_under}
use Rattle.dz_diff.specs.Operations.{setting_of}
use Rattle.dz_diff.specs.Tests.{is_unit}
use Rattle.dz_pair.specs.Pair.{delta_answer}
use Rattle.dz_step.specs.declared.Which.TheVariants.{Initial, Separant}
use Rattle.dz_monomials.specs.PowerDivision.{is_divided}
use Rattle.dz_step.specs.Step.{multiplier_answer}
use Rattle.dz_engine.specs.declared.facts.Delta.{Delta}
use Rattle.dz_engine.specs.declared.facts.Facts.{Facts}
use Rattle.dz_engine.specs.declared.facts.Multiplier.{Multiplier}
use Rattle.dz_engine.specs.Order.{first_symbol, symbols_of}

-- this is kept of the multiplier m
pub record IsMultiplier (r : RankingValue) (m : Polynomial Symbol) (x : Multiplier) : Type 0 where
  pub norm_is : x.norm.terms ≡ norm m
  pub entry : IsEntry r x.norm
  pub ground_is : x.is_ground ≡ is_ground (symbols_under r) m
  pub unit_is : x.is_unit ≡ is_unit (symbols_under r) m

-- this is kept of a multiplier, and nothing exactly where it does not fit
abbrev pub IsAnswer : RankingValue → Result (Polynomial Symbol) Refusal → Option Multiplier → Type 0
IsAnswer r (Ok m) (Some x) = IsMultiplier r m x
IsAnswer r (Ok m) None = ⊥
IsAnswer r (Err refusal) (Some x) = ⊥
IsAnswer r (Err refusal) None = ⊤

-- no symbol divides a polynomial
abbrev pub is_undivided : Symbols Symbol → Polynomial Symbol → Bool
is_undivided g q = not (is_some (first_symbol (λ v. is_divided g.cmp v q) (symbols_of g q)))

-- this is kept of the polynomial q
pub record AreFactsOf (r : RankingValue) (q : Polynomial Symbol) (f : Facts) : Type 0 where
  pub initial_is : (l : Symbol) → leader (symbols_under r) q ≡ Some l → IsAnswer r (multiplier_answer (symbols_under r) Initial l q) f.initial
  pub separant_is : (l : Symbol) → leader (symbols_under r) q ≡ Some l → IsAnswer r (multiplier_answer (symbols_under r) Separant l q) f.separant
  pub undivided_is : f.is_undivided ≡ is_undivided (symbols_under r) q

-- these terms, with their degrees, are the Delta-polynomial of two polynomials that stand in the book
pub record IsDeltaBy (book : BookValue) (p q : ℕ) (terms : Polynomial Symbol) (table : Monomial Symbol) : Type 0 where
  pub lives : Lives book q
  pub is : delta_answer (setting_of book.ranking) (polynomial book p) (polynomial book q) ≡ Ok terms
  pub entry : IsTabled book.ranking terms table

-- this is kept as the Delta-polynomial of a polynomial with another one
abbrev pub IsDelta : BookValue → ℕ → Delta → Type 0
IsDelta book p d = IsDeltaBy book p d.other d.entry.terms d.entry.degrees

-- this is kept of a polynomial that stands in the book
pub record IsKnown (book : BookValue) (f : Facts) : Type 0 where
  pub lives : Lives book f.poly
  pub facts : AreFactsOf book.ranking (polynomial book f.poly) f
  pub deltas : All (IsDelta book f.poly) f.deltas.items

-- and of each of some
abbrev pub AreKnown : BookValue → List Facts → Type 0
AreKnown book fs = All (IsKnown book) fs

-- the numbers of the polynomials of which something is kept
abbrev pub names_of : List Facts → List ℕ
names_of fs = map (λ f. f.poly) fs
