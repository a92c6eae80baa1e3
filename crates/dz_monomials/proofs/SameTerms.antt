-- When two terms, and two lists of them, are equal.
use Rattle.std.proofs.Common.{◌≡◌, ◌≢◌, ◌≤◌, ◌∙◌, ℕ, List, length, take, get_or, ℤ, sym, ap, ap₂}
use Rattle.std.proofs.lemmas.List.{take_all}
use Rattle.std.specs.Cmp.{tied_itself}
use Rattle.std.specs.declared.cmp.Ordering.TheVariants.{Equal}
use Rattle.dz_algebra.specs.Monomial.{Monomial, monomial_cmp}
use Rattle.dz_algebra.proofs.Orders.{same_monomial, monomial_cmp_total}
use Rattle.dz_rank.specs.declared.symbols.Symbol.{Symbol}
use Rattle.dz_rank.specs.Rankings.{RankingValue, ranking_cmp}
use Rattle.dz_monomials.proofs.SymbolLaws.{ranking_order}

pub other_length : {X : Type 0} (xs ys : List X) → length xs ≢ length ys → xs ≢ ys
other_length xs ys n e = n (ap length e)

pub other_term : {X : Type 0} (xs ys : List X) (i : ℕ) (d : X) → get_or xs i d ≢ get_or ys i d → xs ≢ ys
other_term xs ys i d n e = n (ap (λ zs. get_or zs i d) e)

pub all_same : {X : Type 0} (xs ys : List X) (i : ℕ) → take i xs ≡ take i ys → length xs ≤ i → length ys ≤ i → xs ≡ ys
all_same xs ys i e h g = sym (take_all i xs h) ∙ e ∙ take_all i ys g

-- ---- equal terms
pub same_pair : (r : RankingValue) (t u : Monomial Symbol × ℤ) → t.1 ≡ u.1 → monomial_cmp (ranking_cmp r) t.0 u.0 ≡ Equal → t ≡ u
same_pair r t u e f = ap₂ (λ (m : Monomial Symbol) (c : ℤ). (m, c)) (same_monomial (ranking_order r) t.0 u.0 f) e

pub other_pair : (r : RankingValue) (t u : Monomial Symbol × ℤ) → t ≡ u → monomial_cmp (ranking_cmp r) t.0 u.0 ≡ Equal
other_pair r t u e = ap (λ x. monomial_cmp (ranking_cmp r) x.0 u.0) e ∙ tied_itself (monomial_cmp_total (ranking_order r)) u.0
