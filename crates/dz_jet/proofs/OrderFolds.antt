-- The greatest total order in polynomials, term by term.
use Rattle.std.specs.List.{list_any}
use Rattle.std.proofs.Common.{◌≡◌, ◌<◌, ◌≤◌, ◌+◌, ◌∙◌, max, ℕ, nat_lt, Bool, true, false, cond, List, [], ◌∷◌, drop, length, map, slice_get, slice_index_or, Option, Some, None, refl, sym, ap, arith, ltb-false}
use Rattle.dz_algebra.specs.declared.Limit.{Limit}
use Rattle.dz_algebra.specs.Monomial.{Monomial}
use Rattle.dz_algebra.specs.Polynomial.{Polynomial}
use Rattle.dz_algebra.specs.Size.{has_high_order}
use Rattle.dz_algebra.specs.Symbols.{Symbols}
use Rattle.dz_poly.specs.Books.{BookValue, IsBook, polynomial}
use Rattle.dz_rank.specs.declared.symbols.Symbol.{Symbol}
use Rattle.dz_monomials.specs.Ranked.{symbols_under}
use Rattle.dz_diff.specs.States.{LiveAll, polynomials}
use Rattle.dz_move.proofs.RootStates.{or_none}
use Rattle.dz_step.proofs.DivisorTables.{polynomial_here, polynomials_length}
use Rattle.dz_step.proofs.Searches.{drop_here}
use Rattle.std.proofs.lemmas.List.Elements.{All-head, All-tail}
use Rattle.dz_jet.specs.Jets.{order_of, order_of_all, order_of_monomial}
use Rattle.dz_jet.proofs.FoldSteps.{drop_got}

-- one power more
pub power_order : (g : Symbols Symbol) (m : Monomial Symbol) (j x y : ℕ) (p : Symbol × ℕ) → slice_get m j ≡ Some p → y ≡ max x (g.total_order p.0) → order_of_monomial g (drop (j + 1) m) y ≡ order_of_monomial g (drop j m) x
power_order g m j x y p got is = ap (order_of_monomial g (drop (j + 1) m)) is ∙ sym (ap (λ n. order_of_monomial g n x) (drop_got m j p got))

-- one polynomial more
pub polynomial_order : (book : BookValue) (ps : List ℕ) (i d x y : ℕ) → i < length ps → y ≡ order_of (symbols_under book.ranking) (polynomial book (slice_index_or ps i d)) x
    → order_of_all (symbols_under book.ranking) (drop (i + 1) (polynomials book ps)) y ≡ order_of_all (symbols_under book.ranking) (drop i (polynomials book ps)) x
polynomial_order book ps i d x y inside is =
    let g = symbols_under book.ranking in
    let l = polynomials_length book ps in
    ap (order_of_all g (drop (i + 1) (polynomials book ps))) (is ∙ ap (λ q. order_of g q x) (sym (polynomial_here book ps i d inside)))
    ∙ sym (ap (λ qs. order_of_all g qs x) (drop_here i (polynomials book ps) [] (omega arith)))

-- ---- orders in a book are at most 60
module _ (g : Symbols Symbol) where
  monomial_low : (m : Monomial Symbol) (x : ℕ) → list_any (λ p. nat_lt 60 (g.total_order p.0)) m ≡ false → order_of_monomial g m x ≤ max x 60
  monomial_low [] x h = omega arith
  monomial_low (p ∷ m) x h =
      let a = or_none (nat_lt 60 (g.total_order p.0)) (list_any (λ p. nat_lt 60 (g.total_order p.0)) m) h in
      let b = monomial_low m (max x (g.total_order p.0)) a.1 in
      let c = ltb-false 60 (g.total_order p.0) a.0 in
      omega arith

  polynomial_low : (p : Polynomial Symbol) (x : ℕ) → has_high_order g (map (λ t. t.0) p) ≡ false → order_of g p x ≤ max x 60
  polynomial_low [] x h = omega arith
  polynomial_low (t ∷ p) x h =
      let a = or_none (list_any (λ p. nat_lt 60 (g.total_order p.0)) t.0) (has_high_order g (map (λ t. t.0) p)) h in
      let b = polynomial_low p (order_of_monomial g t.0 x) a.1 in
      let c = monomial_low t.0 x a.0 in
      omega arith

first_passes : (b : Bool) (l : Limit) (o : Option Limit) → cond b (Some l) o ≡ None → b ≡ false
first_passes true l o e = cc
first_passes false l o e = refl

pub all_low : (book : BookValue) → IsBook book → (ps : List ℕ) (x : ℕ) → LiveAll book ps → order_of_all (symbols_under book.ranking) (polynomials book ps) x ≤ max x 60
all_low book whole [] x live = omega arith
all_low book whole (p ∷ ps) x live =
    let small = (whole.each p [] (All-head (λ p. p < length book.polynomials) p ps live)).small in
    let a = polynomial_low (symbols_under book.ranking) (polynomial book p) x (first_passes (has_high_order (symbols_under book.ranking) (map (λ t. t.0) (polynomial book p))) _ _ small) in
    let b = all_low book whole ps (order_of (symbols_under book.ranking) (polynomial book p) x) (All-tail (λ p. p < length book.polynomials) p ps live) in
    omega arith
