-- Derivatives of the equations of a state, raised further, and where they lie in a prime ideal.
use Rattle.std.proofs.Common.{◌≡◌, ◌<◌, ◌≤◌, ◌∙◌, ℕ, List, [], ◌∷◌, IsTrue, true, Option, Some, refl, sym, ap, ap₂, subst}
use Rattle.std.specs.declared.cmp.Ordering.TheVariants.{Less}
use Rattle.dz_algebra.specs.Polynomial.{PolynomialIn, Polynomial, IsPolynomial}
use Rattle.dz_algebra.specs.Parts.{leader}
use Rattle.dz_algebra.proofs.PolynomialRing.{same_canonical, polynomial_ring}
use Rattle.dz_rank.specs.Rankings.{RankingValue, ranking_cmp}
use Rattle.dz_rank.specs.Symbols.{raised, raised_symbol, derivative_by, is_derivative, BelongsTo, IsOperatorOf}
use Rattle.dz_rank.specs.declared.symbols.Operator.{Operator}
use Rattle.dz_rank.specs.declared.symbols.Symbol.{Symbol}
use Rattle.dz_rank.specs.declared.symbols.Symbol.TheVariants.{Independent, Derivative}
use Rattle.dz_rank.proofs.Belonging.{derivative_belongs}
use Rattle.dz_monomials.specs.Ranked.{symbols_under}
use Rattle.dz_monomials.proofs.SymbolLaws.{ranking_order}
use Rattle.dz_monomials.specs.Lists.{AllOf}
use Rattle.dz_diff.specs.Over.{IsOver}
use Rattle.dz_diff.specs.Operators.{quotient}
use Rattle.dz_diff.specs.State.{State, at_place}
use Rattle.dz_diff.proofs.LeaderBounds.{leader_in, leader_is_one, all_map}
use Rattle.dz_diff.proofs.LeaderDerivations.{IsRegular}
use Rattle.dz_diff.proofs.Places.{taken}
use Rattle.dz_step.proofs.NoSteps.{quotient_derivative}
use Rattle.dz_jet.specs.Chains.{Reaching}
use Rattle.dz_jet.specs.Derivatives.{derivative_of}
use Rattle.dz_jet.proofs.Ideals.{IsPrimeIdeal, Along}
use Rattle.dz_jet.proofs.Operators.{Poly, derivation, is_derivation, derived, derived_raised}
use Rattle.dz_jet.proofs.Raisings.{raised_by, AreBelow, derivative_raised, one_belongs, raised_grows}

-- two places hold one equation
pub same_some : {A : Type 0} (o : Option A) (x y : A) → o ≡ Some x → o ≡ Some y → x ≡ y
same_some o x y e f = cc

-- the leader of a polynomial over a signature belongs to it
pub leader_belongs : (r : RankingValue) (q : Polynomial Symbol) (l : Symbol) → PolynomialIn (BelongsTo r.signature) q → leader (symbols_under r) q ≡ Some l → BelongsTo r.signature l
leader_belongs r q l h f = leader_in r (BelongsTo r.signature) q l f (all_map r (BelongsTo r.signature) (λ x. is_derivative x ≡ true → BelongsTo r.signature x) (λ x h z. h) q h)

module _ (r : RankingValue) (few : r.signature.independents ≤ 4) (s : State) (over : AllOf (IsOver r) s.equations) where
  pub equation_over : (j : ℕ) (q : Polynomial Symbol) → at_place j s.equations ≡ Some q → IsOver r q
  equation_over j q e = (taken (IsOver r) j q s.equations e over).0

  -- the leader of an equation is a derivative of the signature
  pub top_belongs : (j : ℕ) (q : Polynomial Symbol) (l : Symbol) → at_place j s.equations ≡ Some q → leader (symbols_under r) q ≡ Some l → BelongsTo r.signature l
  top_belongs j q l e f = leader_belongs r q l (equation_over j q e).belongs f

  module _ {w : Symbol} (x : Reaching r s w) where
    abbrev pub canonical : IsPolynomial (ranking_cmp r) x.equation
    canonical = (equation_over x.place x.equation x.stands).canonical

    -- the equation's derivative
    abbrev pub poly : Poly r
    poly = derived r x.operator (x.equation, canonical)

    pub top_in : BelongsTo r.signature x.top
    top_in = top_belongs x.place x.equation x.top x.stands x.top_is

    pub top_derivative : IsTrue (is_derivative x.top)
    top_derivative = leader_is_one r x.equation x.top x.top_is

    pub reached_belongs : BelongsTo r.signature w
    reached_belongs = subst (BelongsTo r.signature) x.reaches (derivative_belongs r.signature x.top x.operator top_in x.in_signature)

    pub reached_derivative : IsTrue (is_derivative w)
    reached_derivative = subst (λ v. IsTrue (is_derivative v)) x.reaches (still x.operator x.top top_derivative)
      where
        still : (t : Operator) (l : Symbol) → IsTrue (is_derivative l) → IsTrue (is_derivative (derivative_by t l))
        still t (Independent j) h = h
        still t (Derivative u b) h = refl

    -- one derivation more
    pub operator_raised : (i : ℕ) (l : Symbol) → i < r.signature.independents → BelongsTo r.signature l → IsTrue (is_derivative l) → IsOperatorOf r.signature.independents (record { counts = raised i x.operator.counts })
    operator_raised i (Independent j) h b d = cc
    operator_raised i (Derivative u c) h b d = (one_belongs r few i (Derivative u x.operator) h (b.0, x.in_signature)).1

    abbrev pub raise : (i : ℕ) → i < r.signature.independents → Reaching r s (raised_symbol i w)
    raise i h = record {
      place = x.place;
      equation = x.equation;
      top = x.top;
      operator = record { counts = raised i x.operator.counts };
      stands = x.stands;
      top_is = x.top_is;
      in_signature = operator_raised i x.top h top_in top_derivative;
      reaches = derivative_raised i x.operator x.top ∙ ap (raised_symbol i) x.reaches;
    }

    pub poly_raise : (i : ℕ) (h : i < r.signature.independents) → derived r (record { counts = raised i x.operator.counts }) (x.equation, canonical) ≡ derivation r i poly
    poly_raise i h = derived_raised r i x.operator (x.equation, canonical)

  -- several derivations more
  abbrev pub raise_all : {w : Symbol} (is : List ℕ) → AreBelow r.signature.independents is → Reaching r s w → Reaching r s (raised_by is w)
  raise_all [] h x = x
  raise_all (i ∷ is) h x = raise_all is h.1 (raise x i h.0)

  -- an equation has one derivative that leads to w
  pub unique : {w : Symbol} (x y : Reaching r s w) → x.place ≡ y.place → poly x ≡ poly y
  unique {w} x y e =
      let same : x.equation ≡ y.equation = same_some (at_place y.place s.equations) x.equation y.equation (ap (λ j. at_place j s.equations) (sym e) ∙ x.stands) y.stands in
      let tops : x.top ≡ y.top = same_some (leader (symbols_under r) y.equation) x.top y.top (ap (leader (symbols_under r)) (sym same) ∙ x.top_is) y.top_is in
      let operators : x.operator ≡ y.operator = same_some (quotient w y.top) x.operator y.operator (ap (quotient w) (sym tops) ∙ by_quotient x) (by_quotient y) in
      same_canonical (ranking_order r) _ _ (ap₂ (derivative_of r) operators same)
    where
      regular : (l : Symbol) → BelongsTo r.signature l → IsRegular 4 l
      regular (Independent j) h = tt
      regular (Derivative u t) h = h.1.size

      by_quotient : (z : Reaching r s w) → quotient w z.top ≡ Some z.operator
      by_quotient z = ap (λ v. quotient v z.top) (sym z.reaches) ∙ quotient_derivative 4 z.operator z.top (top_derivative z) z.in_signature.size (regular z.top (top_in z))

  -- ---- in a prime ideal
  module _ (I : Poly r → Type 0) (ideal : IsPrimeIdeal (polynomial_ring (ranking_order r)) I) where
    -- in the ideal along a list of derivations
    abbrev pub In : List ℕ → Poly r → Type 0
    In is p = Along (polynomial_ring (ranking_order r)) (derivation r) (is_derivation r) I ideal is p

    -- every derivative of an equation that leads to w is in it
    abbrev pub Holds : Symbol → Type 0
    Holds w = (x : Reaching r s w) → I (poly x)

    module _ (w : Symbol) (lower : (v : Symbol) → ranking_cmp r v w ≡ Less → Holds v) where
      passes_on : (a b : Symbol) → ranking_cmp r a b ≡ Less → ranking_cmp r b w ≡ Less → ranking_cmp r a w ≡ Less
      passes_on a b e f = (ranking_order r).total.trans a b w e f

      -- a derivative that is raised to less than w is in it on the way
      pub in_below : (is : List ℕ) (h : AreBelow r.signature.independents is) (v : Symbol) (x : Reaching r s v) → ranking_cmp r (raised_by is v) w ≡ Less → In is (poly x)
      in_below [] h v x e = lower v e x
      in_below (i ∷ is) h v x e = (
        in_below is h.1 v x (passes_on (raised_by is v) (raised_by (i ∷ is) v) (raised_grows r few i is v h (reached_belongs x) (reached_derivative x)) e),
        subst (In is) (poly_raise x i h.0) (in_below is h.1 (raised_symbol i v) (raise x i h.0) e),
      )

      -- and one that is raised to w, if it is in it there
      pub in_at : (is : List ℕ) (h : AreBelow r.signature.independents is) (v : Symbol) (x : Reaching r s v) → raised_by is v ≡ w → I (poly (raise_all is h x)) → In is (poly x)
      in_at [] h v x e k = k
      in_at (i ∷ is) h v x e k = (
        in_below is h.1 v x (subst (λ u. ranking_cmp r (raised_by is v) u ≡ Less) e (raised_grows r few i is v h (reached_belongs x) (reached_derivative x))),
        subst (In is) (poly_raise x i h.0) (in_at is h.1 (raised_symbol i v) (raise x i h.0) e k),
      )

    -- what is in it along a list is in it at the end
    pub in_last : (is : List ℕ) (h : AreBelow r.signature.independents is) (v : Symbol) (x : Reaching r s v) → In is (poly x) → I (poly (raise_all is h x))
    in_last [] h v x k = k
    in_last (i ∷ is) h v x k = in_last is h.1 (raised_symbol i v) (raise x i h.0) (subst (In is) (sym (poly_raise x i h.0)) k.1)
