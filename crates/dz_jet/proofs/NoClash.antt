-- Jets never clash: upwards in the ranking, all derivatives of a chain that lead to one derivative lie in the ideal
-- with one of them.
use Rattle.std.proofs.Common.{◌≡◌, ◌⊎◌, inl, inr, ◌<◌, ◌≤◌, ◌+◌, ◌==◌, ◌∙◌, ℕ, zero, suc, Bool, true, false, not, ◌&&◌, List, [], ◌∷◌, length, IsTrue, Some, Ok, refl, sym, ap, ap₂, subst, arith}
use Rattle.std.proofs.lemmas.Bool.{eq-eqb}
use Rattle.std.proofs.lemmas.Cmp.{tied_itself}
use Rattle.std.specs.declared.cmp.Ordering.{Ordering}
use Rattle.std.specs.declared.cmp.Ordering.TheVariants.{Less, Equal, Greater}
use Rattle.std.specs.Ordering.{match_ordering}
use Rattle.dz_algebra.specs.Parts.{leader}
use Rattle.dz_algebra.specs.Polynomial.{Polynomial}
use Rattle.dz_algebra.proofs.PolynomialRing.{polynomial_ring}
use Rattle.dz_rank.specs.Rankings.{RankingValue, ranking_cmp}
use Rattle.dz_rank.specs.Symbols.{derivative_by, is_derivative, least_common_derivative, BelongsTo, IsOperatorOf}
use Rattle.dz_rank.specs.declared.symbols.Operator.{Operator}
use Rattle.dz_rank.specs.declared.symbols.Symbol.{Symbol}
use Rattle.dz_rank.specs.declared.symbols.Symbol.TheVariants.{Independent, Derivative}
use Rattle.dz_monomials.specs.Ranked.{symbols_under}
use Rattle.dz_monomials.proofs.SymbolLaws.{ranking_order}
use Rattle.dz_monomials.specs.Lists.{AllOf, SomeOf}
use Rattle.dz_diff.specs.Over.{IsOver}
use Rattle.dz_diff.specs.Operations.{setting_of}
use Rattle.dz_diff.specs.Operators.{divides}
use Rattle.dz_diff.specs.State.{State, at_place}
use Rattle.dz_pair.specs.Pair.{are_crossing, leaders_cross, is_pair, common_of_leaders}
use Rattle.dz_move.specs.Lines.{Evidence}
use Rattle.dz_tree.specs.Chain.{evidence_weight}
use Rattle.dz_jet.specs.Chains.{Reaching}
use Rattle.dz_jet.specs.Clashes.{IsDerivativeIn, IsInitialSegment}
use Rattle.dz_jet.proofs.ChainFacts.{ChainFacts, AreInSignature, evidence_of, all_two, leaders_differ, not_reducible, not_divided, pair_from, pair_run}
use Rattle.dz_jet.proofs.Ideals.{IsPrimeIdeal}
use Rattle.dz_jet.proofs.IdealRuns.{AreOutside}
use Rattle.dz_jet.proofs.Operators.{Poly}
use Rattle.dz_jet.proofs.PairSteps.{meeting, second_from_first, first_from_second}
use Rattle.dz_jet.proofs.Reachings.{equation_over, top_in, top_derivative, reached_belongs, reached_derivative, poly, unique, Holds}

-- ---- two equations that lead to one derivative cross
nothing_at_zero : {A : Type 0} (x : A) (xs : List A) → at_place 0 xs ≡ Some x → ⊥
nothing_at_zero x [] e = cc
nothing_at_zero x (y ∷ xs) e = cc

crossing_true : (a b c : Bool) → a ≡ true → b ≡ false → c ≡ false → (a && not b && not c) ≡ true
crossing_true true false false e f g = refl
crossing_true true false true e f g = cc
crossing_true true true c e f g = cc
crossing_true false b c e f g = cc

abbrev dependent : Symbol → ℕ
dependent (Independent i) = 0
dependent (Derivative u t) = u

module _ (r : RankingValue) (s : State) (over : AllOf (IsOver r) s.equations) (few : r.signature.independents ≤ 4) (evidence : List Evidence) (facts : ChainFacts (setting_of r) s evidence) where
  crossing : (a b u v : ℕ) (p q : Polynomial Symbol) (x y : Operator) → at_place (suc a) s.equations ≡ Some p → at_place (suc b) s.equations ≡ Some q → a < b → leader (symbols_under r) p ≡ Some (Derivative u x) → leader (symbols_under r) q ≡ Some (Derivative v y)
      → length x.counts ≡ length y.counts → u ≡ v → are_crossing (Derivative u x) (Derivative v y) ≡ true
  crossing a b u v p q x y e f l h k n i = subst (λ v. leader (symbols_under r) q ≡ Some (Derivative v y) → are_crossing (Derivative u x) (Derivative v y) ≡ true) i same k
    where
      same : leader (symbols_under r) q ≡ Some (Derivative u y) → are_crossing (Derivative u x) (Derivative u y) ≡ true
      same k =
          let apart = leaders_differ r s.equations (suc a) (suc b) p q (Derivative u x) (Derivative u y) facts.leaders e f (omega arith) h k in
          let poly_p = (equation_over r few s over (suc a) p e).canonical in
          let poly_q = (equation_over r few s over (suc b) q f).canonical in
          crossing_true (u == u) (divides y.counts x.counts) (divides x.counts y.counts) (eq-eqb u u refl)
          (not_divided r p q u x y poly_p h k n apart (not_reducible r s.equations a b p q facts.autoreduced e f (λ z. omega arith)))
          (not_divided r q p u y x poly_q k h (sym n) (λ z. apart (sym z)) (not_reducible r s.equations b a q p facts.autoreduced f e (λ z. omega arith)))

  crossing_at : (a b : ℕ) (w : Symbol) (p q : Polynomial Symbol) (l m : Symbol) (t u : Operator) → at_place (suc a) s.equations ≡ Some p → at_place (suc b) s.equations ≡ Some q → a < b → leader (symbols_under r) p ≡ Some l → leader (symbols_under r) q ≡ Some m
      → BelongsTo r.signature l → BelongsTo r.signature m → IsTrue (is_derivative l) → IsTrue (is_derivative m) → derivative_by t l ≡ w → derivative_by u m ≡ w → are_crossing l m ≡ true
  crossing_at a b w p q (Independent i) m t u e f n h k in_l in_m d c g j = cc
  crossing_at a b w p q (Derivative v x) (Independent i) t u e f n h k in_l in_m d c g j = cc
  crossing_at a b w p q (Derivative v x) (Derivative z y) t u e f n h k in_l in_m d c g j =
      crossing a b v z p q x y e f n h k (in_l.1.size ∙ sym in_m.1.size) (ap dependent (g ∙ sym j))

  module _ (signs : AreInSignature r evidence) (I : Poly r → Type 0) (ideal : IsPrimeIdeal (polynomial_ring (ranking_order r)) I) (outside : AreOutside r few s over I ideal) where
    module _ (w : Symbol) (lower : (v : Symbol) → ranking_cmp r v w ≡ Less → Holds r few s over I ideal v) where
      -- of two places in their order, the one derivative lies in the ideal with the other
      agree_in_order : (a b : ℕ) (x y : Reaching r s w) → x.place ≡ suc a → y.place ≡ suc b → a < b → (I (poly r few s over x) → I (poly r few s over y)) × (I (poly r few s over y) → I (poly r few s over x))
      agree_in_order a b x y e f l =
          let stands_x : at_place (suc a) s.equations ≡ Some x.equation = ap (λ i. at_place i s.equations) (sym e) ∙ x.stands in
          let stands_y : at_place (suc b) s.equations ≡ Some y.equation = ap (λ i. at_place i s.equations) (sym f) ∙ y.stands in
          let cross = crossing_at a b w x.equation y.equation x.top y.top x.operator y.operator stands_x stands_y l x.top_is y.top_is (top_in r few s over x) (top_in r few s over y) (top_derivative r few s over x) (top_derivative r few s over y) x.reaches y.reaches in
          let pair : is_pair (symbols_under r) x.equation y.equation ≡ true = ap₂ leaders_cross x.top_is y.top_is ∙ cross in
          let found = pair_from (symbols_under r) 1 s.equations a b x.equation y.equation stands_x stands_y l pair in
          let e1 : 1 + a ≡ suc a = omega arith in
          let e2 : 1 + b ≡ suc b = omega arith in
          let piece = evidence_of (λ e. ((k : ℕ) × (evidence_weight (setting_of r) s e ≡ Ok k)) × AllOf (λ st. IsOperatorOf r.signature.independents st.operator) e.steps) evidence _ (1 + a) (1 + b) facts.pairs
          (all_two (λ e. (k : ℕ) × (evidence_weight (setting_of r) s e ≡ Ok k)) (λ e. AllOf (λ st. IsOperatorOf r.signature.independents st.operator) e.steps) evidence facts.runs signs) found in
          let there_x : at_place piece.0.first s.equations ≡ Some x.equation = ap (λ i. at_place i s.equations) (piece.1 ∙ e1) ∙ stands_x in
          let there_y : at_place piece.0.second s.equations ≡ Some y.equation = ap (λ i. at_place i s.equations) (piece.2 ∙ e2) ∙ stands_y in
          let ran = pair_run (setting_of r) s piece.0 piece.3.0.0 x.equation y.equation (least_common_derivative x.top y.top) piece.3.0.1 there_x there_y (ap₂ common_of_leaders x.top_is y.top_is) in
          let meets = meeting r x.top y.top w cross (top_in r few s over x) (top_in r few s over y) (reached_belongs r few s over x) (x.operator, (top_derivative r few s over x, sym x.reaches)) (y.operator, (top_derivative r few s over y, sym y.reaches)) in (
            second_from_first r few s over I ideal outside w lower (suc a) (suc b) x.equation y.equation x.top y.top stands_x stands_y x.top_is y.top_is meets piece.0.steps piece.3.1 ran x y e f,
            first_from_second r few s over I ideal outside w lower (suc a) (suc b) x.equation y.equation x.top y.top stands_x stands_y x.top_is y.top_is meets piece.0.steps piece.3.1 ran x y e f,
          )

      -- so all of them lie in it with one
      agree_at : (i j : ℕ) (x y : Reaching r s w) → x.place ≡ i → y.place ≡ j → I (poly r few s over x) → I (poly r few s over y)
      agree_at zero j x y e f h = absurd (nothing_at_zero x.equation s.equations (ap (λ i. at_place i s.equations) (sym e) ∙ x.stands))
      agree_at (suc a) zero x y e f h = absurd (nothing_at_zero y.equation s.equations (ap (λ i. at_place i s.equations) (sym f) ∙ y.stands))
      agree_at (suc a) (suc b) x y e f h = by_order (trichotomy a b)
        where
          trichotomy : (a b : ℕ) → (a < b) ⊎ ((a ≡ b) ⊎ (b < a))
          trichotomy zero zero = inr (inl refl)
          trichotomy zero (suc b) = inl (omega arith)
          trichotomy (suc a) zero = inr (inr (omega arith))
          trichotomy (suc a) (suc b) = elim (trichotomy a b) [
            | inl l ↦ inl (omega arith)
            | inr (inl k) ↦ inr (inl (ap suc k))
            | inr (inr g) ↦ inr (inr (omega arith))
          ]

          by_order : (a < b) ⊎ ((a ≡ b) ⊎ (b < a)) → I (poly r few s over y)
          by_order (inl l) = (agree_in_order a b x y e f l).0 h
          by_order (inr (inl k)) = subst I (unique r few s over x y (e ∙ ap suc k ∙ sym f)) h
          by_order (inr (inr g)) = (agree_in_order b a y x f e g).1 h

      pub agree : (x y : Reaching r s w) → I (poly r few s over x) → I (poly r few s over y)
      agree x y h = agree_at x.place y.place x y refl refl h

    -- ---- upwards in the ranking
    -- how many symbols of a list are less than w
    abbrev less_than : Symbol → List Symbol → ℕ
    less_than w [] = 0
    less_than w (u ∷ us) = match_ordering (ranking_cmp r u w) (suc (less_than w us)) (less_than w us) (less_than w us)

    fewer_or_same : (v w : Symbol) (us : List Symbol) → ranking_cmp r v w ≡ Less → less_than v us ≤ less_than w us
    fewer_or_same v w [] e = omega arith
    fewer_or_same v w (u ∷ us) e = by_order (ranking_cmp r u v) (ranking_cmp r u w) (λ f. (ranking_order r).total.trans u v w f e) (fewer_or_same v w us e)
      where
        by_order : (o q : Ordering) → (o ≡ Less → q ≡ Less) → less_than v us ≤ less_than w us → match_ordering o (suc (less_than v us)) (less_than v us) (less_than v us) ≤ match_ordering q (suc (less_than w us)) (less_than w us) (less_than w us)
        by_order Less Less f h = omega arith
        by_order Less Equal f h = let g = f refl in cc
        by_order Less Greater f h = let g = f refl in cc
        by_order Equal Less f h = omega arith
        by_order Equal Equal f h = h
        by_order Equal Greater f h = h
        by_order Greater Less f h = omega arith
        by_order Greater Equal f h = h
        by_order Greater Greater f h = h

    fewer : (v w : Symbol) (us : List Symbol) → ranking_cmp r v w ≡ Less → SomeOf (λ u. u ≡ v) us → less_than v us < less_than w us
    fewer v w [] e h = absurd h
    fewer v w (u ∷ us) e (inl f) =
        let g : ranking_cmp r u v ≡ Equal = ap (λ z. ranking_cmp r z v) f ∙ tied_itself (ranking_order r).total v in
        let k : ranking_cmp r u w ≡ Less = ap (λ z. ranking_cmp r z w) f ∙ e in
        by_order (ranking_cmp r u v) (ranking_cmp r u w) g k (fewer_or_same v w us e)
      where
        by_order : (o q : Ordering) → o ≡ Equal → q ≡ Less → less_than v us ≤ less_than w us → match_ordering o (suc (less_than v us)) (less_than v us) (less_than v us) < match_ordering q (suc (less_than w us)) (less_than w us) (less_than w us)
        by_order Less q g k h = cc
        by_order Equal Less g k h = omega arith
        by_order Equal Equal g k h = cc
        by_order Equal Greater g k h = cc
        by_order Greater q g k h = cc
    fewer v w (u ∷ us) e (inr f) = by_order (ranking_cmp r u v) (ranking_cmp r u w) (λ g. (ranking_order r).total.trans u v w g e) (fewer v w us e f)
      where
        by_order : (o q : Ordering) → (o ≡ Less → q ≡ Less) → less_than v us < less_than w us → match_ordering o (suc (less_than v us)) (less_than v us) (less_than v us) < match_ordering q (suc (less_than w us)) (less_than w us) (less_than w us)
        by_order Less Less g h = omega arith
        by_order Less Equal g h = let k = g refl in cc
        by_order Less Greater g h = let k = g refl in cc
        by_order Equal Less g h = omega arith
        by_order Equal Equal g h = h
        by_order Equal Greater g h = h
        by_order Greater Less g h = omega arith
        by_order Greater Equal g h = h
        by_order Greater Greater g h = h

    module _ (test : Symbol → Bool) (segment : IsInitialSegment r test) (fixed : (w : Symbol) → IsTrue (test w) → Reaching r s w → (y : Reaching r s w) × I (poly r few s over y)) where
      is_in : {w : Symbol} → Reaching r s w → IsDerivativeIn r w
      is_in x = (reached_derivative r few s over x, reached_belongs r few s over x)

      hold_within : (n : ℕ) (w : Symbol) → less_than w segment.members < n → IsTrue (test w) → Holds r few s over I ideal w
      hold_within zero w l h x = absurd (omega arith)
      hold_within (suc n) w l h x =
          let y = fixed w h x in
          agree w (λ v e z.
          let inside = segment.lower v w (is_in z) (is_in x) e h in
          hold_within n v (let k = fewer v w segment.members e (segment.all v (is_in z) inside) in omega arith) inside z) y.0 x y.1

      -- all derivatives of the equations that lead into the segment lie in the ideal
      pub all_hold : (w : Symbol) → IsTrue (test w) → Holds r few s over I ideal w
      all_hold w h = hold_within (suc (less_than w segment.members)) w (omega arith) h
