-- A jet so far: what it has fixed stays fixed, and the next value is the one at which the derivative has value zero.
use Rattle.std.proofs.Common.{◌≡◌, ◌≢◌, ◌⊎◌, inl, inr, ◌<◌, ◌≤◌, ◌∙◌, ℕ, zero, suc, true, false, IsTrue, List, [], ◌∷◌, ◌++◌, map, pos, Ok, Some, refl, sym, ap, ap₂, subst, arith}
use Rattle.std.proofs.lemmas.Cmp.{tied_itself}
use Rattle.std.specs.declared.cmp.Ordering.TheVariants.{Less, Equal}
use Rattle.dz_algebra.specs.Parts.{coefficient_of, leader, separant}
use Rattle.dz_algebra.specs.Polynomial.{Polynomial, PolynomialIn}
use Rattle.dz_algebra.specs.Ring.{same_value}
use Rattle.dz_algebra.specs.Value.{value}
use Rattle.dz_algebra.proofs.DomainValues.{value_there}
use Rattle.dz_int.specs.Fractions.{Fraction}
use Rattle.dz_rank.specs.Rankings.{RankingValue, ranking_cmp, IsOrderly}
use Rattle.dz_rank.specs.Symbols.{BelongsTo, is_derivative, total_order}
use Rattle.dz_rank.specs.declared.symbols.Symbol.{Symbol}
use Rattle.dz_rank.specs.declared.symbols.Symbol.TheVariants.{Independent, Derivative}
use Rattle.dz_monomials.specs.Ranked.{symbols_under}
use Rattle.dz_monomials.proofs.SymbolLaws.{ranking_order}
use Rattle.dz_diff.specs.Laws.{IsLinearIn}
use Rattle.dz_monomials.specs.Lists.{AllOf}
use Rattle.dz_algebra.specs.Outcome.{given, told_as}
use Rattle.dz_diff.specs.Over.{IsOver}
use Rattle.dz_diff.specs.Operations.{operator_answer, setting_of}
use Rattle.dz_diff.specs.Operators.{is_proper}
use Rattle.dz_diff.specs.State.{State, at_place}
use Rattle.dz_algebra.proofs.Outcomes.{bind_ok, told_ok}
use Rattle.dz_diff.proofs.OperatorLeaders.{derivative_grows}
use Rattle.dz_diff.proofs.Places.{all-append, some_parts, some_left, some_right}
use Rattle.dz_diff.proofs.ProperDerivatives.{proper_derivative_linear}
use Rattle.dz_move.specs.Lines.{Evidence}
use Rattle.dz_jet.specs.Chains.{Reaching}
use Rattle.dz_jet.specs.Fractions.{whole, fraction_arithmetic, fraction_operations, fraction_negative, is_reduced, quotient_answer}
use Rattle.dz_jet.specs.declared.faults.At.TheVariants as ats
use Rattle.dz_jet.specs.declared.faults.JetFault.TheVariants as faults
use Rattle.dz_jet.specs.Jets.{Values, Leading, value_in, value_answer, is_needed, fixed_value, refused_at}
use Rattle.dz_jet.proofs.ChainFacts.{ChainFacts}
use Rattle.dz_jet.proofs.FoldValues.{Reduced, fractions, value_is, quotient_solves}
use Rattle.dz_jet.proofs.FractionLaws.{fraction_laws, is_lowest, zero_is}
use Rattle.dz_jet.proofs.JetLeads.{Leads, reaching}
use Rattle.dz_jet.proofs.JetLists.{keys, AreReduced, value_kept, value_last, key_or_none, value_reduced}
use Rattle.dz_jet.proofs.JetParts.{in_both, in_more, operator_in, separant_in, under_top, equation_needed}
use Rattle.dz_jet.proofs.JetSymbols.{jet_symbols, all_listed, in_jet, jet_ordered}
use Rattle.dz_parametric.proofs.Members.{In, of_member}
use Rattle.dz_parametric.proofs.OrderLists.{IsOrdered, IsListed}
use Rattle.dz_jet.proofs.Linear.{value_agrees, linear_value, is_linear, in_coefficient}
use Rattle.dz_jet.proofs.Reachings.{equation_over, top_derivative, reached_derivative}
use Rattle.dz_jet.proofs.Segments.{no_greater}

-- a symbol that is less than w, or w
abbrev pub UpTo : RankingValue → Symbol → Symbol → Type 0
UpTo r w v = (ranking_cmp r v w ≡ Less) ⊎ (v ≡ w)

module _ (r : RankingValue) (few : r.signature.independents ≤ 4) (s : State) (over : AllOf (IsOver r) s.equations) (evidence : List Evidence) (facts : ChainFacts (setting_of r) s evidence) (orderly : IsOrderly r) (m : ℕ) where
  -- ---- the order of the symbols
  -- what is less than a member of a front stands in the front
  before : (done rest : List Symbol) (v x : Symbol) → IsOrdered (ranking_order r) (done ++ rest) → In v done → is_derivative v ≡ true → In x rest → ranking_cmp r v x ≡ Less
  before [] rest v x o h d k = absurd h
  before (y ∷ done) rest v x o (inl e) d k =
      subst (λ z. ranking_cmp r z x ≡ Less) e (of_member (λ t. is_derivative y ≡ true → ranking_cmp r y t ≡ Less) x (done ++ rest) o.0 (some_right (λ u. u ≡ x) done rest k) (ap is_derivative e ∙ d))
  before (y ∷ done) rest v x o (inr h) d k = before done rest v x o.1 h d k

  lesser_order : (v w : Symbol) → BelongsTo r.signature v → BelongsTo r.signature w → is_derivative w ≡ true → ranking_cmp r v w ≡ Less → total_order w ≤ m → total_order v ≤ m
  lesser_order (Independent i) w b c d e h = omega arith
  lesser_order (Derivative u t) w b c d e h = by_test (split (total_order (Derivative u t)) (total_order w))
    where
      split : (a b : ℕ) → (a ≤ b) ⊎ (b < a)
      split zero b = inl (omega arith)
      split (suc a) zero = inr (omega arith)
      split (suc a) (suc b) = elim (split a b) [ inl e ↦ inl (omega arith) | inr e ↦ inr (omega arith) ]

      by_test : (total_order (Derivative u t) ≤ total_order w) ⊎ (total_order w < total_order (Derivative u t)) → total_order (Derivative u t) ≤ m
      by_test (inl k) = omega arith
      by_test (inr k) = absurd (no_greater r orderly m (Derivative u t) w refl d b c e k)

  module _ (done rest : List Symbol) (whole_is : jet_symbols r few m ≡ done ++ rest) where
    pub done_listed : (v : Symbol) → In v done → IsListed r few m v
    done_listed v h = of_member (IsListed r few m) v (jet_symbols r few m) (all_listed r few m) (subst (In v) (sym whole_is) (some_left (λ u. u ≡ v) done rest h))

    pub lesser_done : (v x : Symbol) → In v done → is_derivative v ≡ true → BelongsTo r.signature x → ranking_cmp r x v ≡ Less → In x done
    lesser_done v x h d b e = elim (some_parts (λ u. u ≡ x) done rest (subst (In x) whole_is (in_jet r few m x b (lesser_order x v b (done_listed v h).belongs d e (done_listed v h).within)))) [
      | inl k ↦ k
      | inr k ↦ absurd (let f = before done rest v x (subst (IsOrdered (ranking_order r)) whole_is (jet_ordered r few m)) h d k in let g = (ranking_order r).total.trans x v x e f in let n = tied_itself (ranking_order r).total x in cc)
    ]

    pub up_to_done : (v x : Symbol) → In v done → is_derivative v ≡ true → BelongsTo r.signature x → UpTo r v x → In x done
    up_to_done v x h d b (inl e) = lesser_done v x h d b e
    up_to_done v x h d b (inr e) = subst (λ u. In u done) (sym e) h

    -- a derivative does not come again
    pub not_again : (v : Symbol) → is_derivative v ≡ true → In v done → In v rest → ⊥
    not_again v d h k = let f = before done rest v v (subst (IsOrdered (ranking_order r)) whole_is (jet_ordered r few m)) h d k in let n = tied_itself (ranking_order r).total v in cc

  -- ---- what fixes a derivative
  -- a proper derivative of an equation that leads to w has value zero
  pub record FixedBy (at : Symbol → Fraction) (w : Symbol) : Type 0 where
    pub by : Reaching r s w
    pub polynomial : Polynomial Symbol
    pub answer : operator_answer (setting_of r) by.operator by.equation ≡ Ok polynomial
    pub proper : is_proper by.operator ≡ true
    pub vanishes : value fraction_arithmetic at polynomial ≡ whole (pos 0)

  -- it is linear in w
  pub linear_in : {w : Symbol} (x : Reaching r s w) (p : Polynomial Symbol) → operator_answer (setting_of r) x.operator x.equation ≡ Ok p → is_proper x.operator ≡ true → IsLinearIn r w (separant (ranking_cmp r) x.top x.equation) p
  linear_in x p e h =
      subst (λ v. IsLinearIn r v (separant (ranking_cmp r) x.top x.equation) p) x.reaches
      (proper_derivative_linear r x.operator x.equation p x.top few (record { over = equation_over r few s over x.place x.equation x.stands; leads = x.top_is; operator = x.in_signature; proper = h; answer = e }))

  -- its symbols are of the signature and up to w
  pub symbols_up_to : {w : Symbol} (x : Reaching r s w) (p : Polynomial Symbol) → operator_answer (setting_of r) x.operator x.equation ≡ Ok p → is_proper x.operator ≡ true → PolynomialIn (λ v. BelongsTo r.signature v × UpTo r w v) p
  symbols_up_to {w} x p e h =
      in_both (BelongsTo r.signature) (UpTo r w) p (operator_in r few x.operator x.equation p e (equation_over r few s over x.place x.equation x.stands).belongs) (linear_in x p e h).below

  -- it stays fixed where the values up to w stay
  pub stays_fixed : (at other : Symbol → Fraction) (w : Symbol) → ((v : Symbol) → BelongsTo r.signature v → UpTo r w v → at v ≡ other v) → FixedBy at w → FixedBy other w
  stays_fixed at other w same f = record {
    by = f.by;
    polynomial = f.polynomial;
    answer = f.answer;
    proper = f.proper;
    vanishes = sym (value_agrees fraction_arithmetic at other f.polynomial (in_more (λ v. BelongsTo r.signature v × UpTo r w v) (λ v. at v ≡ other v) (λ v h. same v h.0 h.1) f.polynomial (symbols_up_to f.by f.polynomial f.answer f.proper))) ∙ f.vanishes;
  }

  -- ---- a jet so far
  module _ (known : Values) (known_reduced : AreReduced r known) where
    pub record Sound (jet : Values) (done : List Symbol) : Type 0 where
      pub keys_are : keys r jet ≡ done
      pub reduced : AreReduced r jet
      pub needed : (v : Symbol) → In v done → is_needed (symbols_under r) s v ≡ true → value_in (symbols_under r) jet v ≡ value_in (symbols_under r) known v
      pub fixed : (v : Symbol) → In v done → is_needed (symbols_under r) s v ≡ false → FixedBy (value_in (symbols_under r) jet) v

    -- one more value
    pub grows : (jet : Values) (done rest : List Symbol) (w : Symbol) (v : Fraction) → Sound jet done → jet_symbols r few m ≡ done ++ w ∷ rest → IsTrue (is_reduced v)
        → (is_needed (symbols_under r) s w ≡ true → v ≡ value_in (symbols_under r) known w)
        → (is_needed (symbols_under r) s w ≡ false → FixedBy (value_in (symbols_under r) (jet ++ (w, v) ∷ [])) w)
        → Sound (jet ++ (w, v) ∷ []) (done ++ w ∷ [])
    grows jet done rest w v sound whole_is red need fix = record {
      keys_are = map_append jet ((w, v) ∷ []) ∙ ap (λ (xs : List Symbol). xs ++ w ∷ []) sound.keys_are;
      reduced = all-append (λ p. IsTrue (is_reduced p.1)) jet ((w, v) ∷ []) sound.reduced (red, tt);
      needed = λ u h n. elim (some_parts (λ y. y ≡ u) done (w ∷ []) h) [
        | inl k ↦ kept u k ∙ sound.needed u k n
        | inr (inl k) ↦ subst (λ y. is_needed (symbols_under r) s y ≡ true → value_in (symbols_under r) (jet ++ (w, v) ∷ []) y ≡ value_in (symbols_under r) known y) k last n
        | inr (inr k) ↦ absurd k
      ];
      fixed = λ u h n. elim (some_parts (λ y. y ≡ u) done (w ∷ []) h) [
        | inl k ↦ let f = sound.fixed u k n in stays_fixed (value_in (symbols_under r) jet) (value_in (symbols_under r) (jet ++ (w, v) ∷ [])) u (λ x b e. sym (kept x (up_to_done done (w ∷ rest) whole_is u x k (reached_derivative r few s over f.by) b e))) f
        | inr (inl k) ↦ subst (λ y. is_needed (symbols_under r) s y ≡ false → FixedBy (value_in (symbols_under r) (jet ++ (w, v) ∷ [])) y) k fix n
        | inr (inr k) ↦ absurd k
      ];
    }
      where
        map_append : (xs ys : Values) → map (λ p. p.0) (xs ++ ys) ≡ map (λ p. p.0) xs ++ map (λ p. p.0) ys
        map_append [] ys = refl
        map_append (x ∷ xs) ys = ap (λ (zs : List Symbol). x.0 ∷ zs) (map_append xs ys)

        kept : (u : Symbol) → In u done → value_in (symbols_under r) (jet ++ (w, v) ∷ []) u ≡ value_in (symbols_under r) jet u
        kept u k = value_kept r jet ((w, v) ∷ []) u (subst (In u) (sym sound.keys_are) k)

        last : is_needed (symbols_under r) s w ≡ true → value_in (symbols_under r) (jet ++ (w, v) ∷ []) w ≡ value_in (symbols_under r) known w
        last n = elim (key_or_none r jet w) [
          | inl k ↦ value_last r jet w v k ∙ need n
          | inr k ↦ let h = subst (In w) sound.keys_are k in kept w h ∙ sound.needed w h n
        ]

    -- ---- the value -r/s, where no separant has value zero
    module _ (nonzero : (a : ℕ) (q : Polynomial Symbol) (l : Symbol) → at_place (suc a) s.equations ≡ Some q → leader (symbols_under r) q ≡ Some l → value fraction_arithmetic (value_in (symbols_under r) known) (separant (ranking_cmp r) l q) ≡ whole (pos 0) → ⊥)
        (jet : Values) (done rest : List Symbol) (w : Symbol) (sound : Sound jet done) (whole_is : jet_symbols r few m ≡ done ++ w ∷ rest) (inside : BelongsTo r.signature w) (x : Leading) (leads : Leads r w 1 s.equations x) where
      abbrev reached : Reaching r s w
      reached = reaching r few s over w inside x leads

      abbrev sep : Polynomial Symbol
      sep = separant (ranking_cmp r) x.top x.divisor

      is_derivative_w : is_derivative w ≡ true
      is_derivative_w = reached_derivative r few s over reached

      -- values so far
      abbrev now : Symbol → Reduced
      now y = (value_in (symbols_under r) jet y, value_reduced r jet y sound.reduced)

      top_less : ranking_cmp r x.top w ≡ Less
      top_less = subst (λ v. ranking_cmp r x.top v ≡ Less) reached.reaches (derivative_grows r x.operator x.top (top_derivative r few s over reached) leads.proper)

      -- what is less than w has its value
      less_in : (y : Symbol) → BelongsTo r.signature y → ranking_cmp r y w ≡ Less → In y done
      less_in y b e = elim (some_parts (λ u. u ≡ y) done (w ∷ rest) (subst (In y) whole_is (in_jet r few m y b (lesser_order y w b inside is_derivative_w e (done_listed (done ++ w ∷ []) rest regrouped w (some_right (λ u. u ≡ w) done (w ∷ []) (inl refl))).within)))) [
        | inl k ↦ k
        | inr (inl k) ↦ absurd (let n = tied_itself (ranking_order r).total w in let f : ranking_cmp r w w ≡ Less = ap (λ z. ranking_cmp r z w) k ∙ e in cc)
        | inr (inr k) ↦ absurd (let f = before (done ++ w ∷ []) rest w y (subst (IsOrdered (ranking_order r)) regrouped (jet_ordered r few m)) (some_right (λ u. u ≡ w) done (w ∷ []) (inl refl)) is_derivative_w k in let g = (ranking_order r).total.trans y w y e f in let n = tied_itself (ranking_order r).total y in cc)
      ]
        where
          regroup : (xs : List Symbol) → xs ++ w ∷ rest ≡ (xs ++ w ∷ []) ++ rest
          regroup [] = refl
          regroup (z ∷ xs) = ap (λ (ys : List Symbol). z ∷ ys) (regroup xs)

          regrouped : jet_symbols r few m ≡ (done ++ w ∷ []) ++ rest
          regrouped = whole_is ∙ regroup done

      -- the symbols of the separant are needed, and less than w
      sep_symbols : PolynomialIn (λ y. (BelongsTo r.signature y × (is_needed (symbols_under r) s y ≡ true)) × UpTo r x.top y) sep
      sep_symbols =
          separant_in r (λ y. (BelongsTo r.signature y × (is_needed (symbols_under r) s y ≡ true)) × UpTo r x.top y) x.top x.divisor
          (in_both (λ y. BelongsTo r.signature y × (is_needed (symbols_under r) s y ≡ true)) (UpTo r x.top) x.divisor
          (equation_needed r few s over evidence facts leads.index x.divisor x.top leads.stands leads.top_is (top_derivative r few s over reached))
          (under_top r few s over evidence facts x.divisor x.top (equation_over r few s over (suc leads.index) x.divisor leads.stands) leads.top_is (top_derivative r few s over reached)))

      sep_less : (y : Symbol) → UpTo r x.top y → ranking_cmp r y w ≡ Less
      sep_less y (inl e) = (ranking_order r).total.trans y x.top w e top_less
      sep_less y (inr e) = subst (λ z. ranking_cmp r z w ≡ Less) (sym e) top_less

      -- values that are given
      abbrev first_values : Symbol → Reduced
      first_values y = (value_in (symbols_under r) known y, value_reduced r known y known_reduced)

      -- the value of the separant so far is that at the given values
      separant_stays : value fractions.arithmetic now sep ≡ value fractions.arithmetic first_values sep
      separant_stays =
          value_agrees fractions.arithmetic now first_values sep
          (in_more (λ y. (BelongsTo r.signature y × (is_needed (symbols_under r) s y ≡ true)) × UpTo r x.top y) (λ y. now y ≡ first_values y)
          (λ y h. same_value fraction_operations _ _ (sound.needed y (less_in y h.0.0 (sep_less y h.1)) h.0.1)) sep sep_symbols)

      separant_nonzero : (value fractions.arithmetic first_values sep).0.numerator ≢ pos 0
      separant_nonzero e =
          let v = value fractions.arithmetic first_values sep in
          nonzero leads.index x.divisor x.top leads.stands leads.top_is
          (sym (value_there fraction_laws (value_in (symbols_under r) known) (λ y. value_reduced r known y known_reduced) sep) ∙ zero_is v.0 (is_lowest v.0 v.1) e)

      pub fixes : (v : Fraction) → fixed_value (setting_of r) (value_in (symbols_under r) known) jet w x ≡ Ok v → IsTrue (is_reduced v) × FixedBy (value_in (symbols_under r) (jet ++ (w, v) ∷ [])) w
      fixes v h =
          let e = faults.Wide (ats.Derivative w) in
          let a = bind_ok (told_as (refused_at w) (operator_answer (setting_of r) x.operator x.divisor)) _ v h in
          let p = a.0 in
          let answer = told_ok (refused_at w) (operator_answer (setting_of r) x.operator x.divisor) p a.1 in
          let rest_of = coefficient_of (ranking_cmp r) w 0 p in
          let b = bind_ok (value_answer e (value_in (symbols_under r) known) sep) _ v a.2 in
          let c = bind_ok (value_answer e (value_in (symbols_under r) jet) rest_of) _ v b.2 in
          let sv = value fractions.arithmetic first_values sep in
          let rv = value fractions.arithmetic now rest_of in
          let s_is : b.0 ≡ sv.0 = value_is first_values e sep b.0 b.1 in
          let r_is : c.0 ≡ rv.0 = value_is now e rest_of c.0 c.1 in
          let q = quotient_solves e rv sv v separant_nonzero (ap₂ (λ y z. given (quotient_answer (fraction_negative y) z) e) (sym r_is) (sym s_is) ∙ c.2) in
          let more = jet ++ (w, v) ∷ [] in
          let reduced_more : AreReduced r more = all-append (λ p. IsTrue (is_reduced p.1)) jet ((w, v) ∷ []) sound.reduced (q.0, tt) in
          let next : Symbol → Reduced = λ y. (value_in (symbols_under r) more y, value_reduced r more y reduced_more) in
          let same : (y : Symbol) → In y done → next y ≡ now y = λ y k. same_value fraction_operations _ _ (value_kept r jet ((w, v) ∷ []) y (subst (In y) (sym sound.keys_are) k)) in
          let linear = linear_in reached p answer leads.proper in
          let w_is : next w ≡ (v, q.0) = same_value fraction_operations _ _ (elim (key_or_none r jet w) [
            | inl k ↦ value_last r jet w v k
            | inr k ↦ absurd (not_again done (w ∷ rest) whole_is w is_derivative_w (subst (In w) sound.keys_are k) (inl refl))
          ]) in
          let first : value fractions.arithmetic next (coefficient_of (ranking_cmp r) w 1 p) ≡ sv =
          ap (value fractions.arithmetic next) (ap (λ k. coefficient_of (ranking_cmp r) w k p) (sym linear.linear) ∙ linear.initial_is)
          ∙ value_agrees fractions.arithmetic next now sep (in_more (λ y. (BelongsTo r.signature y × (is_needed (symbols_under r) s y ≡ true)) × UpTo r x.top y) (λ y. next y ≡ now y) (λ y h. same y (less_in y h.0.0 (sep_less y h.1))) sep sep_symbols) ∙ separant_stays in
          let second : value fractions.arithmetic next rest_of ≡ rv =
          value_agrees fractions.arithmetic next now rest_of
          (in_coefficient fractions (ranking_cmp r) (ranking_order r) w (λ y. next y ≡ now y) 0 p
          (in_more (λ y. BelongsTo r.signature y × UpTo r w y) (λ y. (ranking_cmp r w y ≡ Equal → ⊥) → next y ≡ now y) (λ y h n. same y (less_in y h.0 (other y h.1 n))) p (symbols_up_to reached p answer leads.proper))) in
          let split : value fractions.arithmetic next p ≡ fractions.sum (fractions.product (next w) (value fractions.arithmetic next (coefficient_of (ranking_cmp r) w 1 p))) (value fractions.arithmetic next rest_of) =
          linear_value fractions (ranking_cmp r) (ranking_order r) next w p (is_linear fractions (ranking_cmp r) (ranking_order r) next w p (at_most_one linear.linear)) in
          let put_in : fractions.sum (fractions.product (next w) (value fractions.arithmetic next (coefficient_of (ranking_cmp r) w 1 p))) (value fractions.arithmetic next rest_of) ≡ fractions.sum (fractions.product sv (v, q.0)) rv =
          ap₂ fractions.sum (ap₂ fractions.product w_is first ∙ fractions.product_commutes (v, q.0) sv) second in
          let total : value fractions.arithmetic next p ≡ fractions.zero = split ∙ put_in ∙ q.1 in (
            q.0,
            record {
              by = reached;
              polynomial = p;
              answer = answer;
              proper = leads.proper;
              vanishes = sym (value_there fraction_laws (value_in (symbols_under r) more) (λ y. value_reduced r more y reduced_more) p) ∙ ap (λ (z : Reduced). z.0) total;
            },
          )
        where
          other : (y : Symbol) → UpTo r w y → (ranking_cmp r w y ≡ Equal → ⊥) → ranking_cmp r y w ≡ Less
          other y (inl e) n = e
          other y (inr e) n = absurd (n (ap (ranking_cmp r w) e ∙ tied_itself (ranking_order r).total w))

          at_most_one : {k : ℕ} → k ≡ 1 → k ≤ 1
          at_most_one e = omega arith
