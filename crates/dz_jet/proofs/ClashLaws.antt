-- The theorem that jets never clash, in its two forms.
use Rattle.std.proofs.Common.{◌≡◌, ◌≤◌, ◌+◌, ◌==◌, ◌∙◌, ℕ, suc, nat_le, Bool, true, false, not, List, [], ◌∷◌, sum, IsTrue, Ok, refl, sym, ap, arith, eqb-true}
use Rattle.std.proofs.lemmas.Bool.{le-leb, leb-true}
use Rattle.std.proofs.lemmas.List.Sums.{sum_by-cons}
use Rattle.dz_algebra.specs.Derivation.{polynomial_derivative}
use Rattle.dz_algebra.specs.Domain.{Operations, DomainLaws}
use Rattle.dz_algebra.specs.Monomial.{monomial_cmp}
use Rattle.dz_algebra.specs.Parts.{initial, separant}
use Rattle.dz_algebra.specs.Polynomial.{Polynomial, collect}
use Rattle.dz_algebra.specs.Value.{value}
use Rattle.dz_algebra.proofs.DomainValues.{value_of_collected}
use Rattle.dz_algebra.proofs.Operations.{operation_is}
use Rattle.dz_rank.specs.Rankings.{RankingValue, ranking_cmp, IsOrderly}
use Rattle.dz_rank.specs.Symbols.{total_order}
use Rattle.dz_rank.specs.declared.symbols.Operator.{Operator}
use Rattle.dz_rank.specs.declared.symbols.Symbol.{Symbol}
use Rattle.dz_monomials.specs.Ranked.{symbols_under}
use Rattle.dz_monomials.proofs.SymbolLaws.{ranking_order}
use Rattle.dz_diff.specs.Operations.{setting_of}
use Rattle.dz_diff.specs.Operators.{is_proper}
use Rattle.dz_diff.specs.State.{State}
use Rattle.dz_algebra.proofs.Outcomes.{ok_same}
use Rattle.dz_diff.proofs.Places.{taken}
use Rattle.dz_step.specs.declared.Which.TheVariants.{Initial, Separant}
use Rattle.dz_step.specs.Step.{multiplier_answer}
use Rattle.dz_move.specs.Lines.{Evidence}
use Rattle.dz_jet.specs.Chains.{Reaching, derivative_in}
use Rattle.dz_jet.specs.Clashes.{IsChain, HasZero, AreAdmissible, IsFixed, AgreesAt, IsInitialSegment}
use Rattle.dz_jet.specs.Laws.{ClashLaws}
use Rattle.dz_jet.specs.Derivatives.{derivative_from, derivative_of, iterated_derivative}
use Rattle.dz_jet.proofs.ChainFacts.{chain_facts}
use Rattle.dz_jet.proofs.IdealRuns.{AreOutside}
use Rattle.dz_jet.proofs.NoClash.{all_hold}
use Rattle.dz_jet.proofs.Segments.{orderly_segment}
use Rattle.dz_jet.proofs.Values.{Zeros, zeros_ideal}

-- ---- an operator that takes no derivation changes nothing
nothing_from : (r : RankingValue) (i : ℕ) (ks : List ℕ) (p : Polynomial Symbol) → sum ks ≡ 0 → derivative_from r i ks p ≡ p
nothing_from r i [] p e = refl
nothing_from r i (k ∷ ks) p e =
    let parts : k + sum ks ≡ 0 = omega (arith, e, sum_by-cons (λ x. x) k ks) in
    let none : k ≡ 0 = omega arith in
    ap (λ n. derivative_from r (suc i) ks (iterated_derivative r i n p)) none ∙ nothing_from r (suc i) ks p (omega arith)

improper_derivative : (r : RankingValue) (t : Operator) (p : Polynomial Symbol) → is_proper t ≡ false → derivative_of r t p ≡ p
unfolding derivative_of
improper_derivative r t p e = nothing_from r 0 t.counts p (by_test (sum t.counts == 0) refl)
  where
    by_test : (b : Bool) → (sum t.counts == 0) ≡ b → sum t.counts ≡ 0
    by_test true f = eqb-true (sum t.counts) 0 f
    by_test false f = let g : true ≡ false = sym (ap not f) ∙ e in cc

separant_is : (r : RankingValue) (q a : Polynomial Symbol) (l : Symbol) → multiplier_answer (symbols_under r) Separant l q ≡ Ok a → separant (ranking_cmp r) l q ≡ a
unfolding polynomial_derivative
separant_is r q a l k = operation_is (symbols_under r) _ a k

-- ---- the theorem
module _ (r : RankingValue) (s : State) (evidence : List Evidence) (chain : IsChain r s evidence) {E : Type 0} (o : Operations E) (laws : DomainLaws o) (at : Symbol → E) (fits : AreAdmissible r s o at) where
  -- no initial and no separant has value zero
  outside : AreOutside r chain.few s chain.over (Zeros r laws at fits.values) (zeros_ideal r laws at fits.values)
  outside Initial j q a l h e f k z =
      (taken _ j q s.equations e fits.initials).0 l f
      (sym (value_of_collected laws at fits.values (ranking_cmp r) (ranking_order r) (initial (ranking_cmp r) l q)) ∙ ap (value o.arithmetic at) (ok_same (collect (monomial_cmp (ranking_cmp r)) (initial (ranking_cmp r) l q)) a k) ∙ z)
  outside Separant j q a l h e f k z = (taken _ j q s.equations e fits.separants).0 l f (ap (value o.arithmetic at) (separant_is r q a l k) ∙ z)

  -- what is fixed has a derivative with value zero, an improper one where no proper one leads there
  some_vanishes : (w : Symbol) → IsFixed r s o at w → Reaching r s w → (y : Reaching r s w) × HasZero o at (derivative_in y)
  some_vanishes w f x = by_test (is_proper x.operator) refl
    where
      by_test : (b : Bool) → is_proper x.operator ≡ b → (y : Reaching r s w) × HasZero o at (derivative_in y)
      by_test true e = f x e
      by_test false e = (x, ap (value o.arithmetic at) (improper_derivative r x.operator x.equation e) ∙ (taken (HasZero o at) x.place x.equation s.equations x.stands fits.equations).0)

  -- on an initial segment of the ranking
  pub agree_on_segment : (test : Symbol → Bool) → IsInitialSegment r test → ((w : Symbol) → IsTrue (test w) → IsFixed r s o at w) → (w : Symbol) → IsTrue (test w) → AgreesAt r s o at w
  agree_on_segment test segment fixed w h x =
      all_hold r s chain.over chain.few evidence (chain_facts (setting_of r) s chain.affordable evidence chain.weight chain.holds) chain.in_signature (Zeros r laws at fits.values) (zeros_ideal r laws at fits.values) outside
      test segment (λ w h x. some_vanishes w (fixed w h) x) w h x

  -- up to a total order, under an orderly ranking
  pub agree_to_order : IsOrderly r → (m : ℕ) → ((w : Symbol) → total_order w ≤ m → IsFixed r s o at w) → (w : Symbol) → total_order w ≤ m → AgreesAt r s o at w
  agree_to_order orderly m fixed w h x =
      agree_on_segment (λ w. nat_le (total_order w) m) (orderly_segment r orderly m) (λ w h. fixed w (leb-true (total_order w) m h)) w (le-leb (total_order w) m h) x

-- both
pub clash_laws : {E : Type 0} (r : RankingValue) (s : State) (evidence : List Evidence) → IsChain r s evidence → (o : Operations E) → DomainLaws o → (at : Symbol → E) → AreAdmissible r s o at → ClashLaws r s o at
clash_laws r s evidence chain o laws at fits = record {
  on_segment = agree_on_segment r s evidence chain o laws at fits;
  to_order = agree_to_order r s evidence chain o laws at fits;
}
