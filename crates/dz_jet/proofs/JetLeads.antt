-- The equations that lead to a derivative, as a jet finds them.
use Rattle.std.specs.Option.{is_none}
use Rattle.std.proofs.Common.{◌≡◌, ◌≤◌, ◌+◌, ◌∙◌, ℕ, zero, suc, Bool, true, false, cond, [], ◌∷◌, Option, Some, None, refl, sym, ap, subst, arith}
use Rattle.dz_algebra.specs.Parts.{leader}
use Rattle.dz_algebra.specs.Polynomial.{Polynomial}
use Rattle.dz_rank.specs.Rankings.{RankingValue}
use Rattle.dz_rank.specs.Symbols.{BelongsTo}
use Rattle.dz_rank.specs.declared.symbols.Operator.{Operator}
use Rattle.dz_rank.specs.declared.symbols.Symbol.{Symbol}
use Rattle.dz_rank.specs.declared.symbols.Symbol.TheVariants.{Independent, Derivative}
use Rattle.dz_rank.proofs.Belonging.{quotient_is_operator}
use Rattle.dz_monomials.specs.Ranked.{symbols_under}
use Rattle.dz_monomials.specs.Lists.{AllOf}
use Rattle.dz_diff.specs.Over.{IsOver}
use Rattle.dz_diff.specs.Operators.{is_proper, quotient}
use Rattle.dz_diff.specs.State.{State, at_place}
use Rattle.dz_diff.specs.Tests.{Polynomials}
use Rattle.dz_diff.proofs.LeaderBounds.{leader_is_one}
use Rattle.dz_diff.proofs.LeaderDerivations.{IsRegular}
use Rattle.dz_step.proofs.NoSteps.{quotient_derivative}
use Rattle.dz_jet.specs.Chains.{Reaching}
use Rattle.dz_jet.specs.Jets.{Leading, led_by, leading_to, is_needed}
use Rattle.dz_jet.proofs.PairSteps.{quotient_leads, four}
use Rattle.dz_jet.proofs.Reachings.{top_belongs, top_in, top_derivative}

module _ (r : RankingValue) where
  -- an equation of a list from place j on leads to w
  pub record Leads (w : Symbol) (j : ℕ) (es : Polynomials) (x : Leading) : Type 0 where
    pub index : ℕ
    pub place_is : x.place ≡ j + index
    pub stands : at_place (suc index) es ≡ Some x.divisor
    pub top_is : leader (symbols_under r) x.divisor ≡ Some x.top
    pub quotient_is : quotient w x.top ≡ Some x.operator
    pub proper : is_proper x.operator ≡ true

  -- what is found, if anything, leads to w
  abbrev pub FoundLeads : Symbol → ℕ → Polynomials → Option Leading → Type 0
  FoundLeads w j es o = (x : Leading) → o ≡ Some x → Leads w j es x

  later : (w : Symbol) (j : ℕ) (p : Polynomial Symbol) (es : Polynomials) (o : Option Leading) → FoundLeads w (suc j) es o → FoundLeads w j (p ∷ es) o
  later w j p es o f x e =
      let h = f x e in
      record { index = suc h.index; place_is = omega (arith, h.place_is); stands = h.stands; top_is = h.top_is; quotient_is = h.quotient_is; proper = h.proper }

  led_leads : (w : Symbol) (j : ℕ) (p : Polynomial Symbol) (es : Polynomials) (other : Option Leading) (o : Option Symbol) → leader (symbols_under r) p ≡ o → FoundLeads w j (p ∷ es) other → FoundLeads w j (p ∷ es) (led_by j p o w other)
  led_leads w j p es other None e h = h
  led_leads w j p es other (Some l) e h = by_quotient (quotient w l) refl
    where
      by_proper : (t : Operator) (b : Bool) → is_proper t ≡ b → quotient w l ≡ Some t → FoundLeads w j (p ∷ es) (cond {A = Option Leading} b (Some (record { place = j; divisor = p; top = l; operator = t })) other)
      by_proper t true f k x i =
          let same : record { place = j; divisor = p; top = l; operator = t } ≡ x = cc in
          subst (Leads w j (p ∷ es)) same (record { index = 0; place_is = omega arith; stands = refl; top_is = e; quotient_is = k; proper = f })
      by_proper t false f k x i = h x i

      by_quotient : (o : Option Operator) → quotient w l ≡ o → FoundLeads w j (p ∷ es) (elim o as (λ _. Option Leading) [ None ↦ other | Some t ↦ cond {A = Option Leading} (is_proper t) (Some (record { place = j; divisor = p; top = l; operator = t })) other ])
      by_quotient None k = h
      by_quotient (Some t) k = by_proper t (is_proper t) refl k

  pub found_leads : (w : Symbol) (j : ℕ) (es : Polynomials) → FoundLeads w j es (leading_to (symbols_under r) w j es)
  found_leads w j [] x e = cc
  found_leads w j (p ∷ es) x e = led_leads w j p es (leading_to (symbols_under r) w (suc j) es) (leader (symbols_under r) p) refl (later w j p es (leading_to (symbols_under r) w (suc j) es) (found_leads w (suc j) es)) x e

  -- where none is found there is none
  led_more : (w : Symbol) (j : ℕ) (p : Polynomial Symbol) (o : Option Symbol) (xs : Option Leading) → led_by j p o w xs ≡ None → xs ≡ None
  led_more w j p None xs h = h
  led_more w j p (Some l) xs h = by_quotient (quotient w l) h
    where
      by_proper : (t : Operator) (b : Bool) → cond {A = Option Leading} b (Some (record { place = j; divisor = p; top = l; operator = t })) xs ≡ None → xs ≡ None
      by_proper t true h = cc
      by_proper t false h = h

      by_quotient : (o : Option Operator) → (elim o as (λ _. Option Leading) [ None ↦ xs | Some t ↦ cond {A = Option Leading} (is_proper t) (Some (record { place = j; divisor = p; top = l; operator = t })) xs ]) ≡ None → xs ≡ None
      by_quotient None h = h
      by_quotient (Some t) h = by_proper t (is_proper t) h

  pub none_found : (w : Symbol) (j : ℕ) (es : Polynomials) (b : ℕ) (q : Polynomial Symbol) (l : Symbol) (t : Operator) → leading_to (symbols_under r) w j es ≡ None → at_place (suc b) es ≡ Some q → leader (symbols_under r) q ≡ Some l → quotient w l ≡ Some t → is_proper t ≡ true → ⊥
  none_found w j [] b q l t h e f k p = cc
  none_found w j (x ∷ es) (suc b) q l t h e f k p = none_found w (suc j) es b q l t (led_more w j x (leader (symbols_under r) x) (leading_to (symbols_under r) w (suc j) es) h) e f k p
  none_found w j (x ∷ es) zero q l t h e f k p =
      let same : q ≡ x = cc in
      found (leader (symbols_under r) x) (ap (leader (symbols_under r)) (sym same) ∙ f) h
    where
      found : (o : Option Symbol) → o ≡ Some l → led_by j x o w (leading_to (symbols_under r) w (suc j) es) ≡ None → ⊥
      found None g h = cc
      found (Some m) g h =
          let n : m ≡ l = cc in
          nothing (subst (λ z. led_by j x (Some z) w (leading_to (symbols_under r) w (suc j) es) ≡ None) n h)
        where
          one : (o : Option Operator) → o ≡ Some t → (elim o as (λ _. Option Leading) [ None ↦ leading_to (symbols_under r) w (suc j) es | Some t ↦ cond {A = Option Leading} (is_proper t) (Some (record { place = j; divisor = x; top = l; operator = t })) (leading_to (symbols_under r) w (suc j) es) ]) ≡ None → ⊥
          one None g h = cc
          one (Some u) g h =
              let n : u ≡ t = cc in
              tested (is_proper u) (ap is_proper n ∙ p) h
            where
              tested : (b : Bool) → b ≡ true → cond {A = Option Leading} b (Some (record { place = j; divisor = x; top = l; operator = u })) (leading_to (symbols_under r) w (suc j) es) ≡ None → ⊥
              tested true g h = cc
              tested false g h = cc

          nothing : led_by j x (Some l) w (leading_to (symbols_under r) w (suc j) es) ≡ None → ⊥
          nothing h = one (quotient w l) k h

  module _ (few : r.signature.independents ≤ 4) (s : State) (over : AllOf (IsOver r) s.equations) where
    -- what is found reaches w
    abbrev pub reaching : (w : Symbol) → BelongsTo r.signature w → (x : Leading) → Leads w 1 s.equations x → Reaching r s w
    reaching w b x h =
        let l_in = top_belongs r few s over (suc h.index) x.divisor x.top h.stands h.top_is in
        let k = quotient_leads w x.top x.operator (four r w b) (four r x.top l_in) h.quotient_is in
        record {
          place = suc h.index;
          equation = x.divisor;
          top = x.top;
          operator = x.operator;
          stands = h.stands;
          top_is = h.top_is;
          in_signature = quotient_is_operator r.signature w x.top x.operator b l_in k.1 (leader_is_one r x.divisor x.top h.top_is, sym k.0);
          reaches = k.0;
        }

    pub needed_none : (w : Symbol) → is_needed (symbols_under r) s w ≡ true → leading_to (symbols_under r) w 1 s.equations ≡ None
    needed_none w h = by_list (leading_to (symbols_under r) w 1 s.equations) h
      where
        by_list : (o : Option Leading) → is_none o ≡ true → o ≡ None
        by_list None h = refl
        by_list (Some x) h = cc

    nothing_at_zero : (x : Polynomial Symbol) (xs : Polynomials) → at_place 0 xs ≡ Some x → ⊥
    nothing_at_zero x [] e = cc
    nothing_at_zero x (y ∷ xs) e = cc

    -- where a value is needed no proper operator leads
    pub needed_not_reached : (w : Symbol) → is_needed (symbols_under r) s w ≡ true → (x : Reaching r s w) → is_proper x.operator ≡ true → ⊥
    needed_not_reached w h x p = by_place x.place x.stands
      where
        regular : (l : Symbol) → BelongsTo r.signature l → IsRegular 4 l
        regular (Independent j) h = tt
        regular (Derivative u t) h = h.1.size

        by_place : (i : ℕ) → at_place i s.equations ≡ Some x.equation → ⊥
        by_place zero e = nothing_at_zero x.equation s.equations e
        by_place (suc b) e =
            none_found w 1 s.equations b x.equation x.top x.operator (needed_none w h) e x.top_is
            (ap (λ v. quotient v x.top) (sym x.reaches) ∙ quotient_derivative 4 x.operator x.top (top_derivative r few s over x) x.in_signature.size (regular x.top (top_in r few s over x))) p
