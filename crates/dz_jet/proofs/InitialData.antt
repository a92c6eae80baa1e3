-- The values that a jet needs are those of the independents, of the parametric derivatives and of the leaders.
use Rattle.std.specs.List.{Contains, filter, find}
use Rattle.std.proofs.Common.{◌≡◌, ◌⊎◌, inl, inr, ◌≤◌, ◌∙◌, ℕ, zero, suc, max, Bool, true, false, not, ◌&&◌, cond, List, [], ◌∷◌, length, IsTrue, Option, Some, None, Ok, Err, refl, sym, ap, ap₂, subst, arith}
use Rattle.std.proofs.lemmas.Bool.{eq-eqb}
use Rattle.dz_algebra.specs.Monomial.{Monomial, MonomialIn}
use Rattle.dz_algebra.specs.Parts.{leader}
use Rattle.dz_algebra.specs.Polynomial.{Polynomial, PolynomialIn}
use Rattle.dz_algebra.specs.Symbols.{Symbols}
use Rattle.dz_int.specs.Fractions.{Fraction}
use Rattle.dz_rank.specs.Rankings.{RankingValue}
use Rattle.dz_rank.specs.Symbols.{BelongsTo, HasFourExponents, derivative_by, is_derivative, total_order}
use Rattle.dz_rank.specs.declared.symbols.Operator.{Operator}
use Rattle.dz_rank.specs.declared.symbols.Symbol.{Symbol}
use Rattle.dz_rank.specs.declared.symbols.Symbol.TheVariants.{Independent, Derivative}
use Rattle.dz_monomials.specs.Ranked.{symbols_under}
use Rattle.dz_monomials.specs.Lists.{AllOf}
use Rattle.dz_diff.specs.Operations.{setting_of}
use Rattle.dz_diff.specs.Operators.{divides, exponent_differences, is_proper, quotient}
use Rattle.dz_algebra.specs.Outcome.{◌>>=◌}
use Rattle.dz_diff.specs.Over.{IsOver}
use Rattle.dz_diff.specs.State.{State, at_place}
use Rattle.dz_diff.specs.Tests.{Polynomials}
use Rattle.dz_diff.proofs.LeaderBounds.{all_map, leader_in, leader_is_one}
use Rattle.dz_step.proofs.Falls.{derivative_nothing}
use Rattle.dz_parametric.specs.Parametric.{IsLed, IsParametricTo, leaders_in, leaders_of, with_some}
use Rattle.dz_parametric.specs.Cones.{operators_of}
use Rattle.dz_parametric.proofs.Around.{some_divides}
use Rattle.dz_parametric.proofs.ConeLaws.{HaveFour, divides_led, divides_sum, led_divides}
use Rattle.dz_parametric.proofs.Members.{In, of_member}
use Rattle.dz_parametric.proofs.OrderLists.{IsListed}
use Rattle.dz_parametric.proofs.SortedSymbols.{contained_in, in_contained}
use Rattle.dz_move.specs.Lines.{Evidence}
use Rattle.dz_jet.specs.declared.faults.JetFault.TheVariants as faults
use Rattle.dz_jet.specs.Clashes.{IsChain}
use Rattle.dz_jet.specs.Initial.{AreEnough, AreInitialData, IsInitial}
use Rattle.dz_jet.specs.Jets.{Values, is_among, is_given, is_needed, jet_answer, jet_order, leading_to, order_of, order_of_all, order_of_monomial, test_all_multipliers, test_equations, test_given, test_inequations, unless, value_in}
use Rattle.dz_jet.specs.Tables.{keys}
use Rattle.dz_jet.proofs.ChainFacts.{ChainFacts, chain_facts}
use Rattle.dz_jet.proofs.FilteredLists.{in_among, in_filter, in_filtered, filtered_passes}
use Rattle.dz_jet.proofs.GivenFaults.{HasOther, other_all_multipliers, other_bind, other_equations, other_inequations, other_values}
use Rattle.dz_jet.proofs.JetLeads.{needed_none, none_found}
use Rattle.dz_jet.proofs.JetLists.{key_is_given}
use Rattle.dz_jet.proofs.JetParts.{equation_needed, needs_value, none_leads}
use Rattle.dz_jet.proofs.JetSymbols.{all_listed, in_jet, jet_symbols}
use Rattle.dz_jet.proofs.PairSteps.{four, quotient_leads}
use Rattle.dz_jet.proofs.Reachings.{leader_belongs, equation_over}

-- ---- leaders and their places
-- a leader with its equation
record Leads (r : RankingValue) (es : Polynomials) (l : Symbol) : Type 0 where
  place : ℕ
  equation : Polynomial Symbol
  stands : at_place (suc place) es ≡ Some equation
  leads : leader (symbols_under r) equation ≡ Some l

module _ (r : RankingValue) where
  next : (p : Polynomial Symbol) (es : Polynomials) (l : Symbol) → Leads r es l → Leads r (p ∷ es) l
  next p es l x = record { place = suc x.place; equation = x.equation; stands = x.stands; leads = x.leads }

  leader_leads : (es : Polynomials) (l : Symbol) → In l (leaders_of (symbols_under r) es) → Leads r es l
  leader_leads [] l h = absurd h
  leader_leads (p ∷ es) l h = by (leader (symbols_under r) p) refl h (λ k. next p es l (leader_leads es l k))
    where
      by : (o : Option Symbol) → leader (symbols_under r) p ≡ o → In l (with_some o (leaders_of (symbols_under r) es)) → (In l (leaders_of (symbols_under r) es) → Leads r (p ∷ es) l) → Leads r (p ∷ es) l
      by None e k rest = rest k
      by (Some m) e (inl k) rest = record { place = 0; equation = p; stands = refl; leads = e ∙ ap Some k }
      by (Some m) e (inr k) rest = rest k

  in_some : (o : Option Symbol) (l : Symbol) (ls : List Symbol) → In l ls → In l (with_some o ls)
  in_some None l ls h = h
  in_some (Some m) l ls h = inr h

  leads_leader : (es : Polynomials) (b : ℕ) (q : Polynomial Symbol) (l : Symbol) → at_place (suc b) es ≡ Some q → leader (symbols_under r) q ≡ Some l → In l (leaders_of (symbols_under r) es)
  leads_leader [] b q l e f = cc
  leads_leader (p ∷ es) zero q l e f =
      let same : p ≡ q = cc in
      subst (λ o. In l (with_some o (leaders_of (symbols_under r) es))) (sym (ap (leader (symbols_under r)) same ∙ f)) (inl refl)
  leads_leader (p ∷ es) (suc b) q l e f = in_some (leader (symbols_under r) p) l (leaders_of (symbols_under r) es) (leads_leader es b q l e f)

-- ---- the total order of what occurs
module _ (g : Symbols Symbol) where
  monomial_grows : (m : Monomial Symbol) (x : ℕ) → x ≤ order_of_monomial g m x
  monomial_grows [] x = omega arith
  monomial_grows (p ∷ m) x = let h = monomial_grows m (max x (g.total_order p.0)) in omega arith

  polynomial_grows : (p : Polynomial Symbol) (x : ℕ) → x ≤ order_of g p x
  polynomial_grows [] x = omega arith
  polynomial_grows (t ∷ p) x = let h = monomial_grows t.0 x in let k = polynomial_grows p (order_of_monomial g t.0 x) in omega arith

  all_grow : (ps : Polynomials) (x : ℕ) → x ≤ order_of_all g ps x
  all_grow [] x = omega arith
  all_grow (p ∷ ps) x = let h = polynomial_grows p x in let k = all_grow ps (order_of g p x) in omega arith

  monomial_within : (m : Monomial Symbol) (x n : ℕ) → order_of_monomial g m x ≤ n → MonomialIn (λ s. g.total_order s ≤ n) m
  monomial_within [] x n h = tt
  monomial_within (p ∷ m) x n h = (let k = monomial_grows m (max x (g.total_order p.0)) in omega arith, monomial_within m (max x (g.total_order p.0)) n h)

  polynomial_within : (p : Polynomial Symbol) (x n : ℕ) → order_of g p x ≤ n → PolynomialIn (λ s. g.total_order s ≤ n) p
  polynomial_within [] x n h = tt
  polynomial_within (t ∷ p) x n h = (monomial_within t.0 x n (let k = polynomial_grows p (order_of_monomial g t.0 x) in omega arith), polynomial_within p (order_of_monomial g t.0 x) n h)

  place_within : (ps : Polynomials) (x n b : ℕ) (q : Polynomial Symbol) → order_of_all g ps x ≤ n → at_place (suc b) ps ≡ Some q → PolynomialIn (λ s. g.total_order s ≤ n) q
  place_within [] x n b q h e = cc
  place_within (p ∷ ps) x n zero q h e = let same : p ≡ q = cc in subst (PolynomialIn (λ s. g.total_order s ≤ n)) same (polynomial_within p x n (let k = all_grow ps (order_of g p x) in omega arith))
  place_within (p ∷ ps) x n (suc b) q h e = place_within ps (order_of g p x) n b q h e

-- where each member passes a test, none fails it
none_fail : (test : Symbol → Bool) (xs : List Symbol) → ((v : Symbol) → In v xs → test v ≡ true) → find (λ v. not (test v)) xs ≡ None
none_fail test [] f = refl
none_fail test (x ∷ xs) f = ap (λ b. cond (not b) (Some x) (find (λ v. not (test v)) xs)) (f x (inl refl)) ∙ none_fail test xs (λ v h. f v (inr h))

abbrev counts_in : Symbol → List ℕ
counts_in (Independent i) = []
counts_in (Derivative u t) = t.counts

abbrev dependent_in : Symbol → ℕ
dependent_in (Independent i) = 0
dependent_in (Derivative u t) = u

-- a derivative has its quotient by what it derives from
quotient_there : (u w : ℕ) (t x tau : Operator) → Derivative u t ≡ derivative_by tau (Derivative w x) → quotient (Derivative u t) (Derivative w x) ≡ Some (record { counts = exponent_differences t.counts x.counts })
quotient_there u w t x tau e =
    ap (λ b. cond b (Some (record { counts = exponent_differences t.counts x.counts })) None)
    (ap₂ (λ (a b : Bool). a && b) (eq-eqb u w (ap dependent_in e)) (ap (divides x.counts) (ap counts_in e) ∙ divides_sum x.counts tau.counts))

module _ (r : RankingValue) (few : r.signature.independents ≤ 4) (s : State) (over : AllOf (IsOver r) s.equations) (evidence : List Evidence) (facts : ChainFacts (setting_of r) s evidence) (n : ℕ) where
  abbrev m : ℕ
  m = jet_order (symbols_under r) s n

  abbrev leaders : List Symbol
  leaders = leaders_in r s

  abbrev symbols : List Symbol
  symbols = jet_symbols r few m

  abbrev needed : List Symbol
  needed = filter (is_needed (symbols_under r) s) symbols

  leads_belongs : (l : Symbol) → Leads r s.equations l → BelongsTo r.signature l
  leads_belongs l x = leader_belongs r x.equation l (equation_over r few s over (suc x.place) x.equation x.stands).belongs x.leads

  leads_derivative : (l : Symbol) → Leads r s.equations l → IsTrue (is_derivative l)
  leads_derivative l x = leader_is_one r x.equation l x.leads

  leads_within : (l : Symbol) → Leads r s.equations l → total_order l ≤ m
  unfolding jet_order
  leads_within l x =
      let within = place_within (symbols_under r) s.equations n m x.place x.equation (all_grow (symbols_under r) s.inequations (order_of_all (symbols_under r) s.equations n)) x.stands in
      leader_in r (λ v. total_order v ≤ m) x.equation l x.leads (all_map r (λ v. total_order v ≤ m) (λ v. is_derivative v ≡ true → total_order v ≤ m) (λ v h z. h) x.equation within)

  leads_needed : (l : Symbol) → Leads r s.equations l → is_needed (symbols_under r) s l ≡ true
  leads_needed l x =
      let both = equation_needed r few s over evidence facts x.place x.equation l x.stands x.leads (leads_derivative l x) in
      (leader_in r (λ v. BelongsTo r.signature v × (is_needed (symbols_under r) s v ≡ true)) x.equation l x.leads
      (all_map r (λ v. BelongsTo r.signature v × (is_needed (symbols_under r) s v ≡ true)) (λ v. is_derivative v ≡ true → BelongsTo r.signature v × (is_needed (symbols_under r) s v ≡ true)) (λ v h z. h) x.equation both)).1

  leaders_four : HaveFour leaders
  leaders_four = each leaders (λ l h. four r l (leads_belongs l (leader_leads r s.equations l h)))
    where
      each : (ls : List Symbol) → ((l : Symbol) → In l ls → HasFourExponents l) → HaveFour ls
      each [] f = tt
      each (l ∷ ls) f = (f l (inl refl), each ls (λ k h. f k (inr h)))

  -- ---- what is initial is needed
  none_is_needed : (v : Symbol) → ((l : Symbol) (t : Operator) → Leads r s.equations l → quotient v l ≡ Some t → ⊥) → is_needed (symbols_under r) s v ≡ true
  none_is_needed v f = needs_value (setting_of r) v (leading_to (symbols_under r) v 1 s.equations)
      (none_leads (setting_of r) v 1 s.equations (λ b q l t e d k p. f l t (record { place = b; equation = q; stands = e; leads = d }) k))

  initial_needed : (v : Symbol) → IsInitial r s m v → In v needed
  initial_needed v (inl x) = in_filtered (is_needed (symbols_under r) s) symbols v (in_jet r few m v x.belongs (by v x.independent)) (none_is_needed v (λ l t d k. none v x.independent l t k))
    where
      by : (v : Symbol) → is_derivative v ≡ false → total_order v ≤ m
      by (Independent i) e = omega arith
      by (Derivative u t) e = absurd cc

      none : (v : Symbol) → is_derivative v ≡ false → (l : Symbol) (t : Operator) → quotient v l ≡ Some t → ⊥
      none (Independent i) e l t k = cc
      none (Derivative u x) e l t k = cc
  initial_needed v (inr (inl x)) =
      in_filtered (is_needed (symbols_under r) s) symbols v (in_jet r few m v x.belongs x.within)
      (none_is_needed v (λ l t d k.
      x.parametric.unled (record {
        by = l;
        stands = in_contained leaders l (leads_leader r s.equations d.place d.equation l d.stands d.leads);
        derives = (t, (leads_derivative l d, sym (quotient_leads v l t (four r v x.belongs) (four r l (leads_belongs l d)) k).0));
      })))
  initial_needed v (inr (inr h)) =
      let d = leader_leads r s.equations v (contained_in leaders v h) in
      in_filtered (is_needed (symbols_under r) s) symbols v (in_jet r few m v (leads_belongs v d) (leads_within v d)) (leads_needed v d)

  -- ---- what is needed is initial
  -- a leader that leads to a derivative whose value is needed is that derivative
  leader_itself : (v l : Symbol) (tau : Operator) → HasFourExponents v → is_needed (symbols_under r) s v ≡ true → Leads r s.equations l → quotient v l ≡ Some tau → (b : Bool) → is_proper tau ≡ b → l ≡ v
  leader_itself v l tau f need d q true p = absurd (none_found r v 1 s.equations d.place d.equation l tau (needed_none r few s over v need) d.stands d.leads q p)
  leader_itself v l tau f need d q false p =
      let k = quotient_leads v l tau f (four r l (leads_belongs l d)) q in
      same l (leads_derivative l d) (four r l (leads_belongs l d)) k.1 ∙ k.0
    where
      same : (l : Symbol) → IsTrue (is_derivative l) → HasFourExponents l → length tau.counts ≡ 4 → l ≡ derivative_by tau l
      same (Independent i) i-d h e = cc
      same (Derivative w x) i-d h e = sym (derivative_nothing r few tau w x p (omega (arith, h, e)))

  led_is_leader : (u : ℕ) (t : Operator) → HasFourExponents (Derivative u t) → is_needed (symbols_under r) s (Derivative u t) ≡ true → IsLed leaders (Derivative u t) → Contains leaders (Derivative u t)
  led_is_leader u t f need h =
      let d = leader_leads r s.equations h.by (contained_in leaders h.by h.stands) in
      subst (Contains leaders) (by h.by d h.derives.0 h.derives.1.1) h.stands
    where
      by : (l : Symbol) → Leads r s.equations l → (tau : Operator) → Derivative u t ≡ derivative_by tau l → l ≡ Derivative u t
      by (Independent i) d tau e = absurd (let k = leads_derivative (Independent i) d in cc)
      by (Derivative w x) d tau e =
          let o : Operator = record { counts = exponent_differences t.counts x.counts } in
          leader_itself (Derivative u t) (Derivative w x) o f need d (quotient_there u w t x tau e) (is_proper o) refl

  needed_initial : (v : Symbol) → In v needed → IsInitial r s m v
  needed_initial v h = by v (filtered_passes (is_needed (symbols_under r) s) symbols v h) (of_member (IsListed r few m) v symbols (all_listed r few m) (in_filter (is_needed (symbols_under r) s) symbols v h))
    where
      by : (v : Symbol) → is_needed (symbols_under r) s v ≡ true → IsListed r few m v → IsInitial r s m v
      by (Independent i) need k = inl (record { independent = refl; belongs = k.belongs })
      by (Derivative u t) need k = inr (at (some_divides t.counts (operators_of u leaders)) refl)
        where
          at : (b : Bool) → some_divides t.counts (operators_of u leaders) ≡ b → IsParametricTo r leaders m (Derivative u t) ⊎ Contains leaders (Derivative u t)
          at false e = inl (record {
            parametric = record { derivative = refl; unled = λ l. let d = led_divides u t k.belongs.1.size leaders l.stands.0 l.by l.stands.1 l.stands.2 l.derives in let z : true ≡ false = sym d ∙ e in cc };
            belongs = k.belongs;
            within = k.within;
          })
          at true e = inr (led_is_leader u t k.belongs.1.size need (divides_led u t k.belongs.1.size leaders leaders_four e))

  -- ---- what is given is what is needed
  module _ (known : Values) (initial : AreInitialData r s m known) where
    abbrev at : Symbol → Fraction
    at = value_in (symbols_under r) known

    given_passes : test_given (symbols_under r) known needed ≡ Ok tt
    given_passes =
        ap (λ o. unless faults.Missing o >>= (λ z. unless faults.NotFree (find (λ v. not (is_among (symbols_under r) needed v)) (keys known))))
        (none_fail (is_given (symbols_under r) known) needed (λ v h. key_is_given r known v (contained_in (keys known) v (initial.given v (needed_initial v h)))))
        ∙ ap (unless faults.NotFree) (none_fail (is_among (symbols_under r) needed) (keys known) (λ v h. in_among r needed v (initial_needed v (initial.only v (in_contained (keys known) v h)))))

    given_other : HasOther (test_given (symbols_under r) known needed)
    given_other e h = let z : Ok tt ≡ Err e = sym given_passes ∙ h in cc

    answer_other : HasOther (jet_answer r s known n)
    unfolding jet_answer
    answer_other =
        other_bind (test_given (symbols_under r) known needed) _ given_other
        (λ a. other_bind (test_equations at 1 s.equations) _ (other_equations at 1 s.equations)
        (λ b. other_bind (test_all_multipliers (symbols_under r) at 1 s.equations) _ (other_all_multipliers (symbols_under r) at 1 s.equations)
        (λ c. other_bind (test_inequations at 1 s.inequations) _ (other_inequations at 1 s.inequations)
        (λ d. other_values (setting_of r) s at [] symbols))))

    are_enough : AreEnough r s known n
    are_enough = record {
      none_missing = λ v h. let z = answer_other (faults.Missing v) h in let y : true ≡ false = z in cc;
      each_free = λ v h. let z = answer_other (faults.NotFree v) h in let y : true ≡ false = z in cc;
    }

pub initial_data_enough : (r : RankingValue) (s : State) (evidence : List Evidence) → IsChain r s evidence → (known : Values) (n : ℕ) → AreInitialData r s (jet_order (symbols_under r) s n) known → AreEnough r s known n
initial_data_enough r s evidence chain known n initial = are_enough r chain.few s chain.over evidence (chain_facts (setting_of r) s chain.affordable evidence chain.weight chain.holds) n known initial
