-- The symbols of jets, and those that their faults name, belong to the signature.
use Rattle.std.specs.Prelude.{IfErr, IfOk, IsTrue, Result}
use Rattle.std.specs.List.{filter, find}
use Rattle.std.proofs.Common.{◌≡◌, inl, inr, ◌≤◌, ◌∙◌, ℕ, zero, suc, Bool, true, false, not, cond, All, List, [], ◌∷◌, ◌++◌, map, Option, Some, None, Ok, Err, refl, sym, ap, subst, arith, append_assoc, append-nil}
use Rattle.dz_algebra.specs.Parts.{coefficient_of, initial, leader, separant}
use Rattle.dz_algebra.specs.Polynomial.{Polynomial}
use Rattle.dz_algebra.specs.Size.{Refusal, wide as refused_wide, large as refused_large, separant_answer}
use Rattle.dz_int.specs.Fractions.{Fraction}
use Rattle.dz_rank.specs.declared.rankings.Signature.{Signature}
use Rattle.dz_rank.specs.declared.symbols.Symbol.{Symbol}
use Rattle.dz_rank.specs.Rankings.{RankingValue}
use Rattle.dz_rank.specs.Symbols.{BelongsTo, is_derivative}
use Rattle.dz_monomials.specs.Ranked.{symbols_under}
use Rattle.dz_monomials.specs.Lists.{AllOf}
use Rattle.dz_diff.specs.Operations.{operator_answer, setting_of}
use Rattle.dz_algebra.specs.Outcome.{◌>>=◌, given, needs, told_as}
use Rattle.dz_diff.specs.Over.{IsOver}
use Rattle.dz_diff.specs.State.{State}
use Rattle.dz_diff.specs.Tests.{Polynomials}
use Rattle.dz_algebra.proofs.Outcomes.{bind_ok, ok_same}
use Rattle.dz_jet.specs.declared.faults.At.TheVariants as ats
use Rattle.dz_jet.specs.declared.faults.JetFault.{JetFault}
use Rattle.dz_jet.specs.declared.faults.JetFault.TheVariants as faults
use Rattle.dz_jet.specs.declared.faults.Part.{Part}
use Rattle.dz_jet.specs.declared.faults.Part.TheVariants as parts
use Rattle.dz_jet.specs.FaultSymbols.{IsFaultOver}
use Rattle.dz_jet.specs.Fractions.{fraction_negative, is_zero_fraction, quotient_answer}
use Rattle.dz_jet.specs.Jets.{JetValue, Leading, Values, fixed_value, independents_of, is_among, is_given, is_needed, jet_answer, jet_order, leading_to, refused_at, separant_refused, test_all_multipliers, test_equations, test_given, test_inequations, test_multipliers, test_part, unless, value_answer, value_in, with_value, with_values}
use Rattle.dz_parametric.specs.Orders.{derivatives_to}
use Rattle.dz_jet.specs.Stops.{IsFault}
use Rattle.dz_jet.specs.Writable.{IsWritable}
use Rattle.dz_jet.proofs.FilteredLists.{found_is}
use Rattle.dz_jet.proofs.GivenAnswers.{derivatives_proper}
use Rattle.dz_jet.proofs.JetSymbols.{all_listed, jet_symbols}
use Rattle.dz_parametric.proofs.OrderLists.{IsListed}
use Rattle.dz_jet.proofs.Reachings.{leader_belongs}

-- ---- lists
each : {A : Type 0} (P : A → Type 0) (xs : List A) → AllOf P xs → All P xs
each P [] h i d l = absurd (omega arith)
each P (x ∷ xs) h zero d l = h.0
each P (x ∷ xs) h (suc i) d l = each P xs h.1 i d (omega arith)

all_more : {A : Type 0} (P Q : A → Type 0) (xs : List A) → ((x : A) → P x → Q x) → AllOf P xs → AllOf Q xs
all_more P Q [] f h = tt
all_more P Q (x ∷ xs) f h = (f x h.0, all_more P Q xs f h.1)

all_filter : {A : Type 0} (P : A → Type 0) (test : A → Bool) (xs : List A) → AllOf P xs → AllOf P (filter test xs)
all_filter P test [] h = tt
all_filter P test (x ∷ xs) h = by_test (test x) (all_filter P test xs h.1)
  where
    by_test : (b : Bool) → AllOf P (filter test xs) → AllOf P (cond b (x ∷ filter test xs) (filter test xs))
    by_test true more = (h.0, more)
    by_test false more = more

keys_all : (P : Symbol → Type 0) (xs : Values) (ss : List Symbol) → map (λ p. p.0) xs ≡ ss → AllOf P ss → AllOf (λ p. P p.0) xs
keys_all P [] ss e h = tt
keys_all P (p ∷ xs) [] e h = absurd cc
keys_all P (p ∷ xs) (s ∷ ss) e h =
    let head : s ≡ p.0 = cc in
    let rest : map (λ p. p.0) xs ≡ ss = cc in
    (subst P head h.0, keys_all P xs ss rest h.1)

all_keys : (P : Symbol → Type 0) (xs : Values) → All (λ p. P p.0) xs → AllOf P (map (λ p. p.0) xs)
all_keys P [] h = tt
all_keys P (p ∷ xs) h = (h 0 p (omega arith), all_keys P xs (λ i d l. h (suc i) d (omega arith)))

keys_push : (xs : Values) (w : Symbol) (v : Fraction) → map (λ p. p.0) (xs ++ (w, v) ∷ []) ≡ map (λ p. p.0) xs ++ w ∷ []
keys_push [] w v = refl
keys_push (p ∷ xs) w v = ap (λ (ss : List Symbol). p.0 ∷ ss) (keys_push xs w v)

-- ---- faults, one operation after the other
module _ (g : Signature) where
  abbrev Fails : {A : Type 0} → Result A JetFault → Type 0
  Fails x = (e : JetFault) → x ≡ Err e → IsFaultOver g e

  in_turn : {A B : Type 0} (x : Result A JetFault) (f : A → Result B JetFault) → Fails x → ((v : A) → x ≡ Ok v → Fails (f v)) → Fails (x >>= f)
  in_turn (Ok v) f h k e i = k v refl e i
  in_turn {A} (Err y) f h k e i = h e (let j : y ≡ e = cc in ap (λ z. Err z) j)

  never : {A : Type 0} (v : A) → Fails (Ok v)
  never v e i = absurd cc

  lacking : {A : Type 0} (o : Option A) (y : JetFault) → IsFaultOver g y → Fails (given o y)
  lacking (Some v) y h e i = absurd cc
  lacking None y h e i = let j : y ≡ e = cc in subst (IsFaultOver g) j h

  failing : (b : Bool) (y : JetFault) → IsFaultOver g y → Fails (needs b y)
  failing true y h e i = absurd cc
  failing false y h e i = let j : y ≡ e = cc in subst (IsFaultOver g) j h

  finding : (tell : Symbol → JetFault) (o : Option Symbol) → ((s : Symbol) → o ≡ Some s → IsFaultOver g (tell s)) → Fails (unless tell o)
  finding tell None h e i = absurd cc
  finding tell (Some s) h e i = let j : tell s ≡ e = cc in subst (IsFaultOver g) j (h s refl)

  telling : {A : Type 0} (tell : Refusal → JetFault) (x : Result A Refusal) → ((y : Refusal) → IsFaultOver g (tell y)) → Fails (told_as tell x)
  telling tell (Ok v) h e i = absurd cc
  telling tell (Err y) h e i = let j : tell y ≡ e = cc in subst (IsFaultOver g) j (h y)

  valuing : (y : JetFault) (at : Symbol → Fraction) (p : Polynomial Symbol) → IsFaultOver g y → Fails (value_answer y at p)
  unfolding value_answer
  valuing y at p h = lacking _ y h

  part_fails : (at : Symbol → Fraction) (w : Part) (p : Polynomial Symbol) → Fails (test_part at w p)
  part_fails at w p = in_turn (value_answer (faults.Wide (ats.Part w)) at p) _ (valuing (faults.Wide (ats.Part w)) at p tt)
      (λ v i. in_turn (needs (not (is_zero_fraction v)) (faults.Vanishes w)) _ (failing (not (is_zero_fraction v)) (faults.Vanishes w) tt) (λ u j. never v))

module _ (r : RankingValue) where
  abbrev g : Signature
  g = r.signature

  module _ (at : Symbol → Fraction) where
    equations_fail : (j : ℕ) (es : Polynomials) → Fails g (test_equations at j es)
    equations_fail j [] = never g tt
    equations_fail j (p ∷ es) = in_turn g (value_answer (faults.Wide (ats.Part (parts.Equation j))) at p) _ (valuing g (faults.Wide (ats.Part (parts.Equation j))) at p tt)
        (λ v i. in_turn g (needs (is_zero_fraction v) (faults.OffChain j v)) _ (failing g (is_zero_fraction v) (faults.OffChain j v) tt) (λ u k. equations_fail (suc j) es))

    separant_over : (j : ℕ) (l : Symbol) → BelongsTo g l → (y : Refusal) → IsFaultOver g (separant_refused j l y)
    separant_over j l h refused_wide = tt
    separant_over j l h (refused_large limit) = h

    multipliers_fail : (j : ℕ) (p : Polynomial Symbol) (o : Option Symbol) → ((l : Symbol) → o ≡ Some l → BelongsTo g l) → Fails g (test_multipliers (symbols_under r) at j p o)
    multipliers_fail j p None h = never g _
    multipliers_fail j p (Some l) h = in_turn g (test_part at (parts.Initial j) (initial (symbols_under r).cmp l p)) _ (part_fails g at (parts.Initial j) _)
        (λ v i. in_turn g (told_as (separant_refused j l) (separant_answer (symbols_under r) l p)) _ (telling g (separant_refused j l) _ (separant_over j l (h l refl)))
        (λ q k. part_fails g at (parts.Separant j) q))

    all_multipliers_fail : (j : ℕ) (es : Polynomials) → AllOf (IsOver r) es → Fails g (test_all_multipliers (symbols_under r) at j es)
    all_multipliers_fail j [] h = never g []
    all_multipliers_fail j (p ∷ es) h = in_turn g (test_multipliers (symbols_under r) at j p (leader (symbols_under r) p)) _
        (multipliers_fail j p (leader (symbols_under r) p) (λ l e. leader_belongs r p l h.0.belongs e))
        (λ v i. in_turn g (test_all_multipliers (symbols_under r) at (suc j) es) _ (all_multipliers_fail (suc j) es h.1) (λ vs k. never g (v ∷ vs)))

    inequations_fail : (j : ℕ) (hs : Polynomials) → Fails g (test_inequations at j hs)
    inequations_fail j [] = never g tt
    inequations_fail j (p ∷ hs) = in_turn g (test_part at (parts.Inequation j) p) _ (part_fails g at (parts.Inequation j) p) (λ v i. inequations_fail (suc j) hs)

    module _ (w : Symbol) (belongs : BelongsTo g w) where
      refused_over : (y : Refusal) → IsFaultOver g (refused_at w y)
      refused_over refused_wide = belongs
      refused_over (refused_large limit) = belongs

      value_fails : (jet : Values) (x : Leading) → Fails g (fixed_value (setting_of r) at jet w x)
      value_fails jet x = in_turn g (told_as (refused_at w) (operator_answer (setting_of r) x.operator x.divisor)) _ (telling g (refused_at w) _ refused_over)
          (λ p i. in_turn g (value_answer (faults.Wide (ats.Derivative w)) at (separant (symbols_under r).cmp x.top x.divisor)) _ (valuing g (faults.Wide (ats.Derivative w)) at _ belongs)
          (λ s j. in_turn g (value_answer (faults.Wide (ats.Derivative w)) (value_in (symbols_under r) jet) (coefficient_of (symbols_under r).cmp w 0 p)) _ (valuing g (faults.Wide (ats.Derivative w)) (value_in (symbols_under r) jet) _ belongs)
          (λ t k. lacking g (quotient_answer (fraction_negative t) s) (faults.Wide (ats.Derivative w)) belongs)))

      with_value_fails : (jet : Values) (o : Option Leading) → Fails g (with_value (setting_of r) at jet w o)
      with_value_fails jet None = never g _
      with_value_fails jet (Some x) = in_turn g (fixed_value (setting_of r) at jet w x) _ (value_fails jet x) (λ v i. never g _)

    values_fail : (s : State) (jet : Values) (ws : List Symbol) → AllOf (BelongsTo g) ws → Fails g (with_values (setting_of r) s at jet ws)
    values_fail s jet [] h = never g jet
    values_fail s jet (w ∷ ws) h = in_turn g (with_value (setting_of r) at jet w (leading_to (symbols_under r) w 1 s.equations)) _ (with_value_fails w h.0 jet _)
        (λ more i. values_fail s more ws h.1)

    -- the symbols of a jet
    value_keys : (jet more : Values) (w : Symbol) (o : Option Leading) → with_value (setting_of r) at jet w o ≡ Ok more → map (λ p. p.0) more ≡ map (λ p. p.0) jet ++ w ∷ []
    value_keys jet more w None e = ap (λ (xs : Values). map (λ p. p.0) xs) (sym (ok_same (jet ++ (w, at w) ∷ []) more e)) ∙ keys_push jet w (at w)
    value_keys jet more w (Some x) e =
        let b = bind_ok (fixed_value (setting_of r) at jet w x) _ more e in
        ap (λ (xs : Values). map (λ p. p.0) xs) (sym (ok_same (jet ++ (w, b.0) ∷ []) more b.2)) ∙ keys_push jet w b.0

    values_keys : (s : State) (jet all : Values) (ws : List Symbol) → with_values (setting_of r) s at jet ws ≡ Ok all → map (λ p. p.0) all ≡ map (λ p. p.0) jet ++ ws
    values_keys s jet all [] e = ap (λ (xs : Values). map (λ p. p.0) xs) (sym (ok_same jet all e)) ∙ sym (append-nil (map (λ p. p.0) jet))
    values_keys s jet all (w ∷ ws) e =
        let b = bind_ok (with_value (setting_of r) at jet w (leading_to (symbols_under r) w 1 s.equations)) _ all e in
        values_keys s b.0 all ws b.2 ∙ ap (λ (ss : List Symbol). ss ++ ws) (value_keys jet b.0 w _ b.1) ∙ append_assoc (map (λ p. p.0) jet) (w ∷ []) ws

  -- ---- jets
  module _ (few : r.signature.independents ≤ 4) (s : State) (known : Values) (n : ℕ) where
    abbrev m : ℕ
    m = jet_order (symbols_under r) s n

    abbrev symbols : List Symbol
    symbols = independents_of r.signature ++ derivatives_to r (jet_order (symbols_under r) s n)

    all_belong : AllOf (BelongsTo r.signature) (independents_of r.signature ++ derivatives_to r (jet_order (symbols_under r) s n))
    all_belong = all_more (IsListed r few m) (BelongsTo r.signature) (jet_symbols r few m) (λ x h. h.belongs) (all_listed r few m)

    -- the text of a jet may be written
    pub jet_writable : (jet : Values) → jet_answer r s known n ≡ Ok jet → IsWritable r.signature jet
    unfolding jet_answer
    jet_writable jet e =
        let a = bind_ok (test_given (symbols_under r) known (filter (is_needed (symbols_under r) s) symbols)) _ jet e in
        let b = bind_ok (test_equations (value_in (symbols_under r) known) 1 s.equations) _ jet a.2 in
        let c = bind_ok (test_all_multipliers (symbols_under r) (value_in (symbols_under r) known) 1 s.equations) _ jet b.2 in
        let d = bind_ok (test_inequations (value_in (symbols_under r) known) 1 s.inequations) _ jet c.2 in
        let keys_are = values_keys (value_in (symbols_under r) known) s [] jet symbols d.2 in
        record {
          derivatives = derivatives_to r m;
          symbols_are = keys_are;
          proper = each (λ s. IsTrue (is_derivative s)) (derivatives_to r m) (derivatives_proper r few m);
          belong = each (λ p. BelongsTo r.signature p.0) jet (keys_all (BelongsTo r.signature) jet symbols keys_are all_belong);
        }

    -- the symbol of a fault belongs to the signature
    pub fault_over : AllOf (IsOver r) s.equations → All (λ p. BelongsTo r.signature p.0) known → (e : JetFault) → jet_answer r s known n ≡ Err e → IsFaultOver r.signature e
    unfolding jet_answer
    fault_over over belong e i =
        in_turn g (test_given (symbols_under r) known (filter (is_needed (symbols_under r) s) symbols)) _ given_fails
        (λ a i. in_turn g (test_equations at 1 s.equations) _ (equations_fail at 1 s.equations)
        (λ b j. in_turn g (test_all_multipliers (symbols_under r) at 1 s.equations) _ (all_multipliers_fail at 1 s.equations over)
        (λ c k. in_turn g (test_inequations at 1 s.inequations) _ (inequations_fail at 1 s.inequations)
        (λ d l. values_fail at s [] symbols all_belong)))) e i
      where
        at : Symbol → Fraction
        at = value_in (symbols_under r) known

        needed : List Symbol
        needed = filter (is_needed (symbols_under r) s) symbols

        given_fails : Fails g (test_given (symbols_under r) known (filter (is_needed (symbols_under r) s) symbols))
        given_fails = in_turn g (unless faults.Missing (find (λ t. not (is_given (symbols_under r) known t)) needed)) _
            (finding g faults.Missing _ (λ t e. found_is (BelongsTo r.signature) (λ t. not (is_given (symbols_under r) known t)) needed t (each (BelongsTo r.signature) needed (all_filter (BelongsTo r.signature) (is_needed (symbols_under r) s) symbols all_belong)) e))
            (λ u j. finding g faults.NotFree _ (λ t e. found_is (BelongsTo r.signature) (λ t. not (is_among (symbols_under r) needed t)) (map (λ p. p.0) known) t (each (BelongsTo r.signature) (map (λ p. p.0) known) (all_keys (BelongsTo r.signature) known belong)) e))

    -- and so does that of a fault that a call answers
    pub told_over : AllOf (IsOver r) s.equations → All (λ p. BelongsTo r.signature p.0) known → (e : JetFault) → IsFault e (jet_answer r s known n) → IsFaultOver r.signature e
    told_over over belong e (inl is) = subst (IsFaultOver r.signature) (sym is) tt
    told_over over belong e (inr is) = fault_over over belong e is

    -- of what a call answers
    pub answer_writable : (x : Result JetValue JetFault) → IfOk x (λ jet. jet_answer r s known n ≡ Ok jet.values) → IfOk x (λ jet. IsWritable r.signature jet.values)
    answer_writable (Ok jet) h = jet_writable jet.values h
    answer_writable (Err e) h = tt

    pub answer_over : AllOf (IsOver r) s.equations → All (λ p. BelongsTo r.signature p.0) known → (x : Result JetValue JetFault) → IfErr x (λ e. IsFault e (jet_answer r s known n)) → IfErr x (λ e. IsFaultOver r.signature e)
    answer_over over belong (Ok jet) h = tt
    answer_over over belong (Err e) h = told_over over belong e h
