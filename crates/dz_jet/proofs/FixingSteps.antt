-- One more value of a jet.
use Rattle.std.specs.Prelude.{◌≢◌, IfErr, IfOk, OnOk, Result}
use Rattle.std.proofs.Common.{◌≡◌, inl, inr, ◌<◌, ◌≤◌, ◌+◌, ◌∙◌, ℕ, suc, true, List, [], ◌∷◌, ◌++◌, All, length, drop, slice_index_or, pos, Option, Some, None, Ok, Err, refl, sym, ap, ap₂, subst, arith}
use Rattle.std.proofs.lemmas.List.{append_assoc}
use Rattle.dz_algebra.specs.Parts.{coefficient_of, separant}
use Rattle.dz_algebra.specs.Polynomial.{Polynomial, PolynomialIn}
use Rattle.dz_algebra.specs.Size.{Refusal}
use Rattle.dz_int.specs.Fractions.{Fraction, IsProduct, IsReduced, inverse_of}
use Rattle.dz_poly.specs.Books.{BookValue, Gives, IsBook, IsKept, Lives, polynomial}
use Rattle.dz_poly.proofs.Books.{kept_polynomial, lives_on, means_lives}
use Rattle.dz_rank.specs.Rankings.{RankingValue, ranking_cmp}
use Rattle.dz_rank.specs.Symbols.{BelongsTo, IsOperatorOf, is_derivative}
use Rattle.dz_rank.specs.declared.symbols.Symbol.{Symbol}
use Rattle.dz_monomials.specs.Ranked.{symbols_under}
use Rattle.dz_monomials.specs.Lists.{AllOf}
use Rattle.dz_diff.specs.Operations.{Setting, operator_answer, setting_of}
use Rattle.dz_algebra.specs.Outcome.{◌>>=◌, given, told_as}
use Rattle.dz_diff.specs.State.{State}
use Rattle.dz_diff.specs.Operators.{is_proper}
use Rattle.dz_diff.specs.States.{LiveAll, polynomials}
use Rattle.dz_diff.specs.Tests.{Polynomials}
use Rattle.dz_diff.proofs.KeptStates.{kept_polynomials}
use Rattle.dz_diff.proofs.LeaderBounds.{leader_is_one}
use Rattle.dz_rank.proofs.Belonging.{quotient_is_operator}
use Rattle.dz_step.proofs.DivisorTables.{polynomial_here, polynomials_length}
use Rattle.dz_diff.proofs.Places.{all_parts}
use Rattle.dz_step.proofs.Searches.{drop_here, drop_end}
use Rattle.dz_jet.specs.declared.derivatives.Made.{Made}
use Rattle.dz_jet.specs.declared.faults.At.TheVariants as ats
use Rattle.dz_jet.specs.declared.faults.JetFault.{JetFault}
use Rattle.dz_jet.specs.declared.faults.JetFault.TheVariants as faults
use Rattle.dz_jet.specs.declared.leading.Fixing.{Fixing}
use Rattle.dz_jet.specs.Fixing.{AreSeparants, IsLeading, solution}
use Rattle.dz_jet.specs.Fractions.{whole, fraction_negative, quotient_answer}
use Rattle.dz_jet.specs.Jets.{Leading, Values, fixed_value, independents_of, leading_to, refused_at, value_answer, value_from, value_in, with_value, with_values}
use Rattle.dz_jet.specs.Making.{IsMade}
use Rattle.dz_jet.specs.Stops.{IsFault}
use Rattle.dz_jet.specs.Tables.{IsBegun, IsTable, keys}
use Rattle.dz_parametric.specs.Orders.{IsRising}
use Rattle.dz_jet.proofs.FoldValues.{inverse_is}
use Rattle.dz_jet.proofs.FractionAnswers.{product_answered}
use Rattle.dz_jet.proofs.FractionLaws.{itself, negative_is}
use Rattle.dz_jet.proofs.MultiplierSteps.{given_polynomial}
use Rattle.dz_jet.proofs.JetLeads.{Leads, found_leads}
use Rattle.dz_jet.proofs.PairSteps.{four, quotient_leads}
use Rattle.dz_jet.proofs.Reachings.{leader_belongs}
use Rattle.dz_jet.proofs.PointSteps.{value_none, value_some}

-- ---- the value -r/s
module _ (r : RankingValue) (jet : Values) (w : Symbol) (s : Fraction) (p : Polynomial Symbol) (o : Option Fraction) (is : o ≡ value_from (value_in (symbols_under r) jet) (coefficient_of (ranking_cmp r) w 0 p) (whole (pos 0))) where
  abbrev stop : JetFault
  stop = faults.Wide (ats.Derivative w)

  abbrev behind : Result Fraction JetFault → Result Fraction JetFault
  behind x = x >>= (λ v. given (quotient_answer (fraction_negative v) s) (faults.Wide (ats.Derivative w)))

  pub no_rest : o ≡ None → Err stop ≡ solution (symbols_under r) jet w s p
  no_rest e = ap behind (value_none (faults.Wide (ats.Derivative w)) (value_in (symbols_under r) jet) (coefficient_of (ranking_cmp r) w 0 p) o is e)

  module _ (v : Fraction) (some : o ≡ Some v) (first : IsReduced v) (second : IsReduced s) (nonzero : s.numerator ≢ pos 0) (q : Option Fraction) (product : IsProduct (fraction_negative v) (inverse_of s) q) where
    solved : given q stop ≡ solution (symbols_under r) jet w s p
    solved =
        ap (λ x. given x stop) (sym (product_answered (fraction_negative v) (inverse_of s) (negative_is v v.numerator v.denominator (itself v first)).lowest (inverse_is s second nonzero) q product))
        ∙ ap behind (value_some (faults.Wide (ats.Derivative w)) (value_in (symbols_under r) jet) (coefficient_of (ranking_cmp r) w 0 p) o v is some)

    pub quotient_fits : (x : Fraction) → q ≡ Some x → Ok x ≡ solution (symbols_under r) jet w s p
    quotient_fits x e = sym (ap (λ y. given y stop) e) ∙ solved

    pub quotient_is_wide : q ≡ None → Err stop ≡ solution (symbols_under r) jet w s p
    quotient_is_wide e = sym (ap (λ y. given y stop) e) ∙ solved

-- ---- a derivative with its value
module _ (g : Setting) (at : Symbol → Fraction) (jet : Values) (w : Symbol) (o : Option Leading) where
  pub given_value : (v : Fraction) → o ≡ None → v ≡ at w → with_value g at jet w o ≡ Ok (jet ++ (w, v) ∷ [])
  given_value v e is = ap (with_value g at jet w) e ∙ ap (λ x. Ok (jet ++ (w, x) ∷ [])) (sym is)

  module _ (x : Leading) (led : o ≡ Some x) where
    abbrev then_added : Result Fraction JetFault → Result Values JetFault
    then_added y = y >>= (λ v. Ok (jet ++ (w, v) ∷ []))

    by_fixing : with_value g at jet w o ≡ then_added (fixed_value g at jet w x)
    by_fixing = ap (with_value g at jet w) led

    abbrev from_derivative : Result (Polynomial Symbol) JetFault → Result Fraction JetFault
    from_derivative y = y >>= (λ p. value_answer (faults.Wide (ats.Derivative w)) at (separant g.symbols.cmp x.top x.divisor) >>= (λ s. solution g.symbols jet w s p))

    pub derivative_refused : (e : JetFault) → IsFault e (told_as (refused_at w) (operator_answer g x.operator x.divisor)) → IsFault e (with_value g at jet w o)
    derivative_refused e (inl h) = inl h
    derivative_refused e (inr h) = inr (by_fixing ∙ ap then_added (ap from_derivative h))

    module _ (p : Polynomial Symbol) (made : operator_answer g x.operator x.divisor ≡ Ok p) (s : Fraction) (value : value_from at (separant g.symbols.cmp x.top x.divisor) (whole (pos 0)) ≡ Some s) (y : Result Fraction JetFault) (is : y ≡ solution g.symbols jet w s p) where
      fixed : with_value g at jet w o ≡ then_added y
      fixed =
          by_fixing
          ∙ ap then_added (ap (λ z. from_derivative (told_as (refused_at w) z)) made
          ∙ ap (λ z. z >>= (λ s. solution g.symbols jet w s p)) (sym (value_some (faults.Wide (ats.Derivative w)) at (separant g.symbols.cmp x.top x.divisor) (value_from at (separant g.symbols.cmp x.top x.divisor) (whole (pos 0))) s refl value)) ∙ sym is)

      pub fixed_passes : (v : Fraction) → y ≡ Ok v → with_value g at jet w o ≡ Ok (jet ++ (w, v) ∷ [])
      fixed_passes v e = fixed ∙ ap then_added e

      pub fixed_fails : (e : JetFault) → y ≡ Err e → IsFault e (with_value g at jet w o)
      fixed_fails e h = inr (fixed ∙ ap then_added h)

-- ---- derivatives in a book that grows
pub gives_lives : (new : BookValue) (q : ℕ) (x : Result (Polynomial Symbol) Refusal) → Gives new (Ok q) x → Lives new q
gives_lives new q (Ok a) h = means_lives new q a h
gives_lives new q (Err e) h = absurd h

module _ (old new : BookValue) (kept : IsKept old new) (equations : List ℕ) (live : LiveAll old equations) where
  made_later : (x : Made) → IsMade old equations x → IsMade new equations x
  made_later x h =
      let same = kept_polynomial old new (slice_index_or equations x.index 0) kept (live x.index 0 h.inside) in
      record {
        lives = lives_on old new x.derivative kept h.lives;
        inside = h.inside;
        answer =
            ap (λ r. operator_answer (setting_of r) x.operator (polynomial new (slice_index_or equations x.index 0))) kept.ranking
            ∙ ap (operator_answer (setting_of old.ranking) x.operator) same ∙ h.answer ∙ ap (λ q. Ok q) (sym (kept_polynomial old new x.derivative kept h.lives));
      }

  pub all_made_later : (xs : List Made) → All (IsMade old equations) xs → All (IsMade new equations) xs
  all_made_later xs h = λ i d l. made_later (slice_index_or xs i d) (h i d l)

  pub made_here : (x : Made) → x.index < length equations → Gives new (Ok x.derivative) (operator_answer (setting_of old.ranking) x.operator (polynomial old (slice_index_or equations x.index 0))) → IsMade new equations x
  made_here x inside h = record {
    lives = gives_lives new x.derivative _ h;
    inside = inside;
    answer =
        ap (λ r. operator_answer (setting_of r) x.operator (polynomial new (slice_index_or equations x.index 0))) kept.ranking
        ∙ ap (operator_answer (setting_of old.ranking) x.operator) (kept_polynomial old new (slice_index_or equations x.index 0) kept (live x.index 0 inside))
        ∙ given_polynomial new x.derivative (operator_answer (setting_of old.ranking) x.operator (polynomial old (slice_index_or equations x.index 0))) h;
  }

-- ---- tables that grow
module _ (r : RankingValue) where
  rising_front : (xs ys : List Symbol) → IsRising (ranking_cmp r) (xs ++ ys) → IsRising (ranking_cmp r) xs
  rising_front [] ys h = tt
  rising_front (x ∷ xs) ys h = ((all_parts _ xs ys h.0).0, rising_front xs ys h.1)

  regroup : (xs ys : List Symbol) (w : Symbol) → xs ++ w ∷ ys ≡ (xs ++ w ∷ []) ++ ys
  regroup xs ys w = sym (append_assoc xs (w ∷ []) ys)

  pub begun_table : (xs : Values) (rest : List Symbol) → IsBegun r xs rest → IsTable r xs
  begun_table xs rest h = record {
    derivatives = h.derivatives;
    keys_are = h.keys_are;
    rising = rising_front h.derivatives rest h.rising;
    proper = (all_parts (λ s. is_derivative s ≡ true) h.derivatives rest h.proper).0;
  }

  keys_push : (xs : Values) (w : Symbol) (v : Fraction) → keys (xs ++ (w, v) ∷ []) ≡ keys xs ++ w ∷ []
  keys_push [] w v = refl
  keys_push (x ∷ xs) w v = ap (λ ss. x.0 ∷ ss) (keys_push xs w v)

  pub begun_more : (xs : Values) (w : Symbol) (v : Fraction) (rest : List Symbol) → IsBegun r xs (w ∷ rest) → IsBegun r (xs ++ (w, v) ∷ []) rest
  begun_more xs w v rest h = record {
    derivatives = h.derivatives ++ w ∷ [];
    keys_are = keys_push xs w v ∙ ap (λ ss. ss ++ w ∷ []) h.keys_are ∙ append_assoc (independents_of r.signature) h.derivatives (w ∷ []);
    rising = subst (IsRising (ranking_cmp r)) (regroup h.derivatives rest w) h.rising;
    proper = subst (AllOf (λ s. is_derivative s ≡ true)) (regroup h.derivatives rest w) h.proper;
  }

-- ---- one symbol after the other
module _ (g : Setting) (st : State) (at : Symbol → Fraction) (symbols : List Symbol) (k : ℕ) (d : Symbol) (jet : Values) (whole_is : Result Values JetFault) (rest : with_values g st at jet (drop k symbols) ≡ whole_is) where
  module _ (inside : k < length symbols) where
    abbrev w : Symbol
    w = slice_index_or symbols k d

    abbrev one : Result Values JetFault
    one = with_value g at jet (slice_index_or symbols k d) (leading_to g.symbols (slice_index_or symbols k d) 1 st.equations)

    in_turn : with_values g st at jet (drop k symbols) ≡ one >>= (λ more. with_values g st at more (drop (k + 1) symbols))
    in_turn = ap (with_values g st at jet) (drop_here k symbols d inside)

    pub symbol_stops : (e : JetFault) → IsFault e one → IsFault e whole_is
    symbol_stops e (inl h) = inl h
    symbol_stops e (inr h) = inr (sym rest ∙ in_turn ∙ ap (λ x. x >>= (λ more. with_values g st at more (drop (k + 1) symbols))) h)

    pub symbol_passes : (more : Values) → one ≡ Ok more → with_values g st at more (drop (k + 1) symbols) ≡ whole_is
    symbol_passes more h = sym (in_turn ∙ ap (λ x. x >>= (λ more. with_values g st at more (drop (k + 1) symbols))) h) ∙ rest

  pub symbols_end : length symbols ≤ k → whole_is ≡ Ok jet
  symbols_end h = sym rest ∙ ap (with_values g st at jet) (drop_end k symbols h)

-- ---- the value of a symbol, in a book that was added to
module _ (old new : BookValue) (kept : IsKept old new) (known : Values) (ps : List ℕ) (live : LiveAll old ps) (w : Symbol) where
  -- it is what it was in the book before
  pub value_later : (xs jet : Values) (es : List ℕ) → xs ≡ jet → es ≡ ps
      → with_value (setting_of new.ranking) (value_in (symbols_under new.ranking) known) xs w (leading_to (symbols_under new.ranking) w 1 (polynomials new es))
      ≡ with_value (setting_of old.ranking) (value_in (symbols_under old.ranking) known) jet w (leading_to (symbols_under old.ranking) w 1 (polynomials old ps))
  value_later xs jet es values members =
      ap (λ (r : RankingValue). with_value (setting_of r) (value_in (symbols_under r) known) xs w (leading_to (symbols_under r) w 1 (polynomials new es))) kept.ranking
      ∙ ap₂ (λ (ys : Values) (qs : Polynomials). with_value (setting_of old.ranking) (value_in (symbols_under old.ranking) known) ys w (leading_to (symbols_under old.ranking) w 1 qs)) values
      (ap (λ (qs : List ℕ). polynomials new qs) members ∙ kept_polynomials old new kept ps live)

-- ---- answers by cases
pub each_ok : {A : Type 0} (y : Result A JetFault) (P : A → Type 0) → ((v : A) → y ≡ Ok v → P v) → IfOk y P
each_ok (Ok v) P f = f v refl
each_ok (Err e) P f = tt

pub each_err : {A : Type 0} (y : Result A JetFault) (P : JetFault → Type 0) → ((e : JetFault) → y ≡ Err e → P e) → IfErr y P
each_err (Ok v) P f = tt
each_err (Err e) P f = f e refl

pub on_ok_from : {A : Type 0} (y : Result A JetFault) (P : Type 0) → P → OnOk y P
on_ok_from (Ok v) P h = h
on_ok_from (Err e) P h = tt

-- ---- the equation that fixes w
module _ (book : BookValue) (is_book : IsBook book) (equations : List ℕ) (live : LiveAll book equations) (w : Symbol) (belongs : BelongsTo book.ranking.signature w) (x : Fixing) (led : IsLeading (symbols_under book.ranking) w (polynomials book equations) x) where
  pub index_inside : x.index < length equations
  index_inside = let l = polynomials_length book equations in let h = led.inside in omega arith

  abbrev divisor : Polynomial Symbol
  divisor = slice_index_or (polynomials book equations) x.index []

  pub divisor_is : divisor ≡ polynomial book (slice_index_or equations x.index 0)
  divisor_is = polynomial_here book equations x.index 0 index_inside

  found : Leads book.ranking w 1 (polynomials book equations) (record { place = suc x.index; divisor = slice_index_or (polynomials book equations) x.index []; top = led.top; operator = x.operator })
  found = found_leads book.ranking w 1 (polynomials book equations) (record { place = suc x.index; divisor = slice_index_or (polynomials book equations) x.index []; top = led.top; operator = x.operator }) led.leading

  pub proper_operator : is_proper x.operator ≡ true
  proper_operator = found.proper

  pub operator_in : IsOperatorOf book.ranking.signature.independents x.operator
  operator_in =
      let r = book.ranking in
      let in_book = subst (PolynomialIn (BelongsTo r.signature)) (sym divisor_is) (is_book.each (slice_index_or equations x.index 0) [] (live x.index 0 index_inside)).belongs in
      let l_in = leader_belongs r divisor led.top in_book led.leads in
      let k = quotient_leads w led.top x.operator (four r w belongs) (four r led.top l_in) found.quotient_is in
      quotient_is_operator r.signature w led.top x.operator belongs l_in k.1 (leader_is_one r divisor led.top led.leads, sym k.0)

  -- its derivative is made in a book, and solved
  module _ (new : BookValue) (kept : IsKept book new) (known values : Values) (separants : List Fraction) (are : AreSeparants (symbols_under book.ranking) (value_in (symbols_under book.ranking) known) (polynomials book equations) separants)
      (q : ℕ) (gives : Gives new (Ok q) (operator_answer (setting_of book.ranking) x.operator (polynomial book (slice_index_or equations x.index 0)))) (s : Fraction) (there : s ≡ slice_index_or separants x.index s)
      (y : Result Fraction JetFault) (is : y ≡ solution (symbols_under new.ranking) values w s (polynomial new q)) where
    -- what leads to w
    abbrev lead : Leading
    lead = record { place = suc x.index; divisor = slice_index_or (polynomials book equations) x.index []; top = led.top; operator = x.operator }

    -- the values with that of w
    abbrev answer : Result Values JetFault
    answer = with_value (setting_of book.ranking) (value_in (symbols_under book.ranking) known) values w (leading_to (symbols_under book.ranking) w 1 (polynomials book equations))

    -- the derivative is the one that the definition takes
    made : operator_answer (setting_of book.ranking) x.operator divisor ≡ Ok (polynomial new q)
    made = ap (operator_answer (setting_of book.ranking) x.operator) divisor_is ∙ given_polynomial new q (operator_answer (setting_of book.ranking) x.operator (polynomial book (slice_index_or equations x.index 0))) gives

    -- the separant's value
    value : value_from (value_in (symbols_under book.ranking) known) (separant (ranking_cmp book.ranking) led.top divisor) (whole (pos 0)) ≡ Some s
    value = are.values x.index led.top s led.inside led.leads ∙ ap (λ v. Some v) (sym there)

    -- what a call solves is what the definition solves
    solved_here : y ≡ solution (symbols_under book.ranking) values w s (polynomial new q)
    solved_here = is ∙ ap (λ (r : RankingValue). solution (symbols_under r) values w s (polynomial new q)) kept.ranking

    -- the value
    pub next_passes : IfOk y (λ v. answer ≡ Ok (values ++ (w, v) ∷ []))
    next_passes = each_ok y (λ v. answer ≡ Ok (values ++ (w, v) ∷ [])) (λ v e. fixed_passes (setting_of book.ranking) (value_in (symbols_under book.ranking) known) values w (leading_to (symbols_under book.ranking) w 1 (polynomials book equations)) lead led.leading (polynomial new q) made s value y solved_here v e)

    -- or why there is none
    pub next_fails : IfErr y (λ e. IsFault e answer)
    next_fails = each_err y (λ e. IsFault e answer) (λ e h. fixed_fails (setting_of book.ranking) (value_in (symbols_under book.ranking) known) values w (leading_to (symbols_under book.ranking) w 1 (polynomials book equations)) lead led.leading (polynomial new q) made s value y solved_here e h)
