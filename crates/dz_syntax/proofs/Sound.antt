-- What is read is in the grammar.
use Rattle.std.proofs.Common.{◌≡◌, ◌⊎◌, ℕ, zero, suc, ◌≤◌, List, [], ◌∷◌, ◌++◌, length, Result, Ok, Err, Option, Some, None, Bool, true, false, cond, pos, refl, sym, ap, subst, ◌∙◌, append_assoc, append-nil, arith, inl, inr, leb}
use Rattle.std.proofs.lemmas.Bool.Decides.{nat_tests}
use Rattle.dz_algebra.proofs.Outcomes.{bind_ok}
use Rattle.dz_syntax.specs.declared.token.Token.{Token}
use Rattle.dz_syntax.specs.declared.token.Token.TheVariants.{Name, Number, OpenParenthesis, CloseParenthesis, Plus, Minus, Star, Caret}
use Rattle.dz_syntax.specs.declared.fault.Fault.{Fault}
use Rattle.dz_syntax.specs.declared.fault.SyntaxKind.{SyntaxKind}
use Rattle.dz_syntax.specs.declared.fault.SyntaxKind.TheVariants.{Literal, Exponent}
use Rattle.dz_syntax.specs.declared.expression.Op.{Op}
use Rattle.dz_syntax.specs.declared.expression.Op.TheVariants as ops
use Rattle.dz_syntax.specs.Tokens.{front, behind, bytes_of}
use Rattle.dz_syntax.specs.Numbers.{number_from, at_most}
use Rattle.dz_syntax.specs.Names.{Declared}
use Rattle.dz_syntax.specs.Atoms.{literal_at, literal_from, number_or, symbol_at}
use Rattle.dz_algebra.specs.Outcome.{◌>>=◌}
use Rattle.dz_syntax.specs.Expressions.{State, Reader, most_literal, most_exponent, past, put, number_op, symbol_op, exponent_at, atom_from, atom_with, power_from, power_with, factors, factors_from, product_with, sums, sums_from, first_from, poly_with, closed_from, inside}
use Rattle.dz_syntax.specs.Grammar.{Grammar, IsNumber, IsAtom, IsPower, IsFactors, IsProduct, IsSums, IsFirst, IsPoly, IsInside}

abbrev done : {A : Type 0} → A → Result A Fault
done x = Ok x

pub ok_is : {A : Type 0} (x y : A) → done x ≡ done y → x ≡ y
ok_is x y e = cc

-- what a reader added to the steps, and the text that it left
pub record Added (g : Grammar) (s s' : State) : Type 0 where
  pub steps : List Op
  pub out : s'.out ≡ s.out ++ steps
  pub is : g s.text steps s'.text

-- what the reader reads is in the grammar
abbrev pub IsSound : Grammar → Reader → Type 0
IsSound g r = (s s' : State) → r s ≡ Ok s' → Added g s s'

some_if : (b : Bool) (n m : ℕ) → cond b (Some n) None ≡ Some m → (b ≡ true) × (n ≡ m)
some_if true n m e = (refl, cc)
some_if false n m e = absurd cc

at_most_ok : (most n m : ℕ) → at_most most n ≡ Some m → (n ≡ m) × (m ≤ most)
at_most_ok most n m e = let h = some_if (leb n most) n m e in (h.1, let t = h.0 in let k = h.1 in grind (arith, nat_tests))

number_or_ok : (kind : SyntaxKind) (text : List ℕ) (o : Option ℕ) (x : ℕ × List ℕ) → number_or kind text o ≡ Ok x → (o ≡ Some x.0) × (x.1 ≡ behind text)
number_or_ok kind text None x e = absurd cc
number_or_ok kind text (Some n) x e = let h : (n, behind text) ≡ x = ok_is _ x e in (ap (λ (p : ℕ × List ℕ). Some p.0) h, sym (ap (λ (p : ℕ × List ℕ). p.1) h))

literal_from_ok : (most : ℕ) (kind : SyntaxKind) (t : Token) (text : List ℕ) (x : ℕ × List ℕ) → front text ≡ t → literal_from most kind t text ≡ Ok x → IsNumber most text x.0 x.1
literal_from_ok most kind Number text x is e =
    let h = number_or_ok kind text (at_most most (number_from 0 (bytes_of text))) x e in
    let v = at_most_ok most (number_from 0 (bytes_of text)) x.0 h.0 in
    record { token = is; value = v.0; bound = v.1; end = h.1 }
literal_from_ok most kind t text x is e = absurd cc

pub literal_ok : (most : ℕ) (kind : SyntaxKind) (text : List ℕ) (x : ℕ × List ℕ) → literal_at most kind text ≡ Ok x → IsNumber most text x.0 x.1
unfolding literal_at
literal_ok most kind text x e = literal_from_ok most kind (front text) text x refl e

module _ (names : Declared) (g : Grammar) (inner : Reader) where
  -- what is read behind a parenthesis is in the grammar
  abbrev pub InnerIsSound : Type 0
  InnerIsSound = (s s' : State) → inner s ≡ Ok s' → Added g s s'

  atom_from_sound : InnerIsSound → (t : Token) (s s' : State) → front s.text ≡ t → atom_from names inner t s ≡ Ok s' → Added (IsAtom names g) s s'
  unfolding number_op symbol_op
  atom_from_sound sound Number s s' is e =
      let b = bind_ok (literal_at most_literal Literal s.text) (λ n. Ok (record { out = s.out ++ ops.Number (pos n.0) ∷ []; text = n.1 })) s' e in
      let made : State = record { out = s.out ++ ops.Number (pos b.0.0) ∷ []; text = b.0.1 } in
      subst (λ (y : State). Added (IsAtom names g) s y) (ok_is made s' b.2) (record {
        steps = ops.Number (pos b.0.0) ∷ [];
        out = refl;
        is = inl (b.0.0, literal_ok most_literal Literal s.text b.0 b.1, refl);
      })
  atom_from_sound sound Name s s' is e =
      let b = bind_ok (symbol_at names s.text) (λ v. Ok (record { out = s.out ++ ops.Symbol v.0 ∷ []; text = v.1 })) s' e in
      let made : State = record { out = s.out ++ ops.Symbol b.0.0 ∷ []; text = b.0.1 } in
      subst (λ (y : State). Added (IsAtom names g) s y) (ok_is made s' b.2) (record {
        steps = ops.Symbol b.0.0 ∷ [];
        out = refl;
        is = inr (inl (b.0.0, b.1, refl));
      })
  atom_from_sound sound OpenParenthesis s s' is e =
      let a = sound s s' e in
      record { steps = a.steps; out = a.out; is = inr (inr (is, a.is)) }
  atom_from_sound sound t s s' is e = absurd cc

  atom_sound : InnerIsSound → IsSound (IsAtom names g) (atom_with names inner)
  unfolding atom_with
  atom_sound sound s s' e = atom_from_sound sound (front s.text) s s' refl e

  power_from_sound : (t : Token) (s m s' : State) → front m.text ≡ t → Added (IsAtom names g) s m → power_from t m ≡ Ok s' → Added (IsPower names g) s s'
  unfolding exponent_at
  power_from_sound Caret s m s' is a e =
      let b = bind_ok (literal_at most_exponent Exponent (behind m.text)) (λ k. Ok (record { out = m.out ++ ops.Power k.0 ∷ []; text = k.1 })) s' e in
      let made : State = record { out = m.out ++ ops.Power b.0.0 ∷ []; text = b.0.1 } in
      subst (λ (y : State). Added (IsPower names g) s y) (ok_is made s' b.2) (record {
        steps = a.steps ++ ops.Power b.0.0 ∷ [];
        out = ap (λ (o : List Op). o ++ ops.Power b.0.0 ∷ []) a.out ∙ append_assoc s.out a.steps (ops.Power b.0.0 ∷ []);
        is = inr (a.steps, m.text, b.0.0, a.is, is, literal_ok most_exponent Exponent (behind m.text) b.0 b.1, refl);
      })
  power_from_sound t s m s' is a e =
      subst (λ (y : State). Added (IsPower names g) s y) (ok_is m s' e) (record { steps = a.steps; out = a.out; is = inl a.is })

  power_sound : InnerIsSound → IsSound (IsPower names g) (power_with names inner)
  unfolding power_with
  power_sound sound s s' e =
      let b = bind_ok (atom_with names inner s) (λ m. power_from (front m.text) m) s' e in
      power_from_sound (front b.0.text) s b.0 s' refl (atom_sound sound s b.0 b.1) b.2

  -- some number of factors more
  pub record AddedFactors (s s' : State) : Type 0 where
    pub count : ℕ
    pub added : Added (IsFactors names g count) s s'

  no_factors : (s s' : State) → done s ≡ Ok s' → AddedFactors s s'
  no_factors s s' e =
      subst (λ (y : State). AddedFactors s y) (ok_is s s' e) (record { count = 0; added = record { steps = []; out = sym (append-nil s.out); is = (refl, refl) } })

  factors_from_sound : InnerIsSound → (more : Reader) → ((s s' : State) → more s ≡ Ok s' → AddedFactors s s')
      → (t : Token) (s s' : State) → front s.text ≡ t → factors_from names more inner t s ≡ Ok s' → AddedFactors s s'
  factors_from_sound sound more more_sound Star s s' is e =
      let b = bind_ok (power_with names inner (past s)) (λ m. more (put ops.Mul m)) s' e in
      let a = power_sound sound (past s) b.0 b.1 in
      let others = more_sound (put ops.Mul b.0) s' b.2 in
      record {
        count = suc others.count;
        added = record {
          steps = a.steps ++ (ops.Mul ∷ others.added.steps);
          out = others.added.out ∙ append_assoc b.0.out (ops.Mul ∷ []) others.added.steps ∙ ap (λ (o : List Op). o ++ (ops.Mul ∷ others.added.steps)) a.out ∙ append_assoc s.out a.steps (ops.Mul ∷ others.added.steps);
          is = (a.steps, others.added.steps, b.0.text, is, a.is, others.added.is, refl);
        };
      }
  factors_from_sound sound more more_sound t s s' is e = no_factors s s' e

  factors_sound : InnerIsSound → (n : ℕ) (s s' : State) → factors names inner n s ≡ Ok s' → AddedFactors s s'
  unfolding factors
  factors_sound sound zero s s' e = no_factors s s' e
  factors_sound sound (suc n) s s' e = factors_from_sound sound (λ s. factors names inner n s) (factors_sound sound n) (front s.text) s s' refl e

  product_sound : InnerIsSound → IsSound (IsProduct names g) (product_with names inner)
  unfolding product_with
  product_sound sound s s' e =
      let b = bind_ok (power_with names inner s) (λ m. factors names inner (length m.text) m) s' e in
      let a = power_sound sound s b.0 b.1 in
      let others = factors_sound sound (length b.0.text) b.0 s' b.2 in
      record {
        steps = a.steps ++ others.added.steps;
        out = others.added.out ∙ ap (λ (o : List Op). o ++ others.added.steps) a.out ∙ append_assoc s.out a.steps others.added.steps;
        is = (a.steps, others.added.steps, b.0.text, others.count, a.is, others.added.is, refl);
      }

  -- some number of terms more
  pub record AddedSums (s s' : State) : Type 0 where
    pub count : ℕ
    pub added : Added (IsSums names g count) s s'

  no_sums : (s s' : State) → done s ≡ Ok s' → AddedSums s s'
  no_sums s s' e =
      subst (λ (y : State). AddedSums s y) (ok_is s s' e) (record { count = 0; added = record { steps = []; out = sym (append-nil s.out); is = (refl, refl) } })

  sum_sound : InnerIsSound → (more : Reader) → ((s s' : State) → more s ≡ Ok s' → AddedSums s s') → (op : Op) (s s' : State)
      → ((front s.text ≡ Plus) × (op ≡ ops.Add)) ⊎ ((front s.text ≡ Minus) × (op ≡ ops.Sub))
      → (product_with names inner (past s) >>= λ m. more (put op m)) ≡ Ok s' → AddedSums s s'
  sum_sound sound more more_sound op s s' sign e =
      let b = bind_ok (product_with names inner (past s)) (λ m. more (put op m)) s' e in
      let a = product_sound sound (past s) b.0 b.1 in
      let others = more_sound (put op b.0) s' b.2 in
      record {
        count = suc others.count;
        added = record {
          steps = a.steps ++ (op ∷ others.added.steps);
          out = others.added.out ∙ append_assoc b.0.out (op ∷ []) others.added.steps ∙ ap (λ (o : List Op). o ++ (op ∷ others.added.steps)) a.out ∙ append_assoc s.out a.steps (op ∷ others.added.steps);
          is = (a.steps, others.added.steps, b.0.text, op, sign, a.is, others.added.is, refl);
        };
      }

  sums_from_sound : InnerIsSound → (more : Reader) → ((s s' : State) → more s ≡ Ok s' → AddedSums s s')
      → (t : Token) (s s' : State) → front s.text ≡ t → sums_from names more inner t s ≡ Ok s' → AddedSums s s'
  sums_from_sound sound more more_sound Plus s s' is e = sum_sound sound more more_sound ops.Add s s' (inl (is, refl)) e
  sums_from_sound sound more more_sound Minus s s' is e = sum_sound sound more more_sound ops.Sub s s' (inr (is, refl)) e
  sums_from_sound sound more more_sound t s s' is e = no_sums s s' e

  sums_sound : InnerIsSound → (n : ℕ) (s s' : State) → sums names inner n s ≡ Ok s' → AddedSums s s'
  unfolding sums
  sums_sound sound zero s s' e = no_sums s s' e
  sums_sound sound (suc n) s s' e = sums_from_sound sound (λ s. sums names inner n s) (sums_sound sound n) (front s.text) s s' refl e

  first_sound : InnerIsSound → (t : Token) (s s' : State) → front s.text ≡ t → first_from names inner t s ≡ Ok s' → Added (IsFirst names g) s s'
  first_sound sound Minus s s' is e =
      let b = bind_ok (product_with names inner (past s)) (λ m. Ok (put ops.Negate m)) s' e in
      let a = product_sound sound (past s) b.0 b.1 in
      subst (λ (y : State). Added (IsFirst names g) s y) (ok_is (put ops.Negate b.0) s' b.2) (record {
        steps = a.steps ++ ops.Negate ∷ [];
        out = ap (λ (o : List Op). o ++ ops.Negate ∷ []) a.out ∙ append_assoc s.out a.steps (ops.Negate ∷ []);
        is = inr (inr (a.steps, is, a.is, refl));
      })
  first_sound sound Plus s s' is e =
      let a = product_sound sound (past s) s' e in
      record { steps = a.steps; out = a.out; is = inr (inl (is, a.is)) }
  first_sound sound t s s' is e =
      let a = product_sound sound s s' e in
      record { steps = a.steps; out = a.out; is = inl a.is }

  pub poly_sound : InnerIsSound → IsSound (IsPoly names g) (poly_with names inner)
  unfolding poly_with
  poly_sound sound s s' e =
      let b = bind_ok (first_from names inner (front s.text) s) (λ m. sums names inner (length m.text) m) s' e in
      let a = first_sound sound (front s.text) s b.0 refl b.1 in
      let others = sums_sound sound (length b.0.text) b.0 s' b.2 in
      record {
        steps = a.steps ++ others.added.steps;
        out = others.added.out ∙ ap (λ (o : List Op). o ++ others.added.steps) a.out ∙ append_assoc s.out a.steps others.added.steps;
        is = (a.steps, others.added.steps, b.0.text, others.count, a.is, others.added.is, refl);
      }

closed_ok : (t : Token) (m s' : State) → front m.text ≡ t → closed_from t m ≡ Ok s' → (front m.text ≡ CloseParenthesis) × (past m ≡ s')
closed_ok CloseParenthesis m s' is e = (is, ok_is _ s' e)
closed_ok t m s' is e = absurd cc

pub inside_sound : (names : Declared) (n : ℕ) (s s' : State) → inside names n s ≡ Ok s' → Added (IsInside names n) s s'
unfolding inside IsInside
inside_sound names zero s s' e = absurd cc
inside_sound names (suc n) s s' e =
    let b = bind_ok (poly_with names (inside names n) (past s)) (λ m. closed_from (front m.text) m) s' e in
    let a = poly_sound names (IsInside names n) (inside names n) (inside_sound names n) (past s) b.0 b.1 in
    let close = closed_ok (front b.0.text) b.0 s' refl b.2 in
    subst (λ (y : State). Added (IsInside names (suc n)) s y) close.1 (record { steps = a.steps; out = a.out; is = (b.0.text, a.is, close.0, refl) })
