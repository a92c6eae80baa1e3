-- The canonical text of a polynomial is an item.
use Rattle.std.proofs.Common.{◌≡◌, inl, inr, ℕ, suc, ◌<◌, ◌≤◌, ◌^◌, length, map, List, [], ◌∷◌, ◌++◌, Bool, true, false, All, refl, sym, ap, subst, ◌∙◌, arith, append-nil, append_assoc}
use Rattle.std.specs.Prelude.{cond, ◌==◌, codes, pos, int_lt, unsigned_abs}
use Rattle.std.specs.Fmt.{decimal}
use Rattle.std.proofs.lemmas.Fmt.{decimal_digit}
use Rattle.std.proofs.lemmas.List.Elements.{All-head, All-tail}
use Rattle.dz_algebra.specs.Monomial.{Monomial}
use Rattle.dz_algebra.specs.Polynomial.{Polynomial}
use Rattle.dz_rank.specs.declared.symbols.Symbol.{Symbol}
use Rattle.dz_syntax.specs.declared.expression.Op.{Op}
use Rattle.dz_syntax.specs.declared.expression.Op.TheVariants as ops
use Rattle.dz_syntax.specs.declared.token.Token.TheVariants.{OpenBracket, Caret, Star, Plus, Minus}
use Rattle.dz_syntax.specs.Tokens.{is_name_byte, skip_from, front, behind, bytes_of}
use Rattle.dz_syntax.specs.Names.{Declared, IsDeclared}
use Rattle.dz_syntax.specs.Numbers.{number_from}
use Rattle.dz_syntax.specs.Expressions.{most_literal, most_exponent}
use Rattle.dz_syntax.specs.Grammar.{Grammar, IsNumber, IsAtom, IsPower, IsFactors, IsProduct, IsSums, IsPoly, IsInside}
use Rattle.dz_syntax.specs.Items.{IsItem}
use Rattle.dz_form.specs.Texts.{IsReadablePower, IsReadableTerm, IsWritable, symbol_text, power_text, powers_text, term_text, more_terms_text, polynomial_text}
use Rattle.dz_form.specs.Steps.{power_steps, factor_steps, term_steps, more_terms_steps, polynomial_steps}
use Rattle.dz_form.proofs.TextTokens.{begins, decimal_token, number_from-decimal, caret, star, plus, minus, nothing}
use Rattle.dz_form.proofs.SymbolTexts.{Ends, ends_nil, behind_marks, joined-cons, symbol_read}

-- ---- where a symbol or a number ends

-- before an exponent
ends_caret : (rest : List ℕ) → Ends (codes "^" ++ rest)
ends_caret rest = record { apart = refl; no_bracket = λ e. let no : Caret ≡ OpenBracket = sym (caret rest).token ∙ e in cc }

-- before a factor
ends_star : (rest : List ℕ) → Ends (codes "*" ++ rest)
ends_star rest = record { apart = refl; no_bracket = λ e. let no : Star ≡ OpenBracket = sym (star rest).token ∙ e in cc }

-- before a term that is added
ends_plus : (rest : List ℕ) → Ends (codes " + " ++ rest)
ends_plus rest = record { apart = refl; no_bracket = λ e. let no : Plus ≡ OpenBracket = sym (plus (codes " " ++ rest)).token ∙ e in cc }

-- before a term that is taken away
ends_minus : (rest : List ℕ) → Ends (codes " - " ++ rest)
ends_minus rest = record { apart = refl; no_bracket = λ e. let no : Minus ≡ OpenBracket = sym (minus (codes " " ++ rest)).token ∙ e in cc }

-- ---- numbers

-- the decimal text of a number is read as the number
number_read : (most n : ℕ) (rest : List ℕ) → n ≤ most → n < 10 ^ 64 → begins is_name_byte rest ≡ false → IsNumber most (skip_from false (decimal n ++ rest)) n (skip_from false rest)
number_read most n rest le lt stop =
    let t = decimal_token n rest lt stop in
    record {
      token = ap front t.stands ∙ t.token;
      value = ap (λ (bytes : List ℕ). number_from 0 bytes) (ap bytes_of t.stands ∙ t.bytes_are) ∙ number_from-decimal n lt;
      bound = le;
      end = sym (ap behind t.stands ∙ t.behind_is);
    }

-- an exponent has few digits
exponent_is_short : (n : ℕ) → n ≤ most_exponent → n < 10 ^ 64
exponent_is_short n le = omega arith

-- and so has a coefficient
literal_is_short : (n : ℕ) → n ≤ most_literal → n < 10 ^ 64
literal_is_short n le = omega arith

-- ---- what is written is in the grammar

module _ (names : Declared) (inner : Grammar) (declared : IsDeclared names) where
  -- a number
  number_is : (n : ℕ) (rest : List ℕ) → n ≤ most_literal → begins is_name_byte rest ≡ false → IsPower names inner (skip_from false (decimal n ++ rest)) (ops.Number (pos n) ∷ []) (skip_from false rest)
  number_is n rest le stop = inl (inl (n, number_read most_literal n rest le (literal_is_short n le) stop, refl))

  -- a symbol
  symbol_is : (s : Symbol) (e : ℕ) (rest : List ℕ) → IsReadablePower names (s, e) → Ends rest → IsAtom names inner (skip_from false (symbol_text names s ++ rest)) (ops.Symbol s ∷ []) (skip_from false rest)
  symbol_is s e rest w ends = inr (inl (s, symbol_read names s rest declared w.symbol w.order ends, refl))

  -- a power, by whether its exponent is one
  power_if : (s : Symbol) (e : ℕ) (one : Bool) (rest : List ℕ) → IsReadablePower names (s, e) → Ends rest
      → IsPower names inner (skip_from false ((symbol_text names s ++ cond one [] (codes "^" ++ decimal e)) ++ rest)) (ops.Symbol s ∷ cond one [] (ops.Power e ∷ [])) (skip_from false rest)
  power_if s e true rest w ends =
      subst (λ (text : List ℕ). IsPower names inner (skip_from false (text ++ rest)) (ops.Symbol s ∷ []) (skip_from false rest)) (sym (append-nil (symbol_text names s))) (inl (symbol_is s e rest w ends))
  power_if s e false rest w ends =
      let digits = decimal e ++ rest in
      let mark = caret digits in
      let number = number_read most_exponent e rest w.exponent (exponent_is_short e w.exponent) ends.apart in
      let exponent : IsNumber most_exponent (behind (codes "^" ++ digits)) e (skip_from false rest) = subst (λ (text : List ℕ). IsNumber most_exponent text e (skip_from false rest)) (sym mark.behind_is) number in
      subst (λ (text : List ℕ). IsPower names inner (skip_from false text) (ops.Symbol s ∷ ops.Power e ∷ []) (skip_from false rest)) (sym (append_assoc (symbol_text names s) (codes "^" ++ decimal e) rest))
      (inr (ops.Symbol s ∷ [], codes "^" ++ digits, e, symbol_is s e (codes "^" ++ digits) w (ends_caret digits), mark.token, exponent, refl))

  -- a power
  power_is : (p : Symbol × ℕ) (rest : List ℕ) → IsReadablePower names p → Ends rest → IsPower names inner (skip_from false (power_text names p.0 p.1 ++ rest)) (power_steps p.0 p.1) (skip_from false rest)
  power_is p rest w ends = power_if p.0 p.1 (p.1 == 1) rest w ends

  -- the texts of powers
  abbrev power_texts : Monomial Symbol → List (List ℕ)
  power_texts m = map (λ p. power_text names p.0 p.1) m

  -- a power ends before its factors
  factors_end : (m : Monomial Symbol) (rest : List ℕ) → Ends rest → Ends (behind_marks (codes "*") (power_texts m) ++ rest)
  factors_end [] rest ends = ends
  factors_end (p ∷ m) rest ends = ends_star ((power_text names p.0 p.1 ++ behind_marks (codes "*") (power_texts m)) ++ rest)

  -- factors
  factors_are : (m : Monomial Symbol) (rest : List ℕ) → All (λ p. IsReadablePower names p) m → Ends rest
      → IsFactors names inner (length m) (skip_from false (behind_marks (codes "*") (power_texts m) ++ rest)) (factor_steps m) (skip_from false rest)
  factors_are [] rest w ends = (refl, refl)
  factors_are (p ∷ m) rest w ends =
      let first = power_text names p.0 p.1 in
      let others = behind_marks (codes "*") (power_texts m) in
      let mark = star ((first ++ others) ++ rest) in
      let at : behind (codes "*" ++ ((first ++ others) ++ rest)) ≡ skip_from false (first ++ (others ++ rest)) = mark.behind_is ∙ ap (skip_from false) (append_assoc first others rest) in
      let power = power_is p (others ++ rest) (All-head (λ p. IsReadablePower names p) p m w) (factors_end m rest ends) in
      let more = factors_are m rest (All-tail (λ p. IsReadablePower names p) p m w) ends in (
        power_steps p.0 p.1,
        factor_steps m,
        skip_from false (others ++ rest),
        mark.token,
        subst (λ (text : List ℕ). IsPower names inner text (power_steps p.0 p.1) (skip_from false (others ++ rest))) (sym at) power,
        more,
        refl,
      )

  -- the powers of a monomial
  powers_are : (p : Symbol × ℕ) (m : Monomial Symbol) (rest : List ℕ) → All (λ p. IsReadablePower names p) (p ∷ m) → Ends rest
      → IsProduct names inner (skip_from false (powers_text names (p ∷ m) ++ rest)) (power_steps p.0 p.1 ++ factor_steps m) (skip_from false rest)
  powers_are p m rest w ends =
      let first = power_text names p.0 p.1 in
      let others = behind_marks (codes "*") (power_texts m) in
      let text : powers_text names (p ∷ m) ++ rest ≡ first ++ (others ++ rest) = ap (λ (t : List ℕ). t ++ rest) (joined-cons (codes "*") first (power_texts m)) ∙ append_assoc first others rest in
      let power = power_is p (others ++ rest) (All-head (λ p. IsReadablePower names p) p m w) (factors_end m rest ends) in
      let more = factors_are m rest (All-tail (λ p. IsReadablePower names p) p m w) ends in
      subst (λ (text : List ℕ). IsProduct names inner (skip_from false text) (power_steps p.0 p.1 ++ factor_steps m) (skip_from false rest)) (sym text)
      (power_steps p.0 p.1, factor_steps m, skip_from false (others ++ rest), length m, power, more, refl)

  -- a term with powers, by whether its coefficient is one
  term_if : (p : Symbol × ℕ) (m : Monomial Symbol) (n : ℕ) (one : Bool) (rest : List ℕ) → All (λ p. IsReadablePower names p) (p ∷ m) → n ≤ most_literal → Ends rest
      → IsProduct names inner (skip_from false ((cond one [] (decimal n ++ codes "*") ++ powers_text names (p ∷ m)) ++ rest))
      (cond one (power_steps p.0 p.1 ++ factor_steps m) (ops.Number (pos n) ∷ factor_steps (p ∷ m))) (skip_from false rest)
  term_if p m n true rest w le ends = powers_are p m rest w ends
  term_if p m n false rest w le ends =
      let powers = behind_marks (codes "*") (power_texts (p ∷ m)) in
      let text : ((decimal n ++ codes "*") ++ powers_text names (p ∷ m)) ++ rest ≡ decimal n ++ (powers ++ rest) =
      ap (λ (t : List ℕ). ((decimal n ++ codes "*") ++ t) ++ rest) (joined-cons (codes "*") (power_text names p.0 p.1) (power_texts m))
      ∙ ap (λ (t : List ℕ). t ++ rest) (append_assoc (decimal n) (codes "*") (power_text names p.0 p.1 ++ behind_marks (codes "*") (power_texts m)))
      ∙ append_assoc (decimal n) powers rest in
      subst (λ (text : List ℕ). IsProduct names inner (skip_from false text) (ops.Number (pos n) ∷ factor_steps (p ∷ m)) (skip_from false rest)) (sym text)
      (ops.Number (pos n) ∷ [], factor_steps (p ∷ m), skip_from false (powers ++ rest), length (p ∷ m), number_is n (powers ++ rest) le refl, factors_are (p ∷ m) rest w ends, refl)

  -- a term
  term_is : (m : Monomial Symbol) (n : ℕ) (rest : List ℕ) → All (λ p. IsReadablePower names p) m → n ≤ most_literal → Ends rest
      → IsProduct names inner (skip_from false (term_text names m n ++ rest)) (term_steps m n) (skip_from false rest)
  term_is [] n rest w le ends = (ops.Number (pos n) ∷ [], [], skip_from false rest, 0, number_is n rest le ends.apart, (refl, refl), refl)
  term_is (p ∷ m) n rest w le ends = term_if p m n (n == 1) rest w le ends

  -- a term ends before a sign
  signed_ends : (negative : Bool) (text rest : List ℕ) → Ends ((cond negative (codes " - ") (codes " + ") ++ text) ++ rest)
  signed_ends true text rest = ends_minus (text ++ rest)
  signed_ends false text rest = ends_plus (text ++ rest)

  -- and so it does before more terms
  sums_end : (p : Polynomial Symbol) → Ends (more_terms_text names p)
  sums_end [] = ends_nil
  sums_end (t ∷ p) = signed_ends (int_lt t.1 (pos 0)) (term_text names t.0 (unsigned_abs t.1)) (more_terms_text names p)

  -- one more term, with its sign
  sum_if : (negative : Bool) (n : ℕ) (text : List ℕ) (steps : List Op) (rest : List ℕ) (others : List Op)
      → IsProduct names inner (skip_from false (text ++ rest)) steps (skip_from false rest) → IsSums names inner n (skip_from false rest) others []
      → IsSums names inner (suc n) (skip_from false ((cond negative (codes " - ") (codes " + ") ++ text) ++ rest)) (steps ++ (cond negative ops.Sub ops.Add ∷ others)) []
  sum_if true n text steps rest others term more =
      let mark = minus (codes " " ++ (text ++ rest)) in
      (steps, others, skip_from false rest, ops.Sub, inr (mark.token, refl), subst (λ (at : List ℕ). IsProduct names inner at steps (skip_from false rest)) (sym mark.behind_is) term, more, refl)
  sum_if false n text steps rest others term more =
      let mark = plus (codes " " ++ (text ++ rest)) in
      (steps, others, skip_from false rest, ops.Add, inl (mark.token, refl), subst (λ (at : List ℕ). IsProduct names inner at steps (skip_from false rest)) (sym mark.behind_is) term, more, refl)

  -- more terms
  sums_are : (p : Polynomial Symbol) → IsWritable names p → IsSums names inner (length p) (skip_from false (more_terms_text names p)) (more_terms_steps p) []
  sums_are [] w = (refl, refl)
  sums_are (t ∷ p) w =
      let head = All-head (λ t. IsReadableTerm names t) t p w in
      let rest = more_terms_text names p in
      let term = term_is t.0 (unsigned_abs t.1) rest head.powers head.coefficient (sums_end p) in
      sum_if (int_lt t.1 (pos 0)) (length p) (term_text names t.0 (unsigned_abs t.1)) (term_steps t.0 (unsigned_abs t.1)) rest (more_terms_steps p) term (sums_are p (All-tail (λ t. IsReadableTerm names t) t p w))

  -- the first term, with a sign where it is negative
  poly_if : (negative : Bool) (n : ℕ) (text : List ℕ) (steps : List Op) (rest : List ℕ) (others : List Op)
      → IsProduct names inner (skip_from false (text ++ rest)) steps (skip_from false rest) → IsSums names inner n (skip_from false rest) others []
      → IsPoly names inner (skip_from false ((cond negative (codes "-") [] ++ text) ++ rest)) (steps ++ (cond negative (ops.Negate ∷ []) [] ++ others)) []
  poly_if true n text steps rest others term more =
      let mark = minus (text ++ rest) in
      let negated = subst (λ (at : List ℕ). IsProduct names inner at steps (skip_from false rest)) (sym mark.behind_is) term in
      (steps ++ ops.Negate ∷ [], others, skip_from false rest, n, inr (inr (steps, mark.token, negated, refl)), more, sym (append_assoc steps (ops.Negate ∷ []) others))
  poly_if false n text steps rest others term more = (steps, others, skip_from false rest, n, inl term, more, refl)

  -- the whole polynomial
  polynomial_is : (p : Polynomial Symbol) → IsWritable names p → IsPoly names inner (skip_from false (polynomial_text names p)) (polynomial_steps p) []
  unfolding polynomial_text polynomial_steps
  polynomial_is [] w =
      let zero_is = subst (λ (text : List ℕ). IsPower names inner (skip_from false text) (ops.Number (pos 0) ∷ []) []) (append-nil (decimal 0) ∙ decimal_digit 0 (omega arith)) (number_is 0 [] (omega arith) refl) in
      (ops.Number (pos 0) ∷ [], [], [], 0, inl (ops.Number (pos 0) ∷ [], [], [], 0, zero_is, (refl, refl), refl), (refl, refl), refl)
  polynomial_is (t ∷ p) w =
      let head = All-head (λ t. IsReadableTerm names t) t p w in
      let rest = more_terms_text names p in
      let term = term_is t.0 (unsigned_abs t.1) rest head.powers head.coefficient (sums_end p) in
      poly_if (int_lt t.1 (pos 0)) (length p) (term_text names t.0 (unsigned_abs t.1)) (term_steps t.0 (unsigned_abs t.1)) rest (more_terms_steps p) term (sums_are p (All-tail (λ t. IsReadableTerm names t) t p w))

-- the canonical text of a polynomial is read as its steps
pub text_is_item : (names : Declared) (p : Polynomial Symbol) → IsDeclared names → IsWritable names p → IsItem names (polynomial_text names p) (polynomial_steps p)
text_is_item names p declared writable = record { end = []; poly = polynomial_is names (IsInside names 64) declared p writable; nothing = nothing }
