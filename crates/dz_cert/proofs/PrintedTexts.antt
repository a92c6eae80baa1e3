-- Canonical texts of polynomials have one byte or more, each from 32 to 126.
use Rattle.std.proofs.Common.{◌≡◌, All, ℕ, zero, suc, ◌+◌, ◌-◌, ◌<◌, ◌≤◌, ◌^◌, ◌%◌, ◌==◌, nat_lt, true, cond, List, [], ◌∷◌, ◌++◌, length, map, refl, arith, slice_index_or, pos, int_lt, unsigned_abs}
use Rattle.std.specs.Prelude.{codes}
use Rattle.std.specs.Fmt.{decimal}
use Rattle.std.specs.List.{list_all}
use Rattle.std.proofs.lemmas.Bool.Decides.{nat_tests}
use Rattle.std.proofs.lemmas.Fmt.{decimal_by_steps_wide}
use Rattle.std.proofs.lemmas.List.{length-append}
use Rattle.std.proofs.lemmas.List.Elements.{All-head, All-tail}
use Rattle.dz_algebra.specs.Monomial.{Monomial}
use Rattle.dz_algebra.specs.Polynomial.{Polynomial}
use Rattle.dz_monomials.specs.Lists.{AllOf}
use Rattle.dz_diff.specs.State.{State}
use Rattle.dz_rank.specs.Rankings.{RankingValue}
use Rattle.dz_rank.specs.Symbols.{BelongsTo}
use Rattle.dz_rank.specs.declared.symbols.Symbol.{Symbol}
use Rattle.dz_rank.specs.declared.symbols.Symbol.TheVariants.{Independent, Derivative}
use Rattle.dz_syntax.specs.Expressions.{most_literal}
use Rattle.dz_syntax.specs.Names.{Declared, IsDeclared, IsName, begins_with_letter, signature_of}
use Rattle.dz_syntax.specs.Tokens.{is_name_byte}
use Rattle.dz_monomials.specs.Keeping.{IsKeepable}
use Rattle.dz_form.proofs.FitPowers.{keepable_writable}
use Rattle.dz_form.specs.Texts.{IsReadablePower, IsReadableTerm, IsWritable, is_identity, joined, more_terms_text, name_numbered, number_text, polynomial_text, power_text, powers_text, symbol_text, term_text, derivations_text}
use Rattle.dz_move.specs.Standing.{IsStateOver}
use Rattle.dz_cert.specs.Documents.{AreTexts, canonical_texts, is_text, is_text_byte}
use Rattle.dz_cert.proofs.Found.{and_true}
use Rattle.dz_cert.proofs.PassedTexts.{AllPass, IsPassed, decimal_passes, either_passes, joined_passes, pass-append, symbol_passes}

-- ---- bytes
-- a byte of a name may stand in a text
name_byte : (b : ℕ) → is_name_byte b ≡ true → is_text_byte b ≡ true
name_byte b e = grind (arith, nat_tests)

-- and so may a digit
digit_byte : (d : ℕ) → d < 10 → is_text_byte (48 + d) ≡ true
digit_byte d lt = grind (arith, nat_tests)

-- and what symbols are made of
passed : IsPassed is_text_byte
passed = record { name = name_byte; digit = digit_byte; comma = refl; minus = refl; opening = refl; closing = refl }

module _ (names : Declared) (d : IsDeclared names) where
  -- a power
  power_prints : (s : Symbol) (e : ℕ) → list_all is_text_byte (power_text names s e) ≡ true
  power_prints s e =
      pass-append is_text_byte (symbol_text names s) (cond (e == 1) [] (codes "^" ++ decimal e)) (symbol_passes is_text_byte passed names d s)
      (either_passes is_text_byte (e == 1) [] (codes "^" ++ decimal e) refl (pass-append is_text_byte (codes "^") (decimal e) refl (decimal_passes is_text_byte digit_byte e)))

  -- the powers of a monomial, one by one
  each_prints : (m : Monomial Symbol) → AllPass is_text_byte (map (λ p. power_text names p.0 p.1) m)
  each_prints [] = tt
  each_prints (p ∷ m) = (power_prints p.0 p.1, each_prints m)

  -- a term
  term_prints : (m : Monomial Symbol) (n : ℕ) → list_all is_text_byte (term_text names m n) ≡ true
  term_prints [] n = decimal_passes is_text_byte digit_byte n
  term_prints (p ∷ m) n =
      pass-append is_text_byte (number_text n) (powers_text names (p ∷ m))
      (either_passes is_text_byte (n == 1) [] (decimal n ++ codes "*") refl (pass-append is_text_byte (decimal n) (codes "*") (decimal_passes is_text_byte digit_byte n) refl))
      (joined_passes is_text_byte (codes "*") (map (λ p. power_text names p.0 p.1) (p ∷ m)) refl (each_prints (p ∷ m)))

  -- later terms
  more_print : (p : Polynomial Symbol) → list_all is_text_byte (more_terms_text names p) ≡ true
  more_print [] = refl
  more_print (t ∷ p) =
      let sign = cond (int_lt t.1 (pos 0)) (codes " - ") (codes " + ") in
      let term = term_text names t.0 (unsigned_abs t.1) in
      pass-append is_text_byte (sign ++ term) (more_terms_text names p) (pass-append is_text_byte sign term (either_passes is_text_byte (int_lt t.1 (pos 0)) (codes " - ") (codes " + ") refl refl) (term_prints t.0 (unsigned_abs t.1))) (more_print p)

  -- a polynomial
  polynomial_prints : (p : Polynomial Symbol) → list_all is_text_byte (polynomial_text names p) ≡ true
  unfolding polynomial_text
  polynomial_prints [] = refl
  polynomial_prints (t ∷ p) =
      let sign = cond (int_lt t.1 (pos 0)) (codes "-") [] in
      let term = term_text names t.0 (unsigned_abs t.1) in
      pass-append is_text_byte (sign ++ term) (more_terms_text names p) (pass-append is_text_byte sign term (either_passes is_text_byte (int_lt t.1 (pos 0)) (codes "-") [] refl refl) (term_prints t.0 (unsigned_abs t.1))) (more_print p)

-- ---- lengths
-- a text behind another
behind_some : (a b : List ℕ) → 0 < length b → 0 < length (a ++ b)
behind_some a b some = rw length-append (omega arith)

-- a text before another
before_some : (a b : List ℕ) → 0 < length a → 0 < length (a ++ b)
before_some a b some = rw length-append (omega arith)

-- a decimal text
decimal_some : (n : ℕ) → n < 10 ^ 64 → 0 < length (decimal n)
decimal_some = decimal_by_steps_wide (λ n ds. 0 < length ds) (λ n lt. omega arith) (λ n ds le some. before_some ds ((48 + n % 10) ∷ []) some)

-- a name
name_some : (texts : List (List ℕ)) (i : ℕ) → i < length texts → All (λ name. IsName name) texts → 0 < length (slice_index_or texts i [])
name_some [] i less all = absurd (omega arith)
name_some (text ∷ texts) zero less all = by_first text (All-head (λ (name : List ℕ). IsName name) text texts all).first
  where
    by_first : (t : List ℕ) → begins_with_letter t ≡ true → 0 < length t
    by_first [] e = cc
    by_first (b ∷ t) e = omega arith
name_some (text ∷ texts) (suc i) less all = name_some texts i (omega arith) (All-tail (λ (name : List ℕ). IsName name) text texts all)

-- the dependent with a number is one of the names
within_names : (n all u : ℕ) → n ≤ all → u < all - n → n + u < all
within_names n all u le lt = omega arith

module _ (names : Declared) (d : IsDeclared names) where
  -- a symbol of the names
  symbol_some : (s : Symbol) → BelongsTo (signature_of names) s → 0 < length (symbol_text names s)
  unfolding symbol_text
  symbol_some (Independent i) of = let most = d.independents_are in name_some names.all i (omega arith) d.are_names
  symbol_some (Derivative u o) of =
      before_some (name_numbered names (names.independents + u)) (cond (is_identity o) [] (codes "[" ++ derivations_text names o ++ codes "]"))
      (name_some names.all (names.independents + u) (within_names names.independents (length names.all) u d.independents_are of.0) d.are_names)

  -- a power
  power_some : (s : Symbol) (e : ℕ) → BelongsTo (signature_of names) s → 0 < length (power_text names s e)
  power_some s e of = before_some (symbol_text names s) (cond (e == 1) [] (codes "^" ++ decimal e)) (symbol_some s of)

  -- powers, of which there is one
  joined_some : (text : List ℕ) (texts : List (List ℕ)) → 0 < length text → 0 < length (joined (codes "*") (text ∷ texts))
  joined_some text [] some = some
  joined_some text (next ∷ texts) some = before_some (text ++ codes "*") (joined (codes "*") (next ∷ texts)) (before_some text (codes "*") some)

  -- a term
  term_some : (m : Monomial Symbol) (n : ℕ) → All (λ p. IsReadablePower names p) m → n ≤ most_literal → 0 < length (term_text names m n)
  term_some [] n all most = decimal_some n (omega arith)
  term_some (p ∷ m) n all most =
      behind_some (number_text n) (powers_text names (p ∷ m))
      (joined_some (power_text names p.0 p.1) (map (λ p. power_text names p.0 p.1) m) (power_some p.0 p.1 (All-head (λ p. IsReadablePower names p) p m all).symbol))

  -- a polynomial
  polynomial_some : (p : Polynomial Symbol) → IsWritable names p → 0 < length (polynomial_text names p)
  unfolding polynomial_text
  polynomial_some [] w = omega arith
  polynomial_some (t ∷ p) w =
      let sign = cond (int_lt t.1 (pos 0)) (codes "-") [] in
      let term = term_text names t.0 (unsigned_abs t.1) in
      let first = All-head (λ t. IsReadableTerm names t) t p w in
      before_some (sign ++ term) (more_terms_text names p) (behind_some sign term (term_some t.0 (unsigned_abs t.1) first.powers first.coefficient))

  -- ---- states
  module _ (r : RankingValue) (same : signature_of names ≡ r.signature) where
    -- a polynomial that may stand in a book
    is_text-polynomial : (p : Polynomial Symbol) → IsKeepable r p → is_text (polynomial_text names p) ≡ true
    is_text-polynomial p h =
        let some = polynomial_some p (keepable_writable names r p same h) in
        let less : nat_lt 0 (length (polynomial_text names p)) ≡ true = grind (arith, nat_tests) in
        and_true (nat_lt 0 (length (polynomial_text names p))) (list_all is_text_byte (polynomial_text names p)) less (polynomial_prints names d p)

    -- and several
    are_texts : (ps : List (Polynomial Symbol)) → AllOf (IsKeepable r) ps → list_all is_text (map (λ p. polynomial_text names p) ps) ≡ true
    are_texts [] all = refl
    are_texts (p ∷ ps) all = and_true (is_text (polynomial_text names p)) (list_all is_text (map (λ p. polynomial_text names p) ps)) (is_text-polynomial p all.0) (are_texts ps all.1)

    -- the canonical texts of a state over the ranking are texts of members
    pub canonical_are_texts : (s : State) → IsStateOver r s → AreTexts (canonical_texts names s)
    canonical_are_texts s over = record { equations = are_texts s.equations over.stands.equations_keepable; inequations = are_texts s.inequations over.stands.inequations_keepable }
