-- What stands behind an "e" does not matter to what is read before it.
use Rattle.std.proofs.Common.{◌≡◌, ℕ, suc, ◌+◌, ◌≤◌, ◌<◌, List, [], ◌∷◌, ◌++◌, length, take, drop, Bool, true, false, not, cond, eqb, refl, sym, ap, subst, ◌∙◌, arith}
use Rattle.std.specs.Prelude.{if◌then◌else◌}
use Rattle.std.specs.Char.{is_ascii_digit}
use Rattle.std.proofs.lemmas.List.{length-append, length-drop, take-append-le, drop-append-le}
use Rattle.dz_syntax.specs.declared.token.Token.{Token}
use Rattle.dz_syntax.specs.declared.token.Token.TheVariants.{Number, OpenBracket}
use Rattle.dz_syntax.specs.Tokens.{is_separator, is_letter, is_name_byte, front_len, skip_from, token_of, front, behind, bytes_of, word_or_name, mark_at}
use Rattle.dz_syntax.proofs.NameTokens.{token_of-letter, token_of-digit, token_of-mark}
use Rattle.dz_syntax.proofs.Shorter.{skip_within}

-- a word or a name is no bracket
word_is_no_bracket : (name : List ℕ) → word_or_name name ≡ OpenBracket → ⊥
word_is_no_bracket name e = grind arith

-- two texts that are the same up to an "e", behind which the one has a rest and the other one of its own
abbrev pub AreTwins : List ℕ → List ℕ → List ℕ → List ℕ → Type 0
AreTwins rest other text twin = (before : List ℕ) × (text ≡ before ++ (101 ∷ rest)) × (twin ≡ before ++ (101 ∷ other))

module _ (rest other : List ℕ) where
  -- bytes that pass a test, and end before the "e"
  front_len_same : (test : ℕ → Bool) (before : List ℕ) → front_len test (before ++ (101 ∷ rest)) ≤ length before
      → front_len test (before ++ (101 ∷ other)) ≡ front_len test (before ++ (101 ∷ rest))
  front_len_same test [] le = by_test (test 101) le
    where
      by_test : (c : Bool) → (if c then front_len test rest + 1 else 0) ≤ 0 → (if c then front_len test other + 1 else 0) ≡ (if c then front_len test rest + 1 else 0)
      by_test true le = absurd (omega (arith, le))
      by_test false le = refl
  front_len_same test (b ∷ before) le = by_test (test b) le (λ l. front_len_same test before l)
    where
      by_test : (c : Bool) → (if c then front_len test (before ++ (101 ∷ rest)) + 1 else 0) ≤ suc (length before)
          → (front_len test (before ++ (101 ∷ rest)) ≤ length before → front_len test (before ++ (101 ∷ other)) ≡ front_len test (before ++ (101 ∷ rest)))
          → (if c then front_len test (before ++ (101 ∷ other)) + 1 else 0) ≡ (if c then front_len test (before ++ (101 ∷ rest)) + 1 else 0)
      by_test true le more = ap (λ n. n + 1) (more (omega (arith, le)))
      by_test false le more = refl

  -- so many bytes before the "e"
  take_same : (n : ℕ) (before : List ℕ) → n ≤ length before → take n (before ++ (101 ∷ other)) ≡ take n (before ++ (101 ∷ rest))
  take_same n before le = take-append-le n before (101 ∷ other) le ∙ sym (take-append-le n before (101 ∷ rest) le)

  -- a mark looks at one byte behind it
  mark_same : (b : ℕ) (before : List ℕ) → mark_at b (before ++ (101 ∷ other)) ≡ mark_at b (before ++ (101 ∷ rest))
  mark_same b [] = refl
  mark_same b (c ∷ before) = refl

  -- a token with a first byte before the "e"
  token_by : (b : ℕ) (before : List ℕ) (letter digit : Bool) → is_letter b ≡ letter → is_ascii_digit b ≡ digit
      → (token_of (b ∷ (before ++ (101 ∷ rest)))).1 ≤ suc (length before) → token_of (b ∷ (before ++ (101 ∷ other))) ≡ token_of (b ∷ (before ++ (101 ∷ rest)))
  token_by b before true digit e f le =
      let t = token_of-letter b (before ++ (101 ∷ rest)) e in
      let u = token_of-letter b (before ++ (101 ∷ other)) e in
      let fits : front_len is_name_byte (b ∷ (before ++ (101 ∷ rest))) ≤ suc (length before) = subst (λ (t : Token × ℕ). t.1 ≤ suc (length before)) t le in
      let same = front_len_same is_name_byte (b ∷ before) fits in
      u ∙ ap (λ n. (word_or_name (take n (b ∷ (before ++ (101 ∷ other)))), n)) same
      ∙ ap (λ name. (word_or_name name, front_len is_name_byte (b ∷ (before ++ (101 ∷ rest))))) (take_same (front_len is_name_byte (b ∷ (before ++ (101 ∷ rest)))) (b ∷ before) fits)
      ∙ sym t
  token_by b before false true e f le =
      let t = token_of-digit b (before ++ (101 ∷ rest)) e f in
      let fits : front_len is_ascii_digit (b ∷ (before ++ (101 ∷ rest))) ≤ suc (length before) = subst (λ (t : Token × ℕ). t.1 ≤ suc (length before)) t le in
      token_of-digit b (before ++ (101 ∷ other)) e f ∙ ap (λ n. (Number, n)) (front_len_same is_ascii_digit (b ∷ before) fits) ∙ sym t
  token_by b before false false e f le =
      token_of-mark b (before ++ (101 ∷ other)) e f ∙ mark_same b before ∙ sym (token_of-mark b (before ++ (101 ∷ rest)) e f)

  -- the token at the "e" itself has a byte
  token_there : 0 < (token_of (101 ∷ rest)).1
  token_there =
      let t = token_of-letter 101 rest refl in
      subst (λ (t : Token × ℕ). 0 < t.1) (sym t) (omega arith)

  -- a token that ends before the "e"
  token_same : (before : List ℕ) → (token_of (before ++ (101 ∷ rest))).1 ≤ length before → token_of (before ++ (101 ∷ other)) ≡ token_of (before ++ (101 ∷ rest))
  token_same [] le = let h = token_there in absurd (omega (arith, h, le))
  token_same (b ∷ before) le = token_by b before (is_letter b) (is_ascii_digit b) refl refl le

  -- what is passed over before the "e"
  pub skip_same : (in_comment : Bool) (before : List ℕ) → length rest < length (skip_from in_comment (before ++ (101 ∷ rest)))
      → AreTwins rest other (skip_from in_comment (before ++ (101 ∷ rest))) (skip_from in_comment (before ++ (101 ∷ other)))
  skip_same true [] h = absurd (omega (arith, h, skip_within true rest))
  skip_same false [] h = ([], refl, refl)
  skip_same true (b ∷ before) h = skip_same (not (eqb b 10)) before h
  skip_same false (b ∷ before) h = by_tests (eqb b 35) (is_separator b) h (λ k. skip_same true before k) (λ k. skip_same false before k)
    where
      by_tests : (c d : Bool)
          → length rest < length (cond c (skip_from true (before ++ (101 ∷ rest))) (cond d (skip_from false (before ++ (101 ∷ rest))) (b ∷ (before ++ (101 ∷ rest)))))
          → (length rest < length (skip_from true (before ++ (101 ∷ rest))) → AreTwins rest other (skip_from true (before ++ (101 ∷ rest))) (skip_from true (before ++ (101 ∷ other))))
          → (length rest < length (skip_from false (before ++ (101 ∷ rest))) → AreTwins rest other (skip_from false (before ++ (101 ∷ rest))) (skip_from false (before ++ (101 ∷ other))))
          → AreTwins rest other (cond c (skip_from true (before ++ (101 ∷ rest))) (cond d (skip_from false (before ++ (101 ∷ rest))) (b ∷ (before ++ (101 ∷ rest)))))
          (cond c (skip_from true (before ++ (101 ∷ other))) (cond d (skip_from false (before ++ (101 ∷ other))) (b ∷ (before ++ (101 ∷ other)))))
      by_tests true d k commented passed = commented k
      by_tests false true k commented passed = passed k
      by_tests false false k commented passed = (b ∷ before, refl, refl)

  -- the text behind a token
  behind_by : (n : ℕ) (before : List ℕ) → n ≤ length before → length rest < length (skip_from false (drop n (before ++ (101 ∷ rest))))
      → AreTwins rest other (skip_from false (drop n (before ++ (101 ∷ rest)))) (skip_from false (drop n (before ++ (101 ∷ other))))
  behind_by n before le h =
      let d = drop-append-le n before (101 ∷ rest) le in
      let e = drop-append-le n before (101 ∷ other) le in
      subst (λ text. AreTwins rest other (skip_from false text) (skip_from false (drop n (before ++ (101 ∷ other))))) (sym d)
      (subst (λ twin. AreTwins rest other (skip_from false (drop n before ++ (101 ∷ rest))) (skip_from false twin)) (sym e)
      (skip_same false (drop n before) (subst (λ text. length rest < length (skip_from false text)) d h)))

  -- a token of a text, and what stands behind it, where that goes as far as the "e"
  past_before : (before mid : List ℕ) → mid ≡ behind (before ++ (101 ∷ rest)) → length rest < length mid
      → (front (before ++ (101 ∷ other)) ≡ front (before ++ (101 ∷ rest))) × (bytes_of (before ++ (101 ∷ other)) ≡ bytes_of (before ++ (101 ∷ rest)))
      × AreTwins rest other mid (behind (before ++ (101 ∷ other)))
  unfolding front behind bytes_of
  past_before before mid is h =
      let n = (token_of (before ++ (101 ∷ rest))).1 in
      let there : length rest < length (skip_from false (drop n (before ++ (101 ∷ rest)))) = subst (λ mid. length rest < length mid) is h in
      let fits : n ≤ length before = omega (arith, there, skip_within false (drop n (before ++ (101 ∷ rest))), length-drop n (before ++ (101 ∷ rest)), length-append before (101 ∷ rest)) in
      let same = token_same before fits in (
        ap (λ t. t.0) same,
        ap (λ t. take t.1 (before ++ (101 ∷ other))) same ∙ take_same n before fits,
        subst (λ text. AreTwins rest other text (skip_from false (drop (token_of (before ++ (101 ∷ other))).1 (before ++ (101 ∷ other))))) (sym is)
            (subst (λ k. AreTwins rest other (skip_from false (drop n (before ++ (101 ∷ rest)))) (skip_from false (drop k (before ++ (101 ∷ other))))) (sym (ap (λ t. t.1) same)) (behind_by n before fits there)),
      )

  -- the same of twins
  pub past_same : (text twin mid : List ℕ) → AreTwins rest other text twin → mid ≡ behind text → length rest < length mid
      → (front twin ≡ front text) × (bytes_of twin ≡ bytes_of text) × AreTwins rest other mid (behind twin)
  past_same text twin mid w is h =
      let s = past_before w.0 mid (is ∙ ap behind w.1) h in
      (ap front w.2 ∙ s.0 ∙ ap front (sym w.1), ap bytes_of w.2 ∙ s.1 ∙ ap bytes_of (sym w.1), subst (λ twin. AreTwins rest other mid (behind twin)) (sym w.2) s.2)

  -- the bracket at the front of a text, by what its first byte is
  bracket_by : (b : ℕ) (before : List ℕ) (letter digit : Bool) → is_letter b ≡ letter → is_ascii_digit b ≡ digit
      → (token_of (b ∷ (before ++ (101 ∷ rest)))).0 ≡ OpenBracket → (token_of (b ∷ (before ++ (101 ∷ other)))).0 ≡ OpenBracket
  bracket_by b before true digit e f is =
      absurd (word_is_no_bracket (take (front_len is_name_byte (b ∷ (before ++ (101 ∷ rest)))) (b ∷ (before ++ (101 ∷ rest)))) (sym (ap (λ t. t.0) (token_of-letter b (before ++ (101 ∷ rest)) e)) ∙ is))
  bracket_by b before false true e f is = let no : Number ≡ OpenBracket = sym (ap (λ t. t.0) (token_of-digit b (before ++ (101 ∷ rest)) e f)) ∙ is in absurd cc
  bracket_by b before false false e f is =
      ap (λ t. t.0) (token_of-mark b (before ++ (101 ∷ other)) e f ∙ mark_same b before ∙ sym (token_of-mark b (before ++ (101 ∷ rest)) e f)) ∙ is

  -- a text with a bracket at its front, and its twin
  pub bracket_same : (text twin : List ℕ) → AreTwins rest other text twin → front text ≡ OpenBracket → front twin ≡ OpenBracket
  unfolding front
  bracket_same text twin w is = ap (λ t. (token_of t).0) w.2 ∙ by_first w.0 (sym (ap (λ t. (token_of t).0) w.1) ∙ is)
    where
      by_first : (before : List ℕ) → (token_of (before ++ (101 ∷ rest))).0 ≡ OpenBracket → (token_of (before ++ (101 ∷ other))).0 ≡ OpenBracket
      by_first [] e = absurd (word_is_no_bracket (take (front_len is_name_byte (101 ∷ rest)) (101 ∷ rest)) (sym (ap (λ t. t.0) (token_of-letter 101 rest refl)) ∙ e))
      by_first (b ∷ before) e = bracket_by b before (is_letter b) (is_ascii_digit b) refl refl e
