-- Texts made of names, numbers and marks, of which each byte passes a test.
use Rattle.std.proofs.Common.{◌≡◌, ℕ, zero, suc, ◌+◌, ◌<◌, ◌%◌, ◌/◌, ◌==◌, nat_lt, Bool, true, false, cond, if◌then◌else◌, List, [], ◌∷◌, ◌++◌, take, refl, arith, slice_index_or}
use Rattle.std.specs.Prelude.{codes}
use Rattle.std.specs.Fmt.{decimal, digits, digits_onto}
use Rattle.std.specs.List.{AllByRecursion, list_all}
use Rattle.std.proofs.lemmas.Bool.Decides.{nat_tests}
use Rattle.std.proofs.lemmas.List.Elements.{recursion_from_All}
use Rattle.std.proofs.lemmas.List.Folds.{list_all-append}
use Rattle.dz_rank.specs.declared.symbols.Operator.{Operator}
use Rattle.dz_rank.specs.declared.symbols.Symbol.{Symbol}
use Rattle.dz_rank.specs.declared.symbols.Symbol.TheVariants.{Independent, Derivative}
use Rattle.dz_syntax.specs.Names.{Declared, IsDeclared, IsName}
use Rattle.dz_syntax.specs.Tokens.{is_name_byte}
use Rattle.dz_form.proofs.TextTokens.{both_true}
use Rattle.dz_form.specs.Texts.{copies, derivations_text, independents, is_identity, joined, name_numbered, operator_text, repeated, symbol_text}

-- the bytes of names, digits, and the marks of symbols and operators pass
pub record IsPassed (test : ℕ → Bool) : Type 0 where
  pub name : (b : ℕ) → is_name_byte b ≡ true → test b ≡ true
  pub digit : (d : ℕ) → d < 10 → test (48 + d) ≡ true
  pub comma : list_all test (codes ",") ≡ true
  pub minus : list_all test (codes "-") ≡ true
  pub opening : list_all test (codes "[") ≡ true
  pub closing : list_all test (codes "]") ≡ true

module _ (test : ℕ → Bool) where
  -- each byte of each text passes
  abbrev pub AllPass : List (List ℕ) → Type 0
  AllPass texts = AllByRecursion (λ t. list_all test t ≡ true) texts

  -- a text behind a text
  pub pass-append : (a b : List ℕ) → list_all test a ≡ true → list_all test b ≡ true → list_all test (a ++ b) ≡ true
  pass-append a b e f = rw (list_all-append, e, f) refl

  -- one of two texts
  pub either_passes : (is : Bool) (a b : List ℕ) → list_all test a ≡ true → list_all test b ≡ true → list_all test (cond is a b) ≡ true
  either_passes true a b e f = e
  either_passes false a b e f = f

  -- texts with a mark between them
  pub joined_passes : (between : List ℕ) (texts : List (List ℕ)) → list_all test between ≡ true → AllPass texts → list_all test (joined between texts) ≡ true
  joined_passes between [] e all = refl
  joined_passes between (text ∷ []) e all = all.0
  joined_passes between (text ∷ next ∷ more) e all =
      pass-append (text ++ between) (joined between (next ∷ more)) (pass-append text between all.0 e) (joined_passes between (next ∷ more) e all.1)

  -- copies of a text
  copies_pass : (name : List ℕ) (n : ℕ) (names : List (List ℕ)) → list_all test name ≡ true → AllPass names → AllPass (copies name n names)
  copies_pass name zero names e all = all
  copies_pass name (suc n) names e all = (e, copies_pass name n names e all)

  -- texts, each so often
  repeated_pass : (names : List (List ℕ)) (counts : List ℕ) → AllPass names → AllPass (repeated names counts)
  repeated_pass [] counts all = tt
  repeated_pass (name ∷ names) [] all = tt
  repeated_pass (name ∷ names) (count ∷ counts) all = copies_pass name count (repeated names counts) all.0 (repeated_pass names counts all.1)

  -- the first of several texts
  taken_pass : (n : ℕ) (texts : List (List ℕ)) → AllPass texts → AllPass (take n texts)
  taken_pass zero texts all = tt
  taken_pass (suc n) [] all = tt
  taken_pass (suc n) (text ∷ texts) all = (all.0, taken_pass n texts all.1)

  -- the text at a position, or none
  text_passes : (i : ℕ) (texts : List (List ℕ)) → AllPass texts → list_all test (slice_index_or texts i []) ≡ true
  text_passes i [] all = refl
  text_passes zero (text ∷ texts) all = all.0
  text_passes (suc i) (text ∷ texts) all = text_passes i texts all.1

  -- ---- numbers
  -- the digits of a number before a text
  digits_pass : ((d : ℕ) → d < 10 → test (48 + d) ≡ true) → (k n : ℕ) (behind : List ℕ) → list_all test behind ≡ true → list_all test (digits_onto k 10 false n behind) ≡ true
  digits_pass digit zero n behind e = e
  digits_pass digit (suc k) n behind e =
      by_last (n / 10 == 0) (rw (less, digit (n % 10) (omega arith)) e) (λ f. digits_pass digit k (n / 10) ((if nat_lt (n % 10) 10 then 48 + n % 10 else 87 + n % 10) ∷ behind) f)
    where
      less : nat_lt (n % 10) 10 ≡ true
      less = let lt : n % 10 < 10 = omega arith in grind (arith, nat_tests)

      by_last : (is : Bool) → list_all test ((if nat_lt (n % 10) 10 then 48 + n % 10 else 87 + n % 10) ∷ behind) ≡ true
          → (list_all test ((if nat_lt (n % 10) 10 then 48 + n % 10 else 87 + n % 10) ∷ behind) ≡ true → list_all test (digits_onto k 10 false (n / 10) ((if nat_lt (n % 10) 10 then 48 + n % 10 else 87 + n % 10) ∷ behind)) ≡ true)
          → list_all test (if is then (if nat_lt (n % 10) 10 then 48 + n % 10 else 87 + n % 10) ∷ behind else digits_onto k 10 false (n / 10) ((if nat_lt (n % 10) 10 then 48 + n % 10 else 87 + n % 10) ∷ behind)) ≡ true
      by_last true f more = f
      by_last false f more = more f

  -- a decimal text
  pub decimal_passes : ((d : ℕ) → d < 10 → test (48 + d) ≡ true) → (n : ℕ) → list_all test (decimal n) ≡ true
  unfolding digits
  decimal_passes digit n = digits_pass digit 64 n [] refl

  -- ---- names, operators and symbols
  -- a text of bytes of names
  name_passes : ((b : ℕ) → is_name_byte b ≡ true → test b ≡ true) → (text : List ℕ) → list_all is_name_byte text ≡ true → list_all test text ≡ true
  name_passes byte [] all = refl
  name_passes byte (b ∷ text) all =
      let f = both_true (is_name_byte b) (list_all is_name_byte text) all in
      rw (byte b f.0) (name_passes byte text f.1)

  -- names
  names_pass : ((b : ℕ) → is_name_byte b ≡ true → test b ≡ true) → (names : List (List ℕ)) → AllByRecursion (λ name. IsName name) names → AllPass names
  names_pass byte [] all = tt
  names_pass byte (name ∷ names) all = (name_passes byte name all.0.bytes, names_pass byte names all.1)

  module _ (is : IsPassed test) (names : Declared) (d : IsDeclared names) where
    -- the declared names
    declared_pass : AllPass names.all
    declared_pass = names_pass is.name names.all (recursion_from_All (λ (name : List ℕ). IsName name) names.all d.are_names)

    -- the names of an operator
    derivations_pass : (o : Operator) → list_all test (derivations_text names o) ≡ true
    derivations_pass o = joined_passes (codes ",") (repeated (independents names) o.counts) is.comma (repeated_pass (independents names) o.counts (taken_pass names.independents names.all declared_pass))

    -- an operator
    pub operator_passes : (o : Operator) → list_all test (operator_text names o) ≡ true
    unfolding operator_text
    operator_passes o = either_passes (is_identity o) (codes "-") (derivations_text names o) is.minus (derivations_pass o)

    -- a symbol
    pub symbol_passes : (v : Symbol) → list_all test (symbol_text names v) ≡ true
    unfolding symbol_text
    symbol_passes (Independent i) = text_passes i names.all declared_pass
    symbol_passes (Derivative u o) =
        let inside = pass-append (codes "[" ++ derivations_text names o) (codes "]") (pass-append (codes "[") (derivations_text names o) is.opening (derivations_pass o)) is.closing in
        pass-append (name_numbered names (names.independents + u)) (cond (is_identity o) [] (codes "[" ++ derivations_text names o ++ codes "]"))
        (text_passes (names.independents + u) names.all declared_pass) (either_passes (is_identity o) [] (codes "[" ++ derivations_text names o ++ codes "]") refl inside)
