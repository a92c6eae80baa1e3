-- What is read before an "e" is read in the same way whatever stands behind it.
use Rattle.std.proofs.Common.{◌≡◌, ◌⊎◌, ℕ, zero, suc, ◌≤◌, ◌<◌, List, [], ◌∷◌, ◌++◌, length, Ok, Option, Some, None, Bool, true, false, refl, sym, ap, subst, ◌∙◌, arith, inl, inr}
use Rattle.dz_rank.specs.declared.rankings.Kind.{Kind}
use Rattle.dz_rank.specs.declared.symbols.Operator.{Operator}
use Rattle.dz_rank.specs.declared.symbols.Symbol.{Symbol}
use Rattle.dz_rank.specs.declared.symbols.Symbol.TheVariants.{Independent, Derivative}
use Rattle.dz_rank.specs.Rankings.{BlockValue}
use Rattle.dz_rank.specs.Symbols.{identity}
use Rattle.dz_syntax.specs.declared.expression.Op.{Op}
use Rattle.dz_syntax.specs.declared.expression.Op.TheVariants as ops
use Rattle.dz_syntax.specs.declared.fault.SyntaxKind.TheVariants.{Order}
use Rattle.dz_syntax.specs.declared.names.Group.{Group}
use Rattle.dz_syntax.specs.declared.names.Group.TheVariants.{Independents, Dependents}
use Rattle.dz_syntax.specs.declared.marks.Section.{Section}
use Rattle.dz_syntax.specs.declared.token.Token.{Token}
use Rattle.dz_syntax.specs.declared.token.Token.TheVariants.{Name, OpenBracket, CloseBracket, Comma, Plus, Minus}
use Rattle.dz_syntax.specs.Atoms.{as_independent, independent_at, independent_from, names_go_on, names_in, raised, symbol_at, symbol_from, symbol_if, symbol_of}
use Rattle.dz_syntax.specs.Expressions.{most_literal, most_exponent}
use Rattle.dz_syntax.specs.Faults.{refuse}
use Rattle.dz_syntax.specs.Grammar.{Grammar, IsNumber, IsAtom, IsPower, IsFactors, IsProduct, IsSums, IsFirst, IsPoly, IsInside}
use Rattle.dz_syntax.specs.Marks.{is_derivations, is_ranking, is_semicolon, is_open_bracket, is_close_bracket, is_relation, is_word_of, kind_of}
use Rattle.dz_syntax.specs.Names.{Declared, declared, find, known, no_names, room}
use Rattle.dz_syntax.specs.Numbers.{number_from}
use Rattle.dz_syntax.specs.Sections.{element_of}
use Rattle.dz_syntax.specs.SystemGrammar.{Stands, IsNewName, IsMoreNames, IsNames, IsIndependents, IsBlock, IsBlocks, IsHeader, IsSides, IsMore, IsList, IsItemOf, IsSection}
use Rattle.dz_syntax.specs.Tokens.{front, behind, bytes_of}
use Rattle.dz_syntax.proofs.BlocksGrammar.{block_within, blocks_within}
use Rattle.dz_syntax.proofs.ItemsGrammar.{side_within, sides_within}
use Rattle.dz_syntax.proofs.ListsGrammar.{more_within}
use Rattle.dz_syntax.proofs.NamesGrammar.{more_names_within, names_within}
use Rattle.dz_syntax.proofs.Shorter.{Shrinks, behind_within, names_in_within, power_within, factors_within, product_within, sums_within, poly_within, inside_within}
use Rattle.dz_algebra.proofs.Outcomes.{bind_ok}
use Rattle.dz_syntax.proofs.Sound.{ok_is}
use Rattle.dz_syntax.proofs.Complete.{on_ok}
use Rattle.dz_syntax.proofs.Tails.{AreTwins, bracket_same, past_same}

-- the token that passes the test for a bracket
open_is : (t : Token) → is_open_bracket t ≡ true → t ≡ OpenBracket
open_is OpenBracket e = refl
open_is t e = absurd cc

module _ (rest other : List ℕ) where
  -- a text goes as far as the "e"
  abbrev Reaches : List ℕ → Type 0
  Reaches text = length rest < length text

  -- an end of what is read of the twin, which is the twin of this one
  abbrev HasEnd : List ℕ → (List ℕ → Type 0) → Type 0
  HasEnd mid reads = (end : List ℕ) × AreTwins rest other mid end × reads end

  -- ---- tokens
  -- one token
  stands_same : (sort : Token → Bool) (text twin mid : List ℕ) → AreTwins rest other text twin → Stands sort text mid → Reaches mid → HasEnd mid (λ end. Stands sort twin end)
  stands_same sort text twin mid w a h =
      let s = past_same rest other text twin mid w a.1 h in
      (behind twin, s.2, (ap sort s.0 ∙ a.0, refl))

  -- where one token stands behind the front, the front is the same
  behind_reaches : (text mid : List ℕ) → mid ≡ behind text → Reaches mid → Reaches text
  behind_reaches text mid is h = omega (arith, h, ap length is, behind_within text)

  -- a number
  number_same : (most : ℕ) (text twin : List ℕ) (n : ℕ) (mid : List ℕ) → AreTwins rest other text twin → IsNumber most text n mid → Reaches mid → HasEnd mid (λ end. IsNumber most twin n end)
  number_same most text twin n mid w a h =
      let s = past_same rest other text twin mid w a.end h in
      (behind twin, s.2, record { token = s.0 ∙ a.token; value = ap (number_from 0) s.1 ∙ a.value; bound = a.bound; end = refl })

  -- ---- symbols
  -- an independent
  independent_same : (names : Declared) (text twin : List ℕ) (i : ℕ) → front twin ≡ front text → bytes_of twin ≡ bytes_of text → independent_at names text ≡ Ok i → independent_at names twin ≡ Ok i
  unfolding independent_at
  independent_same names text twin i e f is = subst (λ t. independent_from names t twin ≡ Ok i) (sym e) (by_token (front text) is)
    where
      by_symbol : (o : Option Symbol) → as_independent text o ≡ Ok i → as_independent twin o ≡ Ok i
      by_symbol (Some (Independent j)) k = k
      by_symbol o k = absurd cc

      by_token : (t : Token) → independent_from names t text ≡ Ok i → independent_from names t twin ≡ Ok i
      by_token Name k = subst (λ bytes. as_independent twin (find names bytes) ≡ Ok i) (sym f) (by_symbol (find names (bytes_of text)) k)
      by_token t k = absurd cc

  -- the names in brackets
  names_in_same : (left : ℕ) (names : Declared) (o : Operator) (text twin : List ℕ) (x : Operator × List ℕ) → AreTwins rest other text twin
      → names_in left names o text ≡ Ok x → Reaches x.1 → HasEnd x.1 (λ end. names_in left names o twin ≡ Ok (x.0, end))
  unfolding names_in
  names_in_same zero names o text twin x w e h = let b = bind_ok (independent_at names text) (λ i. refuse Order text) x e in absurd (let f = b.2 in cc)
  names_in_same (suc left) names o text twin x w e h =
      let b = bind_ok (independent_at names text) (λ i. names_go_on (λ rest. names_in left names (raised o i) rest) (raised o i) (front (behind text)) (behind text)) x e in
      by_token b.0 b.1 (front (behind text)) refl b.2 (λ text twin w e. names_in_same left names (raised o b.0) text twin x w e h)
    where
      -- what is read of the twin, where the token behind the independent and what comes behind it are known
      read : (i : ℕ) (t : Token) → independent_at names twin ≡ Ok i → front (behind twin) ≡ t
          → names_in (suc left) names o twin ≡ names_go_on (λ rest. names_in left names (raised o i) rest) (raised o i) t (behind twin)
      read i t e f =
          on_ok (independent_at names twin) i (λ i. names_go_on (λ rest. names_in left names (raised o i) rest) (raised o i) (front (behind twin)) (behind twin)) e
          ∙ ap (λ t. names_go_on (λ rest. names_in left names (raised o i) rest) (raised o i) t (behind twin)) f

      by_token : (i : ℕ) → independent_at names text ≡ Ok i → (t : Token) → front (behind text) ≡ t
          → names_go_on (λ rest. names_in left names (raised o i) rest) (raised o i) t (behind text) ≡ Ok x
          → ((text twin : List ℕ) → AreTwins rest other text twin → names_in left names (raised o i) text ≡ Ok x → HasEnd x.1 (λ end. names_in left names (raised o i) twin ≡ Ok (x.0, end)))
          → HasEnd x.1 (λ end. names_in (suc left) names o twin ≡ Ok (x.0, end))
      by_token i is Comma f k more =
          let there : Reaches (behind (behind text)) = omega (arith, h, names_in_within left names (raised o i) (behind (behind text)) x k) in
          let p = past_same rest other text twin (behind text) w refl (behind_reaches (behind text) (behind (behind text)) refl there) in
          let q = past_same rest other (behind text) (behind twin) (behind (behind text)) p.2 refl there in
          let r = more (behind (behind text)) (behind (behind twin)) q.2 k in
          (r.0, r.1, read i Comma (independent_same names text twin i p.0 p.1 is) (q.0 ∙ f) ∙ r.2)
      by_token i is CloseBracket f k more =
          let end : x ≡ (raised o i, behind (behind text)) = sym (ok_is _ x k) in
          let there : Reaches (behind (behind text)) = subst (λ x. Reaches x.1) end h in
          let p = past_same rest other text twin (behind text) w refl (behind_reaches (behind text) (behind (behind text)) refl there) in
          let q = past_same rest other (behind text) (behind twin) (behind (behind text)) p.2 refl there in (
            behind (behind twin),
            subst (λ x. AreTwins rest other x.1 (behind (behind twin))) (sym end) q.2,
            read i CloseBracket (independent_same names text twin i p.0 p.1 is) (q.0 ∙ f) ∙ ap (λ x. Ok (x.0, behind (behind twin))) (sym end),
          )
      by_token i is t f k more = absurd cc

  -- a symbol whose name no bracket follows
  plain_symbol : (names : Declared) (text : List ℕ) (s : Symbol) (t : Token) → (t ≡ OpenBracket → ⊥) → symbol_of names text s t ≡ Ok (s, behind text)
  plain_symbol names text (Independent i) OpenBracket isnt = absurd (isnt refl)
  plain_symbol names text (Derivative d o) OpenBracket isnt = absurd (isnt refl)
  plain_symbol names text s t isnt = refl

  -- a symbol that is read
  symbol_same : (names : Declared) (text twin : List ℕ) (x : Symbol × List ℕ) → AreTwins rest other text twin → symbol_at names text ≡ Ok x → Reaches x.1
      → HasEnd x.1 (λ end. symbol_at names twin ≡ Ok (x.0, end))
  unfolding symbol_at
  symbol_same names text twin x w e h = by_token (front text) refl e
    where
      -- what is read of the twin, where a name stands there
      read : (s : Symbol) → front twin ≡ Name → find names (bytes_of twin) ≡ Some s → symbol_from names (front twin) twin ≡ symbol_of names twin s (front (behind twin))
      read s f g = ap (λ t. symbol_from names t twin) f ∙ ap (symbol_if names twin) g

      by_bracket : (s : Symbol) → front text ≡ Name → find names (bytes_of text) ≡ Some s → front (behind text) ≡ OpenBracket → symbol_of names text s OpenBracket ≡ Ok x
          → HasEnd x.1 (λ end. symbol_from names (front twin) twin ≡ Ok (x.0, end))
      by_bracket (Independent i) f g k e = absurd cc
      by_bracket (Derivative d o) f g k e =
          let b = bind_ok (names_in 60 names identity (behind (behind text))) (λ o. Ok (Derivative d o.0, o.1)) x e in
          let end : x ≡ (Derivative d b.0.0, b.0.1) = sym (ok_is _ x b.2) in
          let inside : Reaches b.0.1 = subst (λ x. Reaches x.1) end h in
          let there : Reaches (behind (behind text)) = omega (arith, inside, names_in_within 60 names identity (behind (behind text)) b.0 b.1) in
          let p = past_same rest other text twin (behind text) w refl (behind_reaches (behind text) (behind (behind text)) refl there) in
          let q = past_same rest other (behind text) (behind twin) (behind (behind text)) p.2 refl there in
          let r = names_in_same 60 names identity (behind (behind text)) (behind (behind twin)) b.0 q.2 b.1 inside in (
            r.0,
            subst (λ x. AreTwins rest other x.1 r.0) (sym end) r.1,
            read (Derivative d o) (p.0 ∙ f) (ap (find names) p.1 ∙ g) ∙ ap (symbol_of names twin (Derivative d o)) (q.0 ∙ k)
                ∙ on_ok (names_in 60 names identity (behind (behind twin))) (b.0.0, r.0) (λ o. Ok (Derivative d o.0, o.1)) r.2 ∙ ap (λ x. Ok (x.0, r.0)) (sym end),
          )

      by_plain : (s : Symbol) → front text ≡ Name → find names (bytes_of text) ≡ Some s → (front (behind text) ≡ OpenBracket → ⊥) → symbol_of names text s (front (behind text)) ≡ Ok x
          → HasEnd x.1 (λ end. symbol_from names (front twin) twin ≡ Ok (x.0, end))
      by_plain s f g isnt e =
          let end : x ≡ (s, behind text) = sym (ok_is _ x (sym (plain_symbol names text s (front (behind text)) isnt) ∙ e)) in
          let p = past_same rest other text twin (behind text) w refl (subst (λ x. Reaches x.1) end h) in
          let back : AreTwins other rest (behind twin) (behind text) = (p.2.0, p.2.2, p.2.1) in (
            behind twin,
            subst (λ x. AreTwins rest other x.1 (behind twin)) (sym end) p.2,
            read s (p.0 ∙ f) (ap (find names) p.1 ∙ g) ∙ plain_symbol names twin s (front (behind twin)) (λ is. isnt (bracket_same other rest (behind twin) (behind text) back is))
                ∙ ap (λ x. Ok (x.0, behind twin)) (sym end),
          )

      by_test : (s : Symbol) (c : Bool) → is_open_bracket (front (behind text)) ≡ c → front text ≡ Name → find names (bytes_of text) ≡ Some s → symbol_of names text s (front (behind text)) ≡ Ok x
          → HasEnd x.1 (λ end. symbol_from names (front twin) twin ≡ Ok (x.0, end))
      by_test s true c f g e = let open_one = open_is (front (behind text)) c in by_bracket s f g open_one (ap (symbol_of names text s) (sym open_one) ∙ e)
      by_test s false c f g e = by_plain s f g (λ is. let both : true ≡ false = sym (ap is_open_bracket is) ∙ c in cc) e

      by_symbol : (o : Option Symbol) → front text ≡ Name → find names (bytes_of text) ≡ o → symbol_if names text o ≡ Ok x
          → HasEnd x.1 (λ end. symbol_from names (front twin) twin ≡ Ok (x.0, end))
      by_symbol None f g e = absurd cc
      by_symbol (Some s) f g e = by_test s (is_open_bracket (front (behind text))) refl f g e

      by_token : (t : Token) → front text ≡ t → symbol_from names t text ≡ Ok x → HasEnd x.1 (λ end. symbol_from names (front twin) twin ≡ Ok (x.0, end))
      by_token Name f e = by_symbol (find names (bytes_of text)) f refl e
      by_token t f e = absurd cc

  -- ---- expressions
  -- what a grammar reads it reads of twins too
  abbrev Carries : Grammar → Type 0
  Carries g = (text twin : List ℕ) (o : List Op) (mid : List ℕ) → AreTwins rest other text twin → g text o mid → Reaches mid → HasEnd mid (λ end. g twin o end)

  -- a grammar reads one token at least
  abbrev Passes : Grammar → Type 0
  Passes g = (text : List ℕ) (o : List Op) (mid : List ℕ) → g text o mid → length mid ≤ length (behind text)

  module _ (names : Declared) (g : Grammar) (carries : Carries g) (passes : Passes g) (shrinks : Shrinks g) where
    atom_same : Carries (IsAtom names g)
    atom_same text twin o mid w (inl a) h = let s = number_same most_literal text twin a.0 mid w a.1 h in (s.0, s.1, inl (a.0, s.2, a.2))
    atom_same text twin o mid w (inr (inl a)) h = let s = symbol_same names text twin (a.0, mid) w a.1 h in (s.0, s.1, inr (inl (a.0, s.2, a.2)))
    atom_same text twin o mid w (inr (inr a)) h =
        let p = past_same rest other text twin (behind text) w refl (omega (arith, h, passes text o mid a.1)) in
        let s = carries text twin o mid w a.1 h in
        (s.0, s.1, inr (inr (p.0 ∙ a.0, s.2)))

    power_same : Carries (IsPower names g)
    power_same text twin o mid w (inl a) h = let s = atom_same text twin o mid w a h in (s.0, s.1, inl s.2)
    power_same text twin o mid w (inr a) h =
        let there : Reaches (behind a.1) = behind_reaches (behind a.1) mid a.5.end h in
        let s = atom_same text twin a.0 a.1 w a.3 (behind_reaches a.1 (behind a.1) refl there) in
        let p = past_same rest other a.1 s.0 (behind a.1) s.1 refl there in
        let n = number_same most_exponent (behind a.1) (behind s.0) a.2 mid p.2 a.5 h in
        (n.0, n.1, inr (a.0, s.0, a.2, s.2, p.0 ∙ a.4, n.2, a.6))

    factors_same : (n : ℕ) (text twin : List ℕ) (o : List Op) (mid : List ℕ) → AreTwins rest other text twin → IsFactors names g n text o mid → Reaches mid → HasEnd mid (λ end. IsFactors names g n twin o end)
    factors_same zero text twin o mid w a h = (twin, subst (λ mid. AreTwins rest other mid twin) (sym a.1) w, (a.0, refl))
    factors_same (suc n) text twin o mid w a h =
        let later : Reaches a.2 = omega (arith, h, factors_within names g shrinks n a.2 a.1 mid a.5) in
        let there : Reaches (behind text) = omega (arith, later, power_within names g shrinks (behind text) a.0 a.2 a.4) in
        let p = past_same rest other text twin (behind text) w refl there in
        let s = power_same (behind text) (behind twin) a.0 a.2 p.2 a.4 later in
        let t = factors_same n a.2 s.0 a.1 mid s.1 a.5 h in
        (t.0, t.1, (a.0, a.1, s.0, p.0 ∙ a.3, s.2, t.2, a.6))

    product_same : Carries (IsProduct names g)
    product_same text twin o mid w a h =
        let s = power_same text twin a.0 a.2 w a.4 (omega (arith, h, factors_within names g shrinks a.3 a.2 a.1 mid a.5)) in
        let t = factors_same a.3 a.2 s.0 a.1 mid s.1 a.5 h in
        (t.0, t.1, (a.0, a.1, s.0, a.3, s.2, t.2, a.6))

    sign_same : (text twin : List ℕ) (op : Op) → front twin ≡ front text → ((front text ≡ Plus) × (op ≡ ops.Add)) ⊎ ((front text ≡ Minus) × (op ≡ ops.Sub))
        → ((front twin ≡ Plus) × (op ≡ ops.Add)) ⊎ ((front twin ≡ Minus) × (op ≡ ops.Sub))
    sign_same text twin op e (inl a) = inl (e ∙ a.0, a.1)
    sign_same text twin op e (inr a) = inr (e ∙ a.0, a.1)

    sums_same : (n : ℕ) (text twin : List ℕ) (o : List Op) (mid : List ℕ) → AreTwins rest other text twin → IsSums names g n text o mid → Reaches mid → HasEnd mid (λ end. IsSums names g n twin o end)
    sums_same zero text twin o mid w a h = (twin, subst (λ mid. AreTwins rest other mid twin) (sym a.1) w, (a.0, refl))
    sums_same (suc n) text twin o mid w a h =
        let later : Reaches a.2 = omega (arith, h, sums_within names g shrinks n a.2 a.1 mid a.6) in
        let there : Reaches (behind text) = omega (arith, later, product_within names g shrinks (behind text) a.0 a.2 a.5) in
        let p = past_same rest other text twin (behind text) w refl there in
        let s = product_same (behind text) (behind twin) a.0 a.2 p.2 a.5 later in
        let t = sums_same n a.2 s.0 a.1 mid s.1 a.6 h in
        (t.0, t.1, (a.0, a.1, s.0, a.3, sign_same text twin a.3 p.0 a.4, s.2, t.2, a.7))

    first_same : Carries (IsFirst names g)
    first_same text twin o mid w (inl a) h = let s = product_same text twin o mid w a h in (s.0, s.1, inl s.2)
    first_same text twin o mid w (inr (inl a)) h =
        let p = past_same rest other text twin (behind text) w refl (omega (arith, h, product_within names g shrinks (behind text) o mid a.1)) in
        let s = product_same (behind text) (behind twin) o mid p.2 a.1 h in
        (s.0, s.1, inr (inl (p.0 ∙ a.0, s.2)))
    first_same text twin o mid w (inr (inr a)) h =
        let p = past_same rest other text twin (behind text) w refl (omega (arith, h, product_within names g shrinks (behind text) a.0 mid a.2)) in
        let s = product_same (behind text) (behind twin) a.0 mid p.2 a.2 h in
        (s.0, s.1, inr (inr (a.0, p.0 ∙ a.1, s.2, a.3)))

    poly_same : Carries (IsPoly names g)
    poly_same text twin o mid w a h =
        let s = first_same text twin a.0 a.2 w a.4 (omega (arith, h, sums_within names g shrinks a.3 a.2 a.1 mid a.5)) in
        let t = sums_same a.3 a.2 s.0 a.1 mid s.1 a.5 h in
        (t.0, t.1, (a.0, a.1, s.0, a.3, s.2, t.2, a.6))

  -- what stands in parentheses
  inside_passes : (names : Declared) (n : ℕ) → Passes (IsInside names n)
  unfolding IsInside
  inside_passes names zero text o mid a = absurd a
  inside_passes names (suc n) text o mid a =
      rw a.3 (omega (arith, poly_within names (IsInside names n) (inside_within names n) (behind text) o a.0 a.1, behind_within a.0))

  inside_same : (names : Declared) (n : ℕ) → Carries (IsInside names n)
  unfolding IsInside
  inside_same names zero text twin o mid w a h = absurd a
  inside_same names (suc n) text twin o mid w a h =
      let later : Reaches a.0 = behind_reaches a.0 mid a.3 h in
      let p = past_same rest other text twin (behind text) w refl (omega (arith, later, poly_within names (IsInside names n) (inside_within names n) (behind text) o a.0 a.1)) in
      let s = poly_same names (IsInside names n) (λ text twin o mid w a h. inside_same names n text twin o mid w a h) (inside_passes names n) (inside_within names n) (behind text) (behind twin) o a.0 p.2 a.1 later in
      let q = past_same rest other a.0 s.0 mid s.1 a.3 h in
      (behind s.0, q.2, (s.0, s.2, q.0 ∙ a.2, refl))

  -- a side of an item
  side_same : (names : Declared) → Carries (IsPoly names (IsInside names 64))
  side_same names = poly_same names (IsInside names 64) (inside_same names 64) (inside_passes names 64) (inside_within names 64)

  -- an item
  sides_same : (section : Section) (names : Declared) → Carries (IsSides section names)
  sides_same section names text twin o mid w (inl a) h = let s = side_same names text twin o mid w a h in (s.0, s.1, inl s.2)
  sides_same section names text twin o mid w (inr a) h =
      let there : Reaches (behind a.2) = omega (arith, h, side_within names (behind a.2) a.1 mid a.5) in
      let s = side_same names text twin a.0 a.2 w a.3 (behind_reaches a.2 (behind a.2) refl there) in
      let p = past_same rest other a.2 s.0 (behind a.2) s.1 refl there in
      let t = side_same names (behind a.2) (behind s.0) a.1 mid p.2 a.5 h in
      (t.0, t.1, inr (a.0, a.1, s.0, s.2, ap (is_relation section) p.0 ∙ a.4, t.2, a.6))

  -- ---- lists
  module _ (section : Section) (names : Declared) where
    more_same : (n : ℕ) (found : List (List Op)) (text twin : List ℕ) (all : List (List Op)) (mid : List ℕ) → AreTwins rest other text twin
        → IsMore (IsItemOf section names) n found text all mid → Reaches mid → HasEnd mid (λ end. IsMore (IsItemOf section names) n found twin all end)
    more_same zero found text twin all mid w a h = (twin, subst (λ mid. AreTwins rest other mid twin) (sym a.1) w, (a.0, refl))
    more_same (suc n) found text twin all mid w a h =
        let later : Reaches a.1 = omega (arith, h, more_within (element_of section names) (IsItemOf section names) (λ found. sides_within section names) n (found ++ a.0 ∷ []) a.1 all mid a.4) in
        let there : Reaches (behind text) = omega (arith, later, sides_within section names (behind text) a.0 a.1 a.3) in
        let p = past_same rest other text twin (behind text) w refl there in
        let s = sides_same section names (behind text) (behind twin) a.0 a.1 p.2 a.3 later in
        let t = more_same n (found ++ a.0 ∷ []) a.1 s.0 all mid s.1 a.4 h in
        (t.0, t.1, (a.0, s.0, p.0 ∙ a.2, s.2, t.2))

    list_same : (text twin : List ℕ) (all : List (List Op)) (mid : List ℕ) → AreTwins rest other text twin → IsList (IsItemOf section names) text all mid → Reaches mid
        → HasEnd mid (λ end. IsList (IsItemOf section names) twin all end)
    list_same text twin all mid w (inl a) h = let s = stands_same is_semicolon text twin mid w a.0 h in (s.0, s.1, inl (s.2, a.1))
    list_same text twin all mid w (inr a) h =
        let last : Reaches a.2 = behind_reaches a.2 mid a.6.1 h in
        let later : Reaches a.1 = omega (arith, last, more_within (element_of section names) (IsItemOf section names) (λ found. sides_within section names) a.3 ([] ++ a.0 ∷ []) a.1 all a.2 a.5) in
        let s = sides_same section names text twin a.0 a.1 w a.4 later in
        let t = more_same a.3 ([] ++ a.0 ∷ []) a.1 s.0 all a.2 s.1 a.5 last in
        let u = stands_same is_semicolon a.2 t.0 mid t.1 a.6 h in
        (u.0, u.1, inr (a.0, s.0, t.0, a.3, s.2, t.2, u.2))

    -- a word with its list of items
    pub section_same : (text twin : List ℕ) (items : List (List Op)) (mid : List ℕ) → AreTwins rest other text twin → IsSection section names text items mid → Reaches mid
        → HasEnd mid (λ end. IsSection section names twin items end)
    section_same text twin items mid w a h =
        let s = stands_same (is_word_of section) text twin a.0 w a.1 (omega (arith, h, list_within a.0 items mid a.2)) in
        let t = list_same a.0 s.0 items mid s.1 a.2 h in
        (t.0, t.1, (s.0, s.2, t.2))
      where
        list_within : (text : List ℕ) (all : List (List Op)) (mid : List ℕ) → IsList (IsItemOf section names) text all mid → length mid ≤ length text
        list_within text all mid (inl a) = omega (arith, ap length a.0.1, behind_within text)
        list_within text all mid (inr a) =
            omega (arith, ap length a.6.1, behind_within a.2, more_within (element_of section names) (IsItemOf section names) (λ found. sides_within section names) a.3 ([] ++ a.0 ∷ []) a.1 all a.2 a.5, sides_within section names text a.0 a.1 a.4)

  -- ---- names
  -- a name that is not declared yet
  new_name_same : (names : Declared) (text twin : List ℕ) → front twin ≡ front text → bytes_of twin ≡ bytes_of text → IsNewName names text → IsNewName names twin
  new_name_same names text twin e f a = record { token = e ∙ a.token; new = ap (known names) f ∙ a.new }

  -- more names behind commas
  more_names_same : (group : Group) (n : ℕ) (names : Declared) (text twin : List ℕ) (all : Declared) (mid : List ℕ) → AreTwins rest other text twin → IsMoreNames group n names text all mid → Reaches mid
      → HasEnd mid (λ end. IsMoreNames group n names twin all end)
  more_names_same group zero names text twin all mid w a h = (twin, subst (λ mid. AreTwins rest other mid twin) (sym a.1) w, (a.0, refl))
  more_names_same group (suc n) names text twin all mid w a h =
      let there : Reaches (behind (behind text)) = omega (arith, h, more_names_within group n (declared group names (bytes_of (behind text))) (behind (behind text)) all mid a.2) in
      let p = past_same rest other text twin (behind text) w refl (behind_reaches (behind text) (behind (behind text)) refl there) in
      let q = past_same rest other (behind text) (behind twin) (behind (behind text)) p.2 refl there in
      let t = more_names_same group n (declared group names (bytes_of (behind text))) (behind (behind text)) (behind (behind twin)) all mid q.2 a.2 h in (
        t.0,
        t.1,
        (
          p.0 ∙ a.0,
          new_name_same names (behind text) (behind twin) q.0 q.1 a.1,
          subst (λ name. IsMoreNames group n (declared group names name) (behind (behind twin)) all t.0) (sym q.1) t.2,
        ),
      )

  -- a list of names
  names_same : (group : Group) (most : ℕ) (names : Declared) (text twin : List ℕ) (all : Declared) (mid : List ℕ) → AreTwins rest other text twin → IsNames group most names text all mid → Reaches mid
      → HasEnd mid (λ end. IsNames group most names twin all end)
  names_same group most names text twin all mid w a h =
      let there : Reaches (behind text) = omega (arith, h, more_names_within group a.0 (declared group names (bytes_of text)) (behind text) all mid a.3) in
      let p = past_same rest other text twin (behind text) w refl there in
      let t = more_names_same group a.0 (declared group names (bytes_of text)) (behind text) (behind twin) all mid p.2 a.3 h in (
        t.0,
        t.1,
        (
          a.0,
          a.1,
          new_name_same names text twin p.0 p.1 a.2,
          subst (λ name. IsMoreNames group a.0 (declared group names name) (behind twin) all t.0) (sym p.1) t.2,
        ),
      )

  -- ---- the header
  -- the independents
  independents_same : (text twin : List ℕ) (all : Declared) (mid : List ℕ) → AreTwins rest other text twin → IsIndependents text all mid → Reaches mid → HasEnd mid (λ end. IsIndependents twin all end)
  independents_same text twin all mid w a h = by_list a.2
    where
      by_list : (Stands is_semicolon a.0 mid × (all ≡ no_names)) ⊎ ((end : List ℕ) × IsNames Independents 4 no_names a.0 all end × Stands is_semicolon end mid) → HasEnd mid (λ end. IsIndependents twin all end)
      by_list (inl b) =
          let s = stands_same is_derivations text twin a.0 w a.1 (behind_reaches a.0 mid b.0.1 h) in
          let t = stands_same is_semicolon a.0 s.0 mid s.1 b.0 h in
          (t.0, t.1, (s.0, s.2, inl (t.2, b.1)))
      by_list (inr b) =
          let last : Reaches b.0 = behind_reaches b.0 mid b.2.1 h in
          let s = stands_same is_derivations text twin a.0 w a.1 (omega (arith, last, names_within Independents 4 no_names a.0 all b.0 b.1)) in
          let t = names_same Independents 4 no_names a.0 s.0 all b.0 s.1 b.1 last in
          let u = stands_same is_semicolon b.0 t.0 mid t.1 b.2 h in
          (u.0, u.1, (s.0, s.2, inr (t.0, t.2, u.2)))

  -- a block behind its kind
  block_same : (kind : Kind) (names : Declared) (text twin : List ℕ) (all : Declared) (block : BlockValue) (mid : List ℕ) → AreTwins rest other text twin → IsBlock kind names text all block mid → Reaches mid
      → HasEnd mid (λ end. IsBlock kind names twin all block end)
  block_same kind names text twin all block mid w a h =
      let last : Reaches a.1 = behind_reaches a.1 mid a.4.1 h in
      let s = stands_same is_open_bracket text twin a.0 w a.2 (omega (arith, last, names_within Dependents (room names) names a.0 all a.1 a.3)) in
      let t = names_same Dependents (room names) names a.0 s.0 all a.1 s.1 a.3 last in
      let u = stands_same is_close_bracket a.1 t.0 mid t.1 a.4 h in
      (u.0, u.1, (s.0, t.0, s.2, t.2, u.2, a.5))

  -- blocks
  blocks_same : (n : ℕ) (names : Declared) (text twin : List ℕ) (all : Declared) (found : List BlockValue) (mid : List ℕ) → AreTwins rest other text twin → IsBlocks n names text all found mid → Reaches mid
      → HasEnd mid (λ end. IsBlocks n names twin all found end)
  blocks_same zero names text twin all found mid w a h = (twin, subst (λ mid. AreTwins rest other mid twin) (sym a.2) w, (a.0, a.1, refl))
  blocks_same (suc n) names text twin all found mid w a h =
      let later : Reaches a.3 = omega (arith, h, blocks_within n a.1 a.3 all a.4 mid a.7) in
      let there : Reaches (behind text) = omega (arith, later, block_within a.0 names (behind text) a.1 a.2 a.3 a.6) in
      let p = past_same rest other text twin (behind text) w refl there in
      let s = block_same a.0 names (behind text) (behind twin) a.1 a.2 a.3 p.2 a.6 later in
      let t = blocks_same n a.1 a.3 s.0 all a.4 mid s.1 a.7 h in
      (t.0, t.1, (a.0, a.1, a.2, s.0, a.4, ap kind_of p.0 ∙ a.5, s.2, t.2, a.8))

  -- the header
  pub header_same : (text twin : List ℕ) (all : Declared) (found : List BlockValue) (mid : List ℕ) → AreTwins rest other text twin → IsHeader text all found mid → Reaches mid
      → HasEnd mid (λ end. IsHeader twin all found end)
  header_same text twin all found mid w a h =
      let last : Reaches a.3 = behind_reaches a.3 mid a.8.1 h in
      let second : Reaches a.2 = omega (arith, last, blocks_within a.4 a.0 a.2 all found a.3 a.7) in
      let s = independents_same text twin a.0 a.1 w a.5 (behind_reaches a.1 a.2 a.6.1 second) in
      let t = stands_same is_ranking a.1 s.0 a.2 s.1 a.6 second in
      let u = blocks_same a.4 a.0 a.2 t.0 all found a.3 t.1 a.7 last in
      let v = stands_same is_semicolon a.3 u.0 mid u.1 a.8 h in
      (v.0, v.1, (a.0, s.0, t.0, u.0, a.4, s.2, t.2, u.2, v.2))
