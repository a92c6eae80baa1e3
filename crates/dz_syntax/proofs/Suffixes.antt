-- What is left of a text that is read is the end of this text.
use Rattle.std.proofs.Common.{◌≡◌, ◌⊎◌, ℕ, zero, suc, List, [], ◌∷◌, ◌++◌, take, drop, Ok, Option, Some, None, Bool, true, false, not, cond, eqb, refl, sym, ap, subst, ◌∙◌, inl, inr}
use Rattle.std.proofs.lemmas.List.{append_assoc, take-append-drop}
use Rattle.dz_rank.specs.declared.rankings.Kind.{Kind}
use Rattle.dz_rank.specs.declared.symbols.Operator.{Operator}
use Rattle.dz_rank.specs.declared.symbols.Symbol.{Symbol}
use Rattle.dz_rank.specs.declared.symbols.Symbol.TheVariants.{Independent, Derivative}
use Rattle.dz_rank.specs.Rankings.{BlockValue}
use Rattle.dz_rank.specs.Symbols.{identity}
use Rattle.dz_syntax.specs.declared.expression.Op.{Op}
use Rattle.dz_syntax.specs.declared.fault.SyntaxKind.TheVariants.{Order}
use Rattle.dz_syntax.specs.declared.names.Group.{Group}
use Rattle.dz_syntax.specs.declared.names.Group.TheVariants.{Independents, Dependents}
use Rattle.dz_syntax.specs.declared.marks.Section.{Section}
use Rattle.dz_syntax.specs.declared.token.Token.{Token}
use Rattle.dz_syntax.specs.declared.token.Token.TheVariants.{Name, OpenBracket, CloseBracket, Comma}
use Rattle.dz_syntax.specs.Atoms.{independent_at, names_go_on, names_in, raised, symbol_at, symbol_from, symbol_if, symbol_of}
use Rattle.dz_syntax.specs.Faults.{refuse}
use Rattle.dz_syntax.specs.Grammar.{Grammar, IsAtom, IsPower, IsFactors, IsProduct, IsSums, IsFirst, IsPoly, IsInside}
use Rattle.dz_syntax.specs.Marks.{is_semicolon}
use Rattle.dz_syntax.specs.Names.{Declared, declared, find, no_names, room}
use Rattle.dz_syntax.specs.SystemGrammar.{Stands, IsMoreNames, IsNames, IsIndependents, IsBlock, IsBlocks, IsHeader, IsSides, IsMore, IsList, IsItemOf, IsSection}
use Rattle.dz_syntax.specs.Tokens.{is_separator, skip_from, token_of, front, behind, bytes_of}
use Rattle.dz_algebra.proofs.Outcomes.{bind_ok}
use Rattle.dz_syntax.proofs.Sound.{ok_is}

-- a text ends in another
abbrev pub EndsIn : List ℕ → List ℕ → Type 0
EndsIn end text = (before : List ℕ) × (text ≡ before ++ end)

pub itself : (text : List ℕ) → EndsIn text text
itself text = ([], refl)

-- and so it does in what that ends in
pub further : (end mid text : List ℕ) → EndsIn end mid → EndsIn mid text → EndsIn end text
further end mid text a b = (b.0 ++ a.0, b.1 ∙ ap (λ t. b.0 ++ t) a.1 ∙ sym (append_assoc b.0 a.0 end))

-- ---- tokens
pub skip_ends : (in_comment : Bool) (text : List ℕ) → EndsIn (skip_from in_comment text) text
skip_ends true [] = ([], refl)
skip_ends false [] = ([], refl)
skip_ends true (b ∷ rest) = let s = skip_ends (not (eqb b 10)) rest in (b ∷ s.0, ap (λ t. b ∷ t) s.1)
skip_ends false (b ∷ rest) = by_tests (eqb b 35) (is_separator b) (skip_ends true rest) (skip_ends false rest)
  where
    by_tests : (c d : Bool) → EndsIn (skip_from true rest) rest → EndsIn (skip_from false rest) rest → EndsIn (cond c (skip_from true rest) (cond d (skip_from false rest) (b ∷ rest))) (b ∷ rest)
    by_tests true d s t = (b ∷ s.0, ap (λ t. b ∷ t) s.1)
    by_tests false true s t = (b ∷ t.0, ap (λ t. b ∷ t) t.1)
    by_tests false false s t = ([], refl)

pub behind_ends : (text : List ℕ) → EndsIn (behind text) text
unfolding behind
behind_ends text =
    further (skip_from false (drop (token_of text).1 text)) (drop (token_of text).1 text) text (skip_ends false (drop (token_of text).1 text))
    (take (token_of text).1 text, sym (take-append-drop (token_of text).1 text))

-- behind a text that another ends in
past_ends : (end text : List ℕ) → end ≡ behind text → EndsIn end text
past_ends end text is = subst (λ end. EndsIn end text) (sym is) (behind_ends text)

-- two tokens on
later_ends : (text : List ℕ) → EndsIn (behind (behind text)) text
later_ends text = further (behind (behind text)) (behind text) text (behind_ends (behind text)) (behind_ends text)

-- ---- symbols
names_in_ends : (left : ℕ) (names : Declared) (o : Operator) (text : List ℕ) (x : Operator × List ℕ) → names_in left names o text ≡ Ok x → EndsIn x.1 text
unfolding names_in
names_in_ends zero names o text x e = let b = bind_ok (independent_at names text) (λ i. refuse Order text) x e in absurd (let f = b.2 in cc)
names_in_ends (suc left) names o text x e =
    let b = bind_ok (independent_at names text) (λ i. names_go_on (λ rest. names_in left names (raised o i) rest) (raised o i) (front (behind text)) (behind text)) x e in
    by_token b.0 (front (behind text)) b.2 (λ k. names_in_ends left names (raised o b.0) (behind (behind text)) x k)
  where
    by_token : (i : ℕ) (t : Token) → names_go_on (λ rest. names_in left names (raised o i) rest) (raised o i) t (behind text) ≡ Ok x
        → (names_in left names (raised o i) (behind (behind text)) ≡ Ok x → EndsIn x.1 (behind (behind text))) → EndsIn x.1 text
    by_token i Comma k more = further x.1 (behind (behind text)) text (more k) (later_ends text)
    by_token i CloseBracket k more = subst (λ end. EndsIn end text) (ap (λ (p : Operator × List ℕ). p.1) (ok_is _ x k)) (later_ends text)
    by_token i t k more = absurd cc

symbol_ends : (names : Declared) (text : List ℕ) (x : Symbol × List ℕ) → symbol_at names text ≡ Ok x → EndsIn x.1 text
unfolding symbol_at
symbol_ends names text x e = by_token (front text) e
  where
    by_bracket : (s : Symbol) (t : Token) → symbol_of names text s t ≡ Ok x → EndsIn x.1 text
    by_bracket (Independent i) OpenBracket k = absurd cc
    by_bracket (Derivative d o) OpenBracket k =
        let b = bind_ok (names_in 60 names identity (behind (behind text))) (λ o. Ok (Derivative d o.0, o.1)) x k in
        subst (λ end. EndsIn end text) (ap (λ (p : Symbol × List ℕ). p.1) (ok_is _ x b.2))
        (further b.0.1 (behind (behind text)) text (names_in_ends 60 names identity (behind (behind text)) b.0 b.1) (later_ends text))
    by_bracket s t k = subst (λ end. EndsIn end text) (ap (λ (p : Symbol × List ℕ). p.1) (ok_is _ x k)) (behind_ends text)

    by_symbol : (o : Option Symbol) → symbol_if names text o ≡ Ok x → EndsIn x.1 text
    by_symbol None k = absurd cc
    by_symbol (Some s) k = by_bracket s (front (behind text)) k

    by_token : (t : Token) → symbol_from names t text ≡ Ok x → EndsIn x.1 text
    by_token Name k = by_symbol (find names (bytes_of text)) k
    by_token t k = absurd cc

-- ---- expressions
abbrev Ends : Grammar → Type 0
Ends g = (text : List ℕ) (o : List Op) (end : List ℕ) → g text o end → EndsIn end text

module _ (names : Declared) (g : Grammar) (ends : Ends g) where
  atom_ends : Ends (IsAtom names g)
  atom_ends text o end (inl a) = past_ends end text a.1.end
  atom_ends text o end (inr (inl a)) = symbol_ends names text (a.0, end) a.1
  atom_ends text o end (inr (inr a)) = ends text o end a.1

  power_ends : Ends (IsPower names g)
  power_ends text o end (inl a) = atom_ends text o end a
  power_ends text o end (inr a) = further end a.1 text (subst (λ end. EndsIn end a.1) (sym a.5.end) (later_ends a.1)) (atom_ends text a.0 a.1 a.3)

  factors_ends : (n : ℕ) (text : List ℕ) (o : List Op) (end : List ℕ) → IsFactors names g n text o end → EndsIn end text
  factors_ends zero text o end a = subst (λ end. EndsIn end text) (sym a.1) (itself text)
  factors_ends (suc n) text o end a =
      further end a.2 text (factors_ends n a.2 a.1 end a.5) (further a.2 (behind text) text (power_ends (behind text) a.0 a.2 a.4) (behind_ends text))

  product_ends : Ends (IsProduct names g)
  product_ends text o end a = further end a.2 text (factors_ends a.3 a.2 a.1 end a.5) (power_ends text a.0 a.2 a.4)

  sums_ends : (n : ℕ) (text : List ℕ) (o : List Op) (end : List ℕ) → IsSums names g n text o end → EndsIn end text
  sums_ends zero text o end a = subst (λ end. EndsIn end text) (sym a.1) (itself text)
  sums_ends (suc n) text o end a =
      further end a.2 text (sums_ends n a.2 a.1 end a.6) (further a.2 (behind text) text (product_ends (behind text) a.0 a.2 a.5) (behind_ends text))

  first_ends : Ends (IsFirst names g)
  first_ends text o end (inl a) = product_ends text o end a
  first_ends text o end (inr (inl a)) = further end (behind text) text (product_ends (behind text) o end a.1) (behind_ends text)
  first_ends text o end (inr (inr a)) = further end (behind text) text (product_ends (behind text) a.0 end a.2) (behind_ends text)

  poly_ends : Ends (IsPoly names g)
  poly_ends text o end a = further end a.2 text (sums_ends a.3 a.2 a.1 end a.5) (first_ends text a.0 a.2 a.4)

inside_ends : (names : Declared) (n : ℕ) → Ends (IsInside names n)
unfolding IsInside
inside_ends names zero text o end a = absurd a
inside_ends names (suc n) text o end a =
    further end a.0 text (past_ends end a.0 a.3)
    (further a.0 (behind text) text (poly_ends names (IsInside names n) (λ text o end a. inside_ends names n text o end a) (behind text) o a.0 a.1) (behind_ends text))

-- ---- items and their lists
side_ends : (names : Declared) → Ends (IsPoly names (IsInside names 64))
side_ends names = poly_ends names (IsInside names 64) (inside_ends names 64)

module _ (section : Section) (names : Declared) where
  sides_ends : Ends (IsSides section names)
  sides_ends text o end (inl a) = side_ends names text o end a
  sides_ends text o end (inr a) =
      further end a.2 text (further end (behind a.2) a.2 (side_ends names (behind a.2) a.1 end a.5) (behind_ends a.2)) (side_ends names text a.0 a.2 a.3)

  more_ends : (n : ℕ) (found : List (List Op)) (text : List ℕ) (all : List (List Op)) (end : List ℕ) → IsMore (IsItemOf section names) n found text all end → EndsIn end text
  more_ends zero found text all end a = subst (λ end. EndsIn end text) (sym a.1) (itself text)
  more_ends (suc n) found text all end a =
      further end a.1 text (more_ends n (found ++ a.0 ∷ []) a.1 all end a.4) (further a.1 (behind text) text (sides_ends (behind text) a.0 a.1 a.3) (behind_ends text))

  list_ends : (text : List ℕ) (all : List (List Op)) (end : List ℕ) → IsList (IsItemOf section names) text all end → EndsIn end text
  list_ends text all end (inl a) = past_ends end text a.0.1
  list_ends text all end (inr a) =
      further end a.2 text (past_ends end a.2 a.6.1) (further a.2 a.1 text (more_ends a.3 ([] ++ a.0 ∷ []) a.1 all a.2 a.5) (sides_ends text a.0 a.1 a.4))

  pub section_ends : (text : List ℕ) (items : List (List Op)) (end : List ℕ) → IsSection section names text items end → EndsIn end text
  section_ends text items end a = further end a.0 text (list_ends a.0 items end a.2) (past_ends a.0 text a.1.1)

-- ---- the header
more_names_end : (group : Group) (n : ℕ) (names : Declared) (text : List ℕ) (all : Declared) (end : List ℕ) → IsMoreNames group n names text all end → EndsIn end text
more_names_end group zero names text all end a = subst (λ end. EndsIn end text) (sym a.1) (itself text)
more_names_end group (suc n) names text all end a =
    further end (behind (behind text)) text (more_names_end group n (declared group names (bytes_of (behind text))) (behind (behind text)) all end a.2) (later_ends text)

names_end : (group : Group) (most : ℕ) (names : Declared) (text : List ℕ) (all : Declared) (end : List ℕ) → IsNames group most names text all end → EndsIn end text
names_end group most names text all end a =
    further end (behind text) text (more_names_end group a.0 (declared group names (bytes_of text)) (behind text) all end a.3) (behind_ends text)

independents_end : (text : List ℕ) (all : Declared) (end : List ℕ) → IsIndependents text all end → EndsIn end text
independents_end text all end a = further end a.0 text (by_list a.2) (past_ends a.0 text a.1.1)
  where
    by_list : (Stands is_semicolon a.0 end × (all ≡ no_names)) ⊎ ((last : List ℕ) × IsNames Independents 4 no_names a.0 all last × Stands is_semicolon last end) → EndsIn end a.0
    by_list (inl b) = past_ends end a.0 b.0.1
    by_list (inr b) = further end b.0 a.0 (past_ends end b.0 b.2.1) (names_end Independents 4 no_names a.0 all b.0 b.1)

block_ends : (kind : Kind) (names : Declared) (text : List ℕ) (all : Declared) (block : BlockValue) (end : List ℕ) → IsBlock kind names text all block end → EndsIn end text
block_ends kind names text all block end a =
    further end a.1 text (past_ends end a.1 a.4.1) (further a.1 a.0 text (names_end Dependents (room names) names a.0 all a.1 a.3) (past_ends a.0 text a.2.1))

blocks_end : (n : ℕ) (names : Declared) (text : List ℕ) (all : Declared) (found : List BlockValue) (end : List ℕ) → IsBlocks n names text all found end → EndsIn end text
blocks_end zero names text all found end a = subst (λ end. EndsIn end text) (sym a.2) (itself text)
blocks_end (suc n) names text all found end a =
    further end a.3 text (blocks_end n a.1 a.3 all a.4 end a.7) (further a.3 (behind text) text (block_ends a.0 names (behind text) a.1 a.2 a.3 a.6) (behind_ends text))

pub header_ends : (text : List ℕ) (all : Declared) (found : List BlockValue) (end : List ℕ) → IsHeader text all found end → EndsIn end text
header_ends text all found end a =
    further end a.3 text (past_ends end a.3 a.8.1)
    (further a.3 a.2 text (blocks_end a.4 a.0 a.2 all found a.3 a.7) (further a.2 a.1 text (past_ends a.2 a.1 a.6.1) (independents_end text a.0 a.1 a.5)))
