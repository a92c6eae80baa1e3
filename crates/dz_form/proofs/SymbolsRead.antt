-- The canonical texts of symbols are read, and nothing else.
use Rattle.std.proofs.Common.{◌≡◌, ℕ, ◌<◌, ◌≤◌, ◌+◌, ◌-◌, length, sum, List, [], ◌∷◌, ◌++◌, Bool, true, false, Option, Some, None, IfSome, IfNone, refl, sym, ap, subst, ◌∙◌, arith, append-nil}
use Rattle.std.specs.Prelude.{if◌then◌else◌, cond, codes, nat_lt}
use Rattle.std.specs.Option.{option_map, option_and_then}
use Rattle.std.proofs.lemmas.Bool.Decides.{nat_tests}
use Rattle.dz_rank.specs.declared.symbols.Operator.{Operator}
use Rattle.dz_rank.specs.declared.symbols.Symbol.{Symbol}
use Rattle.dz_rank.specs.declared.symbols.Symbol.TheVariants.{Independent, Derivative}
use Rattle.dz_rank.specs.Symbols.{BelongsTo, IsOperatorOf, identity, total_order}
use Rattle.dz_syntax.specs.Names.{Declared, IsDeclared, dependents, find, plain, signature_of}
use Rattle.dz_syntax.proofs.SymbolsFit.{find_fits}
use Rattle.dz_form.specs.Texts.{derivations_text, is_identity, name_numbered, symbol_text}
use Rattle.dz_form.specs.Reading.{IsSymbolText, split_once, derivations, derivative_from, derivative_at, without_bracket, symbol_from, symbol_at}
use Rattle.dz_form.proofs.SymbolTexts.{find-independent, find-dependent, identity_is}
use Rattle.dz_form.proofs.CutTexts.{some_is, lacks, name_lacks, split_once-at, split_once-none, split_once-some, without_bracket-at, without_bracket-some}
use Rattle.dz_form.proofs.OperatorsRead.{IsDerivationsText, and_then_some, derivations_found, derivations_read, found, independent_found}

-- ---- what a name stands for

-- a name stands for a dependent
record IsDependent (names : Declared) (name : List ℕ) (u : ℕ) (t : Operator) : Type 0 where
  below : u < dependents names
  name_is : name ≡ name_numbered names (names.independents + u)
  operator_is : t ≡ identity

-- a dependent, by whether the number is one of an independent
dependent_by : (names : Declared) (name : List ℕ) (j u : ℕ) (t : Operator) (below : Bool) → j < length names.all → name ≡ name_numbered names j → nat_lt j names.independents ≡ below
    → (if below then Independent j else plain (j - names.independents)) ≡ Derivative u t → IsDependent names name u t
dependent_by names name j u t true lt is test e = absurd cc
dependent_by names name j u t false lt is test e =
    let least : names.independents ≤ j = grind (arith, nat_tests) in
    let number : j - names.independents ≡ u = cc in
    let place : j ≡ names.independents + u = omega (arith, least, number) in
    record { below = omega (arith, least, number, lt); name_is = is ∙ ap (name_numbered names) place; operator_is = cc }

-- a name that stands for a dependent is its name
dependent_found : (names : Declared) (name : List ℕ) (u : ℕ) (t : Operator) → find names name ≡ Some (Derivative u t) → IsDependent names name u t
dependent_found names name u t e =
    let f = found names name (Derivative u t) e in
    dependent_by names name f.0 u t (nat_lt f.0 names.independents) f.1 f.2 refl (some_is Symbol _ (Derivative u t) f.3)

-- ---- what is read is canonical

-- a name alone is the text of what it stands for
name_is_text : (names : Declared) (name : List ℕ) (s : Symbol) → find names name ≡ Some s → symbol_text names s ≡ name
unfolding symbol_text
name_is_text names name (Independent i) e = sym (independent_found names name i e).1
name_is_text names name (Derivative u t) e =
    let d = dependent_found names name u t e in
    rw d.operator_is (append-nil (name_numbered names (names.independents + u)) ∙ sym d.name_is)

-- a derivative that is read has an operator that is read
map_some : (u : ℕ) (r : Option Operator) (s : Symbol) → option_map (λ o. Derivative u o) r ≡ Some s → (o : Operator) × (r ≡ Some o) × (Derivative u o ≡ s)
map_some u None s e = absurd cc
map_some u (Some o) s e = (o, refl, some_is Symbol (Derivative u o) s e)

-- a name and derivations in brackets are the text of a derivative
brackets_are_text : (names : Declared) (name inside : List ℕ) (u : ℕ) (o : Operator) → u < dependents names → name ≡ name_numbered names (names.independents + u) → IsDerivationsText names o inside
    → IsSymbolText names (Derivative u o) (name ++ (codes "[" ++ (inside ++ codes "]")))
unfolding symbol_text
brackets_are_text names name inside u o below is t = record {
  symbol = (below, t.operator);
  order = t.order;
  text_is = rw (t.proper, t.text_is, is) refl;
}

-- a derivative, by what its name stands for
derivative_by : (names : Declared) (name inside : List ℕ) (s : Symbol) (meaning : Option Symbol) → IsDeclared names → find names name ≡ meaning → derivative_from names inside meaning ≡ Some s
    → IsSymbolText names s (name ++ (codes "[" ++ (inside ++ codes "]")))
derivative_by names name inside s None d is e = absurd cc
derivative_by names name inside s (Some (Independent i)) d is e = absurd cc
derivative_by names name inside s (Some (Derivative u t)) d is e =
    let f = map_some u (derivations 60 names identity inside) s e in
    let dependent = dependent_found names name u t is in
    subst (λ (s : Symbol). IsSymbolText names s (name ++ (codes "[" ++ (inside ++ codes "]")))) f.2
    (brackets_are_text names name inside u f.0 dependent.below dependent.name_is (derivations_found names inside f.0 d f.1))

-- what is read as a derivative is its text
derivative_found : (names : Declared) (name inside : List ℕ) (s : Symbol) → IsDeclared names → derivative_at names name inside ≡ Some s → IsSymbolText names s (name ++ (codes "[" ++ (inside ++ codes "]")))
unfolding derivative_at
derivative_found names name inside s d e = derivative_by names name inside s (find names name) d refl e

-- what is read is canonical, by whether it has a bracket
symbol_by : (names : Declared) (text : List ℕ) (s : Symbol) (cut : Option (List ℕ × List ℕ)) → IsDeclared names → split_once 91 text ≡ cut → symbol_from names text cut ≡ Some s → IsSymbolText names s text
symbol_by names text s None d is e = let f = find_fits names text s e in record { symbol = f.0; order = f.1; text_is = name_is_text names text s e }
symbol_by names text s (Some cut) d is e =
    let f = and_then_some (λ inside. derivative_at names cut.0 inside) (without_bracket cut.1) s e in
    let whole = split_once-some 91 text cut is ∙ ap (λ (rest : List ℕ). cut.0 ++ 91 ∷ rest) (without_bracket-some cut.1 f.0 f.1) in
    subst (λ (text : List ℕ). IsSymbolText names s text) (sym whole) (derivative_found names cut.0 f.0 s d f.2)

-- what is read as a symbol is its text
symbol_found : (names : Declared) (text : List ℕ) (s : Symbol) → IsDeclared names → symbol_at names text ≡ Some s → IsSymbolText names s text
unfolding symbol_at
symbol_found names text s d e = symbol_by names text s (split_once 91 text) d refl e

-- ---- what is canonical is read

-- a name has no bracket
lacks_bracket : (names : Declared) (i : ℕ) → IsDeclared names → i < length names.all → lacks 91 (name_numbered names i) ≡ true
lacks_bracket names i d lt = name_lacks 91 (name_numbered names i) refl (d.are_names i [] lt).bytes

-- a name alone is looked up
name_back : (names : Declared) (i : ℕ) → IsDeclared names → i < length names.all → symbol_at names (name_numbered names i) ≡ find names (name_numbered names i)
unfolding symbol_at
name_back names i d lt = ap (symbol_from names (name_numbered names i)) (split_once-none 91 (name_numbered names i) (lacks_bracket names i d lt))

-- a name with derivations in brackets is read
brackets_back : (names : Declared) (i u : ℕ) (o : Operator) (inside : List ℕ) → IsDeclared names → i < length names.all → find names (name_numbered names i) ≡ Some (plain u) → derivations 60 names identity inside ≡ Some o
    → symbol_at names (name_numbered names i ++ (codes "[" ++ (inside ++ codes "]"))) ≡ Some (Derivative u o)
unfolding symbol_at derivative_at
brackets_back names i u o inside d lt is read =
    let name = name_numbered names i in
    ap (symbol_from names (name ++ (codes "[" ++ (inside ++ codes "]")))) (split_once-at 91 name (inside ++ codes "]") (lacks_bracket names i d lt))
    ∙ ap (option_and_then (λ inside. derivative_at names name inside)) (without_bracket-at inside)
    ∙ ap (derivative_from names inside) is
    ∙ ap (option_map (λ o. Derivative u o)) read

-- the text of a derivative is read, by whether it has brackets
derivative_back : (names : Declared) (u : ℕ) (o : Operator) (none : Bool) → IsDeclared names → u < dependents names → IsOperatorOf names.independents o → sum o.counts ≤ 60 → is_identity o ≡ none
    → symbol_at names (name_numbered names (names.independents + u) ++ cond none [] (codes "[" ++ derivations_text names o ++ codes "]")) ≡ Some (Derivative u o)
derivative_back names u o true d lt is fits none =
    ap (symbol_at names) (append-nil (name_numbered names (names.independents + u)))
    ∙ name_back names (names.independents + u) d (omega (arith, lt))
    ∙ find-dependent names u d lt
    ∙ ap (λ (o : Operator). Some (Derivative u o)) (sym (identity_is names.independents o is none))
derivative_back names u o false d lt is fits none =
    brackets_back names (names.independents + u) u o (derivations_text names o) d (omega (arith, lt)) (find-dependent names u d lt) (derivations_read names o d is fits none)

-- the text of a symbol is read as the symbol
symbol_back : (names : Declared) (s : Symbol) → IsDeclared names → BelongsTo (signature_of names) s → total_order s ≤ 60 → symbol_at names (symbol_text names s) ≡ Some s
unfolding symbol_text
symbol_back names (Independent i) d belongs fits = name_back names i d (omega (arith, belongs, d.independents_are)) ∙ find-independent names i d belongs
symbol_back names (Derivative u o) d belongs fits = derivative_back names u o (is_identity o) d belongs.0 belongs.1 fits refl

-- what is not read is no text of a symbol
symbol_none : (names : Declared) (text : List ℕ) → IsDeclared names → symbol_at names text ≡ None → (s : Symbol) → IsSymbolText names s text → ⊥
symbol_none names text d e s t = let read = ap (symbol_at names) (sym t.text_is) ∙ symbol_back names s d t.symbol t.order in cc

-- ---- what the reader promises

-- the symbol that is found
pub when_found : (names : Declared) (text : List ℕ) (r : Option Symbol) → IsDeclared names → r ≡ symbol_at names text → IfSome r (λ s. IsSymbolText names s text)
when_found names text None d e = tt
when_found names text (Some s) d e = symbol_found names text s d (sym e)

-- where none is found
pub when_none : (names : Declared) (text : List ℕ) (r : Option Symbol) → IsDeclared names → r ≡ symbol_at names text → IfNone r ((s : Symbol) → IsSymbolText names s text → ⊥)
when_none names text None d e = symbol_none names text d (sym e)
when_none names text (Some s) d e = tt
