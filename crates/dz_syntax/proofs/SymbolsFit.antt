-- The symbols that are read belong to the signature of the names, and have total order at most 60.
use Rattle.std.proofs.Common.{◌≡◌, ℕ, zero, suc, ◌<◌, ◌≤◌, ◌+◌, ◌-◌, length, drop, sum, List, [], ◌∷◌, Result, Ok, Option, Some, None, Bool, true, false, All, refl, sym, subst, ◌∙◌, arith}
use Rattle.std.specs.Prelude.{nat_lt, if◌then◌else◌, slice_set, slice_index, position}
use Rattle.std.specs.Str.{bytes_eq}
use Rattle.std.proofs.lemmas.Bool.Decides.{nat_tests}
use Rattle.std.proofs.lemmas.List.{drop-set-lt, length-set}
use Rattle.std.proofs.lemmas.List.Quantifiers.{position-Some}
use Rattle.std.proofs.lemmas.List.Sums.{sum_by-cons}
use Rattle.dz_rank.specs.declared.symbols.Operator.{Operator}
use Rattle.dz_rank.specs.declared.symbols.Symbol.{Symbol}
use Rattle.dz_rank.specs.declared.symbols.Symbol.TheVariants.{Independent, Derivative}
use Rattle.dz_rank.specs.Symbols.{BelongsTo, IsOperatorOf, identity, total_order}
use Rattle.dz_syntax.specs.declared.token.Token.{Token}
use Rattle.dz_syntax.specs.declared.token.Token.TheVariants.{Name, Comma, OpenBracket, CloseBracket}
use Rattle.dz_syntax.specs.declared.fault.Fault.{Fault}
use Rattle.dz_syntax.specs.declared.fault.SyntaxKind.TheVariants.{Order}
use Rattle.dz_syntax.specs.Tokens.{front, behind, bytes_of}
use Rattle.dz_syntax.specs.Names.{Declared, dependents, find, plain, signature_of, symbol_numbered}
use Rattle.dz_syntax.specs.Atoms.{as_independent, independent_from, independent_at, raised, names_go_on, names_in, symbol_of, symbol_if, symbol_from, symbol_at}
use Rattle.dz_syntax.specs.Faults.{refuse}
use Rattle.dz_algebra.proofs.Outcomes.{bind_ok}
use Rattle.dz_syntax.proofs.Sound.{ok_is}

-- what is promised of a symbol that is read
abbrev pub Fits : Declared → Symbol → Type 0
Fits names s = BelongsTo (signature_of names) s × (total_order s ≤ 60)

-- ---- what a name stands for

abbrev Zeros : List ℕ → Type 0
Zeros ks = All (λ k. k ≡ 0) ks

zeros_drop : (n : ℕ) (ks : List ℕ) → Zeros ks → Zeros (drop n ks)
zeros_drop zero ks p = p
zeros_drop (suc n) [] p = p
zeros_drop (suc n) (k ∷ ks) p = zeros_drop n ks (λ i d lt. p (suc i) d (omega arith))

four_zeros : Zeros (0 ∷ 0 ∷ 0 ∷ 0 ∷ [])
four_zeros zero d lt = refl
four_zeros (suc zero) d lt = refl
four_zeros (suc (suc zero)) d lt = refl
four_zeros (suc (suc (suc zero))) d lt = refl
four_zeros (suc (suc (suc (suc i)))) d lt = absurd (omega arith)

plain_fits : (names : Declared) (d : ℕ) → d < dependents names → Fits names (plain d)
plain_fits names d lt = ((lt, record { size = refl; zeros = zeros_drop names.independents (0 ∷ 0 ∷ 0 ∷ 0 ∷ []) four_zeros }), omega arith)

chosen_fits : (names : Declared) (i : ℕ) (c : Bool) (s : Symbol) → i < length names.all → nat_lt i names.independents ≡ c
    → (if c then Independent i else plain (i - names.independents)) ≡ s → Fits names s
chosen_fits names i true s lt is e =
    let below : i < names.independents = grind (arith, nat_tests) in
    subst (λ (s : Symbol). Fits names s) e (below, omega arith)
chosen_fits names i false s lt is e =
    let above : names.independents ≤ i = grind (arith, nat_tests) in
    subst (λ (s : Symbol). Fits names s) e (plain_fits names (i - names.independents) (omega (arith, above, lt)))

some_is : (x y : Symbol) → Some x ≡ Some y → x ≡ y
some_is x y e = cc

numbered_fits : (names : Declared) (o : Option ℕ) (s : Symbol) → ((i : ℕ) → o ≡ Some i → i < length names.all) → symbol_numbered names.independents o ≡ Some s → Fits names s
numbered_fits names None s within e = absurd cc
numbered_fits names (Some i) s within e =
    chosen_fits names i (nat_lt i names.independents) s (within i refl) refl (some_is _ s e)

pub find_fits : (names : Declared) (name : List ℕ) (s : Symbol) → find names name ≡ Some s → Fits names s
unfolding find
find_fits names name s e =
    numbered_fits names (position (λ n. bytes_eq name n) names.all) s (λ i at. (position-Some (λ n. bytes_eq name n) names.all i [] at).0) e

-- ---- names in brackets

as_independent_fits : (names : Declared) (text : List ℕ) (o : Option Symbol) (i : ℕ) → ((s : Symbol) → o ≡ Some s → Fits names s) → as_independent text o ≡ Ok i → i < names.independents
as_independent_fits names text None i fits e = absurd cc
as_independent_fits names text (Some (Independent j)) i fits e = let h : j ≡ i = ok_is j i e in subst (λ k. k < names.independents) h (fits (Independent j) refl).0
as_independent_fits names text (Some (Derivative u t)) i fits e = absurd cc

independent_from_fits : (names : Declared) (t : Token) (text : List ℕ) (i : ℕ) → independent_from names t text ≡ Ok i → i < names.independents
independent_from_fits names Name text i e = as_independent_fits names text (find names (bytes_of text)) i (find_fits names (bytes_of text)) e
independent_from_fits names t text i e = absurd cc

independent_fits : (names : Declared) (text : List ℕ) (i : ℕ) → independent_at names text ≡ Ok i → i < names.independents
unfolding independent_at
independent_fits names text i e = independent_from_fits names (front text) text i e

-- an operator of the names, to which so many derivations may still come
pub record MayGrow (names : Declared) (left : ℕ) (o : Operator) : Type 0 where
  pub is : IsOperatorOf names.independents o
  pub total : sum o.counts + left ≤ 60

sum-raised : (ks : List ℕ) (i : ℕ) → sum (slice_set ks i (slice_index ks i + 1)) ≤ sum ks + 1
sum-raised [] i = omega arith
sum-raised (k ∷ ks) zero = omega (arith, sum_by-cons (λ x. x) k ks, sum_by-cons (λ x. x) (k + 1) ks)
sum-raised (k ∷ ks) (suc i) =
    omega (arith, sum_by-cons (λ x. x) k ks, sum_by-cons (λ x. x) k (slice_set ks i (slice_index ks i + 1)), sum-raised ks i)

pub raised_may_grow : (names : Declared) (left : ℕ) (o : Operator) (i : ℕ) → i < names.independents → MayGrow names (suc left) o → MayGrow names left (raised o i)
raised_may_grow names left o i lt m =
    record {
      is = record {
        size = length-set o.counts i (slice_index o.counts i + 1) ∙ m.is.size;
        zeros = subst (λ (ks : List ℕ). Zeros ks) (sym (drop-set-lt names.independents o.counts i (slice_index o.counts i + 1) lt)) m.is.zeros;
      };
      total = omega (arith, sum-raised o.counts i, m.total);
    }

pub identity_may_grow : (names : Declared) → MayGrow names 60 identity
identity_may_grow names = record { is = record { size = refl; zeros = zeros_drop names.independents (0 ∷ 0 ∷ 0 ∷ 0 ∷ []) four_zeros }; total = omega arith }

abbrev ReadOperator : Type 0
ReadOperator = Operator × List ℕ

abbrev OperatorFits : Declared → Operator → Type 0
OperatorFits names o = IsOperatorOf names.independents o × (sum o.counts ≤ 60)

go_on_fits : (names : Declared) (left : ℕ) (more : List ℕ → Result ReadOperator Fault) → ((text : List ℕ) (x : ReadOperator) → more text ≡ Ok x → OperatorFits names x.0)
    → (o : Operator) (t : Token) (text : List ℕ) (x : ReadOperator) → MayGrow names left o → names_go_on more o t text ≡ Ok x → OperatorFits names x.0
go_on_fits names left more fits o Comma text x m e = fits (behind text) x e
go_on_fits names left more fits o CloseBracket text x m e =
    subst (λ (x : ReadOperator). OperatorFits names x.0) (ok_is (o, behind text) x e) (m.is, omega (arith, m.total))
go_on_fits names left more fits o t text x m e = absurd cc

names_in_fits : (left : ℕ) (names : Declared) (o : Operator) (text : List ℕ) (x : ReadOperator) → MayGrow names left o → names_in left names o text ≡ Ok x → OperatorFits names x.0
unfolding names_in
names_in_fits zero names o text x m e = let b = bind_ok (independent_at names text) (λ i. refuse Order text) x e in absurd (let f = b.2 in cc)
names_in_fits (suc left) names o text x m e =
    let b = bind_ok (independent_at names text) (λ i. names_go_on (λ rest. names_in left names (raised o i) rest) (raised o i) (front (behind text)) (behind text)) x e in
    let g = raised_may_grow names left o b.0 (independent_fits names text b.0 b.1) m in
    go_on_fits names left (λ rest. names_in left names (raised o b.0) rest) (λ rest y. names_in_fits left names (raised o b.0) rest y g) (raised o b.0) (front (behind text)) (behind text) x g b.2

-- ---- symbols

abbrev ReadSymbol : Type 0
ReadSymbol = Symbol × List ℕ

symbol_of_fits : (names : Declared) (text : List ℕ) (s : Symbol) (t : Token) (x : ReadSymbol) → Fits names s → symbol_of names text s t ≡ Ok x → Fits names x.0
symbol_of_fits names text (Independent i) OpenBracket x f e = absurd cc
symbol_of_fits names text (Derivative d o) OpenBracket x f e =
    let b = bind_ok (names_in 60 names identity (behind (behind text))) (λ o. Ok (Derivative d o.0, o.1)) x e in
    let o = names_in_fits 60 names identity (behind (behind text)) b.0 (identity_may_grow names) b.1 in
    subst (λ (x : ReadSymbol). Fits names x.0) (ok_is (Derivative d b.0.0, b.0.1) x b.2) ((f.0.0, o.0), o.1)
symbol_of_fits names text s t x f e = subst (λ (x : ReadSymbol). Fits names x.0) (ok_is (s, behind text) x e) f

symbol_if_fits : (names : Declared) (text : List ℕ) (o : Option Symbol) (x : ReadSymbol) → ((s : Symbol) → o ≡ Some s → Fits names s) → symbol_if names text o ≡ Ok x → Fits names x.0
symbol_if_fits names text None x fits e = absurd cc
symbol_if_fits names text (Some s) x fits e = symbol_of_fits names text s (front (behind text)) x (fits s refl) e

symbol_from_fits : (names : Declared) (t : Token) (text : List ℕ) (x : ReadSymbol) → symbol_from names t text ≡ Ok x → Fits names x.0
symbol_from_fits names Name text x e = symbol_if_fits names text (find names (bytes_of text)) x (find_fits names (bytes_of text)) e
symbol_from_fits names t text x e = absurd cc

pub symbol_fits : (names : Declared) → (text : List ℕ) (v : Symbol) (rest : List ℕ) → symbol_at names text ≡ Ok (v, rest) → Fits names v
unfolding symbol_at
symbol_fits names text v rest e = symbol_from_fits names (front text) text (v, rest) e
