-- The values of a system are of distinct symbols of its names.
use Rattle.std.proofs.Common.{◌≡◌, ◌≢◌, ℕ, zero, suc, ◌==◌, ◌<◌, ◌&&◌, ◌||◌, Bool, true, false, map, length, slice_index_or, List, [], ◌∷◌, ◌++◌, Result, Ok, Err, All, refl, sym, ap, subst, ◌∙◌, inl, inr, arith}
use Rattle.std.specs.List.{list_any}
use Rattle.std.specs.Prelude.{IfOk}
use Rattle.std.proofs.lemmas.Bool.Decides.{nat_tests}
use Rattle.std.proofs.lemmas.List.Elements.{All-append}
use Rattle.std.proofs.lemmas.List.Quantifiers.{all_pairs_push}
use Rattle.std.proofs.lemmas.Slice.Eq.{bytes_eq-Decides}
use Rattle.std.specs.Str.{bytes_eq}
use Rattle.dz_int.specs.Fractions.{Fraction}
use Rattle.dz_rank.specs.declared.symbols.Symbol.{Symbol}
use Rattle.dz_rank.specs.Symbols.{BelongsTo}
use Rattle.dz_rank.specs.declared.symbols.Symbol.TheVariants.{Independent, Derivative}
use Rattle.dz_syntax.specs.declared.fault.SyntaxFault.{SyntaxFault}
use Rattle.dz_syntax.specs.declared.endings.Form.{Form}
use Rattle.dz_syntax.specs.declared.endings.Form.TheVariants.{Plain, Questions, Values, Document, Functions}
use Rattle.dz_syntax.specs.declared.system.SystemTree.{SystemTree}
use Rattle.dz_syntax.specs.Tokens.{behind}
use Rattle.dz_syntax.specs.Names.{Declared, signature_of}
use Rattle.dz_syntax.specs.Items.{Answers}
use Rattle.dz_syntax.specs.Endings.{Rest}
use Rattle.dz_syntax.specs.Systems.{AreDistinct, HasValues, Tree, tree_of, system_of}
use Rattle.dz_syntax.specs.SystemGrammar.{IsValue, IsMore, IsList, IsRest, IsSystem}
use Rattle.dz_syntax.specs.Values.{same_symbol}
use Rattle.dz_syntax.proofs.SymbolsFit.{Fits, symbol_fits}
use Rattle.dz_syntax.proofs.SystemReadings.{system_found}

abbrev Given : Type 0
Given = List (Symbol × Fraction)

bytes_itself : (bs : List ℕ) → bytes_eq bs bs ≡ true
bytes_itself bs = (bytes_eq-Decides bs bs).1 refl

same_itself : (s : Symbol) → same_symbol s s ≡ true
same_itself (Independent i) = grind (arith, nat_tests)
same_itself (Derivative u t) =
    let first : (u == u) ≡ true = grind (arith, nat_tests) in
    ap (λ b. b && bytes_eq t.counts t.counts) first ∙ bytes_itself t.counts

-- a symbol that is found not to be among those with values has none
not_among : (s : Symbol) (found : Given) → list_any (λ w. same_symbol s w) (map (λ u. u.0) found) ≡ false
    → (k : ℕ) (d : Symbol × Fraction) → k < length found → (slice_index_or found k d).0 ≢ s
not_among s [] clear k d lt = absurd (omega arith)
not_among s (u ∷ us) clear zero d lt = λ e. let same : same_symbol s u.0 ≡ true = subst (λ w. same_symbol s w ≡ true) (sym e) (same_itself s) in cc
not_among s (u ∷ us) clear (suc k) d lt = not_among s us (later (same_symbol s u.0) (list_any (λ w. same_symbol s w) (map (λ u. u.0) us)) clear) k d (omega arith)
  where
    later : (a b : Bool) → (a || b) ≡ false → b ≡ false
    later true b e = absurd cc
    later false b e = e

-- values of distinct symbols that are read
record AreFit (names : Declared) (values : Given) : Type 0 where
  fits : All (λ p. Fits names p.0) values
  distinct : AreDistinct values

no_values : (names : Declared) → AreFit names []
no_values names = record { fits = λ i d lt. absurd (omega arith); distinct = λ i j d lt within. absurd (omega arith) }

one_fits : (names : Declared) (p : Symbol × Fraction) → Fits names p.0 → All (λ p. Fits names p.0) (p ∷ [])
one_fits names p fits = at
  where
    at : (i : ℕ) (d : Symbol × Fraction) → i < 1 → Fits names (slice_index_or (p ∷ []) i d).0
    at zero d lt = fits
    at (suc i) d lt = absurd (omega arith)

one_more : (names : Declared) (found : Given) (text : List ℕ) (v : Symbol × Fraction) (rest : List ℕ) → AreFit names found → IsValue names found text v rest → AreFit names (found ++ v ∷ [])
one_more names found text v rest fit a =
    let is : a.0 ≡ v.0 = ap (λ p. p.0) (sym a.11) in
    record {
      fits = All-append (λ p. Fits names p.0) found (v ∷ []) fit.fits (one_fits names v (subst (Fits names) is (symbol_fits names text a.0 a.3 a.6)));
      distinct = all_pairs_push (λ p q. p.0 ≢ q.0) found v fit.distinct (λ k d lt. subst (λ s. (slice_index_or found k d).0 ≢ s) is (not_among a.0 found a.7 k d lt));
    }

more_fit : (names : Declared) (n : ℕ) (found : Given) (text : List ℕ) (all : Given) (rest : List ℕ) → AreFit names found → IsMore (IsValue names) n found text all rest → AreFit names all
more_fit names zero found text all rest fit more = subst (AreFit names) (sym more.0) fit
more_fit names (suc n) found text all rest fit more =
    more_fit names n (found ++ more.0 ∷ []) more.1 all rest (one_more names found (behind text) more.0 more.1 fit more.3) more.4

list_fit : (names : Declared) (text : List ℕ) (all : Given) (rest : List ℕ) → IsList (IsValue names) text all rest → AreFit names all
list_fit names text all rest (inl a) = subst (AreFit names) (sym a.1) (no_values names)
list_fit names text all rest (inr a) = more_fit names a.3 (a.0 ∷ []) a.1 all a.2 (one_more names [] text a.0 a.1 (no_values names) a.4) a.5

rest_fits : (form : Form) (total : ℕ) (names : Declared) (text : List ℕ) (r : Rest) → IsRest form total names text r → AreFit names r.values
rest_fits Plain total names text r a = subst (λ (r : Rest). AreFit names r.values) (sym a.1) (no_values names)
rest_fits Questions total names text r a = subst (λ (r : Rest). AreFit names r.values) (sym a.4) (no_values names)
rest_fits Values total names text r a = subst (λ (r : Rest). AreFit names r.values) (sym a.6) (list_fit names a.1 a.0 a.2 a.4)
rest_fits Document total names text r a = subst (λ (r : Rest). AreFit names r.values) (sym a.3) (no_values names)
rest_fits Functions total names text r a = subst (λ (r : Rest). AreFit names r.values) (sym a.6) (no_values names)

fit_values : (names : Declared) (t : Tree) → t.signature ≡ signature_of names → AreFit names t.values → HasValues t
fit_values names t e fit = record {
  belong = λ i d lt. subst (λ g. BelongsTo g (slice_index_or t.values i d).0) (sym e) (fit.fits i d lt).0;
  low = λ i d lt. (fit.fits i d lt).1;
  distinct = fit.distinct;
}

system_has : (form : Form) (bytes : List ℕ) (tree : Tree) → IsSystem form bytes tree → HasValues tree
system_has form bytes tree a =
    subst (λ (t : Tree). HasValues t) (sym a.12) (fit_values a.0 _ refl (rest_fits form (length bytes) a.0 a.7 a.4 a.11))

pub have_values : (form : Form) (bytes : List ℕ) (r : Result SystemTree SyntaxFault) → Answers (λ t. tree_of t) r (system_of form bytes) → IfOk r (λ t. HasValues (tree_of t))
have_values form bytes (Ok t) e = system_has form bytes (tree_of t) (system_found form bytes (tree_of t) e)
have_values form bytes (Err f) e = tt
