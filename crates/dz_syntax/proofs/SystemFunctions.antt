-- The functions of a system are of distinct dependents, and expressions in independents alone.
use Rattle.std.proofs.Common.{◌≡◌, ◌≢◌, ℕ, zero, suc, ◌==◌, ◌<◌, ◌-◌, ◌||◌, Bool, true, false, map, length, take, slice_index_or, List, [], ◌∷◌, ◌++◌, Result, Ok, Err, All, refl, sym, ap, subst, inl, inr, arith}
use Rattle.std.specs.List.{AllPairs, list_any}
use Rattle.std.specs.Prelude.{IfOk}
use Rattle.std.proofs.lemmas.Bool.Decides.{nat_tests}
use Rattle.std.proofs.lemmas.List.{length-take}
use Rattle.std.proofs.lemmas.List.Elements.{All-append}
use Rattle.std.proofs.lemmas.List.Quantifiers.{all_pairs_push}
use Rattle.dz_rank.specs.declared.rankings.Signature.{Signature}
use Rattle.dz_syntax.specs.declared.fault.SyntaxFault.{SyntaxFault}
use Rattle.dz_syntax.specs.declared.endings.Form.{Form}
use Rattle.dz_syntax.specs.declared.endings.Form.TheVariants.{Plain, Questions, Values, Document, Functions}
use Rattle.dz_syntax.specs.declared.expression.Op.{Op}
use Rattle.dz_syntax.specs.declared.system.SystemTree.{SystemTree}
use Rattle.dz_syntax.specs.Tokens.{behind, bytes_of}
use Rattle.dz_syntax.specs.Names.{Declared, dependents, signature_of}
use Rattle.dz_syntax.specs.Items.{Answers}
use Rattle.dz_syntax.specs.Endings.{Rest}
use Rattle.dz_syntax.specs.Functions.{independents_alone}
use Rattle.dz_syntax.specs.Postfix.{IsExpression}
use Rattle.dz_syntax.specs.Systems.{HasFunctions, Tree, tree_of, system_of}
use Rattle.dz_syntax.specs.SystemGrammar.{IsFunction, IsMore, IsList, IsRest, IsSystem}
use Rattle.dz_syntax.proofs.Postfix.{poly_is_made, made_expression}
use Rattle.dz_syntax.proofs.SymbolsFit.{find_fits, symbol_fits}
use Rattle.dz_syntax.proofs.SystemReadings.{system_found}

abbrev Given : Type 0
Given = List (ℕ × List Op)

-- the signature of the independents alone
abbrev plain_signature : Declared → Signature
plain_signature names = record { independents = names.independents; dependents = 0 }

alone_is_plain : (names : Declared) → signature_of (independents_alone names) ≡ plain_signature names
alone_is_plain names =
    let none : length (take names.independents names.all) - names.independents ≡ 0 = omega (arith, length-take names.independents names.all) in
    ap (λ n. record { independents = names.independents; dependents = n }) none

-- a number that is found not to be among those with functions has none
not_among : (d : ℕ) (found : Given) → list_any (λ u. d == u) (map (λ f. f.0) found) ≡ false
    → (k : ℕ) (e : ℕ × List Op) → k < length found → (slice_index_or found k e).0 ≢ d
not_among d [] clear k e lt = absurd (omega arith)
not_among d (f ∷ fs) clear zero e lt = λ h. let same : (d == f.0) ≡ true = itself d f.0 (sym h) in cc
  where
    itself : (m n : ℕ) → m ≡ n → (m == n) ≡ true
    itself m n h = grind (arith, nat_tests)
not_among d (f ∷ fs) clear (suc k) e lt = not_among d fs (later (d == f.0) (list_any (λ u. d == u) (map (λ f. f.0) fs)) clear) k e (omega arith)
  where
    later : (a b : Bool) → (a || b) ≡ false → b ≡ false
    later true b e = absurd cc
    later false b e = e

-- functions of distinct dependents that are read
record AreFit (names : Declared) (functions : Given) : Type 0 where
  belong : All (λ f. f.0 < dependents names) functions
  plain : All (λ f. IsExpression (plain_signature names) f.1) functions
  distinct : AllPairs (λ f h. f.0 ≢ h.0) functions

no_functions : (names : Declared) → AreFit names []
no_functions names = record {
  belong = λ i d lt. absurd (omega arith);
  plain = λ i d lt. absurd (omega arith);
  distinct = λ i j d lt within. absurd (omega arith);
}

one_is : (P : ℕ × List Op → Type 0) (f : ℕ × List Op) → P f → All P (f ∷ [])
one_is P f is = at
  where
    at : (i : ℕ) (d : ℕ × List Op) → i < 1 → P (slice_index_or (f ∷ []) i d)
    at zero d lt = is
    at (suc i) d lt = absurd (omega arith)

one_more : (names : Declared) (found : Given) (text : List ℕ) (f : ℕ × List Op) (rest : List ℕ) → AreFit names found → IsFunction names found text f rest → AreFit names (found ++ f ∷ [])
one_more names found text f rest fit a =
    let alone = independents_alone names in
    let is : (a.0, a.2) ≡ f = sym a.9 in
    let here : a.0 < dependents names = (find_fits names (bytes_of text) _ a.5).0.0 in
    let made = made_expression (signature_of alone) a.2 (poly_is_made alone (signature_of alone) (symbol_fits alone) a.3 a.2 rest a.8) in
    record {
      belong = All-append (λ f. f.0 < dependents names) found (f ∷ []) fit.belong (one_is (λ f. f.0 < dependents names) f (subst (λ (f : ℕ × List Op). f.0 < dependents names) is here));
      plain = All-append (λ f. IsExpression (plain_signature names) f.1) found (f ∷ []) fit.plain
          (one_is (λ f. IsExpression (plain_signature names) f.1) f (subst (λ (f : ℕ × List Op). IsExpression (plain_signature names) f.1) is (subst (λ (g : Signature). IsExpression g a.2) (alone_is_plain names) made)));
      distinct = all_pairs_push (λ f h. f.0 ≢ h.0) found f fit.distinct (λ k d lt. subst (λ (h : ℕ × List Op). (slice_index_or found k d).0 ≢ h.0) is (not_among a.0 found a.6 k d lt));
    }

more_fit : (names : Declared) (n : ℕ) (found : Given) (text : List ℕ) (all : Given) (rest : List ℕ) → AreFit names found → IsMore (IsFunction names) n found text all rest → AreFit names all
more_fit names zero found text all rest fit more = subst (AreFit names) (sym more.0) fit
more_fit names (suc n) found text all rest fit more =
    more_fit names n (found ++ more.0 ∷ []) more.1 all rest (one_more names found (behind text) more.0 more.1 fit more.3) more.4

list_fit : (names : Declared) (text : List ℕ) (all : Given) (rest : List ℕ) → IsList (IsFunction names) text all rest → AreFit names all
list_fit names text all rest (inl a) = subst (AreFit names) (sym a.1) (no_functions names)
list_fit names text all rest (inr a) = more_fit names a.3 (a.0 ∷ []) a.1 all a.2 (one_more names [] text a.0 a.1 (no_functions names) a.4) a.5

rest_fits : (form : Form) (total : ℕ) (names : Declared) (text : List ℕ) (r : Rest) → IsRest form total names text r → AreFit names r.functions
rest_fits Plain total names text r a = subst (λ (r : Rest). AreFit names r.functions) (sym a.1) (no_functions names)
rest_fits Questions total names text r a = subst (λ (r : Rest). AreFit names r.functions) (sym a.4) (no_functions names)
rest_fits Values total names text r a = subst (λ (r : Rest). AreFit names r.functions) (sym a.6) (no_functions names)
rest_fits Document total names text r a = subst (λ (r : Rest). AreFit names r.functions) (sym a.3) (no_functions names)
rest_fits Functions total names text r a = subst (λ (r : Rest). AreFit names r.functions) (sym a.6) (list_fit names a.1 a.0 a.2 a.4)

fit_functions : (names : Declared) (t : Tree) → t.signature ≡ signature_of names → AreFit names t.functions → HasFunctions t
fit_functions names t e fit = record {
  belong = subst (λ (g : Signature). All (λ f. f.0 < g.dependents) t.functions) (sym e) fit.belong;
  plain = subst (λ (g : Signature). All (λ f. IsExpression (record { independents = g.independents; dependents = 0 }) f.1) t.functions) (sym e) fit.plain;
  distinct = fit.distinct;
}

system_has : (form : Form) (bytes : List ℕ) (tree : Tree) → IsSystem form bytes tree → HasFunctions tree
system_has form bytes tree a =
    subst (λ (t : Tree). HasFunctions t) (sym a.12) (fit_functions a.0 _ refl (rest_fits form (length bytes) a.0 a.7 a.4 a.11))

pub have_functions : (form : Form) (bytes : List ℕ) (r : Result SystemTree SyntaxFault) → Answers (λ t. tree_of t) r (system_of form bytes) → IfOk r (λ t. HasFunctions (tree_of t))
have_functions form bytes (Ok t) e = system_has form bytes (tree_of t) (system_found form bytes (tree_of t) e)
have_functions form bytes (Err f) e = tt
