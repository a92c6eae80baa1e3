-- The items of a system are expressions over its names.
use Rattle.std.proofs.Common.{◌≡◌, ℕ, zero, suc, ◌<◌, length, slice_index_or, List, [], ◌∷◌, ◌++◌, Result, Ok, Err, All, refl, sym, subst, inl, inr, arith}
use Rattle.std.specs.Prelude.{IfOk}
use Rattle.std.proofs.lemmas.List.Elements.{All-append}
use Rattle.dz_syntax.specs.declared.fault.SyntaxFault.{SyntaxFault}
use Rattle.dz_syntax.specs.declared.marks.Section.{Section}
use Rattle.dz_syntax.specs.declared.marks.Section.TheVariants as sections
use Rattle.dz_syntax.specs.declared.endings.Form.{Form}
use Rattle.dz_syntax.specs.declared.endings.Form.TheVariants.{Plain, Questions, Values, Document, Functions}
use Rattle.dz_syntax.specs.declared.system.SystemTree.{SystemTree}
use Rattle.dz_syntax.specs.declared.expression.Op.{Op}
use Rattle.dz_syntax.specs.declared.expression.Op.TheVariants as ops
use Rattle.dz_syntax.specs.Tokens.{behind}
use Rattle.dz_syntax.specs.Names.{Declared, signature_of}
use Rattle.dz_syntax.specs.Items.{Answers}
use Rattle.dz_syntax.specs.Endings.{Rest}
use Rattle.dz_syntax.specs.Postfix.{IsExpression}
use Rattle.dz_syntax.specs.Systems.{Tree, HasExpressions, tree_of, system_of}
use Rattle.dz_syntax.specs.SystemGrammar.{IsSides, IsItemOf, IsMore, IsList, IsSection, IsRest, IsSystem}
use Rattle.dz_syntax.proofs.Postfix.{poly_is_made, made_expression, two_made}
use Rattle.dz_syntax.proofs.SymbolsFit.{symbol_fits}
use Rattle.dz_syntax.proofs.SystemReadings.{system_found}

sides_are_expression : (section : Section) (names : Declared) (text : List ℕ) (o : List Op) (rest : List ℕ) → IsSides section names text o rest → IsExpression (signature_of names) o
sides_are_expression section names text o rest (inl p) = made_expression (signature_of names) o (poly_is_made names (signature_of names) (symbol_fits names) text o rest p)
sides_are_expression section names text o rest (inr a) =
    let left = poly_is_made names (signature_of names) (symbol_fits names) text a.0 a.2 a.3 in
    let right = poly_is_made names (signature_of names) (symbol_fits names) (behind a.2) a.1 rest a.5 in
    subst (λ (l : List Op). IsExpression (signature_of names) l) (sym a.6) (made_expression (signature_of names) ((a.0 ++ a.1) ++ ops.Sub ∷ []) (two_made (signature_of names) a.0 a.1 ops.Sub left right tt (λ n more. refl)))

abbrev AreExpressions : Declared → List (List Op) → Type 0
AreExpressions names items = All (λ item. IsExpression (signature_of names) item) items

one_expression : (names : Declared) (o : List Op) → IsExpression (signature_of names) o → AreExpressions names (o ∷ [])
one_expression names o is = at
  where
    at : (i : ℕ) (d : List Op) → i < 1 → IsExpression (signature_of names) (slice_index_or (o ∷ []) i d)
    at zero d lt = is
    at (suc i) d lt = absurd (omega arith)

no_expressions : (names : Declared) → AreExpressions names []
no_expressions names = λ i d lt. absurd (omega arith)

more_are_expressions : (section : Section) (names : Declared) (n : ℕ) (found : List (List Op)) (text : List ℕ) (all : List (List Op)) (rest : List ℕ) → AreExpressions names found
    → IsMore (IsItemOf section names) n found text all rest → AreExpressions names all
more_are_expressions section names zero found text all rest p more = subst (λ (l : List (List Op)). AreExpressions names l) (sym more.0) p
more_are_expressions section names (suc n) found text all rest p more =
    let one = one_expression names more.0 (sides_are_expression section names (behind text) more.0 more.1 more.3) in
    more_are_expressions section names n (found ++ more.0 ∷ []) more.1 all rest (All-append (λ item. IsExpression (signature_of names) item) found (more.0 ∷ []) p one) more.4

list_is_expressions : (section : Section) (names : Declared) (text : List ℕ) (all : List (List Op)) (rest : List ℕ) → IsList (IsItemOf section names) text all rest → AreExpressions names all
list_is_expressions section names text all rest (inl a) = subst (λ (l : List (List Op)). AreExpressions names l) (sym a.1) (no_expressions names)
list_is_expressions section names text all rest (inr a) =
    more_are_expressions section names a.3 (a.0 ∷ []) a.1 all a.2 (one_expression names a.0 (sides_are_expression section names text a.0 a.1 a.4)) a.5

section_is_expressions : (section : Section) (names : Declared) (text : List ℕ) (all : List (List Op)) (rest : List ℕ) → IsSection section names text all rest → AreExpressions names all
section_is_expressions section names text all rest a = list_is_expressions section names a.0 all rest a.2

rest_is_expressions : (form : Form) (total : ℕ) (names : Declared) (text : List ℕ) (r : Rest) → IsRest form total names text r → AreExpressions names r.questions
rest_is_expressions Plain total names text r a = subst (λ (r : Rest). AreExpressions names r.questions) (sym a.1) (no_expressions names)
rest_is_expressions Questions total names text r a = subst (λ (r : Rest). AreExpressions names r.questions) (sym a.4) (section_is_expressions sections.Questions names text a.0 a.1 a.2)
rest_is_expressions Values total names text r a = subst (λ (r : Rest). AreExpressions names r.questions) (sym a.6) (no_expressions names)
rest_is_expressions Document total names text r a = subst (λ (r : Rest). AreExpressions names r.questions) (sym a.3) (no_expressions names)
rest_is_expressions Functions total names text r a = subst (λ (r : Rest). AreExpressions names r.questions) (sym a.6) (no_expressions names)

system_has : (form : Form) (bytes : List ℕ) (tree : Tree) → IsSystem form bytes tree → HasExpressions tree
system_has form bytes tree a =
    subst (λ (t : Tree). HasExpressions t) (sym a.12) (record {
      equations = section_is_expressions sections.Equations a.0 a.5 a.2 a.6 a.9;
      inequations = section_is_expressions sections.Inequations a.0 a.6 a.3 a.7 a.10;
      questions = rest_is_expressions form (length bytes) a.0 a.7 a.4 a.11;
    })

-- the items of a tree that is read are expressions over its signature
pub system_expressions : (form : Form) (bytes : List ℕ) (tree : Tree) → system_of form bytes ≡ Ok tree → HasExpressions tree
system_expressions form bytes tree e = system_has form bytes tree (system_found form bytes tree e)

pub have_expressions : (form : Form) (bytes : List ℕ) (r : Result SystemTree SyntaxFault) → Answers (λ t. tree_of t) r (system_of form bytes) → IfOk r (λ t. HasExpressions (tree_of t))
have_expressions form bytes (Ok t) e = system_expressions form bytes (tree_of t) e
have_expressions form bytes (Err f) e = tt
