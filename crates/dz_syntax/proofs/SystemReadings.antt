-- The reading of a system, and the grammar.
use Rattle.std.proofs.Common.{◌≡◌, ℕ, ◌-◌, length, List, [], ◌∷◌, drop, Result, Ok, Err, Bool, true, false, refl, sym, ap, ◌∙◌, arith}
use Rattle.std.proofs.lemmas.Bool.Decides.{nat_tests}
use Rattle.std.specs.Prelude.{IfOk, if◌then◌else◌, ◌==◌}
use Rattle.dz_int.specs.Fractions.{Fraction}
use Rattle.dz_rank.specs.declared.symbols.Symbol.{Symbol}
use Rattle.dz_rank.specs.Rankings.{BlockValue}
use Rattle.dz_syntax.specs.declared.fault.Fault.{Fault}
use Rattle.dz_syntax.specs.declared.fault.SyntaxFault.{SyntaxFault}
use Rattle.dz_syntax.specs.declared.fault.SyntaxKind.TheVariants.{Unexpected}
use Rattle.dz_syntax.specs.declared.marks.Section.TheVariants as sections
use Rattle.dz_syntax.specs.declared.endings.Form.{Form}
use Rattle.dz_syntax.specs.declared.endings.Form.TheVariants.{Plain, Questions, Values, Document, Functions}
use Rattle.dz_syntax.specs.declared.system.SystemTree.{SystemTree}
use Rattle.dz_syntax.specs.declared.expression.Op.{Op}
use Rattle.dz_syntax.specs.Tokens.{front, behind, token_of, skip_from}
use Rattle.dz_syntax.specs.Names.{Declared, no_names, signature_of}
use Rattle.dz_algebra.specs.Outcome.{◌>>=◌}
use Rattle.dz_syntax.specs.Faults.{refuse}
use Rattle.dz_syntax.specs.Marks.{expected, is_values, is_end, is_nothing, is_semicolon}
use Rattle.dz_syntax.specs.Values.{element_of}
use Rattle.dz_syntax.specs.Functions.{element_of as function_of}
use Rattle.dz_syntax.specs.Sections.{section_at}
use Rattle.dz_syntax.specs.Endings.{Rest, end_at, values_from, values_at, functions_from, functions_at, line_from, document_at, rest_at}
use Rattle.dz_syntax.specs.Items.{placed, Answers}
use Rattle.dz_syntax.specs.Systems.{Tree, tree_of, header_at, system_at, system_of}
use Rattle.dz_syntax.specs.SystemGrammar.{Stands, IsValue, IsFunction, IsList, IsEnd, IsRest, IsSystem}
use Rattle.dz_algebra.proofs.Outcomes.{bind_ok}
use Rattle.dz_syntax.proofs.Sound.{ok_is}
use Rattle.dz_syntax.proofs.Complete.{on_ok}
use Rattle.dz_syntax.proofs.NamesGrammar.{stands_sound, stands_complete}
use Rattle.dz_syntax.proofs.BlocksGrammar.{header_sound, header_complete}
use Rattle.dz_syntax.proofs.ListsGrammar.{list_from, list_sound, list_complete}
use Rattle.dz_syntax.proofs.ItemsGrammar.{section_sound, section_complete}
use Rattle.dz_syntax.proofs.ValuesGrammar.{value_sound, value_complete, value_within, value_starts}
use Rattle.dz_syntax.proofs.FunctionsGrammar.{function_sound, function_complete, function_within, function_starts}

-- ---- the end

end_sound : (text rest : List ℕ) → end_at text ≡ Ok rest → IsEnd text
unfolding end_at
end_sound text rest e =
    let b = bind_ok (expected (is_end (front text)) text) (λ t. expected (is_nothing (front t)) t) rest e in
    let s = stands_sound is_nothing b.0 rest b.2 in
    (b.0, stands_sound is_end text b.0 b.1, s.0)

end_complete : (text : List ℕ) → IsEnd text → (rest : List ℕ) × (end_at text ≡ Ok rest)
unfolding end_at
end_complete text a = (
  behind a.0,
  on_ok (expected (is_end (front text)) text) a.0 (λ t. expected (is_nothing (front t)) t) (stands_complete is_end text a.0 a.1)
      ∙ stands_complete is_nothing a.0 (behind a.0) (a.2, refl),
)

-- ---- values

abbrev ReadValues : Type 0
ReadValues = List (Symbol × Fraction) × List ℕ

abbrev AreValues : Declared → List ℕ → List (Symbol × Fraction) → List ℕ → Type 0
AreValues names text values rest = (first : List ℕ) × Stands is_values text first × IsList (IsValue names) first values rest

values_from_is : (names : Declared) (c : Bool) (text : List ℕ) → values_from names c text ≡ list_from (element_of names) (IsValue names) c text
values_from_is names true text = refl
values_from_is names false text = refl

values_sound : (names : Declared) (text : List ℕ) (y : ReadValues) → values_at names text ≡ Ok y → AreValues names text y.0 y.1
unfolding values_at
values_sound names text y e =
    let b = bind_ok (expected (is_values (front text)) text) (λ t. values_from names (is_semicolon (front t)) t) y e in
    let c = is_semicolon (front b.0) in
    (b.0, stands_sound is_values text b.0 b.1, list_sound (element_of names) (IsValue names) (value_sound names) c b.0 y refl (sym (values_from_is names c b.0) ∙ b.2))

values_complete : (names : Declared) (text : List ℕ) (values : List (Symbol × Fraction)) (rest : List ℕ) → AreValues names text values rest → values_at names text ≡ Ok (values, rest)
unfolding values_at
values_complete names text values rest a =
    on_ok (expected (is_values (front text)) text) a.0 (λ t. values_from names (is_semicolon (front t)) t) (stands_complete is_values text a.0 a.1)
    ∙ values_from_is names (is_semicolon (front a.0)) a.0
    ∙ list_complete (element_of names) (IsValue names) (value_complete names) (value_within names) (value_starts names) a.0 values rest a.2

-- ---- the functions

-- a word, and [functions] ";"
abbrev AreFunctions : Declared → List ℕ → List (ℕ × List Op) → List ℕ → Type 0
AreFunctions names text functions rest =
    (mid : List ℕ) × Stands is_values text mid × IsList (IsFunction names) mid functions rest

functions_from_is : (names : Declared) (c : Bool) (text : List ℕ) → functions_from names c text ≡ list_from (function_of names) (IsFunction names) c text
functions_from_is names true text = refl
functions_from_is names false text = refl

functions_sound : (names : Declared) (text : List ℕ) (y : List (ℕ × List Op) × List ℕ) → functions_at names text ≡ Ok y → AreFunctions names text y.0 y.1
unfolding functions_at
functions_sound names text y e =
    let b = bind_ok (expected (is_values (front text)) text) (λ t. functions_from names (is_semicolon (front t)) t) y e in
    let c = is_semicolon (front b.0) in
    (b.0, stands_sound is_values text b.0 b.1, list_sound (function_of names) (IsFunction names) (function_sound names) c b.0 y refl (sym (functions_from_is names c b.0) ∙ b.2))

functions_complete : (names : Declared) (text : List ℕ) (functions : List (ℕ × List Op)) (rest : List ℕ) → AreFunctions names text functions rest → functions_at names text ≡ Ok (functions, rest)
unfolding functions_at
functions_complete names text functions rest a =
    on_ok (expected (is_values (front text)) text) a.0 (λ t. functions_from names (is_semicolon (front t)) t) (stands_complete is_values text a.0 a.1)
    ∙ functions_from_is names (is_semicolon (front a.0)) a.0
    ∙ list_complete (function_of names) (IsFunction names) (function_complete names) (function_within names) (function_starts names) a.0 functions rest a.2

-- ---- the document

line_if : (c : Bool) (b : ℕ) (rest document : List ℕ) → (b == 10) ≡ c → (if c then Ok rest else refuse Unexpected (b ∷ rest)) ≡ Ok document → b ∷ rest ≡ 10 ∷ document
line_if true b rest document is e = let h : rest ≡ document = ok_is rest document e in let k : b ≡ 10 = grind (arith, nat_tests) in rw (k, h) refl
line_if false b rest document is e = absurd cc

line_sound : (text document : List ℕ) → line_from text ≡ Ok document → text ≡ 10 ∷ document
line_sound [] document e = absurd cc
line_sound (b ∷ rest) document e = line_if (b == 10) b rest document refl e

document_sound : (text document : List ℕ) → document_at text ≡ Ok document → (is_end (front text) ≡ true) × (drop (token_of text).1 text ≡ 10 ∷ document)
unfolding document_at
document_sound text document e =
    let b = bind_ok (expected (is_end (front text)) text) (λ after. line_from (drop (token_of text).1 text)) document e in
    let s = stands_sound is_end text b.0 b.1 in
    (s.0, line_sound (drop (token_of text).1 text) document b.2)

document_complete : (text document : List ℕ) → is_end (front text) ≡ true → drop (token_of text).1 text ≡ 10 ∷ document → document_at text ≡ Ok document
unfolding document_at
document_complete text document is e =
    on_ok (expected (is_end (front text)) text) (behind text) (λ after. line_from (drop (token_of text).1 text)) (stands_complete is_end text (behind text) (is, refl))
    ∙ ap line_from e

-- ---- what follows the inequations

abbrev rest_with : List (List Op) → List (Symbol × Fraction) → List (ℕ × List Op) → ℕ → Rest
rest_with questions values functions document = record { questions = questions; values = values; functions = functions; document = document }

rest_sound : (form : Form) (total : ℕ) (names : Declared) (text : List ℕ) (r : Rest) → rest_at form total names text ≡ Ok r → IsRest form total names text r
unfolding rest_at
rest_sound Plain total names text r e =
    let b = bind_ok (end_at text) (λ end. Ok (rest_with [] [] [] 0)) r e in
    (end_sound text b.0 b.1, sym (ok_is (rest_with [] [] [] 0) r b.2))
rest_sound Questions total names text r e =
    let b = bind_ok (section_at sections.Questions names text) (λ q. end_at q.1 >>= λ end. Ok (rest_with q.0 [] [] 0)) r e in
    let c = bind_ok (end_at b.0.1) (λ end. Ok (rest_with b.0.0 [] [] 0)) r b.2 in
    (b.0.0, b.0.1, section_sound sections.Questions names text b.0 b.1, end_sound b.0.1 c.0 c.1, sym (ok_is (rest_with b.0.0 [] [] 0) r c.2))
rest_sound Values total names text r e =
    let b = bind_ok (values_at names text) (λ v. end_at v.1 >>= λ end. Ok (rest_with [] v.0 [] 0)) r e in
    let c = bind_ok (end_at b.0.1) (λ end. Ok (rest_with [] b.0.0 [] 0)) r b.2 in
    let v = values_sound names text b.0 b.1 in
    (b.0.0, v.0, b.0.1, v.1, v.2, end_sound b.0.1 c.0 c.1, sym (ok_is (rest_with [] b.0.0 [] 0) r c.2))
rest_sound Document total names text r e =
    let b = bind_ok (document_at text) (λ document. Ok (rest_with [] [] [] (total - length document))) r e in
    let d = document_sound text b.0 b.1 in
    (b.0, d.0, d.1, sym (ok_is (rest_with [] [] [] (total - length b.0)) r b.2))
rest_sound Functions total names text r e =
    let b = bind_ok (functions_at names text) (λ v. end_at v.1 >>= λ end. Ok (rest_with [] [] v.0 0)) r e in
    let c = bind_ok (end_at b.0.1) (λ end. Ok (rest_with [] [] b.0.0 0)) r b.2 in
    let v = functions_sound names text b.0 b.1 in
    (b.0.0, v.0, b.0.1, v.1, v.2, end_sound b.0.1 c.0 c.1, sym (ok_is (rest_with [] [] b.0.0 0) r c.2))

abbrev done : Rest → Result Rest Fault
done r = Ok r

rest_complete : (form : Form) (total : ℕ) (names : Declared) (text : List ℕ) (r : Rest) → IsRest form total names text r → rest_at form total names text ≡ Ok r
unfolding rest_at
rest_complete Plain total names text r a =
    let d = end_complete text a.0 in
    on_ok (end_at text) d.0 (λ end. done (rest_with [] [] [] 0)) d.1 ∙ ap done (sym a.1)
rest_complete Questions total names text r a =
    let d = end_complete a.1 a.3 in
    on_ok (section_at sections.Questions names text) (a.0, a.1) (λ q. end_at q.1 >>= λ end. done (rest_with q.0 [] [] 0)) (section_complete sections.Questions names text a.0 a.1 a.2)
    ∙ on_ok (end_at a.1) d.0 (λ end. done (rest_with a.0 [] [] 0)) d.1 ∙ ap done (sym a.4)
rest_complete Values total names text r a =
    let d = end_complete a.2 a.5 in
    on_ok (values_at names text) (a.0, a.2) (λ v. end_at v.1 >>= λ end. done (rest_with [] v.0 [] 0)) (values_complete names text a.0 a.2 (a.1, a.3, a.4))
    ∙ on_ok (end_at a.2) d.0 (λ end. done (rest_with [] a.0 [] 0)) d.1 ∙ ap done (sym a.6)
rest_complete Document total names text r a =
    on_ok (document_at text) a.0 (λ document. done (rest_with [] [] [] (total - length document))) (document_complete text a.0 a.1 a.2) ∙ ap done (sym a.3)
rest_complete Functions total names text r a =
    let d = end_complete a.2 a.5 in
    on_ok (functions_at names text) (a.0, a.2) (λ v. end_at v.1 >>= λ end. done (rest_with [] [] v.0 0)) (functions_complete names text a.0 a.2 (a.1, a.3, a.4))
    ∙ on_ok (end_at a.2) d.0 (λ end. done (rest_with [] [] a.0 0)) d.1 ∙ ap done (sym a.6)

-- ---- the whole

abbrev whole : Declared → List BlockValue → List (List Op) → List (List Op) → Rest → Tree
whole names blocks equations inequations r = record {
  names = names;
  signature = signature_of names;
  blocks = blocks;
  equations = equations;
  inequations = inequations;
  questions = r.questions;
  values = r.values;
  functions = r.functions;
  document = r.document;
}

abbrev good : Tree → Result Tree Fault
good t = Ok t

system_found_at : (form : Form) (bytes : List ℕ) (tree : Tree) → system_at form bytes ≡ Ok tree → IsSystem form bytes tree
unfolding system_at
system_found_at form bytes tree e =
    let after_lists = λ (h : Declared × List BlockValue × List ℕ) (q i : List (List Op) × List ℕ). rest_at form (length bytes) h.0 i.1 >>= λ r. good (whole h.0 h.1 q.0 i.0 r) in
    let after_first = λ (h : Declared × List BlockValue × List ℕ) (q : List (List Op) × List ℕ). section_at sections.Inequations h.0 q.1 >>= λ i. after_lists h q i in
    let b = bind_ok (header_at no_names (skip_from false bytes)) (λ h. section_at sections.Equations h.0 h.2 >>= λ q. after_first h q) tree e in
    let c = bind_ok (section_at sections.Equations b.0.0 b.0.2) (λ q. after_first b.0 q) tree b.2 in
    let d = bind_ok (section_at sections.Inequations b.0.0 c.0.1) (λ i. after_lists b.0 c.0 i) tree c.2 in
    let f = bind_ok (rest_at form (length bytes) b.0.0 d.0.1) (λ r. good (whole b.0.0 b.0.1 c.0.0 d.0.0 r)) tree d.2 in (
      b.0.0,
      b.0.1,
      c.0.0,
      d.0.0,
      f.0,
      b.0.2,
      c.0.1,
      d.0.1,
      header_sound (skip_from false bytes) b.0 b.1,
      section_sound sections.Equations b.0.0 b.0.2 c.0 c.1,
      section_sound sections.Inequations b.0.0 c.0.1 d.0 d.1,
      rest_sound form (length bytes) b.0.0 d.0.1 f.0 f.1,
      sym (ok_is (whole b.0.0 b.0.1 c.0.0 d.0.0 f.0) tree f.2),
    )

system_again_at : (form : Form) (bytes : List ℕ) (tree : Tree) → IsSystem form bytes tree → system_at form bytes ≡ Ok tree
unfolding system_at
system_again_at form bytes tree a =
    let after_lists = λ (h : Declared × List BlockValue × List ℕ) (q i : List (List Op) × List ℕ). rest_at form (length bytes) h.0 i.1 >>= λ r. good (whole h.0 h.1 q.0 i.0 r) in
    let after_first = λ (h : Declared × List BlockValue × List ℕ) (q : List (List Op) × List ℕ). section_at sections.Inequations h.0 q.1 >>= λ i. after_lists h q i in
    on_ok (header_at no_names (skip_from false bytes)) (a.0, a.1, a.5) (λ h. section_at sections.Equations h.0 h.2 >>= λ q. after_first h q) (header_complete (skip_from false bytes) a.0 a.1 a.5 a.8)
    ∙ on_ok (section_at sections.Equations a.0 a.5) (a.2, a.6) (λ q. after_first (a.0, a.1, a.5) q) (section_complete sections.Equations a.0 a.5 a.2 a.6 a.9)
    ∙ on_ok (section_at sections.Inequations a.0 a.6) (a.3, a.7) (λ i. after_lists (a.0, a.1, a.5) (a.2, a.6) i) (section_complete sections.Inequations a.0 a.6 a.3 a.7 a.10)
    ∙ on_ok (rest_at form (length bytes) a.0 a.7) a.4 (λ r. good (whole a.0 a.1 a.2 a.3 r)) (rest_complete form (length bytes) a.0 a.7 a.4 a.11)
    ∙ ap good (sym a.12)

tree_placed : (total : ℕ) (r : Result Tree Fault) (t : Tree) → placed total r ≡ Ok t → r ≡ Ok t
tree_placed total (Ok x) t e = let k : x ≡ t = cc in ap good k
tree_placed total (Err f) t e = absurd cc

pub system_found : (form : Form) (bytes : List ℕ) (tree : Tree) → system_of form bytes ≡ Ok tree → IsSystem form bytes tree
unfolding system_of
system_found form bytes tree e = system_found_at form bytes tree (tree_placed (length bytes) (system_at form bytes) tree e)

pub system_again : (form : Form) (bytes : List ℕ) (tree : Tree) → IsSystem form bytes tree → system_of form bytes ≡ Ok tree
unfolding system_of
system_again form bytes tree is = ap (placed (length bytes)) (system_again_at form bytes tree is)

pub is_found_system : (form : Form) (bytes : List ℕ) (r : Result SystemTree SyntaxFault) → Answers (λ t. tree_of t) r (system_of form bytes) → IfOk r (λ t. IsSystem form bytes (tree_of t))
is_found_system form bytes (Ok t) e = system_found form bytes (tree_of t) e
is_found_system form bytes (Err f) e = tt

abbrev read : Tree → Result Tree SyntaxFault
read t = Ok t

ok_trees : (a b : Tree) → read a ≡ read b → a ≡ b
ok_trees a b e = cc

pub one_system : (form : Form) (bytes : List ℕ) (a b : Tree) → IsSystem form bytes a → IsSystem form bytes b → a ≡ b
one_system form bytes a b p q = ok_trees a b (sym (system_again form bytes a p) ∙ system_again form bytes b q)
