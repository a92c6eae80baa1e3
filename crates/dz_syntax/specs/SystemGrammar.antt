-- The grammar of systems. A relation says that between two texts, each at a token, stands a part with this meaning.
use Rattle.std.specs.Prelude.{◌≡◌, ◌⊎◌, ◌-◌, ◌<◌, ◌==◌, ℕ, zero, suc, Bool, true, false, List, [], ◌∷◌, ◌++◌, drop, length, map, ℤ, pos, Ok, Some}
use Rattle.std.specs.List.{list_any}
use Rattle.dz_int.specs.Numbers.{signed}
use Rattle.dz_int.specs.Fractions.{Fraction}
use Rattle.dz_rank.specs.declared.rankings.Kind.{Kind}
use Rattle.dz_rank.specs.declared.symbols.Operator.{Operator}
use Rattle.dz_rank.specs.declared.symbols.Symbol.{Symbol}
use Rattle.dz_rank.specs.declared.symbols.Symbol.TheVariants.{Derivative}
use Rattle.dz_rank.specs.Rankings.{BlockValue}
use Rattle.dz_syntax.specs.declared.token.Token.{Token}
use Rattle.dz_syntax.specs.declared.token.Token.TheVariants.{Name, Comma, Minus, Slash}
use Rattle.dz_syntax.specs.declared.names.Group.{Group}
use Rattle.dz_syntax.specs.declared.names.Group.TheVariants.{Independents, Dependents}
use Rattle.dz_syntax.specs.declared.marks.Section.{Section}
use Rattle.dz_syntax.specs.declared.marks.Section.TheVariants as sections
use Rattle.dz_syntax.specs.declared.endings.Form.{Form}
use Rattle.dz_syntax.specs.declared.endings.Form.TheVariants as forms
use Rattle.dz_syntax.specs.declared.expression.Op.{Op}
use Rattle.dz_syntax.specs.declared.expression.Op.TheVariants as ops
use Rattle.dz_syntax.specs.Tokens.{front, behind, bytes_of, token_of, skip_from}
use Rattle.dz_syntax.specs.Names.{Declared, declared, dependents, find, known, no_names, room, signature_of}
use Rattle.dz_syntax.specs.Atoms.{symbol_at}
use Rattle.dz_syntax.specs.Expressions.{most_literal}
use Rattle.dz_syntax.specs.Grammar.{IsNumber, IsPoly, IsInside}
use Rattle.dz_syntax.specs.Marks.{is_derivations, is_ranking, is_word_of, is_relation, is_values, is_end, is_nothing, is_semicolon, is_open_bracket, is_close_bracket, is_equals, kind_of}
use Rattle.dz_syntax.specs.Blocks.{numbers_from}
use Rattle.dz_syntax.specs.Values.{fraction_of, same_symbol}
use Rattle.dz_syntax.specs.Functions.{independents_alone}
use Rattle.dz_syntax.specs.Endings.{Rest}
use Rattle.dz_syntax.specs.Systems.{Tree}

-- one token of this sort
abbrev pub Stands : (Token → Bool) → List ℕ → List ℕ → Type 0
Stands sort text rest = (sort (front text) ≡ true) × (rest ≡ behind text)

-- a name that is not declared yet
pub record IsNewName (names : Declared) (text : List ℕ) : Type 0 where
  pub token : front text ≡ Name
  pub new : known names (bytes_of text) ≡ false

-- n times "," name; each declares its name
abbrev pub IsMoreNames : Group → ℕ → Declared → List ℕ → Declared → List ℕ → Type 0
IsMoreNames group zero names text all rest = (all ≡ names) × (rest ≡ text)
IsMoreNames group (suc n) names text all rest =
    (front text ≡ Comma) × IsNewName names (behind text)
    × IsMoreNames group n (declared group names (bytes_of (behind text))) (behind (behind text)) all rest

-- names = name {"," name}, at most so many
abbrev pub IsNames : Group → ℕ → Declared → List ℕ → Declared → List ℕ → Type 0
IsNames group most names text all rest =
    (n : ℕ) × (n < most) × IsNewName names text × IsMoreNames group n (declared group names (bytes_of text)) (behind text) all rest

-- "derivations" [names] ";"
abbrev pub IsIndependents : List ℕ → Declared → List ℕ → Type 0
IsIndependents text all rest =
    (mid : List ℕ) × Stands is_derivations text mid
    × ((Stands is_semicolon mid rest × (all ≡ no_names))
    ⊎ ((end : List ℕ) × IsNames Independents 4 no_names mid all end × Stands is_semicolon end rest))

-- "[" names "]" behind the kind of a block, whose dependents are those that the names declare
abbrev pub IsBlock : Kind → Declared → List ℕ → Declared → BlockValue → List ℕ → Type 0
IsBlock kind names text all block rest =
    (first last : List ℕ) × Stands is_open_bracket text first × IsNames Dependents (room names) names first all last
    × Stands is_close_bracket last rest
    × (block ≡ record { kind = kind; dependents = numbers_from (dependents names) (dependents all - dependents names) })

-- n blocks
abbrev pub IsBlocks : ℕ → Declared → List ℕ → Declared → List BlockValue → List ℕ → Type 0
IsBlocks zero names text all blocks rest = (all ≡ names) × (blocks ≡ []) × (rest ≡ text)
IsBlocks (suc n) names text all blocks rest =
    (kind : Kind) × (more : Declared) × (block : BlockValue) × (mid : List ℕ) × (others : List BlockValue)
    × (kind_of (front text) ≡ Some kind) × IsBlock kind names (behind text) more block mid
    × IsBlocks n more mid all others rest × (blocks ≡ block ∷ others)

-- "derivations" [names] ";" "ranking" {block} ";"
abbrev pub IsHeader : List ℕ → Declared → List BlockValue → List ℕ → Type 0
IsHeader text all blocks rest =
    (names : Declared) × (first second last : List ℕ) × (n : ℕ) × IsIndependents text names first
    × Stands is_ranking first second × IsBlocks n names second all blocks last × Stands is_semicolon last rest

-- item = poly [relation poly]
abbrev pub IsSides : Section → Declared → List ℕ → List Op → List ℕ → Type 0
IsSides section names text o rest =
    IsPoly names (IsInside names 64) text o rest
    ⊎ ((left right : List Op) × (mid : List ℕ) × IsPoly names (IsInside names 64) text left mid
    × (is_relation section (front mid) ≡ true) × IsPoly names (IsInside names 64) (behind mid) right rest
    × (o ≡ (left ++ right) ++ ops.Sub ∷ []))

-- an element of a list, behind those that were found before it
abbrev pub Element : Type 0 → Type 1
Element X = List X → List ℕ → X → List ℕ → Type 0

-- n times "," element; all are those found before, and these
abbrev pub IsMore : {X : Type 0} → Element X → ℕ → List X → List ℕ → List X → List ℕ → Type 0
IsMore element zero found text all rest = (all ≡ found) × (rest ≡ text)
IsMore {X} element (suc n) found text all rest =
    (x : X) × (mid : List ℕ) × (front text ≡ Comma) × element found (behind text) x mid × IsMore element n (found ++ x ∷ []) mid all rest

-- element {"," element} ";"
abbrev pub IsSeparated : {X : Type 0} → Element X → List X → List ℕ → List X → List ℕ → Type 0
IsSeparated {X} element found text all rest =
    (x : X) × (mid last : List ℕ) × (n : ℕ) × element found text x mid × IsMore element n (found ++ x ∷ []) mid all last
    × Stands is_semicolon last rest

-- [element {"," element}] ";"
abbrev pub IsList : {X : Type 0} → Element X → List ℕ → List X → List ℕ → Type 0
IsList element text all rest = (Stands is_semicolon text rest × (all ≡ [])) ⊎ IsSeparated element [] text all rest

-- an item, whatever was found before it
abbrev pub IsItemOf : Section → Declared → Element (List Op)
IsItemOf section names found text o rest = IsSides section names text o rest

-- a word, and [items] ";"
abbrev pub IsSection : Section → Declared → List ℕ → List (List Op) → List ℕ → Type 0
IsSection section names text items rest =
    (mid : List ℕ) × Stands (is_word_of section) text mid × IsList (IsItemOf section names) mid items rest

-- ["-"] number
abbrev pub IsNumerator : List ℕ → ℤ → List ℕ → Type 0
IsNumerator text z rest =
    ((n : ℕ) × IsNumber most_literal text n rest × (z ≡ pos n))
    ⊎ ((n : ℕ) × (front text ≡ Minus) × IsNumber most_literal (behind text) n rest × (z ≡ signed true n))

-- ["/" number], 1 where there is none, and never 0
abbrev pub IsDenominator : List ℕ → ℕ → List ℕ → Type 0
IsDenominator text d rest =
    ((d ≡ 1) × (rest ≡ text)) ⊎ ((front text ≡ Slash) × IsNumber most_literal (behind text) d rest × (0 < d))

-- value = symbol "=" ["-"] number ["/" number], of a symbol that has no value yet
abbrev pub IsValue : Declared → Element (Symbol × Fraction)
IsValue names found text v rest =
    (s : Symbol) × (z : ℤ) × (d : ℕ) × (first second third : List ℕ) × (symbol_at names text ≡ Ok (s, first))
    × (list_any (λ w. same_symbol s w) (map (λ u. u.0) found) ≡ false) × Stands is_equals first second
    × IsNumerator second z third × IsDenominator third d rest × (v ≡ (s, fraction_of z d))

-- function = name "=" poly, of a dependent that has no function yet; the poly has independents alone
abbrev pub IsFunction : Declared → Element (ℕ × List Op)
IsFunction names found text f rest =
    (d : ℕ) × (o : Operator) × (steps : List Op) × (second : List ℕ) × (front text ≡ Name)
    × (find names (bytes_of text) ≡ Some (Derivative d o))
    × (list_any (λ u. d == u) (map (λ h. h.0) found) ≡ false) × Stands is_equals (behind text) second
    × IsPoly (independents_alone names) (IsInside (independents_alone names) 64) second steps rest × (f ≡ (d, steps))

-- "end", and nothing behind it
abbrev pub IsEnd : List ℕ → Type 0
IsEnd text = (mid : List ℕ) × Stands is_end text mid × (is_nothing (front mid) ≡ true)

-- what follows the inequations in a form; a document begins behind "end" and a line feed directly after it
abbrev pub IsRest : Form → ℕ → Declared → List ℕ → Rest → Type 0
IsRest forms.Plain total names text r = IsEnd text × (r ≡ record { questions = []; values = []; functions = []; document = 0 })
IsRest forms.Questions total names text r =
    (items : List (List Op)) × (mid : List ℕ) × IsSection sections.Questions names text items mid × IsEnd mid
    × (r ≡ record { questions = items; values = []; functions = []; document = 0 })
IsRest forms.Values total names text r =
    (values : List (Symbol × Fraction)) × (first mid : List ℕ) × Stands is_values text first
    × IsList (IsValue names) first values mid × IsEnd mid × (r ≡ record { questions = []; values = values; functions = []; document = 0 })
IsRest forms.Document total names text r =
    (document : List ℕ) × (is_end (front text) ≡ true) × (drop (token_of text).1 text ≡ 10 ∷ document)
    × (r ≡ record { questions = []; values = []; functions = []; document = total - length document })
IsRest forms.Functions total names text r =
    (functions : List (ℕ × List Op)) × (first mid : List ℕ) × Stands is_values text first
    × IsList (IsFunction names) first functions mid × IsEnd mid
    × (r ≡ record { questions = []; values = []; functions = functions; document = 0 })

-- the bytes are a system in a form, and mean this tree
abbrev pub IsSystem : Form → List ℕ → Tree → Type 0
IsSystem form bytes tree =
    (names : Declared) × (blocks : List BlockValue) × (equations inequations : List (List Op)) × (r : Rest)
    × (first second third : List ℕ) × IsHeader (skip_from false bytes) names blocks first
    × IsSection sections.Equations names first equations second × IsSection sections.Inequations names second inequations third
    × IsRest form (length bytes) names third r
    × (tree ≡ record {
      names = names;
      signature = signature_of names;
      blocks = blocks;
      equations = equations;
      inequations = inequations;
      questions = r.questions;
      values = r.values;
      functions = r.functions;
      document = r.document;
    })
