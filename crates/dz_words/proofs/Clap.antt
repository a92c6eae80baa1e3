-- What `clap` makes of the words: the walk over them, step by step.
use Rattle.std.proofs.Common.{◌≡◌, ◌∙◌, ◌++◌, ◌&&◌, Bool, true, false, List, [], ◌∷◌, map, refl, ap, ap₂, sym, Some, None, codes, fold, if◌then◌else◌}
use Rattle.std.specs.Prelude.{pos}
use Rattle.std.specs.List.{AllByRecursion, IsDistinct, list_all}
use Rattle.std.proofs.lemmas.List.{append_assoc}
use Rattle.std.proofs.Common.{◌||◌, append-nil}
use Rattle.std.specs.Fmt.{decimal}
use Rattle.std.specs.Str.{bytes_eq}
use Rattle.clap.specs.Walk.{Held, Row, Rule, Text, Walk, has_row, idle, nothing_held, settled, walk, walk_from, walked, with_default, with_values, without, at_row, finished, more_values}
use Rattle.clap.specs.Simple.{Shape, built, matches_of}
use Rattle.clap.specs.Faults.{check_fault, default_fault, defaults_fault, fault_of, is_simple_and_free, settle_fault, turn_fault, walk_fault}
use Rattle.clap.specs.Kinds.{Kinds, or_else}
use Rattle.clap.specs.ValueTests.{accepts}
use Rattle.clap.specs.declared.error.kind.ErrorKind.TheVariants.{ValueValidation}
use Rattle.clap.specs.declared.parser.matches.ValueSource.TheVariants.{CommandLine}
use Rattle.clap.specs.declared.builder.value_parser.ValueParser.TheVariants.{Signed}
use Rattle.clap.specs.declared.builder.value_parser.Reading.TheVariants.{WithoutMinus}
use Rattle.clap.proofs.OnLiterals.{clap_on_literals}
use Rattle.dz_words.specs.declared.options.Key.{Key}
use Rattle.dz_words.specs.declared.options.Key.TheVariants.{Budget, Chain, Order, Seed, Size}
use Rattle.dz_words.specs.declared.verbs.Verb.{Verb}
use Rattle.dz_words.specs.declared.verbs.Verb.TheVariants.{Decompose, Check, Reduce, Prepare, Series, Parametric, Sample}
use Rattle.dz_words.specs.Commands.{blad_app, option_row, setting_row, verb_row}
use Rattle.dz_words.specs.Options.{least_of, most_of, prefix_of, name_of, same_key}
use Rattle.dz_words.specs.Verbs as verbs
use Rattle.dz_words.specs.Words.{Setting, word_of, words_of}
use Rattle.dz_words.proofs.Lists.{neither}

-- ---- the command as built

-- what `clap` knows of the command
abbrev shape : Shape
shape = (built blad_app).top

-- what it knows of the arguments
abbrev rules : List Rule
rules = shape.rules

-- the command is one of which `clap` says everything
pub is_simple : is_simple_and_free blad_app ≡ true
is_simple = refl

-- `clap` takes these digits as the number of an option
abbrev passes : Key → Text → Bool
passes key digits = accepts false (Signed (pos (least_of key)) (pos (most_of key))) digits

-- ---- one word that sets an option

-- the walk between two words that set options
abbrev between : Held → Walk
between h = record { held = h; waiting = idle; position = 2; is_trailing = false; stopped = None }

-- what is held after the word of an option, with these digits
abbrev after_option : Key → Text → Held → Held
after_option key digits h = record {
  rows = with_values (name_of key) WithoutMinus CommandLine (digits ∷ []) (without (name_of key) (settled rules h).rows);
  pending = None;
  skip = h.skip;
}

-- the walk over one word that sets an option
option_walked : (key : Key) (digits : Text) (h : Held) → walked rules [] (between h) (prefix_of key ++ digits) ≡ between (after_option key digits h)
unfolding clap_on_literals
option_walked Budget digits h = refl
option_walked Chain digits h = refl
option_walked Order digits h = refl
option_walked Seed digits h = refl
option_walked Size digits h = refl

-- the fault of a number that is refused, or none
abbrev pub refused_unless : Bool → Kinds
refused_unless b = if b then [] else ValueValidation ∷ []

-- it stays where nothing is added
one_kind : (b : Bool) → or_else (or_else (refused_unless b) []) [] ≡ refused_unless b
one_kind true = refl
one_kind false = refl

-- of two faults in a row the first is told
both_kinds : (a b : Bool) → or_else (refused_unless a) (refused_unless b) ≡ refused_unless (a && b)
both_kinds true b = refl
both_kinds false b = refl

-- the fault of one word that sets an option for the first time: that of its digits
option_turn : (key : Key) (digits : Text) (h : Held) → has_row (name_of key) (settled rules h).rows ≡ false
    → settle_fault rules false h ≡ []
    → turn_fault shape [] (between h) (prefix_of key ++ digits) ≡ refused_unless (passes key digits)
unfolding clap_on_literals
option_turn Budget digits h fresh fine = rw (fine, fresh) (one_kind (passes Budget digits))
option_turn Chain digits h fresh fine = rw (fine, fresh) (one_kind (passes Chain digits))
option_turn Order digits h fresh fine = rw (fine, fresh) (one_kind (passes Order digits))
option_turn Seed digits h fresh fine = rw (fine, fresh) (one_kind (passes Seed digits))
option_turn Size digits h fresh fine = rw (fine, fresh) (one_kind (passes Size digits))

-- ---- the rows

-- the names of options differ where the options do
pub name_is : (a b : Key) → bytes_eq (name_of a) (name_of b) ≡ same_key a b
name_is Budget Budget = refl
name_is Budget Chain = refl
name_is Budget Order = refl
name_is Budget Seed = refl
name_is Budget Size = refl
name_is Chain Budget = refl
name_is Chain Chain = refl
name_is Chain Order = refl
name_is Chain Seed = refl
name_is Chain Size = refl
name_is Order Budget = refl
name_is Order Chain = refl
name_is Order Order = refl
name_is Order Seed = refl
name_is Order Size = refl
name_is Seed Budget = refl
name_is Seed Chain = refl
name_is Seed Order = refl
name_is Seed Seed = refl
name_is Seed Size = refl
name_is Size Budget = refl
name_is Size Chain = refl
name_is Size Order = refl
name_is Size Seed = refl
name_is Size Size = refl

-- a row whose name is new goes to the end
at_row-fresh : (id : Text) (change : Row → List Row) (missing rows : List Row) → has_row id rows ≡ false → at_row id change missing rows ≡ rows ++ missing
at_row-fresh id change missing [] fresh = refl
at_row-fresh id change missing (r ∷ rs) fresh =
    let parts = neither (bytes_eq r.id id) (has_row id rs) fresh in
    rw parts.0 (ap (λ xs. r ∷ xs) (at_row-fresh id change missing rs parts.1))

-- so the row of an option that is set for the first time goes to the end
put_row : (key : Key) (digits : Text) (rows : List Row) → has_row (name_of key) rows ≡ false
    → with_values (name_of key) WithoutMinus CommandLine (digits ∷ []) (without (name_of key) rows) ≡ rows ++ option_row key digits ∷ []
put_row key digits rows fresh =
    let kept : without (name_of key) rows ≡ rows = at_row-fresh (name_of key) (λ _. []) [] rows fresh ∙ append-nil rows in
    rw kept (at_row-fresh (name_of key) (more_values CommandLine (digits ∷ [])) (option_row key digits ∷ []) rows fresh)

-- the rows with one more have its name too
has_row-append : (id : Text) (rows : List Row) (r : Row) → has_row id (rows ++ r ∷ []) ≡ (has_row id rows || bytes_eq r.id id)
has_row-append id [] r = or_false (bytes_eq r.id id)
  where
    or_false : (b : Bool) → (b || false) ≡ b
    or_false true = refl
    or_false false = refl
has_row-append id (x ∷ rows) r = ap (λ b. bytes_eq x.id id || b) (has_row-append id rows r) ∙ assoc (bytes_eq x.id id) (has_row id rows) (bytes_eq r.id id)
  where
    assoc : (a b c : Bool) → (a || (b || c)) ≡ ((a || b) || c)
    assoc true b c = refl
    assoc false b c = refl

-- ---- the words that set options

-- what is held after the settings
pub held_after : List Setting → Held → Held
held_after [] h = h
held_after (s ∷ ss) h = held_after ss (after_option s.key (decimal s.number) h)

-- no option that is set has a row yet
abbrev Fresh : List Row → List Setting → Type 0
Fresh rows = AllByRecursion (λ s. has_row (name_of s.key) rows ≡ false)

-- no option is set twice
abbrev apart : List Setting → Type 0
apart ss = IsDistinct same_key (map (λ s. s.key) ss)

-- after the first setting the options of the others have no row yet
still_fresh : (s : Setting) (rows : List Row) (ss : List Setting) → Fresh rows ss → AllByRecursion (λ key. same_key s.key key ≡ false) (map (λ s. s.key) ss)
    → Fresh (rows ++ setting_row s ∷ []) ss
still_fresh s rows [] fresh differ = tt
still_fresh s rows (x ∷ ss) fresh differ = (
  has_row-append (name_of x.key) rows (setting_row s) ∙ rw (fresh.0, name_is s.key x.key, differ.0) refl,
  still_fresh s rows ss fresh.1 differ.1,
)

-- every number passes
abbrev pub all_pass : List Setting → Bool
all_pass = list_all (λ s. passes s.key (decimal s.number))

-- What the walk over settings comes to.
pub record WalksOver (ss : List Setting) (h : Held) (rows : List Row) : Type 0 where
  pub walked : fold (walked rules []) (between h) (map word_of ss) ≡ between (held_after ss h)
  pub rows_are : (settled rules (held_after ss h)).rows ≡ rows ++ map setting_row ss
  pub settles : settle_fault rules false (held_after ss h) ≡ []
  pub faults : walk_fault shape [] (between h) (map word_of ss) ≡ refused_unless (all_pass ss)

-- the walk over settings, from any rows in which none of their options has one
walks_over : (ss : List Setting) (h : Held) (rows : List Row) → (settled rules h).rows ≡ rows → settle_fault rules false h ≡ [] → Fresh rows ss → apart ss
    → WalksOver ss h rows
unfolding walk_fault held_after IsDistinct
walks_over [] h rows is fine fresh differ = record { walked = refl; rows_are = is ∙ sym (append-nil rows); settles = fine; faults = refl }
walks_over (s ∷ ss) h rows is fine fresh differ =
    let digits = decimal s.number in
    let next = after_option s.key digits h in
    let new : has_row (name_of s.key) (settled rules h).rows ≡ false = rw is fresh.0 in
    let put : (settled rules next).rows ≡ rows ++ setting_row s ∷ [] = put_row s.key digits (settled rules h).rows new ∙ ap (λ r. r ++ setting_row s ∷ []) is in
    let later = walks_over ss next (rows ++ setting_row s ∷ []) put refl (still_fresh s rows ss fresh.1 differ.0) differ.1 in
    let step = option_walked s.key digits h in
    record {
      walked = ap (λ w. fold (walked rules []) w (map word_of ss)) step ∙ later.walked;
      rows_are = later.rows_are ∙ append_assoc rows (setting_row s ∷ []) (map setting_row ss);
      settles = later.settles;
      faults = ap₂ or_else (option_turn s.key digits h new fine) (ap (λ w. walk_fault shape [] w (map word_of ss)) step ∙ later.faults)
          ∙ both_kinds (passes s.key digits) (all_pass ss);
    }

-- ---- the whole words

-- what is held behind the verb
abbrev verb_held : Text → Held
verb_held name = record { rows = []; pending = Some (codes "verb", name ∷ []); skip = 0 }

-- the walk over the verb
verb_walked : (verb : Verb) → walked rules [] (walk_from nothing_held) (verbs.name_of verb) ≡ between (verb_held (verbs.name_of verb))
unfolding clap_on_literals
verb_walked Decompose = refl
verb_walked Check = refl
verb_walked Reduce = refl
verb_walked Prepare = refl
verb_walked Series = refl
verb_walked Parametric = refl
verb_walked Sample = refl

-- the verb is no fault
verb_turn : (verb : Verb) → turn_fault shape [] (walk_from nothing_held) (verbs.name_of verb) ≡ []
unfolding clap_on_literals
verb_turn Decompose = refl
verb_turn Check = refl
verb_turn Reduce = refl
verb_turn Prepare = refl
verb_turn Series = refl
verb_turn Parametric = refl
verb_turn Sample = refl

-- no option has a row behind the verb
all_fresh : (name : Text) (ss : List Setting) → Fresh (verb_row name ∷ []) ss
all_fresh name [] = tt
all_fresh name (s ∷ ss) = (go s.key, all_fresh name ss)
  where
    go : (key : Key) → has_row (name_of key) (verb_row name ∷ []) ≡ false
    go Budget = refl
    go Chain = refl
    go Order = refl
    go Seed = refl
    go Size = refl

-- so the walk over settings begins behind the verb
from_verb : (name : Text) (ss : List Setting) → apart ss → WalksOver ss (verb_held name) (verb_row name ∷ [])
from_verb name ss differ = walks_over ss (verb_held name) (verb_row name ∷ []) refl refl (all_fresh name ss) differ

-- what is held at the end
abbrev end_held : Verb → List Setting → Held
end_held verb ss = held_after ss (verb_held (verbs.name_of verb))

-- the walk over the whole words
walk_is : (verb : Verb) (ss : List Setting) → apart ss → walk rules [] nothing_held (words_of verb ss) ≡ between (end_held verb ss)
walk_is verb ss differ = ap (λ w. fold (walked rules []) w (map word_of ss)) (verb_walked verb) ∙ (from_verb (verbs.name_of verb) ss differ).walked

-- and its fault: the first number that is refused
walk_faults : (verb : Verb) (ss : List Setting) → apart ss → walk_fault shape [] (walk_from nothing_held) (words_of verb ss) ≡ refused_unless (all_pass ss)
unfolding walk_fault
walk_faults verb ss differ =
    ap₂ or_else (verb_turn verb) (ap (λ w. walk_fault shape [] w (map word_of ss)) (verb_walked verb) ∙ (from_verb (verbs.name_of verb) ss differ).faults)

-- no argument has a default
abbrev NoDefaults : List Rule → Type 0
NoDefaults = AllByRecursion (λ a. a.defaults ≡ [])

-- the command has none
no_defaults : NoDefaults rules
no_defaults = (refl, (refl, (refl, (refl, (refl, (refl, tt))))))

-- both branches are the same
if_same : {A : Type 0} (b : Bool) (x : A) → (if b then x else x) ≡ x
if_same true x = refl
if_same false x = refl

-- a disjunction with a part that is true
or_true : (b : Bool) → (b || true) ≡ true
or_true true = refl
or_true false = refl

-- an argument without a default adds no row
undefaulted : (rows : List Row) (a : Rule) → a.defaults ≡ [] → with_default rows a ≡ rows
undefaulted rows a none = rw none (if_same (has_row a.id rows) rows)

-- and several add none
finished_is : (args : List Rule) (rows : List Row) → NoDefaults args → fold with_default rows args ≡ rows
finished_is [] rows none = refl
finished_is (a ∷ args) rows none = ap (λ r. fold with_default r args) (undefaulted rows a none.0) ∙ finished_is args rows none.1

-- an argument without a default is no fault
undefaulted_fault : (rows : List Row) (a : Rule) → a.defaults ≡ [] → default_fault rows a ≡ []
undefaulted_fault rows a none = rw (none, or_true (has_row a.id rows)) refl

-- and several are none
defaults_fine : (args : List Rule) (rows : List Row) → NoDefaults args → defaults_fault rows args ≡ []
unfolding defaults_fault
defaults_fine [] rows none = refl
defaults_fine (a ∷ args) rows none = ap₂ or_else (undefaulted_fault rows a none.0) (defaults_fine args (with_default rows a) none.1)

-- the rows at the end
pub end_rows : (verb : Verb) (ss : List Setting) → apart ss → finished rules (end_held verb ss) ≡ verb_row (verbs.name_of verb) ∷ map setting_row ss
end_rows verb ss differ =
    finished_is rules (settled rules (end_held verb ss)).rows no_defaults ∙ (from_verb (verbs.name_of verb) ss differ).rows_are

-- nothing that is required is missing behind the verb
checks : (verb : Verb) (rows : List Row) → check_fault shape (verb_row (verbs.name_of verb) ∷ rows) false ≡ []
checks verb rows = refl

-- the fault of such words: that of their first number that is refused
pub fault_is : (verb : Verb) (ss : List Setting) → apart ss → fault_of blad_app (words_of verb ss) ≡ refused_unless (all_pass ss)
fault_is verb ss differ =
    let h = end_held verb ss in
    let over = from_verb (verbs.name_of verb) ss differ in
    rw (walk_is verb ss differ, walk_faults verb ss differ, over.settles, defaults_fine rules (settled rules h).rows no_defaults, end_rows verb ss differ)
    (last (all_pass ss))
  where
    last : (b : Bool) → or_else (refused_unless b) [] ≡ refused_unless b
    last true = refl
    last false = refl

-- what is found in such words
pub matches_are : (verb : Verb) (ss : List Setting) → apart ss → matches_of blad_app (words_of verb ss) ≡ verb_row (verbs.name_of verb) ∷ map setting_row ss
matches_are verb ss differ = ap (λ (w : Walk). finished rules w.held) (walk_is verb ss differ) ∙ end_rows verb ss differ
