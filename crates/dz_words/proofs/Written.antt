-- Words of a written form, the shape that is tested, and what `clap` makes of them.
use Rattle.std.proofs.Common.{◌≡◌, ◌∙◌, ◌&&◌, ◌++◌, ◌<◌, ◌≤◌, ℕ, Bool, true, false, not, List, [], ◌∷◌, map, find, Option, Some, None, refl, ap, ap₂, sym, subst, arith, length, drop, if◌then◌else◌}
use Rattle.std.specs.Prelude.{All, ◌^◌, option_and_then, option_map, unwrap_or}
use Rattle.std.specs.List.{AllByRecursion, IsDistinct, list_any}
use Rattle.std.specs.Fmt.{decimal}
use Rattle.std.specs.Str.Parse.{digits_value}
use Rattle.std.specs.Str.{bytes_eq}
use Rattle.std.proofs.lemmas.Bool.{leb-true, le-leb}
use Rattle.std.proofs.lemmas.Bool.Decides.{Decides-eqb}
use Rattle.std.proofs.lemmas.Slice.Eq.{bytes_eq-Decides, starts_is}
use Rattle.clap.specs.Faults.{fault_of}
use Rattle.clap.specs.Walk.{Row, Text, one_of, row_text}
use Rattle.dz_words.specs.declared.options.Key.{Key}
use Rattle.dz_words.specs.declared.options.Key.TheVariants.{Budget, Chain, Order, Seed, Size}
use Rattle.dz_words.specs.declared.verbs.Verb.{Verb}
use Rattle.dz_words.specs.declared.verbs.Verb.TheVariants.{Decompose, Check, Reduce, Prepare, Series, Parametric, Sample}
use Rattle.dz_words.specs.declared.words.Request.{Request}
use Rattle.dz_words.specs.Commands.{blad_app, setting_row, verb_row}
use Rattle.dz_words.specs.Options.{default_of, least_of, most_of, name_of, prefix_of, same_key}
use Rattle.dz_words.specs.Shape.{are_settings, is_number, names, sets, verb_of}
use Rattle.dz_words.specs.Verbs as verbs
use Rattle.dz_words.specs.Words.{AreAllowed, HasShape, IsInRange, IsWritten, Setting, number_of, request_of, word_of, words_of}
use Rattle.dz_words.proofs.Clap.{all_pass, fault_is, name_is, refused_unless}
use Rattle.dz_words.proofs.Lists.{both, find_as, find_passes, find_stands, from_all, neither, not_true, to_all}
use Rattle.dz_words.proofs.Numbers.{Small, decimal_accepted, decimal_passes, decimal_unsigned, decimal_value, number_digits}

-- ---- keys
-- an option is the same as itself
same_refl : (a : Key) → same_key a a ≡ true
same_refl Budget = refl
same_refl Chain = refl
same_refl Order = refl
same_refl Seed = refl
same_refl Size = refl

-- options that are the same are equal
same_is : (a b : Key) → same_key a b ≡ true → a ≡ b
same_is Budget Budget e = refl
same_is Chain Chain e = refl
same_is Order Order e = refl
same_is Seed Seed e = refl
same_is Size Size e = refl
same_is Budget Chain e = absurd cc
same_is Budget Order e = absurd cc
same_is Budget Seed e = absurd cc
same_is Budget Size e = absurd cc
same_is Chain Budget e = absurd cc
same_is Chain Order e = absurd cc
same_is Chain Seed e = absurd cc
same_is Chain Size e = absurd cc
same_is Order Budget e = absurd cc
same_is Order Chain e = absurd cc
same_is Order Seed e = absurd cc
same_is Order Size e = absurd cc
same_is Seed Budget e = absurd cc
same_is Seed Chain e = absurd cc
same_is Seed Order e = absurd cc
same_is Seed Size e = absurd cc
same_is Size Budget e = absurd cc
same_is Size Chain e = absurd cc
same_is Size Order e = absurd cc
same_is Size Seed e = absurd cc

-- an option that a list has is found in it
find_same : (key : Key) (keys : List Key) → list_any (same_key key) keys ≡ true → find (same_key key) keys ≡ Some key
find_same key [] e = absurd cc
find_same key (k ∷ ks) e = go (find_same key ks) (same_key key k) refl
  where
    go : (list_any (same_key key) ks ≡ true → find (same_key key) ks ≡ Some key) → (b : Bool) → same_key key k ≡ b → find (same_key key) (k ∷ ks) ≡ Some key
    go later true is = rw is (ap (λ (z : Key). Some z) (sym (same_is key k is)))
    go later false is = rw is (later (rw is at e))

-- the order of two options does not matter
same_sym : (a b : Key) → same_key a b ≡ same_key b a
same_sym a b = go (same_key a b) refl (same_key b a) refl
  where
    go : (x : Bool) → same_key a b ≡ x → (y : Bool) → same_key b a ≡ y → same_key a b ≡ same_key b a
    go true x true y = x ∙ sym y
    go false x false y = x ∙ sym y
    go true x false y = let same = same_is a b x in rw same refl
    go false x true y = let same = same_is b a y in rw same refl

-- ---- one word
-- what begins as a word of one option begins as a word of another only where the two are the same
names_prefix : (a b : Key) (tail : List ℕ) → names (prefix_of a ++ tail) b ≡ same_key a b
names_prefix Budget Budget tail = refl
names_prefix Budget Chain tail = refl
names_prefix Budget Order tail = refl
names_prefix Budget Seed tail = refl
names_prefix Budget Size tail = refl
names_prefix Chain Budget tail = refl
names_prefix Chain Chain tail = refl
names_prefix Chain Order tail = refl
names_prefix Chain Seed tail = refl
names_prefix Chain Size tail = refl
names_prefix Order Budget tail = refl
names_prefix Order Chain tail = refl
names_prefix Order Order tail = refl
names_prefix Order Seed tail = refl
names_prefix Order Size tail = refl
names_prefix Seed Budget tail = refl
names_prefix Seed Chain tail = refl
names_prefix Seed Order tail = refl
names_prefix Seed Seed tail = refl
names_prefix Seed Size tail = refl
names_prefix Size Budget tail = refl
names_prefix Size Chain tail = refl
names_prefix Size Order tail = refl
names_prefix Size Seed tail = refl
names_prefix Size Size tail = refl

-- what stands behind the beginning of a word
behind_prefix : (a : Key) (tail : List ℕ) → drop (length (prefix_of a)) (prefix_of a ++ tail) ≡ tail
behind_prefix Budget tail = refl
behind_prefix Chain tail = refl
behind_prefix Order tail = refl
behind_prefix Seed tail = refl
behind_prefix Size tail = refl

-- the word of a setting sets its option, and no other
sets_is : (s : Setting) (key : Key) → Small s.number → sets (word_of s) key ≡ same_key s.key key
sets_is s key small = rw (names_prefix s.key key (decimal s.number)) (go (same_key s.key key) refl)
  where
    go : (b : Bool) → same_key s.key key ≡ b → (b && is_number (drop (length (prefix_of key)) (word_of s))) ≡ b
    go false is = refl
    go true is =
        subst (λ k. is_number (drop (length (prefix_of k)) (word_of s)) ≡ true) (same_is s.key key is)
        (rw (behind_prefix s.key (decimal s.number)) (decimal_passes s.number small))

-- a word that sets an option is that of a setting
pub record Sets (word : List ℕ) (key : Key) : Type 0 where
  pub number : ℕ
  pub small : Small number
  pub spelled : word ≡ word_of (record { key = key; number = number })

-- a word that passes is that of a setting
setting_in : (word : List ℕ) (key : Key) → sets word key ≡ true → Sets word key
setting_in word key e =
    let parts = both (names word key) (is_number (drop (length (prefix_of key)) word)) e in
    let split = (starts_is Decides-eqb word (prefix_of key) (names word key) refl).0 parts.0 in
    let digits = number_digits (drop (length (prefix_of key)) word) parts.1 in
    record {
      number = digits_value 10 (drop (length (prefix_of key)) word);
      small = digits.1;
      spelled = split ∙ ap (λ tail. prefix_of key ++ tail) (sym digits.0);
    }

-- ---- several words
-- The words are those of settings of the verb, none twice, of small numbers.
pub record AreSettings (verb : Verb) (words : List (List ℕ)) : Type 0 where
  pub settings : List Setting
  pub spelled : words ≡ map word_of settings
  pub taken : AllByRecursion (λ s. verbs.has_option verb s.key ≡ true) settings
  pub small : AllByRecursion (λ s. Small s.number) settings
  pub once : IsDistinct same_key (map (λ s. s.key) settings)

-- no setting is one of the option that no word names
unnamed : (key : Key) (ss : List Setting) → list_any (λ word. names word key) (map word_of ss) ≡ false → AllByRecursion (λ k. same_key key k ≡ false) (map (λ s. s.key) ss)
unnamed key [] e = tt
unnamed key (s ∷ ss) e =
    let parts = neither (names (word_of s) key) (list_any (λ word. names word key) (map word_of ss)) e in
    (same_sym key s.key ∙ (sym (names_prefix s.key key (decimal s.number)) ∙ parts.0), unnamed key ss parts.1)

-- and an option that no setting sets is named by no word
named_none : (key : Key) (ss : List Setting) → AllByRecursion (λ k. same_key key k ≡ false) (map (λ s. s.key) ss) → list_any (λ word. names word key) (map word_of ss) ≡ false
named_none key [] h = refl
named_none key (s ∷ ss) h = rw (names_prefix s.key key (decimal s.number), same_sym s.key key, h.0) (named_none key ss h.1)

-- words that pass are those of settings
settings_in : (verb : Verb) (words : List (List ℕ)) → are_settings verb words ≡ true → AreSettings verb words
unfolding are_settings IsDistinct
settings_in verb [] e = record { settings = []; spelled = refl; taken = tt; small = tt; once = tt }
settings_in verb (word ∷ words) e = go (settings_in verb words) (find (sets word) (verbs.options_of verb)) refl
  where
    more : (key : Key) → find (sets word) (verbs.options_of verb) ≡ Some key → list_any (λ word. names word key) words ≡ false → AreSettings verb words → AreSettings verb (word ∷ words)
    more key found fresh later =
        let one = setting_in word key (find_passes (sets word) (verbs.options_of verb) key found) in
        record {
          settings = record { key = key; number = one.number } ∷ later.settings;
          spelled = ap₂ (λ w ws. w ∷ ws) one.spelled later.spelled;
          taken = (find_stands (sets word) (same_key key) (verbs.options_of verb) key (same_refl key) found, later.taken);
          small = (one.small, later.small);
          once = (unnamed key later.settings (rw later.spelled at fresh), later.once);
        }

    go : (are_settings verb words ≡ true → AreSettings verb words) → (k : Option Key) → find (sets word) (verbs.options_of verb) ≡ k → AreSettings verb (word ∷ words)
    go later None is = let bad : false ≡ true = rw is at e in absurd cc
    go later (Some key) is =
        let parts = both (not (list_any (λ word. names word key) words)) (are_settings verb words) (rw is at e) in
        more key is (not_true (list_any (λ word. names word key) words) parts.0) (later parts.1)

-- and the words of settings pass
settings_pass : (verb : Verb) (ss : List Setting) → AllByRecursion (λ s. verbs.has_option verb s.key ≡ true) ss → AllByRecursion (λ s. Small s.number) ss
    → IsDistinct same_key (map (λ s. s.key) ss) → are_settings verb (map word_of ss) ≡ true
unfolding are_settings IsDistinct
settings_pass verb [] taken small once = refl
settings_pass verb (s ∷ ss) taken small once =
    rw (
      find_as (sets (word_of s)) (same_key s.key) (verbs.options_of verb) (λ key. sets_is s key small.0),
      find_same s.key (verbs.options_of verb) taken.0,
      named_none s.key ss once.0,
    ) (settings_pass verb ss taken.1 small.1 once.1)

-- ---- the whole words
-- The words are a verb and settings of its options.
pub record IsOfVerb (verb : Verb) (words : List (List ℕ)) : Type 0 where
  pub settings : List Setting
  pub spelled : words ≡ words_of verb settings
  pub taken : AllByRecursion (λ s. verbs.has_option verb s.key ≡ true) settings
  pub small : AllByRecursion (λ s. Small s.number) settings
  pub once : IsDistinct same_key (map (λ s. s.key) settings)

-- each verb is found by its name
verb_found : (verb : Verb) → find (λ v. bytes_eq (verbs.name_of v) (verbs.name_of verb)) verbs.verbs ≡ Some verb
verb_found Decompose = refl
verb_found Check = refl
verb_found Reduce = refl
verb_found Prepare = refl
verb_found Series = refl
verb_found Parametric = refl
verb_found Sample = refl

-- words that pass are of that verb
pub shape_of : (verb : Verb) (words : List (List ℕ)) → verb_of words ≡ Some verb → IsOfVerb verb words
shape_of verb [] e = absurd cc
shape_of verb (word ∷ words) e = go (find (λ v. bytes_eq (verbs.name_of v) word) verbs.verbs) refl
  where
    made : (v : Verb) → bytes_eq (verbs.name_of v) word ≡ true → AreSettings v words → IsOfVerb v (word ∷ words)
    made v named later = record {
      settings = later.settings;
      spelled = ap₂ (λ w ws. w ∷ ws) (sym ((bytes_eq-Decides (verbs.name_of v) word).0 named)) later.spelled;
      taken = later.taken;
      small = later.small;
      once = later.once;
    }

    more : (v : Verb) → find (λ v. bytes_eq (verbs.name_of v) word) verbs.verbs ≡ Some v → (b : Bool) → are_settings v words ≡ b
        → (if b then Some v else None) ≡ Some verb → IsOfVerb verb (word ∷ words)
    more v is true pass found =
        let same : v ≡ verb = cc in
        subst (λ u. IsOfVerb u (word ∷ words)) same (made v (find_passes (λ v. bytes_eq (verbs.name_of v) word) verbs.verbs v is) (settings_in v words pass))
    more v is false pass found = absurd cc

    go : (o : Option Verb) → find (λ v. bytes_eq (verbs.name_of v) word) verbs.verbs ≡ o → IsOfVerb verb (word ∷ words)
    go None is = let bad : None ≡ Some verb = rw is at e in absurd cc
    go (Some v) is = more v is (are_settings v words) refl (rw is at e)

-- and have the shape of a written form
pub has_shape : (verb : Verb) (words : List (List ℕ)) → IsOfVerb verb words → HasShape words
has_shape verb words is = record {
  verb = verb;
  settings = is.settings;
  spelled = is.spelled;
  taken = to_all _ is.settings is.taken;
  once = is.once;
  short = to_all _ is.settings is.small;
}

-- a number in its range is small
in_range_small : (key : Key) (n : ℕ) → n ≤ most_of key → Small n
in_range_small Budget n h = omega arith
in_range_small Chain n h = omega arith
in_range_small Order n h = omega arith
in_range_small Seed n h = omega arith
in_range_small Size n h = omega arith

-- each number is in its range
abbrev AreWithin : List Setting → Type 0
AreWithin = AllByRecursion (λ s. (least_of s.key ≤ s.number) × (s.number ≤ most_of s.key))

-- so numbers in their ranges are small
within_small : (ss : List Setting) → AreWithin ss → AllByRecursion (λ s. Small s.number) ss
within_small [] h = tt
within_small (s ∷ ss) h = (in_range_small s.key s.number h.0.1, within_small ss h.1)

-- `clap` takes the numbers exactly where each is in its range
all_within : (ss : List Setting) → AllByRecursion (λ s. Small s.number) ss → all_pass ss ≡ true → AreWithin ss
all_within [] small e = tt
all_within (s ∷ ss) small e =
    let passed = both _ (all_pass ss) e in
    let parts = both _ _ (sym (decimal_accepted (least_of s.key) (most_of s.key) s.number small.0) ∙ passed.0) in
    ((leb-true _ _ parts.0, leb-true _ _ parts.1), all_within ss small.1 passed.1)

-- and numbers in their ranges are taken
within_all : (ss : List Setting) → AllByRecursion (λ s. Small s.number) ss → AreWithin ss → all_pass ss ≡ true
within_all [] small h = refl
within_all (s ∷ ss) small h =
    rw (decimal_accepted (least_of s.key) (most_of s.key) s.number small.0, le-leb _ _ h.0.0, le-leb _ _ h.0.1) (within_all ss small.1 h.1)

-- without a fault the numbers pass
no_refusal : (b : Bool) → refused_unless b ≡ [] → b ≡ true
no_refusal true e = refl
no_refusal false e = absurd cc

-- the settings of words of the shape that `clap` takes are allowed
pub taken_allowed : (verb : Verb) (words : List (List ℕ)) (shape : IsOfVerb verb words) → fault_of blad_app words ≡ [] → AreAllowed verb shape.settings
taken_allowed verb words shape taken =
    let pass = no_refusal _ (sym (fault_is verb shape.settings shape.once) ∙ rw shape.spelled at taken) in
    record {
      taken = to_all _ shape.settings shape.taken;
      once = shape.once;
      within = to_all _ shape.settings (all_within shape.settings shape.small pass);
    }

-- words of a written form have the shape, and `clap` takes them
pub written_shape : (words : List (List ℕ)) (request : Request) → IsWritten words request → verb_of words ≡ Some request.verb
written_shape words request w =
    let small = within_small w.settings (from_all _ w.settings w.allowed.within) in
    let pass = settings_pass request.verb w.settings (from_all _ w.settings w.allowed.taken) small w.allowed.once in
    rw (w.spelled, verb_found request.verb, pass) refl

-- they have the shape of a written form
pub written_has_shape : (words : List (List ℕ)) (request : Request) → IsWritten words request → HasShape words
written_has_shape words request w = record {
  verb = request.verb;
  settings = w.settings;
  spelled = w.spelled;
  taken = w.allowed.taken;
  once = w.allowed.once;
  short = to_all _ w.settings (within_small w.settings (from_all _ w.settings w.allowed.within));
}

-- `clap` has no fault in words of a written form
pub written_taken : (words : List (List ℕ)) (request : Request) → IsWritten words request → fault_of blad_app words ≡ []
written_taken words request w =
    let within = from_all _ w.settings w.allowed.within in
    rw (w.spelled, fault_is request.verb w.settings w.allowed.once, within_all w.settings (within_small w.settings within) within) refl

-- ---- what is found for an option
-- the number to which an option is set, if it is
abbrev pub found_number : List Setting → Key → Option ℕ
found_number ss key = option_map (λ s. s.number) (find (λ s. same_key s.key key) ss)

-- the row of the verb is that of no option
behind_verb : (key : Key) (name : Text) (rows : List Row) → one_of (name_of key) (verb_row name ∷ rows) ≡ one_of (name_of key) rows
behind_verb Budget name rows = refl
behind_verb Chain name rows = refl
behind_verb Order name rows = refl
behind_verb Seed name rows = refl
behind_verb Size name rows = refl

-- the rows of settings have the digits of their numbers
among_settings : (ss : List Setting) (key : Key) → AllByRecursion (λ s. Small s.number) ss → one_of (name_of key) (map setting_row ss) ≡ option_map decimal (found_number ss key)
among_settings [] key small = refl
among_settings (s ∷ ss) key small = rw (name_is s.key key) (go (among_settings ss key small.1) (same_key s.key key))
  where
    go : one_of (name_of key) (map setting_row ss) ≡ option_map decimal (found_number ss key) → (b : Bool)
        → option_and_then row_text (if b then Some (setting_row s) else find (λ r. bytes_eq r.id (name_of key)) (map setting_row ss))
        ≡ option_map decimal (option_map (λ s. s.number) (if b then Some s else find (λ s. same_key s.key key) ss))
    go later true = ap (λ t. Some t) (decimal_unsigned s.number small.0)
    go later false = later

-- and so have the rows of all words
pub number_found : (name : Text) (ss : List Setting) (key : Key) → AllByRecursion (λ s. Small s.number) ss
    → one_of (name_of key) (verb_row name ∷ map setting_row ss) ≡ option_map decimal (found_number ss key)
number_found name ss key small = behind_verb key name (map setting_row ss) ∙ among_settings ss key small

-- a number that is found lies below the greatest of its option
found_below : (ss : List Setting) (key : Key) (n : ℕ) → AllByRecursion (λ s. s.number ≤ most_of s.key) ss → found_number ss key ≡ Some n → n < 2 ^ 32
found_below [] key n below e = absurd cc
found_below (s ∷ ss) key n below e = go (found_below ss key n below.1) (same_key s.key key) refl
  where
    most : (k : Key) (m : ℕ) → m ≤ most_of k → m < 2 ^ 32
    most Budget m h = omega arith
    most Chain m h = omega arith
    most Order m h = omega arith
    most Seed m h = omega arith
    most Size m h = omega arith

    go : (found_number ss key ≡ Some n → n < 2 ^ 32) → (b : Bool) → same_key s.key key ≡ b → n < 2 ^ 32
    go later true is =
        let found : Some s.number ≡ Some n = rw is at e in
        let same : s.number ≡ n = cc in
        subst (λ m. m < 2 ^ 32) same (most s.key s.number below.0)
    go later false is = later (rw is at e)

-- numbers that are below the greatest of their options are small
below_small : (ss : List Setting) → AllByRecursion (λ s. s.number ≤ most_of s.key) ss → AllByRecursion (λ s. Small s.number) ss
below_small [] h = tt
below_small (s ∷ ss) h = (in_range_small s.key s.number h.0, below_small ss h.1)

-- what is found for an option, or its default, is its number
pub number_is : (result : ℕ) (key : Key) (name : Text) (ss : List Setting) (rows : List Row) → All (λ s. s.number ≤ most_of s.key) ss
    → rows ≡ verb_row name ∷ map setting_row ss
    → ((n : ℕ) → n < 2 ^ 32 → one_of (name_of key) rows ≡ Some (decimal n) → result ≡ n) → (one_of (name_of key) rows ≡ None → result ≡ default_of key)
    → result ≡ number_of ss key
number_is result key name ss rows most is found unset = go (found_number ss key) refl
  where
    below : AllByRecursion (λ s. s.number ≤ most_of s.key) ss
    below = from_all _ ss most

    one : one_of (name_of key) rows ≡ option_map decimal (found_number ss key)
    one = rw is (number_found name ss key (below_small ss below))

    go : (o : Option ℕ) → found_number ss key ≡ o → result ≡ unwrap_or o (default_of key)
    go None e = unset (one ∙ ap (option_map decimal) e)
    go (Some n) e = found n (found_below ss key n below e) (one ∙ ap (option_map decimal) e)

-- the numbers of a written form lie below the greatest of their options
pub within_most : (ss : List Setting) → All (λ s. (least_of s.key ≤ s.number) × (s.number ≤ most_of s.key)) ss → All (λ s. s.number ≤ most_of s.key) ss
within_most ss h = to_all _ ss (go ss (from_all _ ss h))
  where
    go : (ss : List Setting) → AreWithin ss → AllByRecursion (λ s. s.number ≤ most_of s.key) ss
    go [] h = tt
    go (s ∷ ss) h = (h.0.1, go ss h.1)

-- ---- ranges
-- each default is in the range of its option
default_within : (key : Key) → (least_of key ≤ default_of key) × (default_of key ≤ most_of key)
default_within Budget = (omega arith, omega arith)
default_within Chain = (omega arith, omega arith)
default_within Order = (omega arith, omega arith)
default_within Seed = (omega arith, omega arith)
default_within Size = (omega arith, omega arith)

-- and so is the number of each option
number_within : (ss : List Setting) (key : Key) → AreWithin ss → (least_of key ≤ number_of ss key) × (number_of ss key ≤ most_of key)
number_within [] key h = default_within key
number_within (s ∷ ss) key h = go (number_within ss key h.1) (same_key s.key key) refl
  where
    go : (least_of key ≤ number_of ss key) × (number_of ss key ≤ most_of key) → (b : Bool) → same_key s.key key ≡ b
        → (least_of key ≤ number_of (s ∷ ss) key) × (number_of (s ∷ ss) key ≤ most_of key)
    go later true is = rw is (subst (λ k. (least_of k ≤ s.number) × (s.number ≤ most_of k)) (same_is s.key key is) h.0)
    go later false is = rw is later

-- the numbers of a written form lie in their ranges
pub in_range : (words : List (List ℕ)) (request : Request) → IsWritten words request → IsInRange request
in_range words request w =
    let h = from_all _ w.settings w.allowed.within in
    subst IsInRange (sym w.asked) (record {
      budget = number_within w.settings Budget h;
      chain = number_within w.settings Chain h;
      order = number_within w.settings Order h;
      seed = number_within w.settings Seed h;
      size = number_within w.settings Size h;
    })

-- ---- one request
-- settings with one word are equal
one_setting : (s t : Setting) → Small s.number → Small t.number → word_of s ≡ word_of t → s ≡ t
one_setting s t small small' e =
    let named : same_key s.key t.key ≡ true =
    sym (names_prefix s.key t.key (decimal s.number)) ∙ (ap (λ w. names w t.key) e ∙ (names_prefix t.key t.key (decimal t.number) ∙ same_refl t.key)) in
    let key : s.key ≡ t.key = same_is s.key t.key named in
    let tails : decimal s.number ≡ decimal t.number =
    sym (behind_prefix s.key (decimal s.number)) ∙ (ap₂ (λ k w. drop (length (prefix_of k)) w) key e ∙ behind_prefix t.key (decimal t.number)) in
    let number : s.number ≡ t.number = sym (decimal_value s.number small) ∙ (ap (digits_value 10) tails ∙ decimal_value t.number small') in
    ap₂ (λ k n. record { key = k; number = n }) key number

-- lists of settings with the same words are equal
one_list : (ss ts : List Setting) → AllByRecursion (λ s. Small s.number) ss → AllByRecursion (λ s. Small s.number) ts → map word_of ss ≡ map word_of ts → ss ≡ ts
one_list [] [] small small' e = refl
one_list [] (t ∷ ts) small small' e = absurd cc
one_list (s ∷ ss) [] small small' e = absurd cc
one_list (s ∷ ss) (t ∷ ts) small small' e =
    let heads : word_of s ≡ word_of t = cc in
    let tails : map word_of ss ≡ map word_of ts = cc in
    ap₂ (λ x xs. x ∷ xs) (one_setting s t small.0 small'.0 heads) (one_list ss ts small.1 small'.1 tails)

-- words of a written form ask for one thing
pub one_asked : (words : List (List ℕ)) (a b : Request) → IsWritten words a → IsWritten words b → a ≡ b
one_asked words a b v w =
    let found : Some a.verb ≡ Some b.verb = sym (written_shape words a v) ∙ written_shape words b w in
    let verb : a.verb ≡ b.verb = cc in
    let spelled : words_of a.verb v.settings ≡ words_of b.verb w.settings = sym v.spelled ∙ w.spelled in
    let later : map word_of v.settings ≡ map word_of w.settings = cc in
    let settings = one_list v.settings w.settings (within_small v.settings (from_all _ v.settings v.allowed.within)) (within_small w.settings (from_all _ w.settings w.allowed.within)) later in
    v.asked ∙ (ap₂ request_of verb settings ∙ sym w.asked)
