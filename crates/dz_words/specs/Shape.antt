-- The shape of the words, as the program tests it. Public clauses cite `is_number` alone.
use Rattle.std.specs.Prelude.{ℕ, ◌==◌, ◌&&◌, Bool, true, false, not, List, [], ◌∷◌, length, take, drop, nat_le, find, if◌then◌else◌}
use Rattle.std.specs.Prelude.{Option, Some, None, nat_eq}
use Rattle.std.specs.List.{list_all, list_any}
use Rattle.std.specs.Char.{is_ascii_digit}
use Rattle.std.specs.Cmp.Lexicographic.{pointwise}
use Rattle.std.specs.Str.{bytes_eq}
use Rattle.dz_words.specs.declared.options.Key.{Key}
use Rattle.dz_words.specs.declared.verbs.Verb.{Verb}
use Rattle.dz_words.specs.Options.{prefix_of}
use Rattle.dz_words.specs.Verbs.{name_of, options_of, verbs}

-- there is a first byte, and a zero stands alone
abbrev pub starts_as_number : List ℕ → Bool
starts_as_number [] = false
starts_as_number (d ∷ []) = true
starts_as_number (d ∷ e ∷ ds) = not (d == 48)

-- `0`, or at most ten digits of which the first is not zero
abbrev pub is_number : List ℕ → Bool
is_number ds = starts_as_number ds && (nat_le (length ds) 10 && list_all is_ascii_digit ds)

-- the word begins as one that sets the option
abbrev pub names : List ℕ → Key → Bool
names word key = pointwise nat_eq (prefix_of key) (take (length (prefix_of key)) word)

-- the word sets the option to a number
abbrev pub sets : List ℕ → Key → Bool
sets word key = names word key && is_number (drop (length (prefix_of key)) word)

-- the word sets this option, no later word begins as one that sets it, and the later words pass
abbrev pub settings_from : Option Key → List (List ℕ) → Bool → Bool
settings_from None words later = false
settings_from (Some key) words later = not (list_any (λ word. names word key) words) && later

-- the words set options of the verb, each at most once
unfoldable pub are_settings : Verb → List (List ℕ) → Bool
are_settings verb [] = true
are_settings verb (word ∷ words) = settings_from (find (sets word) (options_of verb)) words (are_settings verb words)

-- the verb that was found, where the words behind it pass
abbrev pub verb_from : Option Verb → List (List ℕ) → Option Verb
verb_from None words = None
verb_from (Some verb) words = if are_settings verb words then Some verb else None

-- the verb of words of this shape
abbrev pub verb_of : List (List ℕ) → Option Verb
verb_of [] = None
verb_of (word ∷ words) = verb_from (find (λ verb. bytes_eq (name_of verb) word) verbs) words
