-- The written forms of the words.
use Rattle.std.specs.Prelude.{◌≡◌, ◌≤◌, ◌<◌, ◌^◌, ℕ, true, List, ◌∷◌, ◌++◌, map, find, option_map, unwrap_or, All}
use Rattle.std.specs.Fmt.{decimal}
use Rattle.std.specs.List.{IsDistinct}
use Rattle.dz_words.specs.declared.options.Key.{Key}
use Rattle.dz_words.specs.declared.options.Key.TheVariants.{Budget, Chain, Order, Seed, Size}
use Rattle.dz_words.specs.declared.verbs.Verb.{Verb}
use Rattle.dz_words.specs.declared.words.Request.{Request}
use Rattle.dz_words.specs.Options.{default_of, least_of, most_of, prefix_of, same_key}
use Rattle.dz_words.specs.Verbs.{has_option, name_of}

-- What a word sets: an option to a number.
pub record Setting : Type 0 where
  pub key : Key
  pub number : ℕ

-- the word that sets it: `--`, the option's name, `=` and the number without leading zeros
abbrev pub word_of : Setting → List ℕ
word_of s = prefix_of s.key ++ decimal s.number

-- the words of a verb with settings
abbrev pub words_of : Verb → List Setting → List (List ℕ)
words_of verb settings = name_of verb ∷ map word_of settings

-- The verb has each option that is set, no option is set twice, and each number is in its range.
pub record AreAllowed (verb : Verb) (settings : List Setting) : Type 0 where
  pub taken : All (λ s. has_option verb s.key ≡ true) settings
  pub once : IsDistinct same_key (map (λ s. s.key) settings)
  pub within : All (λ s. (least_of s.key ≤ s.number) × (s.number ≤ most_of s.key)) settings

-- the number of an option: the one to which it is set, or its default
abbrev pub number_of : List Setting → Key → ℕ
number_of settings key = unwrap_or (option_map (λ s. s.number) (find (λ s. same_key s.key key) settings)) (default_of key)

-- what a verb with settings asks for
abbrev pub request_of : Verb → List Setting → Request
request_of verb settings = record {
  verb = verb;
  budget = number_of settings Budget;
  chain = number_of settings Chain;
  order = number_of settings Order;
  seed = number_of settings Seed;
  size = number_of settings Size;
}

-- The words have a written form, and ask for this.
pub record IsWritten (words : List (List ℕ)) (request : Request) : Type 0 where
  pub settings : List Setting
  pub spelled : words ≡ words_of request.verb settings
  pub allowed : AreAllowed request.verb settings
  pub asked : request ≡ request_of request.verb settings

-- The words have the shape of a written form: the ranges are not looked at, but no number has more than ten digits.
pub record HasShape (words : List (List ℕ)) : Type 0 where
  pub verb : Verb
  pub settings : List Setting
  pub spelled : words ≡ words_of verb settings
  pub taken : All (λ s. has_option verb s.key ≡ true) settings
  pub once : IsDistinct same_key (map (λ s. s.key) settings)
  pub short : All (λ s. s.number < 10 ^ 10) settings

-- Each number lies in the range of its option.
pub record IsInRange (request : Request) : Type 0 where
  pub budget : (least_of Budget ≤ request.budget) × (request.budget ≤ most_of Budget)
  pub chain : (least_of Chain ≤ request.chain) × (request.chain ≤ most_of Chain)
  pub order : (least_of Order ≤ request.order) × (request.order ≤ most_of Order)
  pub seed : (least_of Seed ≤ request.seed) × (request.seed ≤ most_of Seed)
  pub size : (least_of Size ≤ request.size) × (request.size ≤ most_of Size)
