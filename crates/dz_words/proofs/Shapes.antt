-- The shape of the words.
use Rattle.std.proofs.Common.{◌≡◌, ◌&&◌, ℕ, ◌<◌, not, List, [], ◌∷◌, map, ap, sym, find, Some, drop, take, length, ◌-◌, subst, arith, slice_index_or}
use Rattle.std.proofs.Math.Seq.{take-length}
use Rattle.std.specs.List.{list_any}
use Rattle.dz_words.specs.declared.options.Key.{Key}
use Rattle.dz_words.specs.declared.verbs.Verb.{Verb}
use Rattle.dz_words.specs.Shape.{are_settings, names, sets}
use Rattle.dz_words.specs.Verbs.{options_of}
use Rattle.dz_words.proofs.Lists.{list_any_map}

-- what stands behind the first member
abbrev rest_of : {S : Type 0} → List S → List S
rest_of words = take (length words - 1) (drop 1 words)

-- it is all but the first
rest_of-cons : {S : Type 0} (word : S) (words : List S) → rest_of (word ∷ words) ≡ words
rest_of-cons word words =
    let one : length (word ∷ words) - 1 ≡ length words = omega arith in
    rw one (take-length words)

-- one word more, where the words are behind other objects
pub settings_step : {S : Type 0} (bytes : S → List ℕ) (verb : Verb) (words : List S) (word : S) (key : Key) → 0 < length words → word ≡ slice_index_or words 0 word
    → find (sets (bytes word)) (options_of verb) ≡ Some key
    → are_settings verb (map bytes words) ≡ not (list_any (λ w. names (bytes w) key) (rest_of words)) && are_settings verb (map bytes (rest_of words))
unfolding are_settings
settings_step bytes verb [] word key some is found = absurd (omega arith)
settings_step bytes verb (w ∷ ws) word key some is found =
    subst (λ rest. are_settings verb (map bytes (w ∷ ws)) ≡ not (list_any (λ w. names (bytes w) key) rest) && are_settings verb (map bytes rest)) (sym (rest_of-cons w ws))
    (rw (rw is at found) (ap (λ b. not b && are_settings verb (map bytes ws)) (sym (list_any_map (λ w. names w key) bytes ws))))
