-- The verbs: their names and their options.
use Rattle.std.specs.Prelude.{ℕ, Bool, List, [], ◌∷◌, codes}
use Rattle.std.specs.List.{list_any}
use Rattle.dz_words.specs.declared.options.Key.{Key}
use Rattle.dz_words.specs.declared.options.Key.TheVariants.{Budget, Chain, Order, Seed, Size}
use Rattle.dz_words.specs.Options.{same_key}
use Rattle.dz_words.specs.declared.verbs.Verb.{Verb}
use Rattle.dz_words.specs.declared.verbs.Verb.TheVariants.{Decompose, Check, Reduce, Prepare, Series, Parametric, Sample}

-- all verbs
abbrev pub verbs : List Verb
verbs = Decompose ∷ Check ∷ Reduce ∷ Prepare ∷ Series ∷ Parametric ∷ Sample ∷ []

-- the name
abbrev pub name_of : Verb → List ℕ
name_of Decompose = codes "decompose"
name_of Check = codes "check"
name_of Reduce = codes "reduce"
name_of Prepare = codes "prepare"
name_of Series = codes "series"
name_of Parametric = codes "parametric"
name_of Sample = codes "sample"

-- the options that it has
abbrev pub options_of : Verb → List Key
options_of Decompose = Budget ∷ []
options_of Check = []
options_of Reduce = Budget ∷ []
options_of Prepare = Budget ∷ []
options_of Series = Budget ∷ Chain ∷ Order ∷ []
options_of Parametric = Budget ∷ Chain ∷ Order ∷ []
options_of Sample = Seed ∷ Size ∷ []

-- the verb has the option
abbrev pub has_option : Verb → Key → Bool
has_option verb key = list_any (same_key key) (options_of verb)
