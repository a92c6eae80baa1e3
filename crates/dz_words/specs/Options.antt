-- The options: their names, their ranges and their numbers where the words do not set them.
use Rattle.std.specs.Prelude.{ℕ, Bool, true, false, List, ◌++◌, codes}
use Rattle.dz_words.specs.declared.options.Key.{Key}
use Rattle.dz_words.specs.declared.options.Key.TheVariants.{Budget, Chain, Order, Seed, Size}

-- the name
abbrev pub name_of : Key → List ℕ
name_of Budget = codes "budget"
name_of Chain = codes "chain"
name_of Order = codes "order"
name_of Seed = codes "seed"
name_of Size = codes "size"

-- the least number of the range
abbrev pub least_of : Key → ℕ
least_of Budget = 0
least_of Chain = 1
least_of Order = 0
least_of Seed = 0
least_of Size = 0

-- the greatest number of the range
abbrev pub most_of : Key → ℕ
most_of Budget = 20000000
most_of Chain = 1000000
most_of Order = 20
most_of Seed = 2147483647
most_of Size = 200

-- the number where the words do not set the option
abbrev pub default_of : Key → ℕ
default_of Budget = 1000000
default_of Chain = 1
default_of Order = 3
default_of Seed = 1
default_of Size = 0

-- two options are the same
abbrev pub same_key : Key → Key → Bool
same_key Budget Budget = true
same_key Chain Chain = true
same_key Order Order = true
same_key Seed Seed = true
same_key Size Size = true
same_key _ _ = false

-- what stands in a word before the digits of an option's number
abbrev pub prefix_of : Key → List ℕ
prefix_of key = codes "--" ++ name_of key ++ codes "="
