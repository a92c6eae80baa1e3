-- What is told of a system that is made from a seed (this project).
use Rattle.std.specs.Prelude.{ℕ, if◌then◌else◌, List, ◌++◌, codes}
use Rattle.std.specs.Fmt.{decimal}
use Rattle.dz_sample.specs.declared.summary.Summary.{Summary}

-- a word and a number, which end a line
abbrev pub count_line : List ℕ → ℕ → List ℕ
count_line word n = word ++ decimal n ++ codes "\n"

-- five lines: where the system comes from, three counts, and whether the tree is complete
unfoldable pub summary_text : Summary → List ℕ
summary_text s =
    codes "sample seed " ++ decimal s.seed ++ count_line (codes " size ") s.size
    ++ count_line (codes "equations ") s.equations
    ++ count_line (codes "chains ") s.chains
    ++ count_line (codes "members ") s.members
    ++ (if s.is_complete then codes "accepted\n" else codes "partial\n")
