use Rattle.std.proofs.Common.{◌≡◌, ◌<◌, ◌+◌, ℕ, length}
use Rattle.dz_syntax.specs.Marks.{separated}
use Rattle.dz_syntax.specs.Functions.{element_of}
use Rattle.dz_syntax.proofs.functions.functions.Given as goal

-- some count that suffices for the rest gives the same
abbrev pub invariant-elements : goal.invariant-elements
invariant-elements l =
    (n : ℕ) × (length l.rest < n)
    × (separated (element_of l.names) n l.into.items l.rest ≡ separated (element_of l.names) (length l.fn.text + 1) l.fn.into.items l.fn.text)

abbrev pub decreases-elements : goal.decreases-elements
decreases-elements l = length l.rest
