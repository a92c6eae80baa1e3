use Rattle.std.proofs.Common.{◌≡◌, ◌≤◌, ℕ, length, ◌+◌, ◌*◌}
use Rattle.dz_syntax.specs.Expressions.{inside, sums, factors}
use Rattle.dz_syntax.proofs.expression.+poly.Given as goal

abbrev pub decreases-poly : goal.decreases-poly
decreases-poly l = 7 * l.levels + 6

abbrev pub decreases-more_terms : goal.decreases-more_terms
decreases-more_terms l = 7 * l.levels + 5

abbrev pub decreases-product : goal.decreases-product
decreases-product l = 7 * l.levels + 4

abbrev pub decreases-more_factors : goal.decreases-more_factors
decreases-more_factors l = 7 * l.levels + 3

abbrev pub decreases-power : goal.decreases-power
decreases-power l = 7 * l.levels + 2

abbrev pub decreases-atom : goal.decreases-atom
decreases-atom l = 7 * l.levels + 1

abbrev pub decreases-parentheses : goal.decreases-parentheses
decreases-parentheses l = 7 * l.levels

-- some fuel that suffices for the rest gives the same
abbrev pub invariant-more_factors-factors : goal.invariant-more_factors-factors
invariant-more_factors-factors l =
    (n : ℕ) × (length l.rest ≤ n) × (factors l.names (inside l.names l.levels) n (record { out = l.out.items; text = l.rest })
    ≡ factors l.names (inside l.names l.levels) (length l.fn.text) (record { out = l.fn.out.items; text = l.fn.text })) × (length l.rest ≤ length l.fn.text)

abbrev pub decreases-more_factors-factors : goal.decreases-more_factors-factors
decreases-more_factors-factors l = length l.rest

abbrev pub invariant-more_terms-terms : goal.invariant-more_terms-terms
invariant-more_terms-terms l =
    (n : ℕ) × (length l.rest ≤ n) × (sums l.names (inside l.names l.levels) n (record { out = l.out.items; text = l.rest })
    ≡ sums l.names (inside l.names l.levels) (length l.fn.text) (record { out = l.fn.out.items; text = l.fn.text })) × (length l.rest ≤ length l.fn.text)

abbrev pub decreases-more_terms-terms : goal.decreases-more_terms-terms
decreases-more_terms-terms l = length l.rest
