-- More digits make no number less.
use Rattle.std.proofs.Common.{◌≡◌, ℕ, ◌≤◌, List, [], ◌∷◌, None, arith}
use Rattle.std.proofs.lemmas.Bool.Decides.{nat_tests}
use Rattle.dz_syntax.specs.Numbers.{number_from, more_digits, at_most}

pub number_from-least : (value : ℕ) (digits : List ℕ) → value ≤ number_from value digits
number_from-least value [] = omega arith
number_from-least value (d ∷ digits) = omega (arith, number_from-least (more_digits value d) digits)

-- a number that has passed the bound stays above it
pub stays_above : (most value : ℕ) (digits : List ℕ) → at_most most value ≡ None → at_most most (number_from value digits) ≡ None
stays_above most value digits above =
    let least = number_from-least value digits in
    grind (arith, nat_tests)
