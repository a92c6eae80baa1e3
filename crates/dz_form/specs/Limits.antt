-- The words of limits.
use Rattle.std.specs.Prelude.{ℕ, List, codes}
use Rattle.dz_algebra.specs.declared.Limit.{Limit}
use Rattle.dz_algebra.specs.declared.Limit.TheVariants.{Order, Exponent, Symbols, Terms, Polynomials, Node, Splits}

-- the word of a limit
abbrev pub limit_word : Limit → List ℕ
limit_word Order = codes "order"
limit_word Exponent = codes "exponent"
limit_word Symbols = codes "symbols"
limit_word Terms = codes "terms"
limit_word Polynomials = codes "polynomials"
limit_word Node = codes "node"
limit_word Splits = codes "splits"
