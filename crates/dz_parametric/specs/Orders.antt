-- The derivatives of a ranking up to a total order.
use Rattle.std.specs.Prelude.{⊤, ◌≡◌, ℕ, zero, suc, ◌+◌, ◌-◌, List, [], ◌∷◌, ◌++◌, map, replicate, flat_map}
use Rattle.std.specs.List.{range_with_len}
use Rattle.std.specs.Ordering.{match_ordering}
use Rattle.std.specs.declared.cmp.Ordering.{Ordering}
use Rattle.std.specs.declared.cmp.Ordering.TheVariants.{Less}
use Rattle.dz_rank.specs.Rankings.{RankingValue}
use Rattle.dz_rank.specs.declared.symbols.Symbol.{Symbol}
use Rattle.dz_rank.specs.declared.symbols.Symbol.TheVariants.{Derivative}
use Rattle.dz_monomials.specs.Lists.{AllOf}
use Rattle.dz_diff.specs.Operations.{setting_of}

-- the lists of n exponents with a sum of at most m
abbrev pub exponents_to : ℕ → ℕ → List (List ℕ)
exponents_to zero m = [] ∷ []
exponents_to (suc n) m = flat_map (λ k. map (λ (ks : List ℕ). k ∷ ks) (exponents_to n (m - k))) (range_with_len 0 (m + 1))

-- a symbol put into a rising list
abbrev pub put : (Symbol → Symbol → Ordering) → Symbol → List Symbol → List Symbol
put cmp s [] = s ∷ []
put cmp s (t ∷ ts) = match_ordering (cmp s t) (s ∷ t ∷ ts) (t ∷ ts) (t ∷ put cmp s ts)

-- the symbols in increasing order
abbrev pub rising : (Symbol → Symbol → Ordering) → List Symbol → List Symbol
rising cmp [] = []
rising cmp (s ∷ ss) = put cmp s (rising cmp ss)

-- the derivatives of a signature up to total order m, in increasing order
unfoldable pub derivatives_to : RankingValue → ℕ → List Symbol
derivatives_to r m =
    let n = r.signature.independents in
    rising (setting_of r).symbols.cmp (flat_map (λ u. map (λ (ks : List ℕ). Derivative u (record { counts = ks ++ replicate (4 - n) 0 })) (exponents_to n m)) (range_with_len 0 r.signature.dependents))

-- each symbol is less than all that follow it
abbrev pub IsRising : (Symbol → Symbol → Ordering) → List Symbol → Type 0
IsRising cmp [] = ⊤
IsRising cmp (s ∷ ss) = AllOf (λ t. cmp s t ≡ Less) ss × IsRising cmp ss

-- how the program lists them: the derivatives of u by n exponents, of which the first are these, and the last k have a sum of at
-- most m
abbrev pub derivatives_from : ℕ → ℕ → List ℕ → ℕ → ℕ → List Symbol
derivatives_from n u first k m = map (λ (ks : List ℕ). Derivative u (record { counts = (first ++ ks) ++ replicate (4 - n) 0 })) (exponents_to k m)
