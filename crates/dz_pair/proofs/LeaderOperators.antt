-- The operators that take two crossing leaders to their least common derivative.
use Rattle.std.specs.Prelude.{max}
use Rattle.std.proofs.Common.{◌≡◌, ◌∙◌, ℕ, true, ◌&&◌, cond, List, [], ◌∷◌, refl, sym, ap, ap₂, arith, Some, None}
use Rattle.std.proofs.lemmas.Bool.{eq-eqb, le-leb}
use Rattle.dz_rank.specs.Symbols.{exponent_maxima, least_common_derivative}
use Rattle.dz_rank.specs.declared.symbols.Operator.{Operator}
use Rattle.dz_rank.specs.declared.symbols.Symbol.{Symbol}
use Rattle.dz_rank.specs.declared.symbols.Symbol.TheVariants.{Derivative}
use Rattle.dz_diff.specs.Operators.{divides, exponent_differences, quotient}
use Rattle.dz_algebra.proofs.Outcomes.{both}
use Rattle.dz_pair.specs.Pair.{are_crossing}

-- exponents divide themselves
divides_itself : (ks : List ℕ) → divides ks ks ≡ true
divides_itself [] = refl
divides_itself (k ∷ ks) = ap₂ (λ a b. a && b) (le-leb k k (omega arith)) (divides_itself ks)

-- and the greater of each two
divides_maxima : (ss ts : List ℕ) → divides ss (exponent_maxima ss ts) ≡ true
divides_maxima [] ts = refl
divides_maxima (s ∷ ss) [] = divides_itself (s ∷ ss)
divides_maxima (s ∷ ss) (t ∷ ts) = ap₂ (λ a b. a && b) (le-leb s (max s t) (omega arith)) (divides_maxima ss ts)

-- so do the second exponents
divides_other : (ss ts : List ℕ) → divides ts (exponent_maxima ss ts) ≡ true
divides_other [] ts = divides_itself ts
divides_other (s ∷ ss) [] = refl
divides_other (s ∷ ss) (t ∷ ts) = ap₂ (λ a b. a && b) (le-leb t (max s t) (omega arith)) (divides_other ss ts)

module _ (l m : Symbol) (u v : ℕ) (s t x : Operator) (first_is : l ≡ Derivative u s) (second_is : m ≡ Derivative v t) where
  -- the exponents of the least common derivative
  abbrev greater : List ℕ
  greater = exponent_maxima s.counts t.counts

  -- what the first leader lacks takes it there
  pub first_operator : x.counts ≡ exponent_differences greater s.counts → quotient (least_common_derivative l m) l ≡ Some x
  first_operator e =
      ap₂ (λ a b. quotient (least_common_derivative a b) a) first_is second_is
      ∙ ap (λ b. cond b (Some (record { counts = exponent_differences greater s.counts })) None) (ap₂ (λ a b. a && b) (eq-eqb u u refl) (divides_maxima s.counts t.counts))
      ∙ ap (λ ks. Some (record { counts = ks })) (sym e)

  -- and what the second lacks takes that one there
  pub second_operator : are_crossing l m ≡ true → x.counts ≡ exponent_differences greater t.counts → quotient (least_common_derivative l m) m ≡ Some x
  second_operator c e =
      let d : are_crossing (Derivative u s) (Derivative v t) ≡ true = sym (ap₂ are_crossing first_is second_is) ∙ c in
      let same = (both _ _ (both _ _ d).0).0 in
      ap₂ (λ a b. quotient (least_common_derivative a b) b) first_is second_is
      ∙ ap (λ b. cond b (Some (record { counts = exponent_differences greater t.counts })) None) (ap₂ (λ a b. a && b) same (divides_other s.counts t.counts))
      ∙ ap (λ ks. Some (record { counts = ks })) (sym e)
