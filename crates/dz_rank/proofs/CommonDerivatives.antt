-- The greater exponents give the least common derivative.
use Rattle.std.proofs.Common.{◌≡◌, ◌+◌, ◌-◌, ◌∙◌, ℕ, List, [], ◌∷◌, max, true, refl, sym, ap, ap₂, arith, subst, eqb-true}
use Rattle.dz_rank.specs.declared.symbols.Operator.{Operator}
use Rattle.dz_rank.specs.declared.symbols.Symbol.{Symbol}
use Rattle.dz_rank.specs.declared.symbols.Symbol.TheVariants.{Independent, Derivative}
use Rattle.dz_rank.specs.Symbols.{exponent_sums, exponent_maxima, have_one_dependent, IsDerivativeOf, least_common_derivative, IsLeastCommon}

-- by how much the second exponents pass the first
abbrev excess : List ℕ → List ℕ → List ℕ
excess [] ts = ts
excess (s ∷ ss) [] = []
excess (s ∷ ss) (t ∷ ts) = (t - s) ∷ excess ss ts

sums_of_excess : (ss ts : List ℕ) → exponent_maxima ss ts ≡ exponent_sums ss (excess ss ts)
sums_of_excess [] ts = refl
sums_of_excess (s ∷ ss) [] = refl
sums_of_excess (s ∷ ss) (t ∷ ts) = ap₂ (λ (x : ℕ) (xs : List ℕ). x ∷ xs) (greater s t) (sums_of_excess ss ts)
  where
    greater : (s t : ℕ) → max s t ≡ s + (t - s)
    greater s t = omega arith

maxima_swap : (ss ts : List ℕ) → exponent_maxima ss ts ≡ exponent_maxima ts ss
maxima_swap [] [] = refl
maxima_swap [] (t ∷ ts) = refl
maxima_swap (s ∷ ss) [] = refl
maxima_swap (s ∷ ss) (t ∷ ts) = ap₂ (λ (x : ℕ) (xs : List ℕ). x ∷ xs) (swap s t) (maxima_swap ss ts)
  where
    swap : (s t : ℕ) → max s t ≡ max t s
    swap s t = omega arith

-- the first exponent, and the others; a missing one is zero
abbrev first : List ℕ → ℕ
first [] = 0
first (k ∷ ks) = k

abbrev rest : List ℕ → List ℕ
rest [] = []
rest (k ∷ ks) = ks

sums_with_none : (ss : List ℕ) → exponent_sums ss [] ≡ ss
sums_with_none [] = refl
sums_with_none (s ∷ ss) = refl

sums_of_cons : (s : ℕ) (ss ps : List ℕ) → exponent_sums (s ∷ ss) ps ≡ (s + first ps) ∷ exponent_sums ss (rest ps)
sums_of_cons s ss [] = ap₂ (λ (x : ℕ) (xs : List ℕ). x ∷ xs) (plus_none s) (sym (sums_with_none ss))
  where
    plus_none : (s : ℕ) → s ≡ s + 0
    plus_none s = omega arith
sums_of_cons s ss (p ∷ ps) = refl

-- what is a multiple of both is one of the greater exponents
multiple : (ss ts ps qs : List ℕ) → exponent_sums ss ps ≡ exponent_sums ts qs → (rs : List ℕ) × (exponent_sums ss ps ≡ exponent_sums (exponent_maxima ss ts) rs)
multiple [] ts ps qs e = (qs, e)
multiple (s ∷ ss) [] ps qs e = (ps, refl)
multiple (s ∷ ss) (t ∷ ts) ps qs e =
    let f : (s + first ps) ∷ exponent_sums ss (rest ps) ≡ (t + first qs) ∷ exponent_sums ts (rest qs) = sym (sums_of_cons s ss ps) ∙ e ∙ sums_of_cons t ts qs in
    let tail = multiple ss ts (rest ps) (rest qs) (ap rest f) in
    ((s + first ps - max s t) ∷ tail.0, sums_of_cons s ss ps ∙ ap₂ (λ (x : ℕ) (xs : List ℕ). x ∷ xs) (head s t (first ps) (first qs) (ap first f)) tail.1)
  where
    head : (s t p q : ℕ) → s + p ≡ t + q → s + p ≡ max s t + (s + p - max s t)
    head s t p q e = omega arith

abbrev exponents_of : Symbol → List ℕ
exponents_of (Independent i) = []
exponents_of (Derivative u s) = s.counts

of_one_dependent : (u : ℕ) (s t : Operator) → IsLeastCommon (Derivative u s) (Derivative u t) (Derivative u (record { counts = exponent_maxima s.counts t.counts }))
of_one_dependent u s t = record {
  first = (record { counts = excess s.counts t.counts }, (refl, ap (λ ks. Derivative u (record { counts = ks })) (sums_of_excess s.counts t.counts)));
  second = (record { counts = excess t.counts s.counts }, (refl, ap (λ ks. Derivative u (record { counts = ks })) (maxima_swap s.counts t.counts ∙ sums_of_excess t.counts s.counts)));
  least = λ w d e. least w d e;
}
  where
    least : (w : Symbol) → IsDerivativeOf (Derivative u s) w → IsDerivativeOf (Derivative u t) w → IsDerivativeOf (Derivative u (record { counts = exponent_maxima s.counts t.counts })) w
    least w d e =
        let r = multiple s.counts t.counts d.0.counts e.0.counts (sym (ap exponents_of d.1.1) ∙ ap exponents_of e.1.1) in
        (record { counts = r.0 }, (refl, d.1.1 ∙ ap (λ ks. Derivative u (record { counts = ks })) r.1))

pub found_least : (u v : ℕ) (s t m : Operator) → u ≡ v → m.counts ≡ exponent_maxima s.counts t.counts → IsLeastCommon (Derivative u s) (Derivative v t) (Derivative u m)
found_least u v s t m d e =
    subst (λ w. IsLeastCommon (Derivative u s) (Derivative w t) (Derivative u m)) d
    (subst (λ ks. IsLeastCommon (Derivative u s) (Derivative u t) (Derivative u (record { counts = ks }))) (sym e) (of_one_dependent u s t))

-- the least common derivative of two derivatives of one dependent is one
pub least_common_is_least : (a b : Symbol) → have_one_dependent a b ≡ true → IsLeastCommon a b (least_common_derivative a b)
least_common_is_least (Independent i) b e = cc
least_common_is_least (Derivative u s) (Independent j) e = cc
least_common_is_least (Derivative u s) (Derivative v t) e = found_least u v s t _ (eqb-true u v e) refl
