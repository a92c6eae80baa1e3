-- Critical pairs name equations.
use Rattle.std.proofs.Common.{◌≡◌, ◌+◌, ◌<◌, ◌∙◌, ℕ, suc, nat_lt, Bool, true, false, cond, List, [], ◌∷◌, refl, ap, arith, Some}
use Rattle.std.proofs.lemmas.Bool.{lt-ltb}
use Rattle.dz_algebra.specs.Polynomial.{Polynomial}
use Rattle.dz_algebra.specs.Symbols.{Symbols}
use Rattle.dz_rank.specs.declared.symbols.Symbol.{Symbol}
use Rattle.dz_monomials.specs.Lists.{AllOf}
use Rattle.dz_diff.specs.State.{State, at_place}
use Rattle.dz_diff.proofs.Places.{all-append}
use Rattle.dz_pair.specs.Pair.{critical_pairs, is_pair, pairs_from, pairs_with}

module _ (g : Symbols Symbol) where
  module _ (es : List (Polynomial Symbol)) where
    -- two places, the first less, whose equations are a critical pair
    pub record NamesPair (x : ℕ × ℕ) : Type 0 where
      pub first : Polynomial Symbol
      pub second : Polynomial Symbol
      pub rises : nat_lt x.0 x.1 ≡ true
      pub first_is : at_place x.0 es ≡ Some first
      pub second_is : at_place x.1 es ≡ Some second
      pub is_one : is_pair g first second ≡ true

    -- the pairs of one equation are such
    with_names : (i j : ℕ) (p : Polynomial Symbol) (qs : List (Polynomial Symbol)) → i < j → at_place i es ≡ Some p → ((k : ℕ) (x : Polynomial Symbol) → at_place (suc k) qs ≡ Some x → at_place (j + k) es ≡ Some x) → AllOf NamesPair (pairs_with g i j p qs)
    with_names i j p [] l a inside = tt
    with_names i j p (q ∷ qs) l a inside = by_test (is_pair g p q) refl (with_names i (suc j) p qs (omega (arith, l)) a (λ k x h. ap (λ n. at_place n es) (omega arith) ∙ inside (suc k) x h))
      where
        by_test : (b : Bool) → is_pair g p q ≡ b → AllOf NamesPair (pairs_with g i (suc j) p qs) → AllOf NamesPair (cond b ((i, j) ∷ pairs_with g i (suc j) p qs) (pairs_with g i (suc j) p qs))
        by_test true e h = (record { first = p; second = q; rises = lt-ltb i j l; first_is = a; second_is = ap (λ n. at_place n es) (omega arith) ∙ inside 0 q refl; is_one = e }, h)
        by_test false e h = h

    -- and so are those from a place on
    from_names : (i : ℕ) (ps : List (Polynomial Symbol)) → ((k : ℕ) (x : Polynomial Symbol) → at_place (suc k) ps ≡ Some x → at_place (i + k) es ≡ Some x) → AllOf NamesPair (pairs_from g i ps)
    from_names i [] inside = tt
    from_names i (p ∷ ps) inside =
        let more : (k : ℕ) (x : Polynomial Symbol) → at_place (suc k) ps ≡ Some x → at_place (suc i + k) es ≡ Some x = λ k x h. ap (λ n. at_place n es) (omega arith) ∙ inside (suc k) x h in
        all-append NamesPair (pairs_with g i (suc i) p ps) (pairs_from g (suc i) ps) (with_names i (suc i) p ps (omega arith) (ap (λ n. at_place n es) (omega arith) ∙ inside 0 p refl) more) (from_names (suc i) ps more)

  -- the critical pairs are critical pairs of equations
  pub critical_pairs_name : (s : State) → AllOf (NamesPair s.equations) (critical_pairs g s)
  critical_pairs_name s = from_names s.equations 1 s.equations (λ k x h. ap (λ n. at_place n s.equations) (omega arith) ∙ h)
