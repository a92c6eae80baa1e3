-- What is kept of the divisors without a role is what is kept for an equation that is left out, and back.
use Rattle.std.specs.Prelude.{not, slice_index_or, slice_set}
use Rattle.std.proofs.Common.{◌≡◌, ◌<◌, ◌+◌, length, subst, ℕ, zero, suc, true, List, [], ◌∷◌, refl, sym, ap, arith, inl, inr, Option, Some, None}
use Rattle.std.proofs.lemmas.Bool.{eq-eqb, ne_eqb}
use Rattle.dz_algebra.specs.Polynomial.{Polynomial}
use Rattle.dz_rank.specs.Rankings.{RankingValue}
use Rattle.dz_rank.specs.declared.symbols.Symbol.{Symbol}
use Rattle.dz_diff.specs.State.{State}
use Rattle.dz_diff.specs.Tests.{Polynomials}
use Rattle.dz_step.specs.declared.Role.TheVariants.{Equation, Free}
use Rattle.dz_step.specs.declared.divisors.Divisor.{Divisor}
use Rattle.dz_step.specs.Divisors.{AreDivisors, AreKeptOf, IsKeptOf}
use Rattle.dz_step.specs.Step.{is_divisor}
use Rattle.dz_step.proofs.DivisorTables.{kept_at}

module _ (r : RankingValue) (hs : Polynomials) (k : ℕ) where
  -- another place is a divisor for equation k
  other : (j : ℕ) → (k ≡ j → ⊥) → is_divisor (Equation k) j ≡ true
  other j n = ap not (ne_eqb k j n)

  -- so the same is kept of it
  kept_of_other : (j : ℕ) (q : Polynomial Symbol) (d : Option Divisor) → (k ≡ j → ⊥) → IsKeptOf r hs Free j q d → IsKeptOf r hs (Equation k) j q d
  kept_of_other j q None n (inl e) = absurd cc
  kept_of_other j q None n (inr e) = inr e
  kept_of_other j q (Some d) n h = (other j n, h.1)

  other_again : (j : ℕ) (q : Polynomial Symbol) (d : Option Divisor) → (k ≡ j → ⊥) → IsKeptOf r hs (Equation k) j q d → IsKeptOf r hs Free j q d
  other_again j q None n (inl e) = let f = other j n in absurd cc
  other_again j q None n (inr e) = inr e
  other_again j q (Some d) n h = (refl, h.1)

  -- of later places
  kept_later : (j : ℕ) (qs : Polynomials) (ds : List (Option Divisor)) → k < j → AreKeptOf r hs Free j qs ds → AreKeptOf r hs (Equation k) j qs ds
  kept_later j [] [] l a = tt
  kept_later j [] (d ∷ ds) l a = absurd a
  kept_later j (q ∷ qs) [] l a = absurd a
  kept_later j (q ∷ qs) (d ∷ ds) l a = (kept_of_other j q d (λ e. omega (arith, e, l)) a.0, kept_later (suc j) qs ds (omega (arith, l)) a.1)

  later_again : (j : ℕ) (qs : Polynomials) (ds : List (Option Divisor)) → k < j → AreKeptOf r hs (Equation k) j qs ds → AreKeptOf r hs Free j qs ds
  later_again j [] [] l a = tt
  later_again j [] (d ∷ ds) l a = absurd a
  later_again j (q ∷ qs) [] l a = absurd a
  later_again j (q ∷ qs) (d ∷ ds) l a = (other_again j q d (λ e. omega (arith, e, l)) a.0, later_again (suc j) qs ds (omega (arith, l)) a.1)

  -- equation k is left out
  kept_without : (i j : ℕ) (qs : Polynomials) (ds : List (Option Divisor)) → k ≡ i + j → AreKeptOf r hs Free j qs ds → AreKeptOf r hs (Equation k) j qs (slice_set ds i None)
  kept_without i j [] [] e a = tt
  kept_without i j [] (d ∷ ds) e a = absurd a
  kept_without i j (q ∷ qs) [] e a = absurd a
  kept_without zero j (q ∷ qs) (d ∷ ds) e a = (inl (ap not (eq-eqb k j (omega (arith, e)))), kept_later (suc j) qs ds (omega (arith, e)) a.1)
  kept_without (suc i) j (q ∷ qs) (d ∷ ds) e a = (kept_of_other j q d (λ f. omega (arith, e, f)) a.0, kept_without i (suc j) qs ds (omega (arith, e)) a.1)

  -- and put back
  kept_with : (i j : ℕ) (qs : Polynomials) (ds : List (Option Divisor)) (d : Option Divisor) → k ≡ i + j → IsKeptOf r hs Free k (slice_index_or qs i []) d → AreKeptOf r hs (Equation k) j qs ds → AreKeptOf r hs Free j qs (slice_set ds i d)
  kept_with i j [] [] d e h a = tt
  kept_with i j [] (x ∷ ds) d e h a = absurd a
  kept_with i j (q ∷ qs) [] d e h a = absurd a
  kept_with zero j (q ∷ qs) (x ∷ ds) d e h a = (subst (λ n. IsKeptOf r hs Free n q d) (let f : k ≡ j = omega (arith, e) in f) h, later_again (suc j) qs ds (omega (arith, e)) a.1)
  kept_with (suc i) j (q ∷ qs) (x ∷ ds) d e h a = (other_again j q x (λ f. omega (arith, e, f)) a.0, kept_with i (suc j) qs ds d (omega (arith, e)) h a.1)

module _ (r : RankingValue) (s : State) (i : ℕ) (ds : List (Option Divisor)) where
  -- what is kept for the equation at a place, where what is kept of it is left out
  pub own_left_out : AreDivisors r s Free ds → AreDivisors r s (Equation (suc i)) (slice_set ds i None)
  own_left_out a = record { each = kept_without r s.inequations (suc i) i 1 s.equations ds (omega arith) a.each }

  -- what is kept of it
  pub own_kept : (x : Option Divisor) → i < length ds → x ≡ slice_index_or ds i x → AreDivisors r s Free ds → IsKeptOf r s.inequations Free (suc i) (slice_index_or s.equations i []) x
  own_kept x l e a = subst (IsKeptOf r s.inequations Free (suc i) (slice_index_or s.equations i [])) (sym e) (kept_at r s.inequations Free (suc i) i 1 s.equations ds x l (omega arith) a.each)

  -- and without a role, where it is put back
  pub own_put_back : (d : Option Divisor) → IsKeptOf r s.inequations Free (suc i) (slice_index_or s.equations i []) d → AreDivisors r s (Equation (suc i)) ds → AreDivisors r s Free (slice_set ds i d)
  own_put_back d h a = record { each = kept_with r s.inequations (suc i) i 1 s.equations ds d (omega arith) h a.each }
