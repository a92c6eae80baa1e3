-- The symbols of a jet: the independents, and the derivatives up to a total order, in increasing order.
use Rattle.std.specs.List.{range_with_len}
use Rattle.std.proofs.Common.{◌≡◌, ◌≤◌, ◌+◌, ℕ, Bool, true, false, List, [], ◌∷◌, ◌++◌, refl, subst, arith}
use Rattle.std.specs.declared.cmp.Ordering.TheVariants.{Less}
use Rattle.dz_rank.specs.Rankings.{RankingValue, ranking_cmp}
use Rattle.dz_rank.specs.Symbols.{BelongsTo, is_derivative, total_order}
use Rattle.dz_rank.specs.declared.symbols.Symbol.{Symbol}
use Rattle.dz_rank.specs.declared.symbols.Symbol.TheVariants.{Independent, Derivative}
use Rattle.dz_monomials.proofs.SymbolLaws.{ranking_order}
use Rattle.dz_monomials.specs.Lists.{AllOf}
use Rattle.dz_diff.proofs.Places.{all-append, some_left, some_right}
use Rattle.dz_jet.specs.Jets.{independents_of}
use Rattle.dz_parametric.specs.Orders.{derivatives_to}
use Rattle.dz_parametric.proofs.Members.{In, all_map, all_range, in_map, in_range}
use Rattle.dz_parametric.proofs.OrderLists.{IsListed, IsOrdered, all_derivatives, in_derivatives_to, rises}

-- ---- the symbols of a jet
module _ (r : RankingValue) (few : r.signature.independents ≤ 4) (m : ℕ) where
  -- all of them, in their order
  abbrev pub jet_symbols : List Symbol
  jet_symbols = independents_of r.signature ++ derivatives_to r m

  all_independents : AllOf (λ s. IsListed r few m s × (is_derivative s ≡ false)) (independents_of r.signature)
  all_independents = all_map (λ i. Independent i) (λ s. IsListed r few m s × (is_derivative s ≡ false)) (range_with_len 0 r.signature.independents) (all_range (λ i. IsListed r few m (Independent i) × (is_derivative (Independent i) ≡ false)) 0 r.signature.independents (λ i l h. (record { belongs = omega arith; within = omega arith }, refl)))

  only_first : (P Q : Symbol → Type 0) (xs : List Symbol) → AllOf (λ s. P s × Q s) xs → AllOf P xs
  only_first P Q [] h = tt
  only_first P Q (x ∷ xs) h = (h.0.0, only_first P Q xs h.1)

  only_second : (P Q : Symbol → Type 0) (xs : List Symbol) → AllOf (λ s. P s × Q s) xs → AllOf Q xs
  only_second P Q [] h = tt
  only_second P Q (x ∷ xs) h = (h.0.1, only_second P Q xs h.1)

  -- each belongs to the signature, and is within the order
  pub all_listed : AllOf (IsListed r few m) jet_symbols
  all_listed = all-append (IsListed r few m) (independents_of r.signature) (derivatives_to r m) (only_first (IsListed r few m) (λ s. is_derivative s ≡ false) (independents_of r.signature) all_independents) (only_first (IsListed r few m) (λ s. is_derivative s ≡ true) (derivatives_to r m) (all_derivatives r few m))

  -- each symbol of the signature within the order is one of them
  pub in_jet : (s : Symbol) → BelongsTo r.signature s → total_order s ≤ m → In s jet_symbols
  in_jet (Independent i) b h =
      some_left (λ u. u ≡ Independent i) (independents_of r.signature) (derivatives_to r m)
      (subst (λ j. In (Independent j) (independents_of r.signature)) (let e : 0 + i ≡ i = omega arith in e) (in_map (λ i. Independent i) (0 + i) (range_with_len 0 r.signature.independents) (in_range 0 r.signature.independents i b)))
  in_jet (Derivative u t) b h = some_right (λ v. v ≡ Derivative u t) (independents_of r.signature) (derivatives_to r m) (in_derivatives_to r few m (Derivative u t) refl b h)

  -- a derivative is less than all that follow it
  pub jet_ordered : IsOrdered (ranking_order r) jet_symbols
  jet_ordered = after (independents_of r.signature) (only_second (IsListed r few m) (λ s. is_derivative s ≡ false) (independents_of r.signature) all_independents)
    where
      none : (s : Symbol) (xs : List Symbol) → is_derivative s ≡ false → AllOf (λ t. is_derivative s ≡ true → ranking_cmp r s t ≡ Less) xs
      none s [] f = tt
      none s (x ∷ xs) f = ((λ e. absurd (apart (is_derivative s) e f)), none s xs f)
        where
          apart : (b : Bool) → b ≡ true → b ≡ false → ⊥
          apart b e f = cc

      after : (xs : List Symbol) → AllOf (λ s. is_derivative s ≡ false) xs → IsOrdered (ranking_order r) (xs ++ derivatives_to r m)
      after [] h = rises r few m
      after (x ∷ xs) h = (none x (xs ++ derivatives_to r m) h.0, after xs h.1)
