-- Orders of keys, and lists that fall.
use Rattle.std.specs.Prelude.{◌≡◌, ⊤, List, [], ◌∷◌}
use Rattle.std.specs.declared.cmp.Ordering.{Ordering}
use Rattle.std.specs.declared.cmp.Ordering.TheVariants.{Equal, Greater}
use Rattle.std.specs.Cmp.{IsTotalOrder}

-- a total order in which only equal things tie
pub record IsOrder {S : Type 0} (cmp : S → S → Ordering) : Type 0 where
  pub total : IsTotalOrder cmp
  pub same : (s t : S) → cmp s t ≡ Equal → s ≡ t

-- s is greater than every key of a list
abbrev pub IsAbove : {S X : Type 0} → (S → S → Ordering) → S → List (S × X) → Type 0
IsAbove cmp s [] = ⊤
IsAbove cmp s (p ∷ m) = (cmp s p.0 ≡ Greater) × IsAbove cmp s m

-- each key is greater than all that follow it
abbrev pub IsFalling : {S X : Type 0} → (S → S → Ordering) → List (S × X) → Type 0
IsFalling cmp [] = ⊤
IsFalling cmp (p ∷ m) = IsAbove cmp p.0 m × IsFalling cmp m
