-- The root has the solutions of the system, and a certified tree those of the root.
use Rattle.std.proofs.Common.{◌≡◌, inl, inr, true, List, [], ◌∷◌, refl, Ok}
use Rattle.dz_algebra.specs.Norm.{norm}
use Rattle.dz_algebra.specs.Polynomial.{Polynomial}
use Rattle.dz_rank.specs.Rankings.{RankingValue}
use Rattle.dz_rank.specs.declared.symbols.Symbol.{Symbol}
use Rattle.dz_monomials.specs.Ranked.{symbols_under}
use Rattle.dz_monomials.proofs.SymbolLaws.{ranking_order}
use Rattle.dz_monomials.specs.Lists.{AllOf, SomeOf}
use Rattle.dz_diff.specs.Tests.{is_unit, is_zero}
use Rattle.dz_diff.specs.Operations.{setting_of}
use Rattle.dz_move.specs.Root.{System, root_of}
use Rattle.dz_diff.proofs.Goodness.{Good, good_norm}
use Rattle.dz_move.proofs.KeptNorms.{kept_all, kept_back}
use Rattle.dz_move.specs.Lines.{entries_of}
use Rattle.dz_tree.specs.Trees.{Tree}
use Rattle.dz_check.specs.Walk.{End, ends_of}
use Rattle.dz_zeros.proofs.Meaning.{Meaning, Vanishes, Differs, norm_vanishes, vanishes_norm, unit_nonzero}
use Rattle.dz_zeros.proofs.Actions.{Solution, GoodState}
use Rattle.dz_zeros.proofs.Walks.{GoodEnd, SolvedEnd, walk_same}

module _ {r : RankingValue} {R : Type 0} (m : Meaning r R) where
  -- the polynomial zero vanishes
  pub zero_vanishes : (p : Polynomial Symbol) → is_zero p ≡ true → Vanishes m p
  zero_vanishes [] e = refl
  zero_vanishes (t ∷ p) e = cc

  -- the equations of a system vanish and the inequations do not
  abbrev pub SystemSolved : System → Type 0
  SystemSolved s = AllOf (Vanishes m) s.equations × AllOf (Differs m) s.inequations

  -- all polynomials of a system are canonical, in the signature
  abbrev pub GoodSystem : System → Type 0
  GoodSystem s = AllOf (Good r) s.equations × AllOf (Good r) s.inequations

  root_down : (s : System) → GoodSystem s → SystemSolved s → Solution m (root_of (symbols_under r) s)
  unfolding root_of
  root_down s good h = (
    kept_all (symbols_under r) is_zero (Good r) (Vanishes m) (λ p k z. norm_vanishes m p k z) [] s.equations good.0 tt h.0,
    kept_all (symbols_under r) (is_unit (symbols_under r)) (Good r) (Differs m) (λ p k n z. n (vanishes_norm m p z)) [] s.inequations good.1 tt h.1,
  )

  root_up : (s : System) → GoodSystem s → Solution m (root_of (symbols_under r) s) → SystemSolved s
  unfolding root_of
  root_up s good h = (
    (kept_back (symbols_under r) is_zero (Good r) (Vanishes m) (ranking_order r) (λ p k z. vanishes_norm m p z) (λ p k e. zero_vanishes (norm p) e) [] s.equations good.0 h.0).1,
    (kept_back (symbols_under r) (is_unit (symbols_under r)) (Good r) (Differs m) (ranking_order r) (λ p k n z. n (norm_vanishes m p k z)) (λ p k u. unit_nonzero m (norm p) (good_norm r p k) u) [] s.inequations good.1 h.1).1,
  )

  root_good : (s : System) → GoodSystem s → GoodState m (root_of (symbols_under r) s)
  unfolding root_of
  root_good s good = (
    kept_all (symbols_under r) is_zero (Good r) (Good r) (λ p k g. good_norm r p k) [] s.equations good.0 tt good.0,
    kept_all (symbols_under r) (is_unit (symbols_under r)) (Good r) (Good r) (λ p k g. good_norm r p k) [] s.inequations good.1 tt good.1,
  )

  -- a certified tree has the solutions of its system at its ends, and the states at these are good
  pub tree_same : (s : System) (tree : Tree) (ends : List End) → ends_of (setting_of r) s tree ≡ Ok ends → GoodSystem s
      → (SystemSolved s → SomeOf (SolvedEnd m) ends) × (SomeOf (SolvedEnd m) ends → SystemSolved s) × AllOf (GoodEnd m) ends
  unfolding ends_of
  tree_same s tree ends e good =
      let h = walk_same m tree.budget 0 1 (root_of (symbols_under r) s ∷ []) (entries_of tree.lines) ends e (root_good s good, tt) in
      ((λ x. h.0 (inl (root_down s good x))), (λ x. root_up s good (only (h.1 x))), h.2)
    where
      only : SomeOf (Solution m) (root_of (symbols_under r) s ∷ []) → Solution m (root_of (symbols_under r) s)
      only (inl x) = x
      only (inr x) = absurd x
