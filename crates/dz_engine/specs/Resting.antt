-- Lines that hold, and states at rest (this project).
use Rattle.std.specs.Prelude.{◌≡◌, ℕ, false, true, [], Ok, Some, IsOk}
use Rattle.dz_algebra.specs.Polynomial.{Polynomial, symbol_polynomial}
use Rattle.dz_rank.specs.declared.symbols.Symbol.{Symbol}
use Rattle.dz_diff.specs.Operations.{Setting}
use Rattle.dz_move.specs.Root.{is_closed}
use Rattle.dz_diff.specs.State.{State, at_place}
use Rattle.dz_step.specs.declared.Role.TheVariants.{Inequation}
use Rattle.dz_monomials.specs.PowerDivision.{is_divided}
use Rattle.dz_step.specs.FullRun.{admits}
use Rattle.dz_tree.specs.Chain.{chain_rule}
use Rattle.dz_move.specs.Lines.{Entry}
use Rattle.dz_check.specs.Walk.{entered}

-- an entry holds at a state and a running weight
abbrev pub EntryHolds : Setting → ℕ → ℕ → State → Entry → Type 0
EntryHolds g budget w s e = IsOk (entered g budget w s e.line e.evidence)

-- a state is at rest: it is not closed, it is a chain without critical pairs, no inequation admits a step in its role, and no
-- derivative divides an equation other than itself
pub record IsAtRest (g : Setting) (s : State) : Type 0 where
  pub unclosed : is_closed g.symbols s ≡ false
  pub is_chain : chain_rule g s [] ≡ Ok tt
  pub weeded : (j : ℕ) (h : Polynomial Symbol) → at_place j s.inequations ≡ Some h → admits g s (Inequation j) h ≡ false
  pub undivided : (i : ℕ) (p : Polynomial Symbol) (v : Symbol) → at_place i s.equations ≡ Some p → g.symbols.is_derivative v ≡ true → is_divided g.symbols.cmp v p ≡ true → p ≡ symbol_polynomial v
