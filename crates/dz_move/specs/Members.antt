-- The two lists of a state, and what each leaves out.
use Rattle.std.specs.Prelude.{ℕ, Bool}
use Rattle.dz_algebra.specs.Polynomial.{Polynomial}
use Rattle.dz_algebra.specs.Symbols.{Symbols}
use Rattle.dz_rank.specs.declared.symbols.Symbol.{Symbol}
use Rattle.dz_diff.specs.State.{put_equation, put_inequation}
use Rattle.dz_diff.specs.Tests.{Polynomials, is_unit, is_zero}
use Rattle.dz_move.specs.declared.roots.Members.{Members}
use Rattle.dz_move.specs.declared.roots.Members.TheVariants.{Equations, Inequations}

-- an equation that is zero, or an inequation that is ground and not zero
abbrev pub is_left_out : Symbols Symbol → Members → Polynomial Symbol → Bool
is_left_out g Equations = is_zero
is_left_out g Inequations = is_unit g

-- a norm put at a place of one of the lists
abbrev pub put_at : Symbols Symbol → Members → ℕ → Polynomial Symbol → Polynomials → Polynomials
put_at g Equations i p ps = put_equation g i p ps
put_at g Inequations i p ps = put_inequation g i p ps
