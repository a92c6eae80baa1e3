-- Only reduces, weeds and pairs have runs with known ends.
use Rattle.std.proofs.Common.{◌≡◌, ℕ, refl}
use Rattle.dz_diff.specs.Operations.{Setting}
use Rattle.dz_diff.specs.State.{State}
use Rattle.dz_move.specs.declared.lines.Next.{Next}
use Rattle.dz_move.specs.declared.pair_runs.ActionEnd.{ActionEnd}
use Rattle.dz_move.specs.declared.lines.Next.TheVariants as nexts
use Rattle.dz_move.specs.KnownEnds.{IsKnownEnd}
use Rattle.dz_move.specs.TreeLines.{action_of}

-- no other action does
pub no_other_known : (g : Setting) (s : State) (next : Next) (x : ActionEnd) → ((i : ℕ) (steps : _) → next ≡ nexts.Reduce i steps → ⊥) → ((j : ℕ) (steps : _) → next ≡ nexts.Weed j steps → ⊥) → ((i j : ℕ) (steps : _) → next ≡ nexts.Pair i j steps → ⊥) → ((i : ℕ) → next ≡ nexts.Separant i → ⊥) → IsKnownEnd g s (action_of next) x → ⊥
no_other_known g s (nexts.Reduce i steps) x a b p c h = a i steps refl
no_other_known g s (nexts.Weed j steps) x a b p c h = b j steps refl
no_other_known g s (nexts.Pair i j steps) x a b p c h = p i j steps refl
no_other_known g s (nexts.Divide i v) x a b p c h = h
no_other_known g s (nexts.Split i which) x a b p c h = h
no_other_known g s (nexts.Factor i v) x a b p c h = h
no_other_known g s (nexts.Separant i) x a b p c h = c i refl
