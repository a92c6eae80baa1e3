use Rattle.std.proofs.Common.{◌≡◌, ◌-◌, length, take, map}
use Rattle.dz_algebra.specs.Amount.{amount}
use Rattle.dz_arena.specs.Stacks.{HasRoomFor}
use Rattle.dz_monomials.specs.Cells.{capped}
use Rattle.dz_monomials.specs.Signs.{signed}
use Rattle.dz_cells.specs.Runs.{added, IsExtended}
use Rattle.dz_cells.specs.Tallies.{tallied}
use Rattle.dz_cells.proofs.contributions.put_signed.Given as goal

-- so many coefficients are written
abbrev pub invariant-loop-i : goal.invariant-loop-i
invariant-loop-i l = record {
  room : HasRoomFor (length l.coefficients - l.i) l.tallies;
  extended : IsExtended l.fn.tallies l.tallies;
  contributions : map tallied (added l.fn.tallies l.tallies) ≡ map (λ c. capped (amount (signed l.sign c))) (take l.i l.coefficients);
}
