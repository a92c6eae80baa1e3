use Rattle.std.proofs.Common.{◌≡◌, ◌≤◌, ◌+◌, drop, length, map}
use Rattle.dz_cert.specs.Documents.{canonical_texts}
use Rattle.dz_cert.specs.Readers.{texts_of}
use Rattle.dz_cert.specs.Verdicts.{first_other}
use Rattle.dz_diff.specs.States.{state_in}
use Rattle.dz_cert.proofs.checking.first_other.Given as goal

-- the first other chain is among those that are left
pub record IsLeft (l : goal.Live-chains) : Type 0 where
  pub same : first_other (l.k + 1) (map texts_of (drop l.k l.chains)) (map (λ s. canonical_texts l.names (state_in l.book s)) (drop l.k l.states))
      ≡ first_other 1 (map texts_of l.chains) (map (λ s. canonical_texts l.names (state_in l.book s)) l.states)
  pub within : l.k ≤ length l.states

abbrev pub invariant-chains : goal.invariant-chains
invariant-chains l = IsLeft l
