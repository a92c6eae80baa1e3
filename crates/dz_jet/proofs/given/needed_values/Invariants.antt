use Rattle.std.specs.List.{filter}
use Rattle.std.proofs.Common.{◌≡◌, drop, map, take}
use Rattle.dz_monomials.specs.Ranked.{symbols_under}
use Rattle.dz_diff.specs.States.{state_in}
use Rattle.dz_jet.specs.Jets.{is_needed, value_in}
use Rattle.dz_jet.specs.Tables.{first_missing}
use Rattle.dz_jet.proofs.given.needed_values.Given as goal

abbrev pub invariant-loop-i : goal.invariant-loop-i
invariant-loop-i l = record {
  values : l.needed.items ≡ map (λ s. (s, value_in (symbols_under l.fn.book.ranking) l.fn.sorted s)) (filter (is_needed (symbols_under l.fn.book.ranking) (state_in l.fn.book l.fn.chain)) (take l.i l.fn.symbols));
  rest : first_missing l.fn.book.ranking (state_in l.fn.book l.fn.chain) l.fn.sorted (drop l.i l.fn.symbols) ≡ first_missing l.fn.book.ranking (state_in l.fn.book l.fn.chain) l.fn.sorted l.fn.symbols;
}
