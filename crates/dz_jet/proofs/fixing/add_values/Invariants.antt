use Rattle.std.proofs.Common.{◌≡◌, All, drop}
use Rattle.dz_poly.specs.Books.{IsKept}
use Rattle.dz_monomials.specs.Ranked.{symbols_under}
use Rattle.dz_diff.specs.Operations.{setting_of}
use Rattle.dz_diff.specs.States.{state_in}
use Rattle.dz_jet.specs.Jets.{value_in, with_values}
use Rattle.dz_jet.specs.Making.{IsMade}
use Rattle.dz_jet.specs.Tables.{IsBegun}
use Rattle.dz_jet.proofs.fixing.add_values.Given as goal

abbrev pub invariant-loop-k : goal.invariant-loop-k
invariant-loop-k l = record {
  kept : IsKept l.fn.book l.book;
  begun : IsBegun l.fn.book.ranking l.values.items (drop l.k l.fn.symbols);
  made : All (IsMade l.book l.fn.chain.equations) l.made.items;
  rest : with_values (setting_of l.fn.book.ranking) (state_in l.fn.book l.fn.chain) (value_in (symbols_under l.fn.book.ranking) l.fn.known) l.values.items (drop l.k l.fn.symbols)
      ≡ with_values (setting_of l.fn.book.ranking) (state_in l.fn.book l.fn.chain) (value_in (symbols_under l.fn.book.ranking) l.fn.known) l.fn.values.items l.fn.symbols;
}
