use Rattle.std.proofs.Common.{◌≡◌, take, false}
use Rattle.std.specs.List.{list_any}
use Rattle.dz_rank.specs.Symbols.{total_order}
use Rattle.dz_monomials.specs.Ranked.{symbol_rate}
use Rattle.dz_monomials.specs.Rows.{is_high_rate, rates_of}
use Rattle.dz_monomials.proofs.rates.table_rates.Given as goal

abbrev pub invariant-loop-j : goal.invariant-loop-j
invariant-loop-j l = record {
  rates_are : l.rates.items ≡ rates_of (symbol_rate l.i) (take l.j l.table);
  low : list_any (λ q. is_high_rate total_order (symbol_rate l.i q.0)) (take l.j l.table) ≡ false;
}
