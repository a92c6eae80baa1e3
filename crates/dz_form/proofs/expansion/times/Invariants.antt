use Rattle.std.proofs.Common.{◌≡◌, ◌-◌}
use Rattle.dz_terms.specs.Entries.{IsEntry}
use Rattle.dz_monomials.specs.Ranked.{symbols_under}
use Rattle.dz_form.specs.Values.{times}
use Rattle.dz_form.proofs.expansion.times.Given as goal

-- the product so far, and the products that are left
abbrev pub invariant-factors : goal.invariant-factors
invariant-factors l = record {
  entry : IsEntry l.ranking l.all;
  rest : times (symbols_under l.ranking) l.base.terms (l.count - l.counter) l.all.terms ≡ times (symbols_under l.ranking) l.base.terms l.count l.base.terms;
}
