use Rattle.std.proofs.Common.{◌≡◌, drop}
use Rattle.std.specs.Prelude.{map}
use Rattle.dz_rank.specs.Rankings.{ranking_cmp}
use Rattle.dz_monomials.specs.Ranked.{symbols_under}
use Rattle.dz_monomials.specs.PowerDivision.{is_divided}
use Rattle.dz_engine.specs.Order.{first_symbol, symbols_of}
use Rattle.dz_engine.proofs.facts.is_undivided.Given as goal

abbrev pub invariant-symbols : goal.invariant-symbols
invariant-symbols l =
    first_symbol (λ v. is_divided (ranking_cmp l.book.ranking) v l.q.terms) (symbols_of (symbols_under l.book.ranking) l.q.terms)
    ≡ first_symbol (λ v. is_divided (ranking_cmp l.book.ranking) v l.q.terms) (map (λ p. p.0) (drop l.k l.table))
