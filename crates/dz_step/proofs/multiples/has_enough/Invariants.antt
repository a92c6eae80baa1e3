use Rattle.std.proofs.Common.{◌≡◌, drop}
use Rattle.std.specs.List.{list_any}
use Rattle.dz_algebra.specs.Parts.{degree}
use Rattle.dz_algebra.specs.Polynomial.{Polynomial}
use Rattle.dz_rank.specs.Rankings.{ranking_cmp}
use Rattle.dz_rank.specs.declared.symbols.Symbol.{Symbol}
use Rattle.dz_monomials.specs.Ranked.{symbols_under}
use Rattle.dz_step.specs.FullRun.{derivatives_of}
use Rattle.dz_step.specs.Multiples.{is_reducible_at}
use Rattle.dz_step.proofs.Searches.{derivatives_in}
use Rattle.dz_step.proofs.multiples.has_enough.Given as goal

abbrev pub invariant-powers : goal.invariant-powers
invariant-powers l =
    (q : Polynomial Symbol) → l.least ≡ degree (ranking_cmp l.ranking) l.lead q → list_any (is_reducible_at (symbols_under l.ranking) l.f.terms q l.lead) (derivatives_in (drop l.k l.table))
    ≡ list_any (is_reducible_at (symbols_under l.ranking) l.f.terms q l.lead) (derivatives_of (symbols_under l.ranking) l.f.terms)
