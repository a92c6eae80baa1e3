use Rattle.std.proofs.Common.{rules}
use Rattle.std.specs.Ordering.{is_lt}
use Rattle.std.proofs.lemmas.Fn.{always_returns_same}
use Rattle.std.proofs.lemmas.List.Sorted.{ranks_by}
use Rattle.dz_rank.specs.Rankings.{ranking_cmp}
use Rattle.dz_monomials.proofs.SymbolLaws.{ranking_order}
use Rattle.dz_jet.proofs.given.sorted.Goals as goal

pub returns-clause-sorted : goal.returns-clause-sorted
returns-clause-sorted c =
    let r = c.args.ranking.now in
    c.sort_unstable_by.ensures.sorted (λ p q. is_lt (ranking_cmp r p.0 q.0)) (ranks_by (ranking_order r).total (λ p. p.0)) (always_returns_same _ _ _ (λ a q f' h. search rules))
