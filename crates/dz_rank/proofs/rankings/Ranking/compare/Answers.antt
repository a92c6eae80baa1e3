use Rattle.std.proofs.Common.{◌≡◌, ◌∙◌, ap, ap₂, sym}
use Rattle.std.specs.Ordering.{nat_cmp}
use Rattle.std.specs.declared.cmp.Ordering.TheVariants.{Equal}
use Rattle.dz_rank.specs.Standings.{by_keys, standing_of}
use Rattle.dz_rank.proofs.Comparing.{independents, independent_first, derivative_first, same_block, other_block}
use Rattle.dz_rank.proofs.rankings.Ranking.compare.Goals as goal

pub returns-in-Independent-Independent : goal.returns-in-Independent-Independent
returns-in-Independent-Independent c = rw (c.in-Independent-Independent.is-0, c.in-Independent-Independent.is-1) (c.cmp.ensures ∙ independents c.args.self.now _ _)

pub returns-in-Independent-Derivative : goal.returns-in-Independent-Derivative
returns-in-Independent-Derivative c = rw (c.in-Independent-Derivative.is-0, c.in-Independent-Derivative.is-1) (independent_first c.args.self.now _ _ _)

pub returns-in-Derivative-Independent : goal.returns-in-Derivative-Independent
returns-in-Derivative-Independent c = rw (c.in-Derivative-Independent.is-0, c.in-Derivative-Independent.is-1) (derivative_first c.args.self.now _ _ _)

pub returns-in-Equal : goal.returns-in-Equal
returns-in-Equal c =
    let d = c.in-Derivative-Derivative in
    let bs = c.args.self.now.blocks in
    let first = c.standing-first.ensures in
    let second = c.standing-second.ensures in
    let h : nat_cmp (standing_of bs d.v).block (standing_of bs d.u).block ≡ Equal = sym (ap₂ (λ a b. nat_cmp b.block a.block) first second) ∙ sym c.in-Equal.ensures in
    rw (d.is-0, d.is-1)
    (c.compare_in_block.ensures
    ∙ ap (by_keys c.standing-first.result.kind d.s.counts d.t.counts) c.cmp-in-Equal.ensures
    ∙ ap₂ (λ a b. by_keys a.kind d.s.counts d.t.counts (nat_cmp b.place a.place)) first second
    ∙ same_block c.args.self.now d.u d.v d.s d.t h)

pub returns-in_default : goal.returns-in_default
returns-in_default c =
    let d = c.in-Derivative-Derivative in
    let bs = c.args.self.now.blocks in
    let e : c.cmp-in-Derivative-Derivative.result ≡ nat_cmp (standing_of bs d.v).block (standing_of bs d.u).block =
    c.cmp-in-Derivative-Derivative.ensures ∙ ap₂ (λ a b. nat_cmp b.block a.block) c.standing-first.ensures c.standing-second.ensures in
    rw (d.is-0, d.is-1) (e ∙ other_block c.args.self.now d.u d.v d.s d.t (λ h. c.in_default.not-Equal (e ∙ h)))
