use Rattle.std.proofs.Common.{rules, ◌≡◌, ◌<◌, ◌+◌, max, MatchOption, sym, subst, arith}
use Rattle.dz_monomials.specs.Joinings.{joined_by}
use Rattle.dz_monomials.proofs.powers.joined.Goals as goal

pub returns-in-Sum : goal.returns-in-Sum
returns-in-Sum c =
    let e : MatchOption c.checked_add.result (65535 < c.args.p + c.args.q) (λ e. e ≡ c.args.p + c.args.q) = search rules in
    subst (λ j. MatchOption c.checked_add.result (65535 < joined_by j c.args.p c.args.q) (λ e. e ≡ joined_by j c.args.p c.args.q)) (sym c.in-Sum.is) e

pub returns-in-Greatest : goal.returns-in-Greatest
returns-in-Greatest c =
    let e : c.max.result ≡ max c.args.p c.args.q = search rules in
    subst (λ j. c.max.result ≡ joined_by j c.args.p c.args.q) (sym c.in-Greatest.is) e
