use Rattle.std.proofs.Common.{ap, ◌∙◌}
use Rattle.dz_monomials.specs.Ranked.{symbols_under}
use Rattle.dz_diff.specs.State.{without_place}
use Rattle.dz_diff.specs.States.{polynomials}
use Rattle.dz_diff.specs.Tests.{is_member}
use Rattle.dz_move.proofs.RootLists.{norm_in}
use Rattle.dz_move.proofs.roots.keep_norm.Goals as goal

pub returns-clause-value : goal.returns-clause-value
returns-clause-value c =
    let book = c.args.book.now in
    let n = c.in_ok-norm.norm.terms in
    norm_in book c.args.members c.args.p c.args.kept.now.items c.requires.all n c.in_ok-norm.ensures.terms c.keep.new.self c.in_ok-norm-2.norm c.push.new.self.items c.in_ok-norm-2.ensures.kept c.in_ok-norm-2.ensures.ok
    (c.if-is_left_out.ensures book.ranking c.in_ok-norm.ensures.entry)
    (c.if-is_among.ensures ∙ ap (λ ps. is_member (symbols_under book.ranking) n (without_place 0 (polynomials book ps))) c.deref.ensures.value)
    c.in_ok-push.ensures.items
