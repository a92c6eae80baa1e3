use Rattle.std.proofs.Common.{◌∙◌, not, ap, sym}
use Rattle.dz_monomials.specs.Ranked.{symbols_under}
use Rattle.dz_diff.specs.State.{without_place}
use Rattle.dz_diff.specs.States.{polynomials, state_in}
use Rattle.dz_diff.specs.Tests.{is_member}
use Rattle.dz_move.proofs.NewNorms.{ground_not_new, new_unless}
use Rattle.dz_move.proofs.forks.is_new.Goals as goal

pub returns-in_default : goal.returns-in_default
returns-in_default c =
    let book = c.args.book.now in
    ground_not_new book.ranking (state_in book c.args.state.now) c.args.norm.now.terms (sym (c.leader_of.ensures book.ranking c.requires.norm) ∙ c.in_default.is)

pub returns : goal.returns
returns c =
    let book = c.args.book.now in
    ap not (c.is_among-2.ensures ∙ ap (λ ps. is_member (symbols_under book.ranking) c.args.norm.now.terms (without_place 0 (polynomials book ps))) c.inequations.ensures.items)
    ∙ new_unless book.ranking (state_in book c.args.state.now) c.args.norm.now.terms _ (sym (c.leader_of.ensures book.ranking c.requires.norm) ∙ c.in-Some.is)
    (sym (ap (λ ps. is_member (symbols_under book.ranking) c.args.norm.now.terms (without_place 0 (polynomials book ps))) c.equations.ensures.items) ∙ sym c.is_among.ensures ∙ c.if-is_among.false)
