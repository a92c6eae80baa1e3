use Rattle.std.proofs.Common.{◌≡◌, ◌∙◌, sym}
use Rattle.dz_diff.specs.State.{replaced, without_place}
use Rattle.dz_move.proofs.MemberLists.{if_ok, left_out_goes, member_goes, norm_comes}
use Rattle.dz_move.proofs.lists.put.Goals as goal

pub returns-then-is_left_out-clause-put : goal.returns-then-is_left_out-clause-put
returns-then-is_left_out-clause-put c =
    let book = c.args.book.now in
    if_ok (λ all. all.items ≡ without_place c.args.place c.args.polys.now) _ c.without_place.result
    (λ all e. left_out_goes book c.args.members c.args.place c.args.norm.terms c.args.polys.now c.requires.live (sym (c.is_left_out.ensures book.ranking c.requires.norm) ∙ c.if-is_left_out.true) all.items e) c.without_place.ensures

pub returns-then-is_among-clause-put : goal.returns-then-is_among-clause-put
returns-then-is_among-clause-put c =
    let book = c.args.book.now in
    if_ok (λ all. all.items ≡ without_place c.args.place c.args.polys.now) _ c.without_place-then-is_among.result
    (λ all e. member_goes book c.args.members c.args.place c.args.norm.terms c.args.polys.now c.requires.live (sym (c.is_left_out.ensures book.ranking c.requires.norm) ∙ c.if-is_left_out.false)
    (sym c.is_among.ensures ∙ c.if-is_among.true) all.items e) c.without_place-then-is_among.ensures

pub returns-clause-put : goal.returns-clause-put
returns-clause-put c =
    let book = c.args.book.now in
    if_ok (λ all. all.items ≡ replaced c.args.place c.in_ok-p.p c.args.polys.now) _ c.replaced.result
    (λ all e. norm_comes book c.args.members c.args.place c.args.norm.terms c.args.polys.now c.requires.live (sym (c.is_left_out.ensures book.ranking c.requires.norm) ∙ c.if-is_left_out.false)
    (sym c.is_among.ensures ∙ c.if-is_among.false)
    c.keep.new.self c.in_ok-p.p c.in_ok-p.ensures.kept c.in_ok-p.ensures.ok all.items e) c.replaced.ensures
