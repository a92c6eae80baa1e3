use Rattle.std.proofs.Common.{◌-◌, ◌∙◌, ap}
use Rattle.std.specs.List.{remove}
use Rattle.dz_move.proofs.MemberLists.{remove_is}
use Rattle.dz_move.proofs.lists.without_place.Goals as goal

pub returns : goal.returns
returns c = c.remove.ensures.items ∙ ap (λ ps. remove ps (c.args.place - 1)) c.in_ok-all.ensures ∙ remove_is c.args.polys.now c.args.place c.requires.counts
