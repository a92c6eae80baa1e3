use Rattle.std.proofs.Common.{◌-◌, ◌∙◌, ap}
use Rattle.std.specs.Prelude.{slice_set}
use Rattle.dz_move.proofs.MemberLists.{set_is}
use Rattle.dz_move.proofs.lists.replaced.Goals as goal

pub returns : goal.returns
returns c = ap (λ ps. slice_set ps (c.args.place - 1) c.args.p) c.in_ok-all.ensures ∙ set_is c.args.polys.now c.args.place c.args.p c.requires.counts
