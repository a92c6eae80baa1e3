use Rattle.std.proofs.Common.{sym, ◌∙◌}
use Rattle.dz_syntax.proofs.AnyMap.{any_map}
use Rattle.dz_syntax.proofs.names.has_name.Goals as goal

pub returns : goal.returns
returns c = c.contains.ensures ∙ sym (any_map _ _ c.args.set.now.keys)
