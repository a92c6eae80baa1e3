use Rattle.std.proofs.Common.{◌≡◌, false, sym, ◌∙◌, refl}
use Rattle.std.proofs.lemmas.List.{map-append}
use Rattle.std.specs.Str.{bytes_eq}
use Rattle.std.specs.List.{list_any}
use Rattle.dz_syntax.proofs.AnyMap.{any_map}
use Rattle.dz_syntax.proofs.names.put_name.Goals as goal

pub returns-clause-ok : goal.returns-clause-ok
returns-clause-ok c =
    let no : list_any (λ n. bytes_eq c.in_ok-name.name.items n.items) c.args.set.now.keys ≡ false =
    rw c.in_ok-name.ensures.items (sym (any_map (λ n. n.items) (λ n. bytes_eq c.args.name.now n) c.args.set.now.keys) ∙ c.requires) in
    rw (c.in-Ok.ensures.keys, no, map-append, c.in_ok-name.ensures.items) refl
