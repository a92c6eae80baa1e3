use Rattle.std.proofs.Common.{sym, subst, ◌∙◌, List, ℕ}
use Rattle.dz_syntax.specs.Names.{IsName}
use Rattle.dz_syntax.proofs.NameTokens.{bytes_of_is_name}
use Rattle.dz_syntax.proofs.declaration.new_name.Goals as goal

pub returns-else-is_known-clause-name : goal.returns-else-is_known-clause-name
returns-else-is_known-clause-name c =
    subst (λ (name : List ℕ). IsName name) (sym c.bytes_of-name.ensures) (bytes_of_is_name c.args.text.now (sym c.next.ensures.front ∙ c.in-Name-default.is-0))
