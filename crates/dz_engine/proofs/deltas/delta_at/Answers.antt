use Rattle.std.proofs.Common.{◌≡◌, ◌∙◌, ap, arith, rules}
use Rattle.std.specs.Prelude.{slice_index_or}
use Rattle.std.proofs.lemmas.Grind.{common_steps}
use Rattle.dz_engine.proofs.RenewedFacts.{known_set, names_stay}
use Rattle.dz_engine.proofs.deltas.delta_at.Goals as goal

pub returns-clause-known : goal.returns-clause-known
returns-clause-known c = known_set c.args.book.now c.args.k c.args.facts.now.items c.delta_of.new.facts c.delta_of.ensures.known c.requires.known

pub returns-clause-names : goal.returns-clause-names
returns-clause-names c =
    let here : c.index_mut.result.now ≡ slice_index_or c.args.facts.now.items c.args.k c.index_mut.result.now = first_of (search rules, grind (arith, common_steps)) in
    names_stay c.args.k c.args.facts.now.items c.delta_of.new.facts c.index_mut.result.now c.requires.inside (c.delta_of.ensures.name ∙ ap (λ f. f.poly) here)
