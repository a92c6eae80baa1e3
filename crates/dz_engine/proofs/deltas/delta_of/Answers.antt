use Rattle.std.proofs.Common.{rules, arith, subst, sym, [], ◌∷◌}
use Rattle.std.proofs.lemmas.Grind.{common_steps}
use Rattle.std.proofs.lemmas.List.Elements.{All-append, All-cons, All-nil}
use Rattle.std.specs.Prelude.{All}
use Rattle.dz_engine.specs.Facts.{IsDelta}
use Rattle.dz_engine.specs.declared.facts.Delta.{Delta}
use Rattle.dz_engine.proofs.deltas.delta_of.Goals as goal

pub returns-clause-known : goal.returns-clause-known
returns-clause-known c =
    let book = c.args.book.now in
    let poly = c.args.facts.now.poly in
    let known = c.requires.known in
    let made : Delta = record { other = c.args.other; entry = c.in_ok-entry.entry } in
    let one : IsDelta book poly made = record {
      lives = c.requires.lives;
      is = first_of (search rules, grind (arith, common_steps));
      entry = first_of (search rules, grind (arith, common_steps));
    } in
    record {
      lives = known.lives;
      facts = record { initial_is = known.facts.initial_is; separant_is = known.facts.separant_is; undivided_is = known.facts.undivided_is };
      deltas = subst (λ ds. All (IsDelta book poly) ds) (sym c.in_ok-push.ensures.items) (All-append (IsDelta book poly) c.args.facts.now.deltas.items (made ∷ []) known.deltas (All-cons (IsDelta book poly) made [] one (All-nil (IsDelta book poly))));
    }
