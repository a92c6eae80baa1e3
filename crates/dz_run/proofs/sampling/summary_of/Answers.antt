use Rattle.std.proofs.Common.{◌≡◌, ◌∙◌, sym, ap, List, length, map}
use Rattle.std.proofs.lemmas.List.{length-map}
use Rattle.dz_diff.specs.States.{StateValue, state_in}
use Rattle.dz_poly.specs.Books.{polynomial}
use Rattle.dz_move.specs.Systems.{system_in}
use Rattle.dz_run.specs.Decomposed.{tree_chains}
use Rattle.dz_run.specs.Sampled.{is_accepted, member_count}
use Rattle.dz_run.proofs.SampledTrees.{lines_derive, summary_is}
use Rattle.dz_run.proofs.sampling.summary_of.Goals as goal

pub check_with_chains-requires-clause-operators : goal.check_with_chains-requires-clause-operators
check_with_chains-requires-clause-operators c = lines_derive c.args.book.now.ranking.signature c.args.tree.now.lines c.requires.belong

pub returns : goal.returns
returns c =
    let book = c.args.book.now in
    let left = c.check_with_chains.new.book in
    let tree = c.args.tree.now in
    let chains = c.in_ok-checked.checked.chains.items in
    let states : map (λ s. state_in left s) chains ≡ tree_chains book.ranking (system_in book c.args.system.now) tree = c.in_ok-checked.ensures.chains in
    summary_is book.ranking c.args.seed c.args.size (system_in book c.args.system.now) tree (length c.equations.result.now) c.len.result c.member_count.result c.is_accepted.result
    (ap length c.equations.ensures ∙ sym (length-map c.args.system.now.equations (λ p. polynomial book p)))
    (c.len.ensures ∙ sym c.deref.ensures.len ∙ ap length c.deref.ensures.value ∙ sym (length-map chains (λ s. state_in left s)) ∙ ap length states)
    (c.member_count.ensures left ∙ ap (λ (xs : List StateValue). member_count (map (λ s. state_in left s) xs)) c.deref.ensures.value ∙ ap member_count states)
    (c.is_accepted.ensures ∙ ap is_accepted c.in_ok-checked.ensures.verdict)
