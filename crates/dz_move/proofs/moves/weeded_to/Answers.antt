use Rattle.std.proofs.Common.{◌≡◌, ◌+◌, ◌∙◌, ℕ, List, length, ap, arith, subst}
use Rattle.dz_diff.specs.Operations.{setting_of}
use Rattle.dz_diff.specs.States.{MeanAll, polynomials, state_in}
use Rattle.dz_monomials.specs.Ranked.{symbols_under}
use Rattle.dz_step.specs.declared.Role.TheVariants.{Inequation}
use Rattle.dz_step.specs.Replays.{IsRunEnd}
use Rattle.dz_move.specs.declared.roots.Members.TheVariants.{Inequations}
use Rattle.dz_move.specs.Actions.{IsActionStop, IsDrafted, draft_in}
use Rattle.dz_move.specs.Members.{put_at}
use Rattle.dz_move.specs.Moves.{moved, weeded}
use Rattle.dz_move.specs.Parts.{placed_run}
use Rattle.dz_move.proofs.Acting.{weeded_moves, placed_there}
use Rattle.dz_move.proofs.MemberLists.{if_err, if_ok}
use Rattle.dz_move.proofs.moves.weeded_to.Goals as goal

pub put-requires-clause-counts : goal.put-requires-clause-counts
put-requires-clause-counts c = (placed_there c.args.book.now (state_in c.args.book.now c.args.state.now) (Inequation c.args.place) c.args.place c.args.state.now.inequations c.args.run.now c.args.ran c.requires.ran).0

pub put-requires-clause-inside : goal.put-requires-clause-inside
put-requires-clause-inside c =
    let l = (placed_there c.args.book.now (state_in c.args.book.now c.args.state.now) (Inequation c.args.place) c.args.place c.args.state.now.inequations c.args.run.now c.args.ran c.requires.ran).1 in
    omega (arith, l, ap length c.inequations.ensures.items)

-- the run, and the move that it makes
the_run : (c : goal.After-moved) → IsRunEnd c.args.ran (placed_run (setting_of c.args.book.now.ranking) (state_in c.args.book.now c.args.state.now) (Inequation c.args.place) c.args.place (polynomials c.args.book.now c.args.state.now.inequations) c.args.run.now)
the_run c = c.requires.ran

the_move : (c : goal.After-moved) → moved (setting_of c.put.new.book.ranking) (state_in c.put.new.book c.args.state.now) c.len.result (draft_in c.put.new.book (record { equations = c.in_ok-equations.equations; inequations = c.in_ok-inequations.inequations; splits = c.splits.result })) (1 + (the_run c).count) ≡ weeded (setting_of c.args.book.now.ranking) (state_in c.args.book.now c.args.state.now) c.args.place c.args.run.now
the_move c =
    weeded_moves c.args.book.now c.put.new.book c.in_ok-inequations.ensures.kept c.args.state.now c.requires.stands c.args.place c.args.run.now c.args.ran c.in_ok-equations.equations.items c.in_ok-inequations.inequations.items c.splits.result c.len.result c.splits.ensures c.len.ensures (the_run c)
    (subst (λ (ps : List ℕ). MeanAll c.put.new.book c.in_ok-inequations.inequations.items (put_at (symbols_under c.args.book.now.ranking) Inequations c.args.place c.args.ran.end.terms (polynomials c.args.book.now ps))) c.inequations.ensures.items c.in_ok-inequations.ensures.put)
    (c.in_ok-equations.ensures ∙ c.equations.ensures.items)

pub returns-clause-ok : goal.returns-clause-ok
returns-clause-ok c =
    if_ok _ _ c.moved.result (λ x f. subst (IsDrafted c.put.new.book x) (the_move c) (f (the_run c).count (the_run c).counted)) c.moved.ensures.ok

pub returns-clause-refused : goal.returns-clause-refused
returns-clause-refused c =
    if_err _ _ c.moved.result (λ x f. subst (IsActionStop x) (the_move c) (f (the_run c).count)) c.moved.ensures.refused
