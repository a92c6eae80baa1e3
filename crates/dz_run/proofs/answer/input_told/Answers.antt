use Rattle.std.proofs.Common.{List, subst, sym}
use Rattle.std.specs.Prelude.{IfErr}
use Rattle.dz_rank.specs.declared.rankings.Block.{Block}
use Rattle.dz_rank.specs.Rankings.{IsFaultOf, IsRanking, ranking_value}
use Rattle.dz_run.proofs.Rankings.{never_missing, never_twice}
use Rattle.dz_run.proofs.answer.input_told.Goals as goal

pub unreachable-requires : goal.unreachable-requires
unreachable-requires c =
    let fault = subst (λ r. IfErr r (λ e. IsFaultOf (ranking_value c.in-Ok.tree.signature c.deref.result.now) e)) c.in-Err-Twice.is c.new.ensures.fault in
    never_twice (ranking_value c.in-Ok.tree.signature c.deref.result.now) _ (subst (λ (bs : List Block). IsRanking (ranking_value c.in-Ok.tree.signature bs)) (sym c.deref.ensures.value) c.in-Ok.ensures.ranking) (subst (IsFaultOf (ranking_value c.in-Ok.tree.signature c.deref.result.now)) c.in-Err-Twice.field-0-is fault)

pub unreachable-requires-in-Err-Missing : goal.unreachable-requires-in-Err-Missing
unreachable-requires-in-Err-Missing c =
    let fault = subst (λ r. IfErr r (λ e. IsFaultOf (ranking_value c.in-Ok.tree.signature c.deref.result.now) e)) c.in-Err-Missing.is c.new.ensures.fault in
    never_missing (ranking_value c.in-Ok.tree.signature c.deref.result.now) _ (subst (λ (bs : List Block). IsRanking (ranking_value c.in-Ok.tree.signature bs)) (sym c.deref.ensures.value) c.in-Ok.ensures.ranking) (subst (IsFaultOf (ranking_value c.in-Ok.tree.signature c.deref.result.now)) c.in-Err-Missing.field-0-is fault)
