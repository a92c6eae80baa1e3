use Rattle.std.proofs.Common.{◌≡◌, ◌∙◌, ap}
use Rattle.dz_poly.specs.Books.{BookValue}
use Rattle.dz_sample.specs.Ranking.{sample_ranking}
use Rattle.dz_run.specs.Decomposed.{lines_ending}
use Rattle.dz_run.proofs.SampledTrees.{sampled_is}
use Rattle.dz_run.proofs.sampling.sampled.Goals as goal

pub returns : goal.returns
returns c =
    let ranking : c.sample_system.new.book.ranking ≡ sample_ranking = c.in_ok-system.ensures.kept.ranking ∙ ap (λ (b : BookValue). b.ranking) c.new-book.ensures ∙ c.in_ok-sample_ranking.ensures in
    c.printed.ensures ∙ sampled_is c.sample_system.new.book c.decompose.new.book c.in_ok-tree.ensures.book c.args.seed c.args.size ranking c.opened.ensures c.in_ok-system.system c.in_ok-system.ensures.system c.in_ok-system.ensures.value
    c.in_ok-tree.tree c.in_ok-tree.ensures.worked c.in_ok-tree.ensures.budget c.in_ok-summary.summary c.in_ok-summary.ensures c.in_ok-text.text.items c.in_ok-text.ensures c.lines_ending.result (c.lines_ending.ensures ∙ ap lines_ending c.lines.ensures)
