use Rattle.std.proofs.Common.{◌∙◌, ap}
use Rattle.dz_monomials.specs.Ranked.{symbols_under}
use Rattle.dz_diff.specs.Tests.{same}
use Rattle.dz_engine.proofs.Findings.{same_tested}
use Rattle.dz_engine.proofs.factoring.is_symbol.Goals as goal

pub returns : goal.returns
returns c =
    same_tested c.args.book.now.ranking c.args.entry.now.terms c.in_ok-symbol.symbol.terms c.same_entries.result c.same_entries.ensures
    ∙ ap (same (symbols_under c.args.book.now.ranking) c.args.entry.now.terms) c.in_ok-symbol.ensures.terms
