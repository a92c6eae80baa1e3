use Rattle.dz_ask.specs.Attempts.{power_in, term_in}
use Rattle.std.proofs.Common.{◌++◌, List, map, ap, ◌∙◌}
use Rattle.dz_ask.specs.declared.preparing.Power.{Power}
use Rattle.dz_cert.specs.LineTexts.{behind_blanks}
use Rattle.dz_report.specs.Preparations.{product_words}
use Rattle.dz_report.proofs.PreparedReports.{term_written}
use Rattle.dz_report.proofs.preparing.push_term.Goals as goal

pub returns : goal.returns
returns c =
    term_written c.args.names.now (term_in c.args.book.now c.args.term.now) c.args.into.now.items c.extend_from_slice.new.self.items c.push_product.new.into.items c.extend_from_slice-2.new.self.items c.write_poly.new.into.items c.extend_from_slice-3.new.self.items
    c.in_ok-extend_from_slice.ensures.items
    (c.in_ok-push_product.ensures ∙ ap (λ (ps : List Power). c.extend_from_slice.new.self.items ++ behind_blanks (product_words c.args.names.now (map power_in ps))) c.deref.ensures.value)
    c.in_ok-extend_from_slice-2.ensures.items c.in_ok-write_poly.ensures.written c.in_ok-extend_from_slice-3.ensures.items
