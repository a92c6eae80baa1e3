use Rattle.std.proofs.Common.{Ok}
use Rattle.dz_monomials.specs.Ranked.{symbols_under}
use Rattle.dz_form.proofs.PolynomialTexts.{refusal_read, text_gives, text_refused, value_read}
use Rattle.dz_form.proofs.polynomials.read_poly.Goals as goal

pub returns-in_err-item-clause-exact : goal.returns-in_err-item-clause-exact
returns-in_err-item-clause-exact c =
    text_refused c.args.book.now (symbols_under c.args.book.now.ranking) c.args.names.now c.args.bytes.now c.in_err-item.field-0.0 c.from_residual.result c.from_residual.ensures.1 c.in_err-item.ensures.exact

pub returns-in_err-item-clause-canonical : goal.returns-in_err-item-clause-canonical
returns-in_err-item-clause-canonical c =
    text_gives c.args.names.now c.args.book.now.ranking c.opened.ensures c.requires c.args.book.now c.from_residual.result c.args.bytes.now
    (text_refused c.args.book.now (symbols_under c.args.book.now.ranking) c.args.names.now c.args.bytes.now c.in_err-item.field-0.0 c.from_residual.result c.from_residual.ensures.1 c.in_err-item.ensures.exact)

pub returns-in_err-poly-clause-exact : goal.returns-in_err-poly-clause-exact
returns-in_err-poly-clause-exact c =
    let r = c.from_residual-in_err-poly in
    refusal_read c.expand.new.book (symbols_under c.args.book.now.ranking) c.args.names.now c.args.bytes.now c.in_ok-item.item c.in_err-poly.field-0.0 r.result r.ensures.1 c.in_ok-item.ensures.exact c.in_err-poly.ensures.why

pub returns-in_err-poly-clause-canonical : goal.returns-in_err-poly-clause-canonical
returns-in_err-poly-clause-canonical c =
    let r = c.from_residual-in_err-poly in
    text_gives c.args.names.now c.args.book.now.ranking c.opened.ensures c.requires c.expand.new.book r.result c.args.bytes.now
    (refusal_read c.expand.new.book (symbols_under c.args.book.now.ranking) c.args.names.now c.args.bytes.now c.in_ok-item.item c.in_err-poly.field-0.0 r.result r.ensures.1 c.in_ok-item.ensures.exact c.in_err-poly.ensures.why)

pub returns-clause-exact : goal.returns-clause-exact
returns-clause-exact c =
    value_read c.expand.new.book (symbols_under c.args.book.now.ranking) c.args.names.now c.args.bytes.now c.in_ok-item.item c.in_ok-poly.poly c.in_ok-item.ensures.exact c.in_ok-poly.ensures.value

pub returns-clause-canonical : goal.returns-clause-canonical
returns-clause-canonical c =
    text_gives c.args.names.now c.args.book.now.ranking c.opened.ensures c.requires c.expand.new.book (Ok c.in_ok-poly.poly) c.args.bytes.now
    (value_read c.expand.new.book (symbols_under c.args.book.now.ranking) c.args.names.now c.args.bytes.now c.in_ok-item.item c.in_ok-poly.poly c.in_ok-item.ensures.exact c.in_ok-poly.ensures.value)
