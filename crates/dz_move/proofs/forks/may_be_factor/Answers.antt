use Rattle.std.proofs.Common.{◌≡◌, ◌∙◌, ℕ, List, not, ap, ap₂, sym}
use Rattle.dz_algebra.specs.Polynomial.{symbol_polynomial}
use Rattle.dz_poly.specs.Books.{polynomial}
use Rattle.dz_monomials.specs.Ranked.{symbols_under}
use Rattle.dz_diff.specs.States.{polynomials, state_in}
use Rattle.dz_diff.specs.Tests.{is_member, same}
use Rattle.dz_rank.specs.Symbols.{is_derivative}
use Rattle.dz_move.proofs.SameLists.{told_same}
use Rattle.dz_move.proofs.Outcomes.{factor_unless, itself_no_factor}
use Rattle.dz_move.proofs.forks.may_be_factor.Goals as goal

pub returns-then-same_entries : goal.returns-then-same_entries
returns-then-same_entries c =
    let book = c.args.book.now in
    let g = symbols_under book.ranking in
    let p = c.entry.result.now.terms in
    let q = c.in_ok-symbol.symbol.terms in
    let is : c.same_entries.result ≡ same g p q = told_same book.ranking p q c.same_entries.result c.same_entries.ensures in
    itself_no_factor g (state_in book c.args.state.now) (polynomial book c.args.p) c.args.v
    (sym (ap₂ (same g) c.entry.ensures.value c.in_ok-symbol.ensures.terms) ∙ sym is ∙ c.if-same_entries.true)

pub returns : goal.returns
returns c =
    let book = c.args.book.now in
    let g = symbols_under book.ranking in
    let p = c.entry.result.now.terms in
    let q = c.in_ok-symbol.symbol.terms in
    let is : c.same_entries.result ≡ same g p q = told_same book.ranking p q c.same_entries.result c.same_entries.ensures in
    ap not (c.in_ok-stands.ensures ∙ ap (λ (ps : List ℕ). is_member g (symbol_polynomial c.args.v) (polynomials book ps)) c.inequations.ensures.items)
    ∙ factor_unless g (state_in book c.args.state.now) (polynomial book c.args.p) c.args.v (ap is_derivative c.in-Derivative.is)
    (sym (ap₂ (same g) c.entry.ensures.value c.in_ok-symbol.ensures.terms) ∙ sym is ∙ c.if-same_entries.false)
