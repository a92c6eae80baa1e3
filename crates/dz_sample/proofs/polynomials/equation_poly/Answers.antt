use Rattle.std.proofs.Common.{◌≡◌, subst}
use Rattle.std.specs.Prelude.{IfErr}
use Rattle.std.specs.Ordering.{ordering_reverse}
use Rattle.std.specs.declared.cmp.Ordering.TheVariants.{Less}
use Rattle.dz_rank.specs.Rankings.{ranking_cmp}
use Rattle.dz_rank.specs.Symbols.{derivative_by}
use Rattle.dz_sample.specs.Equations.{dependent_of, derivative_of}
use Rattle.dz_poly.proofs.Books.{kept_trans}
use Rattle.dz_poly.proofs.Makings.{makes_gives, makes_kept, makes_refused}
use Rattle.dz_monomials.specs.declared.PolyStop.TheVariants.{Memory}
use Rattle.dz_sample.proofs.Made.{above, difference_is, err_up, given, kept_by, only_memory, product_is}
use Rattle.dz_sample.proofs.polynomials.equation_poly.Goals as goal

pub returns-in_err-multiple-clause-memory : goal.returns-in_err-multiple-clause-memory
returns-in_err-multiple-clause-memory c =
    let product = product_is c.args.book.now c.symbol_poly.new.book c.symbol_poly-2.new.book c.constant.new.book c.in_ok-leader.leader c.in_ok-symbol.symbol c.in_ok-factor.factor c.args.equation c.requires
    c.in_ok-leader.ensures.kept c.in_ok-symbol.ensures.kept c.in_ok-factor.ensures.kept c.in_ok-leader.ensures.value c.in_ok-symbol.ensures.value c.in_ok-factor.ensures.value in
    let memory = only_memory c.mul.new.book c.mul.result _ _ product (makes_gives _ _ _ _ c.mul.ensures) in
    err_up c.from_residual-in_err-multiple.result c.in_err-multiple.field-0.0 c.from_residual-in_err-multiple.ensures.1
    (subst (λ r. IfErr r (λ e. e ≡ Memory)) c.in_err-multiple.was memory)

pub returns-clause-value : goal.returns-clause-value
returns-clause-value c =
    let grows = subst (λ r. ranking_cmp r (dependent_of c.args.equation) (derivative_by c.args.equation.operator (dependent_of c.args.equation)) ≡ Less) c.ranking.ensures c.raising_grows.ensures in
    let total = subst (λ r. ranking_cmp r (derivative_of c.args.equation) (dependent_of c.args.equation) ≡ ordering_reverse (ranking_cmp r (dependent_of c.args.equation) (derivative_of c.args.equation))) c.ranking-2.ensures c.order_is_total.ensures.total in
    given c.sub.new.book c.sub.result _ _
    (difference_is c.args.book.now c.symbol_poly.new.book c.symbol_poly-2.new.book c.constant.new.book c.in_ok-leader.leader c.in_ok-symbol.symbol c.in_ok-factor.factor c.args.equation c.requires
    c.in_ok-leader.ensures.kept c.in_ok-symbol.ensures.kept c.in_ok-factor.ensures.kept c.in_ok-leader.ensures.value c.in_ok-symbol.ensures.value c.in_ok-factor.ensures.value
    c.mul.new.book c.in_ok-multiple.multiple c.in_ok-multiple.ensures.kept c.in_ok-multiple.ensures.value (above c.args.book.now.ranking c.args.equation c.requires grows total))
    (makes_gives _ _ _ _ c.sub.ensures)

pub returns-clause-memory : goal.returns-clause-memory
returns-clause-memory c =
    let grows = subst (λ r. ranking_cmp r (dependent_of c.args.equation) (derivative_by c.args.equation.operator (dependent_of c.args.equation)) ≡ Less) c.ranking.ensures c.raising_grows.ensures in
    let total = subst (λ r. ranking_cmp r (derivative_of c.args.equation) (dependent_of c.args.equation) ≡ ordering_reverse (ranking_cmp r (dependent_of c.args.equation) (derivative_of c.args.equation))) c.ranking-2.ensures c.order_is_total.ensures.total in
    only_memory c.sub.new.book c.sub.result _ _
    (difference_is c.args.book.now c.symbol_poly.new.book c.symbol_poly-2.new.book c.constant.new.book c.in_ok-leader.leader c.in_ok-symbol.symbol c.in_ok-factor.factor c.args.equation c.requires
    c.in_ok-leader.ensures.kept c.in_ok-symbol.ensures.kept c.in_ok-factor.ensures.kept c.in_ok-leader.ensures.value c.in_ok-symbol.ensures.value c.in_ok-factor.ensures.value
    c.mul.new.book c.in_ok-multiple.multiple c.in_ok-multiple.ensures.kept c.in_ok-multiple.ensures.value (above c.args.book.now.ranking c.args.equation c.requires grows total))
    (makes_gives _ _ _ _ c.sub.ensures)

pub returns-clause-kept : goal.returns-clause-kept
returns-clause-kept c =
    let one = kept_trans _ _ _ c.in_ok-leader.ensures.kept c.in_ok-symbol.ensures.kept in
    let two = kept_trans _ _ _ one c.in_ok-factor.ensures.kept in
    let three = kept_trans _ _ _ two c.in_ok-multiple.ensures.kept in
    kept_trans c.args.book.now c.mul.new.book c.sub.new.book three (kept_by c.mul.new.book c.sub.new.book c.sub.result (makes_kept _ _ _ _ c.sub.ensures) (makes_refused _ _ _ _ c.sub.ensures))
