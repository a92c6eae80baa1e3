use Rattle.std.proofs.Common.{◌∙◌, map, sym, ap}
use Rattle.dz_monomials.specs.Ranked.{symbols_under}
use Rattle.dz_diff.specs.Operations.{setting_of}
use Rattle.dz_diff.specs.States.{polynomials, state_in}
use Rattle.dz_tree.specs.Chain.{has_leaders, is_autoreduced, same_pairs}
use Rattle.dz_tree.specs.EvidenceLines.{evidence_of}
use Rattle.dz_move.specs.TreeLines.{line_of}
use Rattle.dz_tree.proofs.ChainRules.{autoreduced_fails, inequation_fails, leader_fails, multiplier_fails, none_fails, pairs_fail}
use Rattle.dz_tree.proofs.chain_conditions.chain_conditions.Goals as goal

pub returns-then-not-has_leaders : goal.returns-then-not-has_leaders
returns-then-not-has_leaders c =
    let book = c.args.book.now in
    let led = ap (λ ps. has_leaders (symbols_under book.ranking) (polynomials book ps)) (sym c.equations.ensures.items) ∙ sym c.has_leaders.ensures ∙ c.if-not-has_leaders.true in
    leader_fails (setting_of book.ranking) (state_in book c.args.state.now) (evidence_of (map line_of c.args.evidence.now)) led

pub returns-then-not-is_autoreduced : goal.returns-then-not-is_autoreduced
returns-then-not-is_autoreduced c =
    let book = c.args.book.now in
    let led = ap (λ ps. has_leaders (symbols_under book.ranking) (polynomials book ps)) (sym c.equations.ensures.items) ∙ sym c.has_leaders.ensures ∙ c.if-not-has_leaders.false in
    let reduced = ap (λ ps. is_autoreduced (symbols_under book.ranking) (polynomials book ps)) (sym c.equations-2.ensures.items) ∙ sym c.is_autoreduced.ensures ∙ c.if-not-is_autoreduced.true in
    autoreduced_fails (setting_of book.ranking) (state_in book c.args.state.now) (evidence_of (map line_of c.args.evidence.now)) led reduced

pub returns-in-Some : goal.returns-in-Some
returns-in-Some c =
    let book = c.args.book.now in
    let led = ap (λ ps. has_leaders (symbols_under book.ranking) (polynomials book ps)) (sym c.equations.ensures.items) ∙ sym c.has_leaders.ensures ∙ c.if-not-has_leaders.false in
    let reduced = ap (λ ps. is_autoreduced (symbols_under book.ranking) (polynomials book ps)) (sym c.equations-2.ensures.items) ∙ sym c.is_autoreduced.ensures ∙ c.if-not-is_autoreduced.false in
    multiplier_fails (setting_of book.ranking) (state_in book c.args.state.now) (evidence_of (map line_of c.args.evidence.now)) led reduced c.in-Some.rule (sym c.in-Some.is ∙ c.in_ok-rule.ensures)

pub returns-then-not-are_reduced : goal.returns-then-not-are_reduced
returns-then-not-are_reduced c =
    let book = c.args.book.now in
    let led = ap (λ ps. has_leaders (symbols_under book.ranking) (polynomials book ps)) (sym c.equations.ensures.items) ∙ sym c.has_leaders.ensures ∙ c.if-not-has_leaders.false in
    let reduced = ap (λ ps. is_autoreduced (symbols_under book.ranking) (polynomials book ps)) (sym c.equations-2.ensures.items) ∙ sym c.is_autoreduced.ensures ∙ c.if-not-is_autoreduced.false in
    inequation_fails (setting_of book.ranking) (state_in book c.args.state.now) (evidence_of (map line_of c.args.evidence.now)) led reduced (sym c.in_default.is ∙ c.in_ok-rule.ensures) (sym c.are_reduced.ensures ∙ c.if-not-are_reduced.true)

pub returns-then-not-same_pairs : goal.returns-then-not-same_pairs
returns-then-not-same_pairs c =
    let book = c.args.book.now in
    let led = ap (λ ps. has_leaders (symbols_under book.ranking) (polynomials book ps)) (sym c.equations.ensures.items) ∙ sym c.has_leaders.ensures ∙ c.if-not-has_leaders.false in
    let reduced = ap (λ ps. is_autoreduced (symbols_under book.ranking) (polynomials book ps)) (sym c.equations-2.ensures.items) ∙ sym c.is_autoreduced.ensures ∙ c.if-not-is_autoreduced.false in
    let es = evidence_of (map line_of c.args.evidence.now) in
    pairs_fail (setting_of book.ranking) (state_in book c.args.state.now) es led reduced (sym c.in_default.is ∙ c.in_ok-rule.ensures) (sym c.are_reduced.ensures ∙ c.if-not-are_reduced.false)
    (ap (same_pairs es) (sym (c.as_slice.ensures.value ∙ c.in_ok-pairs.ensures)) ∙ sym c.same_pairs.ensures ∙ c.if-not-same_pairs.true)

pub returns : goal.returns
returns c =
    let book = c.args.book.now in
    let led = ap (λ ps. has_leaders (symbols_under book.ranking) (polynomials book ps)) (sym c.equations.ensures.items) ∙ sym c.has_leaders.ensures ∙ c.if-not-has_leaders.false in
    let reduced = ap (λ ps. is_autoreduced (symbols_under book.ranking) (polynomials book ps)) (sym c.equations-2.ensures.items) ∙ sym c.is_autoreduced.ensures ∙ c.if-not-is_autoreduced.false in
    let es = evidence_of (map line_of c.args.evidence.now) in
    none_fails (setting_of book.ranking) (state_in book c.args.state.now) es led reduced (sym c.in_default.is ∙ c.in_ok-rule.ensures) (sym c.are_reduced.ensures ∙ c.if-not-are_reduced.false)
    (ap (same_pairs es) (sym (c.as_slice.ensures.value ∙ c.in_ok-pairs.ensures)) ∙ sym c.same_pairs.ensures ∙ c.if-not-same_pairs.false)
