use Rattle.std.proofs.Common.{◌≡◌, ◌≤◌, Option, ◌+◌, ◌∙◌, [], ◌∷◌, ℕ, List, true, length, ap, sym, subst, arith}
use Rattle.std.specs.Prelude.{IfSome, is_some}
use Rattle.dz_poly.specs.Books.{polynomial}
use Rattle.dz_monomials.specs.Ranked.{symbols_under}
use Rattle.dz_diff.specs.Operations.{setting_of}
use Rattle.dz_diff.specs.State.{State}
use Rattle.dz_terms.specs.Entries.{EntryValue}
use Rattle.dz_diff.specs.States.{MeanAll, polynomials, state_in}
use Rattle.dz_algebra.specs.Polynomial.{symbol_polynomial}
use Rattle.dz_rank.specs.Rankings.{ranking_cmp}
use Rattle.dz_diff.specs.State.{put_equation}
use Rattle.dz_diff.specs.Tests.{is_member}
use Rattle.dz_monomials.specs.PowerDivision.{is_divided, quotient_by}
use Rattle.dz_move.specs.declared.Rule.TheVariants as rules
use Rattle.dz_move.specs.declared.roots.Members.TheVariants.{Equations}
use Rattle.dz_move.specs.Members.{put_at}
use Rattle.dz_move.specs.Moves.{settled}
use Rattle.dz_move.proofs.Outcomes.{broken_stop, counts_at, divided_by_symbol, divided_nowhere, divided_no_divisor, divided_no_member, living_at, names_are, names_live, nothing_at, polynomial_at, state_is}
use Rattle.dz_move.proofs.moves.divided.Goals as goal

pub returns-in_default-clause-refused : goal.returns-in_default-clause-refused
returns-in_default-clause-refused c =
    let book = c.args.book.now in
    broken_stop _ 0 rules.Place _ c.broken.ensures (divided_nowhere (setting_of book.ranking) (state_in book c.args.state.now) c.args.place c.args.v (nothing_at book c.args.state.now.equations _ c.args.place _ c.equations.ensures.items c.member_at.ensures c.in_default.is))

pub returns-then-not-branch-clause-refused : goal.returns-then-not-branch-clause-refused
returns-then-not-branch-clause-refused c =
    let book = c.args.book.now in
    let there = polynomial_at book c.args.state.now.equations _ c.args.place _ c.equations.ensures.items c.member_at.ensures c.in-Some.p c.in-Some.is in
    broken_stop _ 0 rules.Symbol _ c.broken-then-not-branch.ensures (divided_no_member (setting_of book.ranking) (state_in book c.args.state.now) c.args.place c.args.v _ there
    (ap (λ (ps : List ℕ). is_member (symbols_under book.ranking) (symbol_polynomial c.args.v) (polynomials book ps)) (sym c.inequations.ensures.items) ∙ sym c.in_ok-has_symbol.ensures ∙ c.if-not-branch.true))

pub entry-requires : goal.entry-requires
entry-requires c = living_at c.args.book.now c.args.state.now.equations _ c.args.place _ c.equations.ensures.items c.member_at.ensures c.in-Some.p c.requires.equations_live c.in-Some.is

pub returns-in_default-divided-clause-refused : goal.returns-in_default-divided-clause-refused
returns-in_default-divided-clause-refused c =
    let book = c.args.book.now in
    let there = polynomial_at book c.args.state.now.equations _ c.args.place _ c.equations.ensures.items c.member_at.ensures c.in-Some.p c.in-Some.is in
    broken_stop _ 0 rules.Symbol _ c.broken-in_default-divided.ensures (divided_no_divisor (setting_of book.ranking) (state_in book c.args.state.now) c.args.place c.args.v _ there
    (ap (is_divided (ranking_cmp book.ranking) c.args.v) (sym c.entry.ensures.value) ∙ ap (λ r. is_divided (ranking_cmp r) c.args.v c.entry.result.now.terms) (sym c.ranking.ensures) ∙ sym c.in_ok-divided.ensures.divided ∙ ap is_some c.in_default-divided.is))

pub put-requires-clause-counts : goal.put-requires-clause-counts
put-requires-clause-counts c = (counts_at c.args.book.now c.args.state.now.equations _ c.args.place _ c.equations.ensures.items c.member_at.ensures c.in-Some.p c.in-Some.is).0

pub put-requires-clause-inside : goal.put-requires-clause-inside
put-requires-clause-inside c = subst (λ (ps : List ℕ). c.args.place ≤ length ps) (sym c.equations-2.ensures.items) (counts_at c.args.book.now c.args.state.now.equations _ c.args.place _ c.equations.ensures.items c.member_at.ensures c.in-Some.p c.in-Some.is).1

pub returns-clause-ok : goal.returns-clause-ok
returns-clause-ok c =
    let book = c.args.book.now in
    let new = c.put.new.book in
    let s = state_in book c.args.state.now in
    let there = polynomial_at book c.args.state.now.equations _ c.args.place _ c.equations.ensures.items c.member_at.ensures c.in-Some.p c.in-Some.is in
    let r = book.ranking in
    let q = c.in-Some-divided.quotient.terms in
    let ranked : c.ranking.result.now ≡ r = c.ranking.ensures in
    let divides : is_divided (ranking_cmp r) c.args.v (polynomial book c.in-Some.p) ≡ true =
    ap (is_divided (ranking_cmp r) c.args.v) (sym c.entry.ensures.value) ∙ ap (λ r. is_divided (ranking_cmp r) c.args.v c.entry.result.now.terms) (sym ranked) ∙ sym c.in_ok-divided.ensures.divided ∙ ap is_some c.in-Some-divided.is in
    let is : q ≡ quotient_by (ranking_cmp r) c.args.v (polynomial book c.in-Some.p) =
    subst (λ (o : Option EntryValue). IfSome o (λ all. all.terms ≡ quotient_by (ranking_cmp c.ranking.result.now) c.args.v c.entry.result.now.terms)) c.in-Some-divided.is c.in_ok-divided.ensures.terms
    ∙ ap (λ r. quotient_by (ranking_cmp r) c.args.v c.entry.result.now.terms) ranked ∙ ap (quotient_by (ranking_cmp r) c.args.v) c.entry.ensures.value in
    let put : MeanAll new c.in_ok-put.field-0.items (put_equation (symbols_under r) c.args.place q s.equations) =
    subst (λ (ps : List ℕ). MeanAll new c.in_ok-put.field-0.items (put_at (symbols_under r) Equations c.args.place q (polynomials book ps))) c.equations-2.ensures.items c.in_ok-put.ensures.put in
    let keeps = c.in_ok-put.ensures.kept in
    let hs = c.in_ok-names.ensures ∙ c.inequations-2.ensures.items in
    let state = state_is new c.in_ok-put.field-0.items c.in_ok-names.field-0.items (put_equation (symbols_under r) c.args.place (quotient_by (ranking_cmp r) c.args.v (polynomial book c.in-Some.p)) s.equations) s.inequations c.splits.result c.args.state.now.splits
    (put.are ∙ ap (λ x. put_equation (symbols_under r) c.args.place x s.equations) is)
    (names_are book new keeps c.args.state.now.inequations c.in_ok-names.field-0.items c.requires.inequations_live hs) c.splits.ensures in
    record {
      weight = 1 + length (quotient_by (ranking_cmp r) c.args.v (polynomial book c.in-Some.p));
      is = divided_by_symbol (setting_of r) s c.args.place c.args.v _ there divides
          (ap (λ (ps : List ℕ). is_member (symbols_under r) (symbol_polynomial c.args.v) (polynomials book ps)) (sym c.inequations.ensures.items) ∙ sym c.in_ok-has_symbol.ensures ∙ c.if-not-branch.false)
          ∙ ap (λ (t : State). settled 0 (t ∷ []) (1 + length (quotient_by (ranking_cmp r) c.args.v (polynomial book c.in-Some.p)))) (sym state);
      weighs = let a = ap length is in omega (arith, a, c.term_count.ensures, c.saturating_add-weight.ensures);
      stand = record { equations_live = put.live; inequations_live = names_live book new keeps c.args.state.now.inequations c.in_ok-names.field-0.items c.requires.inequations_live hs };
    }
