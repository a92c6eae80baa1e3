use Rattle.std.proofs.Common.{◌≡◌, ◌≤◌, Option, ◌+◌, ◌∙◌, true, length, ap, ap₂, sym, subst, arith}
use Rattle.std.specs.Prelude.{IfSome, is_some}
use Rattle.dz_algebra.specs.Polynomial.{Polynomial, symbol_polynomial}
use Rattle.dz_rank.specs.Rankings.{RankingValue, ranking_cmp}
use Rattle.dz_rank.specs.declared.symbols.Symbol.{Symbol}
use Rattle.dz_poly.specs.Books.{polynomial}
use Rattle.dz_terms.specs.Entries.{EntryValue}
use Rattle.dz_monomials.specs.Ranked.{symbols_under}
use Rattle.dz_diff.specs.Operations.{setting_of}
use Rattle.dz_diff.specs.States.{state_in}
use Rattle.dz_monomials.specs.PowerDivision.{is_divided, quotient_by}
use Rattle.dz_move.specs.declared.Rule.TheVariants as rules
use Rattle.dz_move.specs.Moves.{settled}
use Rattle.dz_move.specs.Parts.{factor_states}
use Rattle.dz_move.proofs.Outcomes.{broken_stop, counts_at, divisor_belongs_to, divisor_low, factored_by_symbol, factored_no_divisor, factored_no_factor, factored_nowhere, living_at, nothing_at, polynomial_at}
use Rattle.dz_move.proofs.forks.factored.Goals as goal

pub returns-in_default-clause-refused : goal.returns-in_default-clause-refused
returns-in_default-clause-refused c =
    let book = c.args.book.now in
    broken_stop _ 0 rules.Place _ c.broken.ensures (factored_nowhere (setting_of book.ranking) (state_in book c.args.state.now) c.args.place c.args.v (nothing_at book c.args.state.now.equations _ c.args.place _ c.equations.ensures.items c.member_at.ensures c.in_default.is))

pub may_be_factor-requires-clause-lives : goal.may_be_factor-requires-clause-lives
may_be_factor-requires-clause-lives c = living_at c.args.book.now c.args.state.now.equations _ c.args.place _ c.equations.ensures.items c.member_at.ensures c.in-Some.p c.requires.stands.equations_live c.in-Some.is

pub returns-then-not-branch-clause-refused : goal.returns-then-not-branch-clause-refused
returns-then-not-branch-clause-refused c =
    let book = c.args.book.now in
    let there = polynomial_at book c.args.state.now.equations _ c.args.place _ c.equations.ensures.items c.member_at.ensures c.in-Some.p c.in-Some.is in
    broken_stop _ 0 rules.Symbol _ c.broken-then-not-branch.ensures (factored_no_factor (setting_of book.ranking) (state_in book c.args.state.now) c.args.place c.args.v _ there (sym c.in_ok-may_be_factor.ensures ∙ c.if-not-branch.true))

pub entry-requires : goal.entry-requires
entry-requires c = living_at c.args.book.now c.args.state.now.equations _ c.args.place _ c.equations.ensures.items c.member_at.ensures c.in-Some.p c.requires.stands.equations_live c.in-Some.is

pub returns-in_default-divided-clause-refused : goal.returns-in_default-divided-clause-refused
returns-in_default-divided-clause-refused c =
    let book = c.args.book.now in
    let there = polynomial_at book c.args.state.now.equations _ c.args.place _ c.equations.ensures.items c.member_at.ensures c.in-Some.p c.in-Some.is in
    broken_stop _ 0 rules.Symbol _ c.broken-in_default-divided.ensures (factored_no_divisor (setting_of book.ranking) (state_in book c.args.state.now) c.args.place c.args.v _ there
    (ap (is_divided (ranking_cmp book.ranking) c.args.v) (sym c.entry.ensures.value) ∙ ap (λ r. is_divided (ranking_cmp r) c.args.v c.entry.result.now.terms) (sym c.ranking.ensures) ∙ sym c.in_ok-divided.ensures.divided ∙ ap is_some c.in_default-divided.is))

pub factor_drafts-requires-clause-counts : goal.factor_drafts-requires-clause-counts
factor_drafts-requires-clause-counts c = (counts_at c.args.book.now c.args.state.now.equations _ c.args.place _ c.equations.ensures.items c.member_at.ensures c.in-Some.p c.in-Some.is).0

pub factor_drafts-requires-clause-inside : goal.factor_drafts-requires-clause-inside
factor_drafts-requires-clause-inside c = (counts_at c.args.book.now c.args.state.now.equations _ c.args.place _ c.equations.ensures.items c.member_at.ensures c.in-Some.p c.in-Some.is).1

pub factor_drafts-requires-clause-symbol : goal.factor_drafts-requires-clause-symbol
factor_drafts-requires-clause-symbol c =
    let book = c.args.book.now in
    let few = c.signature.ensures.ranking.few_independents in
    let ranked : c.ranking.result.now ≡ book.ranking = c.ranking.ensures in
    let ranked2 : c.ranking-2.result.now ≡ book.ranking = c.ranking-2.ensures in
    let few' : book.ranking.signature.independents ≤ 4 = subst (λ (r : RankingValue). r.signature.independents ≤ 4) ranked2 few in
    let divides : is_divided (ranking_cmp book.ranking) c.args.v c.entry.result.now.terms ≡ true =
    ap (λ r. is_divided (ranking_cmp r) c.args.v c.entry.result.now.terms) (sym ranked) ∙ sym c.in_ok-divided.ensures.divided ∙ ap is_some c.in-Some-divided.is in
    c.in_ok-symbol.ensures.entry book.ranking
    (divisor_belongs_to book.ranking few' c.entry.result.now.terms c.entry.result.now.degrees c.entry.ensures.entry c.args.v divides)
    (divisor_low book.ranking few' c.entry.result.now.terms c.entry.result.now.degrees c.entry.ensures.entry c.args.v divides)

pub factor_drafts-requires-clause-factor : goal.factor_drafts-requires-clause-factor
factor_drafts-requires-clause-factor c =
    let book = c.args.book.now in
    let few = c.signature.ensures.ranking.few_independents in
    let ranked : c.ranking.result.now ≡ book.ranking = c.ranking.ensures in
    let ranked2 : c.ranking-2.result.now ≡ book.ranking = c.ranking-2.ensures in
    let few' : book.ranking.signature.independents ≤ 4 = subst (λ (r : RankingValue). r.signature.independents ≤ 4) ranked2 few in
    let divides : is_divided (ranking_cmp book.ranking) c.args.v c.entry.result.now.terms ≡ true =
    ap (λ r. is_divided (ranking_cmp r) c.args.v c.entry.result.now.terms) (sym ranked) ∙ sym c.in_ok-divided.ensures.divided ∙ ap is_some c.in-Some-divided.is in
    c.in_ok-factor.ensures.entry book.ranking
    (divisor_belongs_to book.ranking few' c.entry.result.now.terms c.entry.result.now.degrees c.entry.ensures.entry c.args.v divides)
    (divisor_low book.ranking few' c.entry.result.now.terms c.entry.result.now.degrees c.entry.ensures.entry c.args.v divides)

pub returns-clause-ok : goal.returns-clause-ok
returns-clause-ok c =
    let book = c.args.book.now in
    let new = c.factor_drafts.new.book in
    let s = state_in book c.args.state.now in
    let there = polynomial_at book c.args.state.now.equations _ c.args.place _ c.equations.ensures.items c.member_at.ensures c.in-Some.p c.in-Some.is in
    let r = book.ranking in
    let g = symbols_under r in
    let q = c.in-Some-divided.quotient.terms in
    let p = polynomial book c.in-Some.p in
    let ranked : c.ranking.result.now ≡ r = c.ranking.ensures in
    let divides : is_divided (ranking_cmp r) c.args.v p ≡ true =
    ap (is_divided (ranking_cmp r) c.args.v) (sym c.entry.ensures.value) ∙ ap (λ r. is_divided (ranking_cmp r) c.args.v c.entry.result.now.terms) (sym ranked) ∙ sym c.in_ok-divided.ensures.divided ∙ ap is_some c.in-Some-divided.is in
    let is : q ≡ quotient_by (ranking_cmp r) c.args.v p =
    subst (λ (o : Option EntryValue). IfSome o (λ all. all.terms ≡ quotient_by (ranking_cmp c.ranking.result.now) c.args.v c.entry.result.now.terms)) c.in-Some-divided.is c.in_ok-divided.ensures.terms
    ∙ ap (λ r. quotient_by (ranking_cmp r) c.args.v c.entry.result.now.terms) ranked ∙ ap (quotient_by (ranking_cmp r) c.args.v) c.entry.ensures.value in
    record {
      weight = 1 + length (quotient_by (ranking_cmp r) c.args.v p);
      is = factored_by_symbol (setting_of r) s c.args.place c.args.v p there (sym c.in_ok-may_be_factor.ensures ∙ c.if-not-branch.false) divides
          ∙ ap (λ (x : Polynomial Symbol). settled 0 (factor_states g s c.args.place x (symbol_polynomial c.args.v) (symbol_polynomial c.args.v)) (1 + length (quotient_by (ranking_cmp r) c.args.v p))) (sym is)
          ∙ ap₂ (λ (x y : Polynomial Symbol). settled 0 (factor_states g s c.args.place q x y) (1 + length (quotient_by (ranking_cmp r) c.args.v p))) (sym c.in_ok-symbol.ensures.terms) (sym c.in_ok-factor.ensures.terms)
          ∙ ap (λ ss. settled 0 ss (1 + length (quotient_by (ranking_cmp r) c.args.v p))) (sym c.in_ok-factor_drafts.ensures.drafts.are);
      weighs = let a = ap length is in omega (arith, a, c.term_count.ensures, c.saturating_add-weight.ensures);
      stand = c.in_ok-factor_drafts.ensures.drafts.stand;
    }
