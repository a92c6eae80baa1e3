-- Raising a derivative makes it greater, and keeps the order of two.
use Rattle.std.proofs.Common.{◌≡◌, ℕ, zero, suc, ◌+◌, ◌<◌, List, [], ◌∷◌, ◌++◌, length, reverse, sum, IsTrue, refl, sym, ap, ap₂, ◌∙◌, arith}
use Rattle.std.proofs.lemmas.List.Sums.{sum_by-cons}
use Rattle.std.proofs.lemmas.List.{length-reverse}
use Rattle.std.proofs.lemmas.Grind.{reverse_onto}
use Rattle.std.specs.declared.cmp.Ordering.{Ordering}
use Rattle.std.specs.declared.cmp.Ordering.TheVariants.{Less, Equal, Greater}
use Rattle.std.specs.Cmp.{nat_cmp_total, nat_cmp_is, ranked}
use Rattle.std.specs.Cmp.Lexicographic.{slice_cmp, nat_list_cmp_total}
use Rattle.std.specs.Ordering.{ordering_then, nat_cmp, MatchOrdering}
use Rattle.std.proofs.lemmas.Cmp.{tied_itself}
use Rattle.dz_rank.specs.declared.rankings.Kind.{Kind}
use Rattle.dz_rank.specs.declared.rankings.Kind.TheVariants.{GrlexA, GrlexB, DegrevA, DegrevB, LexA}
use Rattle.dz_rank.specs.declared.symbols.Operator.{Operator}
use Rattle.dz_rank.specs.declared.symbols.Symbol.{Symbol}
use Rattle.dz_rank.specs.declared.symbols.Symbol.TheVariants.{Independent, Derivative}
use Rattle.dz_rank.specs.Rankings.{RankingValue, ranking_cmp, block_number, block_at, by_order, by_lex, by_reverse_lex, by_place, by_kind}
use Rattle.dz_rank.specs.Symbols.{raised, raised_symbol, exponent_sums, derivative_by, is_derivative, HasFourExponents}
use Rattle.dz_rank.proofs.Exponents.{sum_of_exponent_sums, exponent_sums_raised}

nat_less : (x y : ℕ) → x < y → nat_cmp x y ≡ Less
nat_less x y h = sym (nat_cmp_is x y Less h)

nat_plus : (x y k : ℕ) → nat_cmp (x + k) (y + k) ≡ nat_cmp x y
nat_plus x y k = sym (nat_cmp_is (x + k) (y + k) (nat_cmp x y) (moved (nat_cmp x y) (ranked x y (nat_cmp x y) refl)))
  where
    moved : (o : Ordering) → MatchOrdering o (x < y) (x ≡ y) (y < x) → MatchOrdering o (x + k < y + k) (x + k ≡ y + k) (y + k < x + k)
    moved Less h = omega arith
    moved Equal h = ap (λ n. n + k) h
    moved Greater h = omega arith

-- ---- lists of exponents
lex_grows : (ks ts : List ℕ) → 0 < sum ts → slice_cmp nat_cmp ks (exponent_sums ks ts) ≡ Less
lex_grows ks [] h = absurd (omega arith)
lex_grows [] (t ∷ ts) h = refl
lex_grows (k ∷ ks) (zero ∷ ts) h =
    ap (λ n. ordering_then (nat_cmp k n) (slice_cmp nat_cmp ks (exponent_sums ks ts))) (plus_none k)
    ∙ ap (λ o. ordering_then o (slice_cmp nat_cmp ks (exponent_sums ks ts))) (tied_itself nat_cmp_total k)
    ∙ lex_grows ks ts (omega (arith, sum_by-cons (λ x. x) 0 ts))
  where
    plus_none : (k : ℕ) → k + 0 ≡ k
    plus_none k = omega arith
lex_grows (k ∷ ks) (suc t ∷ ts) h = ap (λ o. ordering_then o (slice_cmp nat_cmp ks (exponent_sums ks ts))) (nat_less k (k + suc t) (omega arith))

lex_kept : (ks ls ts : List ℕ) → length ks ≡ length ls → slice_cmp nat_cmp (exponent_sums ks ts) (exponent_sums ls ts) ≡ slice_cmp nat_cmp ks ls
lex_kept [] [] ts e = tied_itself nat_list_cmp_total ts
lex_kept [] (l ∷ ls) ts e = absurd (omega arith)
lex_kept (k ∷ ks) [] ts e = absurd (omega arith)
lex_kept (k ∷ ks) (l ∷ ls) [] e = refl
lex_kept (k ∷ ks) (l ∷ ls) (t ∷ ts) e = ap₂ ordering_then (nat_plus k l t) (lex_kept ks ls ts (omega arith))

then_associates : (o u v : Ordering) → ordering_then (ordering_then o u) v ≡ ordering_then o (ordering_then u v)
then_associates Less u v = refl
then_associates Equal u v = refl
then_associates Greater u v = refl

slice-append : (xs ys us vs : List ℕ) → length xs ≡ length ys → slice_cmp nat_cmp (xs ++ us) (ys ++ vs) ≡ ordering_then (slice_cmp nat_cmp xs ys) (slice_cmp nat_cmp us vs)
slice-append [] [] us vs e = refl
slice-append [] (y ∷ ys) us vs e = absurd (omega arith)
slice-append (x ∷ xs) [] us vs e = absurd (omega arith)
slice-append (x ∷ xs) (y ∷ ys) us vs e = ap (ordering_then (nat_cmp x y)) (slice-append xs ys us vs (omega arith)) ∙ sym (then_associates (nat_cmp x y) (slice_cmp nat_cmp xs ys) (slice_cmp nat_cmp us vs))

-- from the back: the tails decide first
reversed_cons : (x y : ℕ) (xs ys : List ℕ) → length xs ≡ length ys → slice_cmp nat_cmp (reverse (x ∷ xs)) (reverse (y ∷ ys)) ≡ ordering_then (slice_cmp nat_cmp (reverse xs) (reverse ys)) (ordering_then (nat_cmp x y) Equal)
reversed_cons x y xs ys e =
    ap₂ (slice_cmp nat_cmp) (reverse_onto xs x []) (reverse_onto ys y [])
    ∙ slice-append (reverse xs) (reverse ys) (x ∷ []) (y ∷ []) (length-reverse xs ∙ e ∙ sym (length-reverse ys))

length_of_sums : (ks ls ts : List ℕ) → length ks ≡ length ls → length (exponent_sums ks ts) ≡ length (exponent_sums ls ts)
length_of_sums [] [] ts e = refl
length_of_sums [] (l ∷ ls) ts e = absurd (omega arith)
length_of_sums (k ∷ ks) [] ts e = absurd (omega arith)
length_of_sums (k ∷ ks) (l ∷ ls) [] e = e
length_of_sums (k ∷ ks) (l ∷ ls) (t ∷ ts) e = ap suc (length_of_sums ks ls ts (omega arith))

reverse_kept : (ks ls ts : List ℕ) → length ks ≡ length ls → slice_cmp nat_cmp (reverse (exponent_sums ks ts)) (reverse (exponent_sums ls ts)) ≡ slice_cmp nat_cmp (reverse ks) (reverse ls)
reverse_kept [] [] ts e = tied_itself nat_list_cmp_total (reverse ts)
reverse_kept [] (l ∷ ls) ts e = absurd (omega arith)
reverse_kept (k ∷ ks) [] ts e = absurd (omega arith)
reverse_kept (k ∷ ks) (l ∷ ls) [] e = refl
reverse_kept (k ∷ ks) (l ∷ ls) (t ∷ ts) e =
    let f : length ks ≡ length ls = omega arith in
    reversed_cons (k + t) (l + t) (exponent_sums ks ts) (exponent_sums ls ts) (length_of_sums ks ls ts f)
    ∙ ap₂ (λ o u. ordering_then o (ordering_then u Equal)) (reverse_kept ks ls ts f) (nat_plus k l t)
    ∙ sym (reversed_cons k l ks ls f)

-- ---- the five kinds
first : (o p : Ordering) → o ≡ Less → ordering_then o p ≡ Less
first o p e = ap (λ x. ordering_then x p) e

kind_grows : (k : Kind) (us : List ℕ) (u : ℕ) (ks ts : List ℕ) → 0 < sum ts → by_kind k us (u, ks) (u, exponent_sums ks ts) ≡ Less
kind_grows k us u ks ts h = of k
  where
    raise : ℕ × List ℕ
    raise = (u, exponent_sums ks ts)

    order : by_order (u, ks) raise ≡ Less
    order = nat_less (sum ks) (sum (exponent_sums ks ts)) (omega (arith, sum_of_exponent_sums ks ts))

    of : (k : Kind) → by_kind k us (u, ks) raise ≡ Less
    of GrlexA = first (by_order (u, ks) raise) (ordering_then (by_lex (u, ks) raise) (by_place us (u, ks) raise)) order
    of GrlexB = first (by_order (u, ks) raise) (ordering_then (by_place us (u, ks) raise) (by_lex (u, ks) raise)) order
    of DegrevA = first (by_order (u, ks) raise) (ordering_then (by_reverse_lex (u, ks) raise) (by_place us (u, ks) raise)) order
    of DegrevB = first (by_order (u, ks) raise) (ordering_then (by_place us (u, ks) raise) (by_reverse_lex (u, ks) raise)) order
    of LexA = first (by_lex (u, ks) raise) (by_place us (u, ks) raise) (lex_grows ks ts h)

kind_kept : (k : Kind) (us : List ℕ) (u v : ℕ) (ks ls ts : List ℕ) → length ks ≡ length ls → by_kind k us (u, exponent_sums ks ts) (v, exponent_sums ls ts) ≡ by_kind k us (u, ks) (v, ls)
kind_kept k us u v ks ls ts e = of k
  where
    order : by_order (u, exponent_sums ks ts) (v, exponent_sums ls ts) ≡ by_order (u, ks) (v, ls)
    order = ap₂ nat_cmp (sum_of_exponent_sums ks ts) (sum_of_exponent_sums ls ts) ∙ nat_plus (sum ks) (sum ls) (sum ts)

    lex : by_lex (u, exponent_sums ks ts) (v, exponent_sums ls ts) ≡ by_lex (u, ks) (v, ls)
    lex = lex_kept ks ls ts e

    back : by_reverse_lex (u, exponent_sums ks ts) (v, exponent_sums ls ts) ≡ by_reverse_lex (u, ks) (v, ls)
    back = reverse_kept ls ks ts (sym e)

    of : (k : Kind) → by_kind k us (u, exponent_sums ks ts) (v, exponent_sums ls ts) ≡ by_kind k us (u, ks) (v, ls)
    of GrlexA = ap₂ (λ o l. ordering_then o (ordering_then l (by_place us (u, ks) (v, ls)))) order lex
    of GrlexB = ap₂ (λ o l. ordering_then o (ordering_then (by_place us (u, ks) (v, ls)) l)) order lex
    of DegrevA = ap₂ (λ o l. ordering_then o (ordering_then l (by_place us (u, ks) (v, ls)))) order back
    of DegrevB = ap₂ (λ o l. ordering_then o (ordering_then (by_place us (u, ks) (v, ls)) l)) order back
    of LexA = ap (λ l. ordering_then l (by_place us (u, ks) (v, ls))) lex

-- ---- rankings
pub grows : (r : RankingValue) (a : Symbol) (t : Operator) → IsTrue (is_derivative a) → 0 < sum t.counts → ranking_cmp r a (derivative_by t a) ≡ Less
unfolding ranking_cmp
grows r (Independent i) t d h = cc
grows r (Derivative u s) t d h =
    let b = block_at r.blocks (block_number r.blocks u) in
    ap (λ o. ordering_then o (by_kind b.kind b.dependents (u, s.counts) (u, exponent_sums s.counts t.counts))) (tied_itself nat_cmp_total (block_number r.blocks u))
    ∙ kind_grows b.kind b.dependents u s.counts t.counts h

-- operators are lists of one length
pub keeps_order : (r : RankingValue) (u v : ℕ) (s t : Operator) (o : Operator) → length s.counts ≡ length t.counts → ranking_cmp r (derivative_by o (Derivative u s)) (derivative_by o (Derivative v t)) ≡ ranking_cmp r (Derivative u s) (Derivative v t)
unfolding ranking_cmp
keeps_order r u v s t o e =
    let b = block_at r.blocks (block_number r.blocks u) in
    ap (ordering_then (nat_cmp (block_number r.blocks v) (block_number r.blocks u))) (kind_kept b.kind b.dependents u v s.counts t.counts o.counts e)

pub keeps_order_of_symbols : (r : RankingValue) (a b : Symbol) (o : Operator) → IsTrue (is_derivative a) → IsTrue (is_derivative b) → HasFourExponents a → HasFourExponents b → ranking_cmp r (derivative_by o a) (derivative_by o b) ≡ ranking_cmp r a b
keeps_order_of_symbols r (Independent i) b o d e f g = cc
keeps_order_of_symbols r (Derivative u s) (Independent j) o d e f g = cc
keeps_order_of_symbols r (Derivative u s) (Derivative v t) o d e f g = keeps_order r u v s t o (f ∙ sym g)

-- ---- one derivation
one_derivation : (i : ℕ) (a : Symbol) → derivative_by (record { counts = raised i [] }) a ≡ raised_symbol i a
one_derivation i (Independent j) = refl
one_derivation i (Derivative u s) = ap (λ ks. Derivative u (record { counts = ks })) (exponent_sums_raised i s.counts)

one_is_proper : (i : ℕ) → 0 < sum (raised i [])
one_is_proper zero = omega arith
one_is_proper (suc i) = omega (arith, sum_by-cons (λ x. x) 0 (raised i []), one_is_proper i)

pub grows_by_one : (r : RankingValue) (i : ℕ) (a : Symbol) → IsTrue (is_derivative a) → ranking_cmp r a (raised_symbol i a) ≡ Less
grows_by_one r i a d = sym (ap (ranking_cmp r a) (one_derivation i a)) ∙ grows r a (record { counts = raised i [] }) d (one_is_proper i)

pub keeps_order_by_one : (r : RankingValue) (i u v : ℕ) (s t : Operator) → length s.counts ≡ length t.counts → ranking_cmp r (raised_symbol i (Derivative u s)) (raised_symbol i (Derivative v t)) ≡ ranking_cmp r (Derivative u s) (Derivative v t)
keeps_order_by_one r i u v s t e = sym (ap₂ (ranking_cmp r) (one_derivation i (Derivative u s)) (one_derivation i (Derivative v t))) ∙ keeps_order r u v s t (record { counts = raised i [] }) e
