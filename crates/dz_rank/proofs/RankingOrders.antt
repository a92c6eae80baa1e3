-- A ranking is a total order in which only equal symbols tie.
use Rattle.std.proofs.Common.{◌≡◌, ℕ, suc, Bool, true, false, cond, List, [], ◌∷◌, reverse, refl, sym, ap, ap₂, ◌∙◌, arith, eqb-true, ◌==◌, sum}
use Rattle.std.proofs.lemmas.List.{reverse-reverse}
use Rattle.std.specs.declared.cmp.Ordering.{Ordering}
use Rattle.std.specs.declared.cmp.Ordering.TheVariants.{Less, Equal, Greater}
use Rattle.std.specs.Cmp.{IsTotalOrder, nat_cmp_total}
use Rattle.std.specs.Cmp.Lexicographic.{nat_list_cmp_total}
use Rattle.std.specs.FinMap.{nat_cmp-IsAntisymmetric, slice_cmp-IsAntisymmetric}
use Rattle.std.specs.Ordering.{ordering_reverse, ordering_then, nat_cmp}
use Rattle.std.proofs.lemmas.Cmp.{then_total, on_total, back_total, alike_right}
use Rattle.dz_rank.specs.declared.rankings.Kind.{Kind}
use Rattle.dz_rank.specs.declared.rankings.Kind.TheVariants.{GrlexA, GrlexB, DegrevA, DegrevB, LexA}
use Rattle.dz_rank.specs.declared.symbols.Symbol.{Symbol}
use Rattle.dz_rank.specs.declared.symbols.Symbol.TheVariants.{Independent, Derivative}
use Rattle.dz_rank.specs.Rankings.{RankingValue, BlockValue, ranking_cmp, place_of, block_number, block_at, by_order, by_lex, by_reverse_lex, by_place, by_kind, by_block, derivative_cmp, symbol_cmp}

then_equal : (o u : Ordering) → ordering_then o u ≡ Equal → (o ≡ Equal) × (u ≡ Equal)
then_equal Less u e = cc
then_equal Equal u e = (refl, e)
then_equal Greater u e = cc

by_kind_total : (k : Kind) (us : List ℕ) → IsTotalOrder (by_kind k us)
by_kind_total k us = of k
  where
    order : IsTotalOrder by_order
    order = on_total (λ d. sum d.1) nat_cmp_total

    lex : IsTotalOrder by_lex
    lex = on_total (λ d. d.1) nat_list_cmp_total

    reverse_lex : IsTotalOrder by_reverse_lex
    reverse_lex = back_total (on_total (λ d. reverse d.1) nat_list_cmp_total)

    placed : IsTotalOrder (by_place us)
    placed = back_total (on_total (λ d. place_of d.0 us) nat_cmp_total)

    of : (k : Kind) → IsTotalOrder (by_kind k us)
    of GrlexA = then_total order (then_total lex placed)
    of GrlexB = then_total order (then_total placed lex)
    of DegrevA = then_total order (then_total reverse_lex placed)
    of DegrevB = then_total order (then_total placed reverse_lex)
    of LexA = then_total lex placed

suc_same : (a b : ℕ) → suc a ≡ suc b → a ≡ b
suc_same a b e = omega arith

place_same : (us : List ℕ) (u v : ℕ) → place_of u us ≡ place_of v us → u ≡ v
place_same [] u v e = e
place_same (w ∷ us) u v e = by_tests (w == u) (w == v) refl refl e (place_same us u v)
  where
    by_tests : (a b : Bool) → (w == u) ≡ a → (w == v) ≡ b → cond a 0 (suc (place_of u us)) ≡ cond b 0 (suc (place_of v us)) → (place_of u us ≡ place_of v us → u ≡ v) → u ≡ v
    by_tests true true f g e ih = sym (eqb-true w u f) ∙ eqb-true w v g
    by_tests true false f g e ih = absurd (omega arith)
    by_tests false true f g e ih = absurd (omega arith)
    by_tests false false f g e ih = ih (suc_same _ _ e)

reverse_same : (xs ys : List ℕ) → reverse xs ≡ reverse ys → xs ≡ ys
reverse_same xs ys e = sym (reverse-reverse xs) ∙ ap reverse e ∙ reverse-reverse ys

lex_same : (d e : ℕ × List ℕ) → by_lex d e ≡ Equal → d.1 ≡ e.1
lex_same d e h = slice_cmp-IsAntisymmetric nat_cmp-IsAntisymmetric d.1 e.1 h

reverse_lex_same : (d e : ℕ × List ℕ) → by_reverse_lex d e ≡ Equal → d.1 ≡ e.1
reverse_lex_same d e h = sym (reverse_same e.1 d.1 (slice_cmp-IsAntisymmetric nat_cmp-IsAntisymmetric (reverse e.1) (reverse d.1) h))

place_tied : (us : List ℕ) (d e : ℕ × List ℕ) → by_place us d e ≡ Equal → d.0 ≡ e.0
place_tied us d e h = place_same us d.0 e.0 (sym (nat_cmp-IsAntisymmetric (place_of e.0 us) (place_of d.0 us) h))

by_kind_same : (k : Kind) (us : List ℕ) (d e : ℕ × List ℕ) → by_kind k us d e ≡ Equal → d ≡ e
by_kind_same GrlexA us d e h = let b = then_equal _ _ (then_equal (by_order d e) _ h).1 in ap₂ (λ (x : ℕ) (y : List ℕ). (x, y)) (place_tied us d e b.1) (lex_same d e b.0)
by_kind_same GrlexB us d e h = let b = then_equal _ _ (then_equal (by_order d e) _ h).1 in ap₂ (λ (x : ℕ) (y : List ℕ). (x, y)) (place_tied us d e b.0) (lex_same d e b.1)
by_kind_same DegrevA us d e h = let b = then_equal _ _ (then_equal (by_order d e) _ h).1 in ap₂ (λ (x : ℕ) (y : List ℕ). (x, y)) (place_tied us d e b.1) (reverse_lex_same d e b.0)
by_kind_same DegrevB us d e h = let b = then_equal _ _ (then_equal (by_order d e) _ h).1 in ap₂ (λ (x : ℕ) (y : List ℕ). (x, y)) (place_tied us d e b.0) (reverse_lex_same d e b.1)
by_kind_same LexA us d e h = let b = then_equal (by_lex d e) (by_place us d e) h in ap₂ (λ (x : ℕ) (y : List ℕ). (x, y)) (place_tied us d e b.1) (lex_same d e b.0)

-- first by a class, and then by an order that the class chooses
module _ {K : Type 0} (f : K → ℕ) (S : ℕ → K → K → Ordering) (each : (n : ℕ) → IsTotalOrder (S n)) where
  abbrev classed : K → K → Ordering
  classed x y = ordering_then (nat_cmp (f y) (f x)) (S (f x) x y)

  classed_total : IsTotalOrder classed
  classed_total = record { antisymm = antisymm; trans = trans; congr = congr }
    where
      reversed : (o u v : Ordering) → (o ≡ Equal → u ≡ ordering_reverse v) → ordering_then (ordering_reverse o) u ≡ ordering_reverse (ordering_then o v)
      reversed Less u v h = refl
      reversed Equal u v h = h refl
      reversed Greater u v h = refl

      antisymm : (x y : K) → classed x y ≡ ordering_reverse (classed y x)
      antisymm x y =
          ap (λ o. ordering_then o (S (f x) x y)) (nat_cmp_total.antisymm (f y) (f x))
          ∙ reversed (nat_cmp (f x) (f y)) (S (f x) x y) (S (f y) y x) (λ e. (each (f x)).antisymm x y ∙ ap (λ n. ordering_reverse (S n y x)) (nat_cmp-IsAntisymmetric (f x) (f y) e))

      trans : (x y z : K) → classed x y ≡ Less → classed y z ≡ Less → classed x z ≡ Less
      trans x y z = by_cases (nat_cmp (f y) (f x)) (nat_cmp (f z) (f y)) refl refl
        where
          by_cases : (o u : Ordering) → nat_cmp (f y) (f x) ≡ o → nat_cmp (f z) (f y) ≡ u → ordering_then o (S (f x) x y) ≡ Less → ordering_then u (S (f y) y z) ≡ Less → classed x z ≡ Less
          by_cases Greater u e g h k = cc
          by_cases Less Greater e g h k = cc
          by_cases Equal Greater e g h k = cc
          by_cases Less Less e g h k = ap (λ o. ordering_then o (S (f x) x z)) (nat_cmp_total.trans (f z) (f y) (f x) g e)
          by_cases Less Equal e g h k = ap (λ o. ordering_then o (S (f x) x z)) (nat_cmp_total.congr (f z) (f y) (f x) g ∙ e)
          by_cases Equal Less e g h k = ap (λ o. ordering_then o (S (f x) x z)) (sym (alike_right nat_cmp_total (f y) (f x) (f z) e) ∙ g)
          by_cases Equal Equal e g h k =
              let i : f y ≡ f x = nat_cmp-IsAntisymmetric (f y) (f x) e in
              ap (λ o. ordering_then o (S (f x) x z)) (nat_cmp_total.congr (f z) (f y) (f x) g ∙ e)
              ∙ (each (f x)).trans x y z h (ap (λ n. S n y z) (sym i) ∙ k)

      congr : (x y z : K) → classed x y ≡ Equal → classed x z ≡ classed y z
      congr x y z e =
          let b = then_equal (nat_cmp (f y) (f x)) (S (f x) x y) e in
          let i : f y ≡ f x = nat_cmp-IsAntisymmetric (f y) (f x) b.0 in
          ap₂ (λ n o. ordering_then (nat_cmp (f z) n) o) (sym i) ((each (f x)).congr x y z b.1 ∙ ap (λ n. S n y z) (sym i))

derivative_total : (bs : List BlockValue) → IsTotalOrder (derivative_cmp bs)
derivative_total bs = classed_total (λ d. block_number bs d.0) (λ n. by_block (block_at bs n)) (λ n. by_kind_total (block_at bs n).kind (block_at bs n).dependents)

derivative_same : (bs : List BlockValue) (d e : ℕ × List ℕ) → derivative_cmp bs d e ≡ Equal → d ≡ e
derivative_same bs d e h = let b = block_at bs (block_number bs d.0) in by_kind_same b.kind b.dependents d e (then_equal (nat_cmp (block_number bs e.0) (block_number bs d.0)) (by_block b d e) h).1

-- the order of symbols is total
symbol_total : (bs : List BlockValue) → IsTotalOrder (symbol_cmp bs)
symbol_total bs = record { antisymm = antisymm; trans = trans; congr = congr }
  where
    antisymm : (x y : Symbol) → symbol_cmp bs x y ≡ ordering_reverse (symbol_cmp bs y x)
    antisymm (Independent i) (Independent j) = nat_cmp_total.antisymm j i
    antisymm (Independent i) (Derivative v t) = refl
    antisymm (Derivative u s) (Independent j) = refl
    antisymm (Derivative u s) (Derivative v t) = (derivative_total bs).antisymm (u, s.counts) (v, t.counts)

    trans : (x y z : Symbol) → symbol_cmp bs x y ≡ Less → symbol_cmp bs y z ≡ Less → symbol_cmp bs x z ≡ Less
    trans (Independent i) (Independent j) (Independent k) e f = nat_cmp_total.trans k j i f e
    trans (Independent i) (Independent j) (Derivative w t) e f = refl
    trans (Independent i) (Derivative v s) (Independent k) e f = cc
    trans (Independent i) (Derivative v s) (Derivative w t) e f = refl
    trans (Derivative u r) (Independent j) z e f = cc
    trans (Derivative u r) (Derivative v s) (Independent k) e f = cc
    trans (Derivative u r) (Derivative v s) (Derivative w t) e f = (derivative_total bs).trans (u, r.counts) (v, s.counts) (w, t.counts) e f

    congr : (x y z : Symbol) → symbol_cmp bs x y ≡ Equal → symbol_cmp bs x z ≡ symbol_cmp bs y z
    congr (Independent i) (Independent j) (Independent k) e = sym (alike_right nat_cmp_total j i k e)
    congr (Independent i) (Independent j) (Derivative w t) e = refl
    congr (Independent i) (Derivative v s) z e = cc
    congr (Derivative u r) (Independent j) z e = cc
    congr (Derivative u r) (Derivative v s) (Independent k) e = refl
    congr (Derivative u r) (Derivative v s) (Derivative w t) e = (derivative_total bs).congr (u, r.counts) (v, s.counts) (w, t.counts) e

-- only equal symbols tie
symbol_same : (bs : List BlockValue) (x y : Symbol) → symbol_cmp bs x y ≡ Equal → x ≡ y
symbol_same bs (Independent i) (Independent j) e = ap Independent (sym (nat_cmp-IsAntisymmetric j i e))
symbol_same bs (Independent i) (Derivative v t) e = cc
symbol_same bs (Derivative u s) (Independent j) e = cc
symbol_same bs (Derivative u s) (Derivative v t) e = let f = derivative_same bs (u, s.counts) (v, t.counts) e in ap₂ (λ a b. Derivative a (record { counts = b })) (ap (λ p. p.0) f) (ap (λ p. p.1) f)

pub ranking_total : (r : RankingValue) → IsTotalOrder (ranking_cmp r)
unfolding ranking_cmp
ranking_total r = symbol_total r.blocks

pub ranking_same : (r : RankingValue) (x y : Symbol) → ranking_cmp r x y ≡ Equal → x ≡ y
unfolding ranking_cmp
ranking_same r = symbol_same r.blocks
