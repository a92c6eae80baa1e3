-- When a ranking is orderly.
use Rattle.std.proofs.Common.{◌≡◌, ◌≢◌, ◌<◌, ◌≤◌, ◌+◌, ◌==◌, ◌⊎◌, inl, inr, ◌∙◌, ℕ, zero, suc, Bool, true, false, IsTrue, List, [], ◌∷◌, sum, drop, nat_lt, rules, refl, sym, ap, ap₂, subst, arith, All, eqb-true}
use Rattle.std.proofs.lemmas.List.Sums.{sum_by-cons}
use Rattle.std.proofs.lemmas.List.Elements.{All-drop}
use Rattle.std.proofs.lemmas.Cmp.{tied_itself}
use Rattle.std.specs.declared.cmp.Ordering.{Ordering}
use Rattle.std.specs.declared.cmp.Ordering.TheVariants.{Less, Greater}
use Rattle.std.specs.Cmp.{nat_cmp_total, nat_cmp_is}
use Rattle.std.specs.Ordering.{ordering_then, nat_cmp}
use Rattle.dz_rank.specs.declared.rankings.Kind.{Kind}
use Rattle.dz_rank.specs.declared.rankings.Kind.TheVariants.{GrlexA, GrlexB, DegrevA, DegrevB, LexA}
use Rattle.dz_rank.specs.declared.symbols.Operator.{Operator}
use Rattle.dz_rank.specs.declared.symbols.Symbol.{Symbol}
use Rattle.dz_rank.specs.declared.symbols.Symbol.TheVariants.{Independent, Derivative}
use Rattle.dz_rank.specs.Symbols.{identity, is_derivative, total_order, BelongsTo, IsOperatorOf}
use Rattle.dz_rank.specs.Rankings.{BlockValue, RankingValue, ranking_cmp, block_number, block_at, by_kind, by_order, by_lex, by_reverse_lex, by_place, by_block, IsOrderly}
use Rattle.dz_rank.specs.Standings.{HaveOneBlock, standing_of}

-- ---- one block
pub none_in_block : (bs : List BlockValue) → HaveOneBlock 0 bs
none_in_block bs = record { each = λ u h. absurd (omega arith) }

pub one_more_in_block : (bs : List BlockValue) (n : ℕ) → HaveOneBlock n bs → block_number bs n ≡ block_number bs 0 → HaveOneBlock (n + 1) bs
one_more_in_block bs n p e = record { each = λ u h. by_test u h (u == n) refl }
  where
    by_test : (u : ℕ) → u < n + 1 → (b : Bool) → (u == n) ≡ b → block_number bs u ≡ block_number bs 0
    by_test u h true f = ap (block_number bs) (eqb-true u n f) ∙ e
    by_test u h false f = p.each u (grind arith)

pub all_in_block : (bs : List BlockValue) (m n : ℕ) → n ≤ m → HaveOneBlock m bs → HaveOneBlock n bs
all_in_block bs m n h p = record { each = λ u g. p.each u (omega arith) }

-- ---- orderly rankings
sum_of_zeros : (ks : List ℕ) → All (λ k. k ≡ 0) ks → sum ks ≡ 0
sum_of_zeros [] p = refl
sum_of_zeros (k ∷ ks) p =
    let first : k ≡ 0 = p 0 0 (omega arith) in
    let others : sum ks ≡ 0 = sum_of_zeros ks (λ i d h. p (suc i) d (omega arith)) in
    omega (arith, sum_by-cons (λ x. x) k ks)

pub orderly_without_independents : (r : RankingValue) → r.signature.independents ≡ 0 → IsOrderly r
orderly_without_independents r e = record { greater = greater }
  where
    greater : (a b : Symbol) → IsTrue (is_derivative a) → IsTrue (is_derivative b) → BelongsTo r.signature a → BelongsTo r.signature b → total_order a < total_order b → ranking_cmp r a b ≡ Less
    greater a (Independent j) d f p q h = cc
    greater a (Derivative v t) d f p q h =
        let none : sum t.counts ≡ 0 = sum_of_zeros t.counts (subst (λ n. All (λ k. k ≡ 0) (drop n t.counts)) e q.1.zeros) in
        absurd (omega arith)

pub orderly_without_dependents : (r : RankingValue) → r.signature.dependents ≡ 0 → IsOrderly r
orderly_without_dependents r e = record { greater = greater }
  where
    greater : (a b : Symbol) → IsTrue (is_derivative a) → IsTrue (is_derivative b) → BelongsTo r.signature a → BelongsTo r.signature b → total_order a < total_order b → ranking_cmp r a b ≡ Less
    greater (Independent i) b d f p q h = cc
    greater (Derivative u s) b d f p q h = absurd (omega (arith, e, p.0))

nat_less : (x y : ℕ) → x < y → nat_cmp x y ≡ Less
nat_less x y h = sym (nat_cmp_is x y Less h)

nat_greater : (x y : ℕ) → y < x → nat_cmp x y ≡ Greater
nat_greater x y h = sym (nat_cmp_is x y Greater h)

first : (o p : Ordering) → o ≡ Less → ordering_then o p ≡ Less
first o p e = ap (λ x. ordering_then x p) e

-- what decides within a block: the total order, or with one independent its exponent
decided : (k : Kind) (us : List ℕ) (u v : ℕ) (s t : List ℕ) → sum s < sum t → (k ≡ LexA → by_lex (u, s) (v, t) ≡ Less) → by_kind k us (u, s) (v, t) ≡ Less
decided GrlexA us u v s t h l = first (by_order (u, s) (v, t)) (ordering_then (by_lex (u, s) (v, t)) (by_place us (u, s) (v, t))) (nat_less (sum s) (sum t) h)
decided GrlexB us u v s t h l = first (by_order (u, s) (v, t)) (ordering_then (by_place us (u, s) (v, t)) (by_lex (u, s) (v, t))) (nat_less (sum s) (sum t) h)
decided DegrevA us u v s t h l = first (by_order (u, s) (v, t)) (ordering_then (by_reverse_lex (u, s) (v, t)) (by_place us (u, s) (v, t))) (nat_less (sum s) (sum t) h)
decided DegrevB us u v s t h l = first (by_order (u, s) (v, t)) (ordering_then (by_place us (u, s) (v, t)) (by_reverse_lex (u, s) (v, t))) (nat_less (sum s) (sum t) h)
decided LexA us u v s t h l = first (by_lex (u, s) (v, t)) (by_place us (u, s) (v, t)) (l refl)

-- with one independent the larger exponent is greater
one_exponent : (u v : ℕ) (s t : List ℕ) → All (λ k. k ≡ 0) (drop 1 s) → All (λ k. k ≡ 0) (drop 1 t) → sum s < sum t → by_lex (u, s) (v, t) ≡ Less
one_exponent u v s [] p q h = absurd (omega arith)
one_exponent u v [] (l ∷ ls) p q h = refl
one_exponent u v (k ∷ ks) (l ∷ ls) p q h =
    let a : sum ks ≡ 0 = sum_of_zeros ks p in
    let b : sum ls ≡ 0 = sum_of_zeros ls q in
    first (nat_cmp k l) _ (nat_less k l (omega (arith, sum_by-cons (λ x. x) k ks, sum_by-cons (λ x. x) l ls)))

pub orderly_of_one_block : (r : RankingValue) → HaveOneBlock r.signature.dependents r.blocks → (r.signature.independents ≡ 1) ⊎ ((standing_of r.blocks 0).kind ≢ LexA) → IsOrderly r
unfolding ranking_cmp
orderly_of_one_block r one c = record { greater = greater }
  where
    block : BlockValue
    block = block_at r.blocks (block_number r.blocks 0)

    lex : (u v : ℕ) (s t : Operator) → (r.signature.independents ≡ 1) ⊎ (block.kind ≢ LexA) → IsOperatorOf r.signature.independents s → IsOperatorOf r.signature.independents t → sum s.counts < sum t.counts → block.kind ≡ LexA → by_lex (u, s.counts) (v, t.counts) ≡ Less
    lex u v s t (inl e) p q h l = one_exponent u v s.counts t.counts (subst (λ n. All (λ k. k ≡ 0) (drop n s.counts)) e p.zeros) (subst (λ n. All (λ k. k ≡ 0) (drop n t.counts)) e q.zeros) h
    lex u v s t (inr n) p q h l = absurd (n l)

    greater : (a b : Symbol) → IsTrue (is_derivative a) → IsTrue (is_derivative b) → BelongsTo r.signature a → BelongsTo r.signature b → total_order a < total_order b → ranking_cmp r a b ≡ Less
    greater (Independent i) b d f p q h = cc
    greater (Derivative u s) (Independent j) d f p q h = cc
    greater (Derivative u s) (Derivative v t) d f p q h =
        ap₂ (λ m n. ordering_then (nat_cmp m n) (by_block (block_at r.blocks n) (u, s.counts) (v, t.counts))) (one.each v q.0) (one.each u p.0)
        ∙ ap (λ o. ordering_then o (by_block block (u, s.counts) (v, t.counts))) (tied_itself nat_cmp_total (block_number r.blocks 0))
        ∙ decided block.kind block.dependents u v s.counts t.counts h (lex u v s t c p.1 q.1 h)

-- ---- rankings that are not orderly
-- the first derivation, and the second one twice
abbrev first_derivation : Operator
first_derivation = record { counts = 1 ∷ 0 ∷ 0 ∷ 0 ∷ [] }

abbrev second_twice : Operator
second_twice = record { counts = 0 ∷ 2 ∷ 0 ∷ 0 ∷ [] }

all_zero : (n : ℕ) → All {X = ℕ} (λ k. k ≡ 0) (drop n (0 ∷ 0 ∷ 0 ∷ 0 ∷ []))
all_zero n = All-drop {X = ℕ} (λ k. k ≡ 0) n (0 ∷ 0 ∷ 0 ∷ 0 ∷ []) (four)
  where
    four : All {X = ℕ} (λ k. k ≡ 0) (0 ∷ 0 ∷ 0 ∷ 0 ∷ [])
    four = search rules

identity_belongs : (n : ℕ) → IsOperatorOf n identity
identity_belongs n = record { size = refl; zeros = all_zero n }

first_belongs : (n : ℕ) → 0 < n → IsOperatorOf n first_derivation
first_belongs zero h = absurd (omega arith)
first_belongs (suc n) h = record { size = refl; zeros = All-drop {X = ℕ} (λ k. k ≡ 0) n (0 ∷ 0 ∷ 0 ∷ []) (search rules) }

second_belongs : (n : ℕ) → 1 < n → IsOperatorOf n second_twice
second_belongs zero h = absurd (omega arith)
second_belongs (suc zero) h = absurd (omega arith)
second_belongs (suc (suc n)) h = record { size = refl; zeros = All-drop {X = ℕ} (λ k. k ≡ 0) n (0 ∷ 0 ∷ []) (search rules) }

-- of two blocks, a derivative in the earlier one is greater than one of greater order in the later
in_two_blocks : (r : RankingValue) (u v : ℕ) → u < r.signature.dependents → v < r.signature.dependents → 0 < r.signature.independents → block_number r.blocks u < block_number r.blocks v → IsOrderly r → ⊥
unfolding ranking_cmp
in_two_blocks r u v g h n e o =
    let less : ranking_cmp r (Derivative u identity) (Derivative v first_derivation) ≡ Less = o.greater (Derivative u identity) (Derivative v first_derivation) refl refl (g, identity_belongs r.signature.independents) (h, first_belongs r.signature.independents n) (omega arith) in
    let greater : ranking_cmp r (Derivative u identity) (Derivative v first_derivation) ≡ Greater = ap (λ p. ordering_then p (by_block (block_at r.blocks (block_number r.blocks u)) (u, identity.counts) (v, first_derivation.counts))) (nat_greater (block_number r.blocks v) (block_number r.blocks u) e) in
    cc

pub not_orderly_of_two_blocks : (r : RankingValue) (u : ℕ) → u < r.signature.dependents → 0 < r.signature.independents → block_number r.blocks u ≢ block_number r.blocks 0 → IsOrderly r → ⊥
not_orderly_of_two_blocks r u g n e o = by_test (nat_lt (block_number r.blocks u) (block_number r.blocks 0)) refl
  where
    by_test : (b : Bool) → nat_lt (block_number r.blocks u) (block_number r.blocks 0) ≡ b → ⊥
    by_test true h = in_two_blocks r u 0 g (omega arith) n (grind arith) o
    by_test false h = in_two_blocks r 0 u (omega arith) g n (grind arith) o

pub not_orderly_of_lex : (r : RankingValue) → 0 < r.signature.dependents → 1 < r.signature.independents → (standing_of r.blocks 0).kind ≡ LexA → IsOrderly r → ⊥
unfolding ranking_cmp
not_orderly_of_lex r d n e o =
    let b = block_at r.blocks (block_number r.blocks 0) in
    let less : ranking_cmp r (Derivative 0 first_derivation) (Derivative 0 second_twice) ≡ Less = o.greater (Derivative 0 first_derivation) (Derivative 0 second_twice) refl refl (d, first_belongs r.signature.independents (omega arith)) (d, second_belongs r.signature.independents n) (omega arith) in
    let greater : ranking_cmp r (Derivative 0 first_derivation) (Derivative 0 second_twice) ≡ Greater =
    ap (λ p. ordering_then p (by_block b (0, first_derivation.counts) (0, second_twice.counts))) (tied_itself nat_cmp_total (block_number r.blocks 0))
    ∙ ap (λ k. by_kind k b.dependents (0, first_derivation.counts) (0, second_twice.counts)) e in
    cc
