-- The test of orderly rankings is exact.
use Rattle.std.specs.Prelude.{◌↔◌, not, ◌&&◌, ◌||◌}
use Rattle.std.specs.List.{list_all, range_with_len}
use Rattle.std.proofs.Common.{◌≡◌, ◌≢◌, ◌<◌, ◌+◌, ◌==◌, inl, inr, ℕ, zero, suc, Bool, true, false, IsTrue, refl, ap, ◌∙◌, arith, eqb-true}
use Rattle.std.proofs.lemmas.Bool.Decides.{nat_tests}
use Rattle.dz_rank.specs.declared.rankings.Kind.{Kind}
use Rattle.dz_rank.specs.declared.rankings.Kind.TheVariants.{GrlexA, GrlexB, DegrevA, DegrevB, LexA}
use Rattle.dz_rank.specs.Rankings.{RankingValue, IsOrderly, block_at, block_number}
use Rattle.dz_rank.specs.Standings.{HaveOneBlock}
use Rattle.dz_rank.proofs.Orderly.{orderly_without_independents, orderly_without_dependents, orderly_of_one_block, not_orderly_of_two_blocks, not_orderly_of_lex}
use Rattle.dz_jet.specs.Orderliness.{is_lexicographic, has_one_block, is_orderly}

-- ---- numbers from k on
all_pass : (f : ℕ → Bool) (k n : ℕ) → list_all f (range_with_len k n) ≡ true → (i : ℕ) → i < n → f (k + i) ≡ true
all_pass f k zero h i inside = absurd (omega arith)
all_pass f k (suc n) h i inside = by_first (f k) refl h (λ rest j below. all_pass f (k + 1) n rest j below) i inside
  where
    by_first : (b : Bool) → f k ≡ b → (b && list_all f (range_with_len (k + 1) n)) ≡ true → (list_all f (range_with_len (k + 1) n) ≡ true → (j : ℕ) → j < n → f ((k + 1) + j) ≡ true) → (i : ℕ) → i < suc n → f (k + i) ≡ true
    by_first false e h more i inside = absurd cc
    by_first true e h more zero inside = ap f (let g : k + 0 ≡ k = omega arith in g) ∙ e
    by_first true e h more (suc i) inside = ap f (let g : k + suc i ≡ (k + 1) + i = omega arith in g) ∙ more h i (omega arith)

-- one of n numbers fails a test
record Failing (f : ℕ → Bool) (k n : ℕ) : Type 0 where
  number : ℕ
  inside : number < n
  fails : f (k + number) ≡ false

one_fails : (f : ℕ → Bool) (k n : ℕ) → list_all f (range_with_len k n) ≡ false → Failing f k n
one_fails f k zero h = absurd cc
one_fails f k (suc n) h = by_first (f k) refl h (λ rest. one_fails f (k + 1) n rest)
  where
    by_first : (b : Bool) → f k ≡ b → (b && list_all f (range_with_len (k + 1) n)) ≡ false → (list_all f (range_with_len (k + 1) n) ≡ false → Failing f (k + 1) n) → Failing f k (suc n)
    by_first false e h more = record { number = 0; inside = omega arith; fails = ap f (let g : k + 0 ≡ k = omega arith in g) ∙ e }
    by_first true e h more =
        let found = more h in
        record {
          number = suc found.number;
          inside = (let l = found.inside in omega arith);
          fails = ap f (let g : k + suc found.number ≡ (k + 1) + found.number = omega arith in g) ∙ found.fails;
        }

-- ---- the tests
one_block : (r : RankingValue) → has_one_block r ≡ true → HaveOneBlock r.signature.dependents r.blocks
one_block r h = record {
  each = λ u inside. eqb-true (block_number r.blocks u) (block_number r.blocks 0)
      (ap (λ v. block_number r.blocks v == block_number r.blocks 0) (let e : u ≡ 0 + u = omega arith in e) ∙ all_pass (λ v. block_number r.blocks v == block_number r.blocks 0) 0 r.signature.dependents h u inside);
}

lexicographic : (k : Kind) → is_lexicographic k ≡ true → k ≡ LexA
lexicographic LexA h = refl
lexicographic GrlexA h = absurd cc
lexicographic GrlexB h = absurd cc
lexicographic DegrevA h = absurd cc
lexicographic DegrevB h = absurd cc

not_lexicographic : (k : Kind) → is_lexicographic k ≡ false → k ≢ LexA
not_lexicographic k h e = absurd cc

differ : (m n : ℕ) → (m == n) ≡ false → m ≢ n
differ m n h e = grind (arith, nat_tests)

module _ (r : RankingValue) where
  abbrev kind : Kind
  kind = (block_at r.blocks (block_number r.blocks 0)).kind

  holds : (a b c d e : Bool) → (r.signature.independents == 0) ≡ a → (r.signature.dependents == 0) ≡ b → has_one_block r ≡ c → (r.signature.independents == 1) ≡ d → is_lexicographic kind ≡ e
      → IsTrue (a || b || (c && (d || not e))) → IsOrderly r
  holds true b c d e none dependents one single lex h = orderly_without_independents r (eqb-true r.signature.independents 0 none)
  holds false true c d e some none one single lex h = orderly_without_dependents r (eqb-true r.signature.dependents 0 none)
  holds false false true true e some dependents one single lex h = orderly_of_one_block r (one_block r one) (inl (eqb-true r.signature.independents 1 single))
  holds false false true false false some dependents one more degrees h = orderly_of_one_block r (one_block r one) (inr (not_lexicographic kind degrees))
  holds false false true false true some dependents one more lex h = absurd cc
  holds false false false d e some dependents two single lex h = absurd cc

  only : (a b c d e : Bool) → (r.signature.independents == 0) ≡ a → (r.signature.dependents == 0) ≡ b → has_one_block r ≡ c → (r.signature.independents == 1) ≡ d → is_lexicographic kind ≡ e
      → IsOrderly r → IsTrue (a || b || (c && (d || not e)))
  only true b c d e none dependents one single lex o = refl
  only false true c d e some none one single lex o = refl
  only false false true true e some dependents one single lex o = refl
  only false false true false false some dependents one more degrees o = refl
  only false false true false true some dependents one more lex o =
      absurd (not_orderly_of_lex r (grind (arith, nat_tests)) (grind (arith, nat_tests)) (lexicographic kind lex) o)
  only false false false d e some dependents two single lex o =
      let found = one_fails (λ v. block_number r.blocks v == block_number r.blocks 0) 0 r.signature.dependents two in
      let fails = ap (λ v. block_number r.blocks v == block_number r.blocks 0) (let e : found.number ≡ 0 + found.number = omega arith in e) ∙ found.fails in
      absurd (not_orderly_of_two_blocks r found.number found.inside (grind (arith, nat_tests)) (differ (block_number r.blocks found.number) (block_number r.blocks 0) fails) o)

pub orderly_tested : (r : RankingValue) → IsTrue (is_orderly r) ↔ IsOrderly r
unfolding is_orderly
orderly_tested r = (holds r _ _ _ _ _ refl refl refl refl refl, only r _ _ _ _ _ refl refl refl refl refl)
