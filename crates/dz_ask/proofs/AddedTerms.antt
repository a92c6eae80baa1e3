-- A polynomial is added at a product by one pass over the terms.
use Rattle.std.specs.Prelude.{slice_index_or, slice_set}
use Rattle.std.specs.List.{insert}
use Rattle.std.proofs.Common.{◌≡◌, ◌<◌, ◌≤◌, ◌+◌, ◌∙◌, ◌++◌, ℕ, zero, suc, List, [], ◌∷◌, length, drop, take, refl, sym, ap, ap₂, subst, arith, Ok, Result}
use Rattle.std.proofs.lemmas.List.{map-append}
use Rattle.std.proofs.lemmas.List.Elements.{All-append, All-cons, All-drop, All-take}
use Rattle.std.specs.declared.cmp.Ordering.{Ordering}
use Rattle.std.specs.declared.cmp.Ordering.TheVariants.{Less, Equal, Greater}
use Rattle.std.specs.Ordering.{match_ordering}
use Rattle.dz_algebra.specs.Polynomial.{Polynomial}
use Rattle.dz_algebra.specs.Size.{Refusal, operation, sum_answer}
use Rattle.dz_rank.specs.Rankings.{RankingValue}
use Rattle.dz_rank.specs.declared.symbols.Symbol.{Symbol}
use Rattle.dz_terms.specs.Entries.{IsEntry}
use Rattle.dz_monomials.specs.Ranked.{symbols_under}
use Rattle.dz_monomials.specs.Signs.{with_sign}
use Rattle.dz_monomials.specs.Stops.{IsStop}
use Rattle.dz_monomials.specs.declared.sign.Sign.TheVariants.{Plus}
use Rattle.dz_monomials.proofs.Summing.{plus_same}
use Rattle.dz_monomials.specs.declared.PolyStop.{PolyStop}
use Rattle.dz_algebra.specs.Outcome.{◌>>=◌}
use Rattle.dz_step.proofs.StepParts.{stop_first}
use Rattle.dz_ask.specs.Preparation.{Term}
use Rattle.dz_ask.specs.Products.{Product, product_cmp}
use Rattle.dz_ask.specs.Turns.{added}
use Rattle.dz_ask.specs.Working.{AreEntries, terms_in}
use Rattle.dz_ask.specs.declared.working.WorkingTerm.{WorkingTerm}
use Rattle.dz_ask.proofs.ListPasses.{all_dropped, dropped, taken_more}
use Rattle.dz_ask.proofs.TermPasses.{prepended, prepended-cons}

-- the term of a working term
abbrev in_term : WorkingTerm → Term
in_term t = (t.product.items, t.coefficient.terms)

-- a sum with a plus sign is a sum
pub plus_stop : (r : RankingValue) (a b : Polynomial Symbol) (stop : PolyStop) → IsStop stop (operation (symbols_under r) (a ++ with_sign Plus b)) → IsStop stop (sum_answer (symbols_under r) a b)
plus_stop r a b stop h = subst (λ p. IsStop stop (operation (symbols_under r) (a ++ p))) (plus_same b) h

-- ---- lists with one more member, or with another
inserted_is : {A : Type 0} (xs : List A) (i : ℕ) (x : A) → i ≤ length xs → insert xs i x ≡ take i xs ++ x ∷ drop i xs
inserted_is xs i x h = refl

-- what is set stands between those before and behind
set_is : {A : Type 0} (xs : List A) (i : ℕ) (x : A) → i < length xs → slice_set xs i x ≡ take i xs ++ x ∷ drop (i + 1) xs
set_is [] i x h = absurd (omega (arith, h))
set_is (y ∷ ys) zero x h = refl
set_is (y ∷ ys) (suc i) x h = let k : suc (i + 1) ≡ suc i + 1 = omega arith in ap (λ l. y ∷ l) (set_is ys i x (omega (arith, h))) ∙ ap (λ n. y ∷ take i ys ++ x ∷ drop n (y ∷ ys)) k

-- the terms with one more
pub terms_inserted : (ts : List WorkingTerm) (i : ℕ) (t : WorkingTerm) → i ≤ length ts → terms_in (insert ts i t) ≡ terms_in (take i ts) ++ in_term t ∷ terms_in (drop i ts)
terms_inserted ts i t h = ap terms_in (inserted_is ts i t h) ∙ map-append in_term (take i ts) (t ∷ drop i ts)

-- the terms with another in its place
pub terms_set : (ts : List WorkingTerm) (i : ℕ) (t : WorkingTerm) → i < length ts → terms_in (slice_set ts i t) ≡ terms_in (take i ts) ++ in_term t ∷ terms_in (drop (i + 1) ts)
terms_set ts i t h = ap terms_in (set_is ts i t h) ∙ map-append in_term (take i ts) (t ∷ drop (i + 1) ts)

module _ (r : RankingValue) where
  -- a term has an entry
  abbrev P : WorkingTerm → Type 0
  P t = IsEntry r t.coefficient

  pub entries_inserted : (ts : List WorkingTerm) (i : ℕ) (t : WorkingTerm) → i ≤ length ts → AreEntries r ts → P t → AreEntries r (insert ts i t)
  entries_inserted ts i t h k p = subst (AreEntries r) (sym (inserted_is ts i t h)) (All-append P (take i ts) (t ∷ drop i ts) (All-take P i ts k) (All-cons P t (drop i ts) p (All-drop P i ts k)))

  pub entries_set : (ts : List WorkingTerm) (i : ℕ) (t : WorkingTerm) → i < length ts → AreEntries r ts → P t → AreEntries r (slice_set ts i t)
  entries_set ts i t h k p = subst (AreEntries r) (sym (set_is ts i t h)) (All-append P (take i ts) (t ∷ drop (i + 1) ts) (All-take P i ts k) (All-cons P t (drop (i + 1) ts) p (All-drop P (i + 1) ts k)))

-- ---- the pass
module _ (r : RankingValue) (m : Product) (c : Polynomial Symbol) (ts : List WorkingTerm) (whole : Result (List Term) Refusal) (i : ℕ)
    (so_far : whole ≡ prepended (terms_in (take i ts)) (added (symbols_under r) m c (terms_in (drop i ts)))) where
  -- the terms before this one
  abbrev before : List Term
  before = terms_in (take i ts)

  module _ (t : WorkingTerm) (h : i < length ts) (e : t ≡ slice_index_or ts i t) where
    -- the terms behind this one
    abbrev rest : List Term
    rest = terms_in (drop (i + 1) ts)

    -- what is answered, by how the product compares with that here
    abbrev choice : Ordering → Result (List Term) Refusal
    choice o = match_ordering o (sum_answer (symbols_under r) [] c >>= (λ x. Ok ((m, x) ∷ in_term t ∷ rest))) (sum_answer (symbols_under r) t.coefficient.terms c >>= (λ x. Ok ((t.product.items, x) ∷ rest))) (added (symbols_under r) m c rest >>= (λ us. Ok (in_term t ∷ us)))

    -- the answer is that of the comparison here
    chosen : (o : Ordering) → product_cmp m t.product.items ≡ o → whole ≡ prepended before (choice o)
    chosen o f = so_far ∙ ap (λ l. prepended before (added (symbols_under r) m c (terms_in l))) (dropped ts i t h e) ∙ ap (λ o. prepended before (choice o)) f

    pub added_first : (x : Polynomial Symbol) → product_cmp m t.product.items ≡ Less → sum_answer (symbols_under r) [] c ≡ Ok x → whole ≡ Ok (before ++ (m, x) ∷ terms_in (drop i ts))
    added_first x f g =
        chosen Less f ∙ ap (λ (y : Result (Polynomial Symbol) Refusal). prepended before (y >>= (λ x. Ok ((m, x) ∷ in_term t ∷ rest)))) g
        ∙ ap (λ l. Ok (before ++ (m, x) ∷ terms_in l)) (sym (dropped ts i t h e))

    pub first_refused : (stop : PolyStop) → product_cmp m t.product.items ≡ Less → IsStop stop (sum_answer (symbols_under r) [] c) → IsStop stop whole
    first_refused stop f g = subst (IsStop stop) (sym (chosen Less f)) (stop_first stop (choice Less) _ (stop_first stop (sum_answer (symbols_under r) [] c) _ g))

    pub added_here : (x : Polynomial Symbol) → product_cmp m t.product.items ≡ Equal → sum_answer (symbols_under r) t.coefficient.terms c ≡ Ok x → whole ≡ Ok (before ++ (t.product.items, x) ∷ rest)
    added_here x f g = chosen Equal f ∙ ap (λ (y : Result (Polynomial Symbol) Refusal). prepended before (y >>= (λ x. Ok ((t.product.items, x) ∷ rest)))) g

    pub here_refused : (stop : PolyStop) → product_cmp m t.product.items ≡ Equal → IsStop stop (sum_answer (symbols_under r) t.coefficient.terms c) → IsStop stop whole
    here_refused stop f g = subst (IsStop stop) (sym (chosen Equal f)) (stop_first stop (choice Equal) _ (stop_first stop (sum_answer (symbols_under r) t.coefficient.terms c) _ g))

    pub passed_by : product_cmp m t.product.items ≡ Greater → whole ≡ prepended (terms_in (take (i + 1) ts)) (added (symbols_under r) m c rest)
    passed_by f =
        chosen Greater f ∙ prepended-cons before (in_term t) (added (symbols_under r) m c rest)
        ∙ ap (λ l. prepended l (added (symbols_under r) m c rest)) (sym (ap terms_in (taken_more ts i t h e) ∙ map-append in_term (take i ts) (t ∷ [])))

  -- the end
  module _ (h : length ts ≤ i) where
    all_taken : {A : Type 0} (xs : List A) (i : ℕ) → length xs ≤ i → take i xs ≡ xs
    all_taken [] zero h = refl
    all_taken [] (suc i) h = refl
    all_taken (x ∷ xs) zero h = absurd (omega (arith, h))
    all_taken (x ∷ xs) (suc i) h = ap (λ l. x ∷ l) (all_taken xs i (omega (arith, h)))

    at_end : whole ≡ prepended (terms_in ts) (sum_answer (symbols_under r) [] c >>= (λ x. Ok ((m, x) ∷ [])))
    at_end = so_far ∙ ap₂ (λ a b. prepended (terms_in a) (added (symbols_under r) m c (terms_in b))) (all_taken ts i h) (all_dropped ts i h)

    pub added_last : (x : Polynomial Symbol) → sum_answer (symbols_under r) [] c ≡ Ok x → whole ≡ Ok (terms_in ts ++ (m, x) ∷ [])
    added_last x g = at_end ∙ ap (λ (y : Result (Polynomial Symbol) Refusal). prepended (terms_in ts) (y >>= (λ x. Ok ((m, x) ∷ [])))) g

    pub last_refused : (stop : PolyStop) → IsStop stop (sum_answer (symbols_under r) [] c) → IsStop stop whole
    last_refused stop g = subst (IsStop stop) (sym at_end) (stop_first stop (sum_answer (symbols_under r) [] c >>= (λ x. Ok ((m, x) ∷ []))) _ (stop_first stop (sum_answer (symbols_under r) [] c) _ g))
