-- The derivatives up to a total order, in increasing order.
use Rattle.std.specs.List.{flat_map, range_with_len}
use Rattle.std.specs.Prelude.{replicate}
use Rattle.std.proofs.Common.{◌≡◌, ◌<◌, ◌≤◌, ◌+◌, ◌-◌, ◌∙◌, inl, inr, ℕ, zero, suc, true, List, [], ◌∷◌, ◌++◌, map, length, take, drop, sum, All, IsTrue, slice_index_or, refl, sym, ap, ap₂, subst, arith}
use Rattle.std.specs.Prelude.{⊤}
use Rattle.std.proofs.lemmas.List.{length-replicate}
use Rattle.std.proofs.lemmas.List.Sums.{sum_by-cons}
use Rattle.std.specs.declared.cmp.Ordering.{Ordering}
use Rattle.std.specs.declared.cmp.Ordering.TheVariants.{Less, Equal, Greater}
use Rattle.std.specs.Ordering.{match_ordering}
use Rattle.dz_algebra.specs.Order.{IsOrder}
use Rattle.dz_algebra.proofs.Orders.{less_reversed}
use Rattle.dz_rank.specs.Rankings.{RankingValue, ranking_cmp}
use Rattle.dz_rank.specs.Symbols.{BelongsTo, is_derivative, total_order}
use Rattle.dz_rank.specs.declared.symbols.Symbol.{Symbol}
use Rattle.dz_rank.specs.declared.symbols.Symbol.TheVariants.{Independent, Derivative}
use Rattle.dz_monomials.proofs.SymbolLaws.{ranking_order}
use Rattle.dz_monomials.specs.Lists.{AllOf}
use Rattle.dz_parametric.specs.Orders.{exponents_to, put, rising, derivatives_to}
use Rattle.dz_parametric.proofs.Members.{In, all_flat_map, all_map, all_range, in_flat_map, in_map, in_range}

-- ---- exponents
in_exponents : (n m : ℕ) (ks : List ℕ) → length ks ≡ n → sum ks ≤ m → In ks (exponents_to n m)
in_exponents zero m [] e h = inl refl
in_exponents zero m (k ∷ ks) e h = absurd (omega arith)
in_exponents (suc n) m [] e h = absurd (omega arith)
in_exponents (suc n) m (k ∷ ks) e h =
    let parts : k + sum ks ≤ m = omega (arith, h, sum_by-cons (λ x. x) k ks) in
    in_flat_map (λ k. map (λ (ks : List ℕ). k ∷ ks) (exponents_to n (m - k))) (0 + k) (k ∷ ks) (range_with_len 0 (m + 1)) (in_range 0 (m + 1) k (omega arith))
    (subst (λ j. In (k ∷ ks) (map (λ (ks : List ℕ). j ∷ ks) (exponents_to n (m - j)))) (let f : k ≡ 0 + k = omega arith in f) (in_map (λ (ks : List ℕ). k ∷ ks) ks (exponents_to n (m - k)) (in_exponents n (m - k) ks (omega arith) (omega arith))))

abbrev pub Exponents : ℕ → ℕ → List ℕ → Type 0
Exponents n m ks = (length ks ≡ n) × (sum ks ≤ m)

pub all_exponents : (n m : ℕ) → AllOf (Exponents n m) (exponents_to n m)
all_exponents zero m = ((refl, omega arith), tt)
all_exponents (suc n) m =
    all_flat_map (λ k. map (λ (ks : List ℕ). k ∷ ks) (exponents_to n (m - k))) (Exponents (suc n) m) (range_with_len 0 (m + 1))
    (all_range (λ k. AllOf (Exponents (suc n) m) (map (λ (ks : List ℕ). k ∷ ks) (exponents_to n (m - k)))) 0 (m + 1) (λ k l h. all_map (λ (ks : List ℕ). k ∷ ks) (Exponents (suc n) m) (exponents_to n (m - k)) (more k (exponents_to n (m - k)) (omega arith) (all_exponents n (m - k)))))
  where
    more : (k : ℕ) (xs : List (List ℕ)) → k ≤ m → AllOf (Exponents n (m - k)) xs → AllOf (λ ks. Exponents (suc n) m (k ∷ ks)) xs
    more k [] l h = tt
    more k (ks ∷ xs) l h = ((ap suc h.0.0, omega (arith, h.0.1, l, sum_by-cons (λ x. x) k ks)), more k xs l h.1)

-- ---- zeros behind
abbrev pub Zeros : List ℕ → Type 0
Zeros ks = All (λ k. k ≡ 0) ks

pub tail : (k : ℕ) (ks : List ℕ) → Zeros (k ∷ ks) → Zeros ks
tail k ks p = λ i d h. p (suc i) d (omega arith)

pub filled : (n l : ℕ) (ks : List ℕ) → length ks ≡ l → n ≤ l → Zeros (drop n ks) → take n ks ++ replicate (l - n) 0 ≡ ks
filled zero zero [] e h z = refl
filled zero zero (k ∷ ks) e h z = absurd (omega arith)
filled zero (suc l) [] e h z = absurd (omega arith)
filled zero (suc l) (k ∷ ks) e h z = ap (λ j. replicate j 0) (let s : suc l - 0 ≡ suc (l - 0) = omega arith in s) ∙ ap₂ (λ (x : ℕ) (xs : List ℕ). x ∷ xs) (sym (z 0 0 (omega arith))) (filled zero l ks (omega arith) (omega arith) (tail k ks z))
filled (suc n) zero ks e h z = absurd (omega arith)
filled (suc n) (suc l) [] e h z = absurd (omega arith)
filled (suc n) (suc l) (k ∷ ks) e h z = ap (λ xs. k ∷ xs) (let s : suc l - suc n ≡ l - n = omega arith in ap (λ j. take n ks ++ replicate j 0) s ∙ filled n l ks (omega arith) (omega arith) z)

pub length_filled : (ks : List ℕ) (j : ℕ) → length (ks ++ replicate j 0) ≡ length ks + j
length_filled [] j = length-replicate j 0 ∙ (let e : j ≡ 0 + j = omega arith in e)
length_filled (k ∷ ks) j = ap suc (length_filled ks j) ∙ (let e : suc (length ks + j) ≡ suc (length ks) + j = omega arith in e)

sum_filled : (ks : List ℕ) (j : ℕ) → sum (ks ++ replicate j 0) ≡ sum ks
sum_filled [] zero = refl
sum_filled [] (suc j) = omega (arith, sum_by-cons (λ x. x) 0 (replicate j 0), sum_filled [] j)
sum_filled (k ∷ ks) j = omega (arith, sum_by-cons (λ x. x) k (ks ++ replicate j 0), sum_by-cons (λ x. x) k ks, sum_filled ks j)

zeros_alone : (j i d : ℕ) → i < length {A = ℕ} (replicate j 0) → slice_index_or (replicate j 0) i d ≡ 0
zeros_alone zero i d h = absurd (omega arith)
zeros_alone (suc j) zero d h = refl
zeros_alone (suc j) (suc i) d h = zeros_alone j i d (omega arith)

pub zeros_behind : (n j : ℕ) (ks : List ℕ) → length ks ≡ n → Zeros (drop n (ks ++ replicate j 0))
zeros_behind zero j [] e = zeros_alone j
zeros_behind zero j (k ∷ ks) e = absurd (omega arith)
zeros_behind (suc n) j [] e = absurd (omega arith)
zeros_behind (suc n) j (k ∷ ks) e = zeros_behind n j ks (omega arith)

-- ---- rising lists
module _ {cmp : Symbol → Symbol → Ordering} (order : IsOrder cmp) where
  in_put_first : (s : Symbol) (ts : List Symbol) → In s (put cmp s ts)
  in_put_first s [] = inl refl
  in_put_first s (t ∷ ts) = by_order (cmp s t) refl (in_put_first s ts)
    where
      by_order : (o : Ordering) → cmp s t ≡ o → In s (put cmp s ts) → In s (match_ordering o (s ∷ t ∷ ts) (t ∷ ts) (t ∷ put cmp s ts))
      by_order Less e h = inl refl
      by_order Equal e h = inl (sym (order.same s t e))
      by_order Greater e h = inr h

  in_put : (s x : Symbol) (ts : List Symbol) → In x ts → In x (put cmp s ts)
  in_put s x [] h = absurd h
  in_put s x (t ∷ ts) h = by_order (cmp s t) h (λ k. in_put s x ts k)
    where
      by_order : (o : Ordering) → In x (t ∷ ts) → (In x ts → In x (put cmp s ts)) → In x (match_ordering o (s ∷ t ∷ ts) (t ∷ ts) (t ∷ put cmp s ts))
      by_order Less h f = inr h
      by_order Equal h f = h
      by_order Greater (inl e) f = inl e
      by_order Greater (inr k) f = inr (f k)

  pub in_rising : (x : Symbol) (ss : List Symbol) → In x ss → In x (rising cmp ss)
  in_rising x [] h = absurd h
  in_rising x (s ∷ ss) (inl e) = subst (λ y. In y (put cmp s (rising cmp ss))) e (in_put_first s (rising cmp ss))
  in_rising x (s ∷ ss) (inr h) = in_put s x (rising cmp ss) (in_rising x ss h)

  all_put : (P : Symbol → Type 0) (s : Symbol) (ts : List Symbol) → P s → AllOf P ts → AllOf P (put cmp s ts)
  all_put P s [] h k = (h, tt)
  all_put P s (t ∷ ts) h k = by_order (cmp s t) (all_put P s ts h k.1)
    where
      by_order : (o : Ordering) → AllOf P (put cmp s ts) → AllOf P (match_ordering o (s ∷ t ∷ ts) (t ∷ ts) (t ∷ put cmp s ts))
      by_order Less l = (h, k)
      by_order Equal l = k
      by_order Greater l = (k.0, l)

  pub all_rising : (P : Symbol → Type 0) (ss : List Symbol) → AllOf P ss → AllOf P (rising cmp ss)
  all_rising P [] h = tt
  all_rising P (s ∷ ss) h = all_put P s (rising cmp ss) h.0 (all_rising P ss h.1)

  -- a derivative is less than all that follow it
  abbrev pub IsOrdered : List Symbol → Type 0
  IsOrdered [] = ⊤
  IsOrdered (s ∷ ss) = AllOf (λ t. is_derivative s ≡ true → cmp s t ≡ Less) ss × IsOrdered ss

  less_all : (s t : Symbol) (ts : List Symbol) → cmp s t ≡ Less → is_derivative t ≡ true → AllOf (λ u. is_derivative t ≡ true → cmp t u ≡ Less) ts → AllOf (λ u. is_derivative s ≡ true → cmp s u ≡ Less) ts
  less_all s t [] e d h = tt
  less_all s t (u ∷ ts) e d h = ((λ z. order.total.trans s t u e (h.0 d)), less_all s t ts e d h.1)

  ordered_put : (s : Symbol) (ts : List Symbol) → AllOf (λ t. is_derivative t ≡ true) ts → IsOrdered ts → IsOrdered (put cmp s ts)
  ordered_put s [] d h = (tt, tt)
  ordered_put s (t ∷ ts) d h = by_order (cmp s t) refl (ordered_put s ts d.1 h.1)
    where
      by_order : (o : Ordering) → cmp s t ≡ o → IsOrdered (put cmp s ts) → IsOrdered (match_ordering o (s ∷ t ∷ ts) (t ∷ ts) (t ∷ put cmp s ts))
      by_order Less e k = (((λ z. e), less_all s t ts e d.0 h.0), h)
      by_order Equal e k = h
      by_order Greater e k = (all_put (λ u. is_derivative t ≡ true → cmp t u ≡ Less) s ts (λ z. less_reversed order.total s t e) h.0, k)

  pub ordered_rising : (ss : List Symbol) → AllOf (λ t. is_derivative t ≡ true) ss → IsOrdered (rising cmp ss)
  ordered_rising [] d = tt
  ordered_rising (s ∷ ss) d = ordered_put s (rising cmp ss) (all_rising (λ t. is_derivative t ≡ true) ss d.1) (ordered_rising ss d.1)

-- ---- the derivatives of a ranking
module _ (r : RankingValue) (few : r.signature.independents ≤ 4) (m : ℕ) where
  abbrev made : ℕ → List ℕ → Symbol
  made u ks = Derivative u (record { counts = ks ++ replicate (4 - r.signature.independents) 0 })

  -- what is known of each
  pub record IsListed (s : Symbol) : Type 0 where
    pub belongs : BelongsTo r.signature s
    pub within : total_order s ≤ m

  pub all_derivatives : AllOf (λ s. IsListed s × (is_derivative s ≡ true)) (derivatives_to r m)
  unfolding derivatives_to ranking_cmp
  all_derivatives =
      all_rising (ranking_order r) (λ s. IsListed s × (is_derivative s ≡ true)) (flat_map (λ u. map (made u) (exponents_to r.signature.independents m)) (range_with_len 0 r.signature.dependents))
      (all_flat_map (λ u. map (made u) (exponents_to r.signature.independents m)) (λ s. IsListed s × (is_derivative s ≡ true)) (range_with_len 0 r.signature.dependents)
      (all_range (λ u. AllOf (λ s. IsListed s × (is_derivative s ≡ true)) (map (made u) (exponents_to r.signature.independents m))) 0 r.signature.dependents
      (λ u l h. all_map (made u) (λ s. IsListed s × (is_derivative s ≡ true)) (exponents_to r.signature.independents m) (each u (omega arith) (exponents_to r.signature.independents m) (all_exponents r.signature.independents m)))))
    where
      each : (u : ℕ) → u < r.signature.dependents → (xs : List (List ℕ)) → AllOf (Exponents r.signature.independents m) xs → AllOf (λ ks. IsListed (made u ks) × (is_derivative (made u ks) ≡ true)) xs
      each u l [] h = tt
      each u l (ks ∷ xs) h = (
        (
          record {
            belongs = (l, record { size = length_filled ks (4 - r.signature.independents) ∙ omega (arith, few, h.0.0); zeros = zeros_behind r.signature.independents (4 - r.signature.independents) ks h.0.0 });
            within = omega (arith, sum_filled ks (4 - r.signature.independents), h.0.1);
          },
          refl,
        ),
        each u l xs h.1,
      )

  pub in_derivatives_to : (v : Symbol) → IsTrue (is_derivative v) → BelongsTo r.signature v → total_order v ≤ m → In v (derivatives_to r m)
  unfolding derivatives_to ranking_cmp
  in_derivatives_to (Independent i) d b h = cc
  in_derivatives_to (Derivative u t) d b h =
      let n = r.signature.independents in
      let full = filled n 4 t.counts b.1.size few b.1.zeros in
      in_rising (ranking_order r) (Derivative u t) (flat_map (λ u. map (made u) (exponents_to n m)) (range_with_len 0 r.signature.dependents))
      (in_flat_map (λ u. map (made u) (exponents_to n m)) (0 + u) (Derivative u t) (range_with_len 0 r.signature.dependents) (in_range 0 r.signature.dependents u b.0)
      (subst (λ j. In (Derivative u t) (map (made j) (exponents_to n m))) (let f : u ≡ 0 + u = omega arith in f)
      (subst (λ ks. In (Derivative u (record { counts = ks })) (map (made u) (exponents_to n m))) full
      (in_map (made u) (take n t.counts) (exponents_to n m) (in_exponents n m (take n t.counts) (front n t.counts (omega (arith, b.1.size, few))) (omega (arith, h, front_sum n t.counts)))))))
    where
      front : (n : ℕ) (ks : List ℕ) → n ≤ length ks → length (take n ks) ≡ n
      front zero ks h = refl
      front (suc n) [] h = absurd (omega arith)
      front (suc n) (k ∷ ks) h = ap suc (front n ks (omega arith))

      front_sum : (n : ℕ) (ks : List ℕ) → sum (take n ks) ≤ sum ks
      front_sum zero ks = omega arith
      front_sum (suc n) [] = omega arith
      front_sum (suc n) (k ∷ ks) = omega (arith, front_sum n ks, sum_by-cons (λ x. x) k ks, sum_by-cons (λ x. x) k (take n ks))

  -- they rise
  pub rises : IsOrdered (ranking_order r) (derivatives_to r m)
  unfolding derivatives_to ranking_cmp
  rises = ordered_rising (ranking_order r) (flat_map (λ u. map (made u) (exponents_to r.signature.independents m)) (range_with_len 0 r.signature.dependents))
      (all_flat_map (λ u. map (made u) (exponents_to r.signature.independents m)) (λ s. is_derivative s ≡ true) (range_with_len 0 r.signature.dependents)
      (all_range (λ u. AllOf (λ s. is_derivative s ≡ true) (map (made u) (exponents_to r.signature.independents m))) 0 r.signature.dependents (λ u l h. all_map (made u) (λ s. is_derivative s ≡ true) (exponents_to r.signature.independents m) (each u (exponents_to r.signature.independents m)))))
    where
      each : (u : ℕ) (xs : List (List ℕ)) → AllOf (λ ks. is_derivative (made u ks) ≡ true) xs
      each u [] = tt
      each u (ks ∷ xs) = (refl, each u xs)
