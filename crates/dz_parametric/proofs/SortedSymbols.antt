-- Derivatives without a repeat, sorted, are the rising list of them.
use Rattle.std.specs.List.{flat_map, range_with_len, swap}
use Rattle.std.specs.Prelude.{⊤}
use Rattle.std.proofs.Common.{◌≡◌, ◌⊎◌, inl, inr, ◌<◌, ◌+◌, ◌-◌, ◌∙◌, ℕ, zero, suc, true, false, List, [], ◌∷◌, ◌++◌, map, length, slice_index_or, refl, sym, ap, subst, arith}
use Rattle.std.specs.List.{Contains}
use Rattle.std.specs.List.Sorted.{IsPermutation, IsSorted}
use Rattle.std.specs.Ordering.{is_lt}
use Rattle.std.specs.declared.cmp.Ordering.{Ordering}
use Rattle.std.specs.declared.cmp.Ordering.TheVariants.{Less, Equal, Greater}
use Rattle.std.proofs.lemmas.Cmp.{tied_itself}
use Rattle.std.proofs.lemmas.List.{length-append}
use Rattle.std.proofs.lemmas.List.Edits.{length-swap, swapped_from_swap}
use Rattle.std.proofs.lemmas.List.Sorted.{Contains-permutation, IsPermutation-keeps, IsPermutation-sym, ranks_by, sorted_far}
use Rattle.dz_algebra.specs.Order.{IsOrder}
use Rattle.dz_algebra.proofs.Orders.{less_reversed}
use Rattle.dz_rank.specs.Symbols.{is_derivative}
use Rattle.dz_rank.specs.declared.symbols.Symbol.{Symbol}
use Rattle.dz_rank.specs.declared.symbols.Symbol.TheVariants.{Derivative}
use Rattle.dz_monomials.specs.Lists.{AllOf}
use Rattle.dz_diff.proofs.Places.{some_parts}
use Rattle.dz_parametric.specs.Orders.{IsRising, exponents_to, rising}
use Rattle.dz_parametric.proofs.Members.{In, all_range, of_member}
use Rattle.dz_parametric.proofs.OrderLists.{IsOrdered, all_rising, in_rising, ordered_rising}

-- ---- lists without a repeat
abbrev pub NoRepeat : {A : Type 0} → List A → Type 0
NoRepeat [] = ⊤
NoRepeat (x ∷ xs) = (In x xs → ⊥) × NoRepeat xs

no_repeat_append : {A : Type 0} (xs ys : List A) → NoRepeat xs → NoRepeat ys → ((x : A) → In x xs → In x ys → ⊥) → NoRepeat (xs ++ ys)
no_repeat_append [] ys h k f = k
no_repeat_append (x ∷ xs) ys h k f = (
  (λ i. elim (some_parts (λ y. y ≡ x) xs ys i) [ inl a ↦ h.0 a | inr b ↦ f x (inl refl) b ]),
  no_repeat_append xs ys h.1 k (λ y a b. f y (inr a) b),
)

-- where a member of a list of values comes from
in_mapped : {A B : Type 0} (f : A → B) (y : B) (xs : List A) → In y (map f xs) → (x : A) × In x xs × (f x ≡ y)
in_mapped f y [] h = absurd h
in_mapped f y (x ∷ xs) (inl e) = (x, inl refl, e)
in_mapped f y (x ∷ xs) (inr h) = let k = in_mapped f y xs h in (k.0, inr k.1, k.2)

in_flat : {A B : Type 0} (f : A → List B) (y : B) (xs : List A) → In y (flat_map f xs) → (x : A) × In x xs × In y (f x)
in_flat f y [] h = absurd h
in_flat f y (x ∷ xs) h = elim (some_parts (λ z. z ≡ y) (f x) (flat_map f xs) h) [
  | inl a ↦ (x, inl refl, a)
  | inr b ↦ let k = in_flat f y xs b in (k.0, inr k.1, k.2)
]

no_repeat_map : {A B : Type 0} (f : A → B) (xs : List A) → ((x y : A) → f x ≡ f y → x ≡ y) → NoRepeat xs → NoRepeat (map f xs)
no_repeat_map f [] same h = tt
no_repeat_map f (x ∷ xs) same h = (
  (λ i. let k = in_mapped f (f x) xs i in h.0 (subst (λ z. In z xs) (same k.0 x k.2) k.1)),
  no_repeat_map f xs same h.1,
)

no_repeat_flat : {A B : Type 0} (f : A → List B) (xs : List A) → NoRepeat xs → ((x : A) → NoRepeat (f x)) → ((x z : A) (y : B) → In y (f x) → In y (f z) → x ≡ z) → NoRepeat (flat_map f xs)
no_repeat_flat f [] h each apart = tt
no_repeat_flat f (x ∷ xs) h each apart =
    no_repeat_append (f x) (flat_map f xs) (each x) (no_repeat_flat f xs h.1 each apart)
    (λ y a b. let k = in_flat f y xs b in h.0 (subst (λ z. In z xs) (apart k.0 x y k.2 a) k.1))

no_repeat_range : (k n : ℕ) → NoRepeat (range_with_len k n)
no_repeat_range k zero = tt
no_repeat_range k (suc n) = (
  (λ i. of_member (λ y. y ≡ k → ⊥) k (range_with_len (k + 1) n) (all_range (λ y. y ≡ k → ⊥) (k + 1) n (λ j a b e. omega arith)) i refl),
  no_repeat_range (k + 1) n,
)

heads_same : {A : Type 0} (x y : A) (xs ys : List A) → x ∷ xs ≡ y ∷ ys → x ≡ y
heads_same x y xs ys e = cc

tails_same : {A : Type 0} (x y : A) (xs ys : List A) → x ∷ xs ≡ y ∷ ys → xs ≡ ys
tails_same x y xs ys e = cc

no_repeat_exponents : (n m : ℕ) → NoRepeat (exponents_to n m)
no_repeat_exponents zero m = ((λ i. absurd i), tt)
no_repeat_exponents (suc n) m =
    no_repeat_flat (λ k. map (λ (ks : List ℕ). k ∷ ks) (exponents_to n (m - k))) (range_with_len 0 (m + 1)) (no_repeat_range 0 (m + 1))
    (λ k. no_repeat_map (λ (ks : List ℕ). k ∷ ks) (exponents_to n (m - k)) (λ x y e. tails_same k k x y e) (no_repeat_exponents n (m - k)))
    (λ k j ys a b.
    let x = in_mapped (λ (ks : List ℕ). k ∷ ks) ys (exponents_to n (m - k)) a in
    let z = in_mapped (λ (ks : List ℕ). j ∷ ks) ys (exponents_to n (m - j)) b in
    heads_same k j x.0 z.0 (x.2 ∙ sym z.2))

-- ---- the derivatives that have exponents
cancelled : (xs ys zs : List ℕ) → length xs ≡ length ys → xs ++ zs ≡ ys ++ zs → xs ≡ ys
cancelled [] [] zs l e = refl
cancelled [] (y ∷ ys) zs l e = absurd (omega arith)
cancelled (x ∷ xs) [] zs l e = absurd (omega arith)
cancelled (x ∷ xs) (y ∷ ys) zs l e =
    let h = heads_same x y (xs ++ zs) (ys ++ zs) e in
    let t = cancelled xs ys zs (omega arith) (tails_same x y (xs ++ zs) (ys ++ zs) e) in
    ap (λ a. a ∷ xs) h ∙ ap (λ zs. y ∷ zs) t

same_front : (xs ys zs : List ℕ) → xs ++ zs ≡ ys ++ zs → xs ≡ ys
same_front xs ys zs e =
    let a : length (xs ++ zs) ≡ length (ys ++ zs) = ap length e in
    cancelled xs ys zs (omega (arith, a, length-append xs zs, length-append ys zs)) e

abbrev counts_in : Symbol → List ℕ
counts_in (Derivative u t) = t.counts
counts_in s = []

abbrev dependent_in : ℕ → Symbol → ℕ
dependent_in d (Derivative u t) = u
dependent_in d s = d

module _ (zs : List ℕ) where
  abbrev with_zeros : ℕ → List ℕ → Symbol
  with_zeros u ks = Derivative u (record { counts = ks ++ zs })

  same_exponents : (u : ℕ) (ks ls : List ℕ) → with_zeros u ks ≡ with_zeros u ls → ks ≡ ls
  same_exponents u ks ls e = same_front ks ls zs (ap counts_in e)

  same_dependent : (u v : ℕ) (ks ls : List ℕ) → with_zeros u ks ≡ with_zeros v ls → u ≡ v
  same_dependent u v ks ls e = ap (dependent_in u) e

  pub no_repeat_derivatives : (n m dependents : ℕ) → NoRepeat (flat_map (λ u. map (with_zeros u) (exponents_to n m)) (range_with_len 0 dependents))
  no_repeat_derivatives n m dependents =
      no_repeat_flat (λ u. map (with_zeros u) (exponents_to n m)) (range_with_len 0 dependents) (no_repeat_range 0 dependents)
      (λ u. no_repeat_map (with_zeros u) (exponents_to n m) (same_exponents u) (no_repeat_exponents n m))
      (λ u v y a b.
      let x = in_mapped (with_zeros u) y (exponents_to n m) a in
      let z = in_mapped (with_zeros v) y (exponents_to n m) b in
      same_dependent u v x.0 z.0 (x.2 ∙ sym z.2))

-- ---- no repeat, by indices
abbrev IsDistinct : List Symbol → Type 0
IsDistinct xs = (i j : ℕ) (d : Symbol) → i < length xs → j < length xs → slice_index_or xs i d ≡ slice_index_or xs j d → i ≡ j

in_at : (xs : List Symbol) (i : ℕ) (d : Symbol) → i < length xs → In (slice_index_or xs i d) xs
in_at [] i d h = absurd (omega arith)
in_at (x ∷ xs) zero d h = inl refl
in_at (x ∷ xs) (suc i) d h = inr (in_at xs i d (omega arith))

no_repeat_distinct : (xs : List Symbol) → NoRepeat xs → IsDistinct xs
no_repeat_distinct [] h i j d k l e = absurd (omega arith)
no_repeat_distinct (x ∷ xs) h zero zero d k l e = refl
no_repeat_distinct (x ∷ xs) h zero (suc j) d k l e = absurd (h.0 (subst (λ z. In z xs) (sym e) (in_at xs j d (omega arith))))
no_repeat_distinct (x ∷ xs) h (suc i) zero d k l e = absurd (h.0 (subst (λ z. In z xs) e (in_at xs i d (omega arith))))
no_repeat_distinct (x ∷ xs) h (suc i) (suc j) d k l e = ap suc (no_repeat_distinct xs h.1 i j d (omega arith) (omega arith) e)

equal_or_not : (a b : ℕ) → (a ≡ b) ⊎ (a ≡ b → ⊥)
equal_or_not zero zero = inl refl
equal_or_not zero (suc b) = inr (λ e. omega arith)
equal_or_not (suc a) zero = inr (λ e. omega arith)
equal_or_not (suc a) (suc b) = elim (equal_or_not a b) [ inl e ↦ inl (ap suc e) | inr n ↦ inr (λ e. n (omega arith)) ]

-- where a place comes from when two are exchanged
record Exchanged (i j a : ℕ) : Type 0 where
  from : ℕ
  by : ((a ≡ i) × (from ≡ j)) ⊎ (((a ≡ j) × (from ≡ i)) ⊎ ((a ≡ i → ⊥) × (a ≡ j → ⊥) × (from ≡ a)))

exchanged_apart : (i j a b : ℕ) (x : Exchanged i j a) (y : Exchanged i j b) → x.from ≡ y.from → a ≡ b
exchanged_apart i j a b x y e = by_first x.by
  where
    by_second : (c : ℕ) → c ≡ y.from → ((a ≡ i) × (c ≡ j)) ⊎ (((a ≡ j) × (c ≡ i)) ⊎ ((a ≡ i → ⊥) × (a ≡ j → ⊥) × (c ≡ a))) → ((b ≡ i) × (y.from ≡ j)) ⊎ (((b ≡ j) × (y.from ≡ i)) ⊎ ((b ≡ i → ⊥) × (b ≡ j → ⊥) × (y.from ≡ b))) → a ≡ b
    by_second c f (inl p) (inl q) = p.0 ∙ sym q.0
    by_second c f (inl p) (inr (inl q)) = p.0 ∙ sym q.1 ∙ sym f ∙ p.1 ∙ sym q.0
    by_second c f (inl p) (inr (inr q)) = absurd (q.1 (sym q.2 ∙ sym f ∙ p.1))
    by_second c f (inr (inl p)) (inl q) = p.0 ∙ sym q.1 ∙ sym f ∙ p.1 ∙ sym q.0
    by_second c f (inr (inl p)) (inr (inl q)) = p.0 ∙ sym q.0
    by_second c f (inr (inl p)) (inr (inr q)) = absurd (q.0 (sym q.2 ∙ sym f ∙ p.1))
    by_second c f (inr (inr p)) (inl q) = absurd (p.1 (sym p.2 ∙ f ∙ q.1))
    by_second c f (inr (inr p)) (inr (inl q)) = absurd (p.0 (sym p.2 ∙ f ∙ q.1))
    by_second c f (inr (inr p)) (inr (inr q)) = sym p.2 ∙ f ∙ q.2

    by_first : ((a ≡ i) × (x.from ≡ j)) ⊎ (((a ≡ j) × (x.from ≡ i)) ⊎ ((a ≡ i → ⊥) × (a ≡ j → ⊥) × (x.from ≡ a))) → a ≡ b
    by_first p = by_second x.from e p y.by

distinct_swap : (xs : List Symbol) (i j : ℕ) → i < length xs → j < length xs → IsDistinct xs → IsDistinct (swap xs i j)
distinct_swap xs i j k l h a b d inside within e =
    let n = length-swap xs i j in
    let s = swapped_from_swap xs (swap xs i j) i j d k l refl in
    let x = from_place a in
    let y = from_place b in
    exchanged_apart i j a b x.0 y.0 (h x.0.from y.0.from d (x.1 (omega arith)) (y.1 (omega arith)) (sym x.2 ∙ e ∙ y.2))
  where
    from_place : (a : ℕ) → (x : Exchanged i j a) × (a < length xs → x.from < length xs) × (slice_index_or (swap xs i j) a d ≡ slice_index_or xs x.from d)
    from_place a =
        let s = swapped_from_swap xs (swap xs i j) i j d k l refl in
        elim (equal_or_not a i) [
          | inl f ↦ (record { from = j; by = inl (f, refl) }, (λ h. l), ap (λ c. slice_index_or (swap xs i j) c d) f ∙ s.0)
          | inr f ↦ elim (equal_or_not a j) [
            | inl g ↦ (record { from = i; by = inr (inl (g, refl)) }, (λ h. k), ap (λ c. slice_index_or (swap xs i j) c d) g ∙ s.1)
            | inr g ↦ (record { from = a; by = inr (inr (f, g, refl)) }, (λ h. h), s.2 a f g)
          ]
        ]

distinct_sorted : (xs ys : List Symbol) → IsDistinct xs → IsPermutation xs ys → IsDistinct ys
distinct_sorted xs ys h p = IsPermutation-keeps xs IsDistinct h distinct_swap ys p

-- ---- membership
pub in_contained : (xs : List Symbol) (s : Symbol) → In s xs → Contains xs s
in_contained [] s h = absurd h
in_contained (x ∷ xs) s (inl e) = (0, omega arith, e)
in_contained (x ∷ xs) s (inr h) = let k = in_contained xs s h in let l = k.1 in (suc k.0, omega arith, k.2)

pub contained_in : (xs : List Symbol) (s : Symbol) → Contains xs s → In s xs
contained_in xs s h = subst (λ z. In z xs) h.2 (in_at xs h.0 s h.1)

pub all_in : (xs : List Symbol) → AllOf (λ s. In s xs) xs
all_in [] = tt
all_in (x ∷ xs) = (inl refl, more xs (all_in xs))
  where
    each : (P Q : Symbol → Type 0) (ys : List Symbol) → ((s : Symbol) → P s → Q s) → AllOf P ys → AllOf Q ys
    each P Q [] f h = tt
    each P Q (y ∷ ys) f h = (f y h.0, each P Q ys f h.1)

    more : (ys : List Symbol) → AllOf (λ s. In s xs) ys → AllOf (λ s. In s (x ∷ xs)) ys
    more ys h = each (λ s. In s xs) (λ s. In s (x ∷ xs)) ys (λ s k. inr k) h

-- ---- rising lists
module _ {cmp : Symbol → Symbol → Ordering} (order : IsOrder cmp) where
  rising_from_pairs : (xs : List Symbol) → ((i j : ℕ) (d : Symbol) → i < j → j < length xs → cmp (slice_index_or xs i d) (slice_index_or xs j d) ≡ Less) → IsRising cmp xs
  rising_from_pairs [] h = tt
  rising_from_pairs (x ∷ xs) h = (first xs (λ j d l. h 0 (suc j) d (omega arith) (omega arith)), rising_from_pairs xs (λ i j d k l. h (suc i) (suc j) d (omega arith) (omega arith)))
    where
      first : (ys : List Symbol) → ((j : ℕ) (d : Symbol) → j < length ys → cmp x (slice_index_or ys j d) ≡ Less) → AllOf (λ t. cmp x t ≡ Less) ys
      first [] f = tt
      first (y ∷ ys) f = (f 0 y (omega arith), first ys (λ j d l. f (suc j) d (omega arith)))

  sorted_rises : (xs : List Symbol) → IsSorted cmp xs → IsDistinct xs → IsRising cmp xs
  sorted_rises xs up apart = rising_from_pairs xs pairs
    where
      pairs : (i j : ℕ) (d : Symbol) → i < j → j < length xs → cmp (slice_index_or xs i d) (slice_index_or xs j d) ≡ Less
      pairs i j d k l = by_order (cmp (slice_index_or xs i d) (slice_index_or xs j d)) refl (sorted_far (λ x y. is_lt (cmp x y)) (ranks_by order.total (λ x. x)) xs up i j d (omega arith) l)
        where
          by_order : (o : Ordering) → cmp (slice_index_or xs i d) (slice_index_or xs j d) ≡ o → is_lt (cmp (slice_index_or xs j d) (slice_index_or xs i d)) ≡ false → o ≡ Less
          by_order Less e h = refl
          by_order Equal e h = absurd (let f = apart i j d (omega arith) l (order.same (slice_index_or xs i d) (slice_index_or xs j d) e) in omega arith)
          by_order Greater e h = absurd (let f : true ≡ false = sym (ap is_lt (less_reversed order.total (slice_index_or xs i d) (slice_index_or xs j d) e)) ∙ h in cc)

  less_not_same : (s t : Symbol) → s ≡ t → cmp s t ≡ Less → ⊥
  less_not_same s t e h = let n = tied_itself order.total s in let f : cmp s s ≡ Less = ap (cmp s) e ∙ h in cc

  -- rising lists with the same members are the same
  pub same_rising : (xs ys : List Symbol) → IsRising cmp xs → IsRising cmp ys → ((s : Symbol) → In s xs → In s ys) → ((s : Symbol) → In s ys → In s xs) → xs ≡ ys
  same_rising [] [] a b f g = refl
  same_rising [] (y ∷ ys) a b f g = absurd (g y (inl refl))
  same_rising (x ∷ xs) [] a b f g = absurd (f x (inl refl))
  same_rising (x ∷ xs) (y ∷ ys) a b f g =
      let e = heads (f x (inl refl)) (g y (inl refl)) in
      ap (λ z. z ∷ xs) e ∙ ap (λ zs. y ∷ zs) (same_rising xs ys a.1 b.1
      (λ s h. behind y ys (f s (inr h)) (λ k. less_not_same x s (e ∙ k) (of_member (λ t. cmp x t ≡ Less) s xs a.0 h)))
      (λ s h. behind x xs (g s (inr h)) (λ k. less_not_same y s (sym e ∙ k) (of_member (λ t. cmp y t ≡ Less) s ys b.0 h))))
    where
      behind : {s : Symbol} (z : Symbol) (zs : List Symbol) → In s (z ∷ zs) → (z ≡ s → ⊥) → In s zs
      behind z zs (inl e) n = absurd (n e)
      behind z zs (inr h) n = h

      heads : In x (y ∷ ys) → In y (x ∷ xs) → x ≡ y
      heads (inl e) h = sym e
      heads (inr h) (inl e) = e
      heads (inr h) (inr k) =
          absurd (less_not_same x x refl (order.total.trans x y x (of_member (λ t. cmp x t ≡ Less) y xs a.0 k) (of_member (λ t. cmp y t ≡ Less) x ys b.0 h)))

  pub ordered_rises : (ss : List Symbol) → AllOf (λ t. is_derivative t ≡ true) ss → IsOrdered order ss → IsRising cmp ss
  ordered_rises [] d h = tt
  ordered_rises (s ∷ ss) d h = (each ss h.0, ordered_rises ss d.1 h.1)
    where
      each : (ts : List Symbol) → AllOf (λ t. is_derivative s ≡ true → cmp s t ≡ Less) ts → AllOf (λ t. cmp s t ≡ Less) ts
      each [] h = tt
      each (t ∷ ts) h = (h.0 d.0, each ts h.1)

  -- the sorted list is the rising one
  pub sorted_is_rising : (xs ys : List Symbol) → NoRepeat xs → AllOf (λ t. is_derivative t ≡ true) xs → IsPermutation xs ys → IsSorted cmp ys → ys ≡ rising cmp xs
  sorted_is_rising xs ys once proper p up =
      same_rising ys (rising cmp xs)
      (sorted_rises ys up (distinct_sorted xs ys (no_repeat_distinct xs once) p))
      (ordered_rises (rising cmp xs) (all_rising order (λ t. is_derivative t ≡ true) xs proper) (ordered_rising order xs proper))
      (λ s h. in_rising order s xs (contained_in xs s (Contains-permutation ys xs s (IsPermutation-sym xs ys p) (in_contained ys s h))))
      (λ s h. contained_in ys s (Contains-permutation xs ys s p (in_contained xs s (of_member (λ t. In t xs) s (rising cmp xs) (all_rising order (λ t. In t xs) xs (all_in xs)) h))))
