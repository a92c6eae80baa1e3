-- The derivatives that the program lists, exponent by exponent.
use Rattle.std.specs.List.{flat_map, range_with_len}
use Rattle.std.specs.Prelude.{replicate}
use Rattle.std.proofs.Common.{◌≡◌, ◌<◌, ◌≤◌, ◌+◌, ◌-◌, ◌∙◌, ℕ, zero, suc, true, List, [], ◌∷◌, ◌++◌, length, map, take, drop, slice_set, refl, sym, ap, ap₂, subst, arith, append-nil}
use Rattle.std.proofs.lemmas.List.{append_assoc}
use Rattle.std.proofs.lemmas.List.Concat.{flat_map-append}
use Rattle.dz_rank.specs.Rankings.{RankingValue}
use Rattle.dz_rank.specs.Symbols.{is_derivative}
use Rattle.dz_rank.specs.declared.symbols.Symbol.{Symbol}
use Rattle.dz_rank.specs.declared.symbols.Symbol.TheVariants.{Derivative}
use Rattle.dz_monomials.specs.Lists.{AllOf}
use Rattle.dz_parametric.specs.Orders.{derivatives_from, exponents_to}
use Rattle.dz_parametric.proofs.OrderLists.{Zeros, filled, tail}

range_more : (a n : ℕ) → range_with_len a (n + 1) ≡ range_with_len a n ++ (a + n) ∷ []
range_more a zero = ap (λ b. b ∷ []) (let e : a ≡ a + 0 = omega arith in e)
range_more a (suc n) =
    ap (range_with_len a) (let e : suc n + 1 ≡ suc (n + 1) = omega arith in e) ∙ ap (λ ks. a ∷ ks) (range_more (a + 1) n)
    ∙ ap (λ b. a ∷ (range_with_len (a + 1) n ++ b ∷ [])) (let e : (a + 1) + n ≡ a + suc n = omega arith in e)

pub flat_more : {A : Type 0} (f : ℕ → List A) (k : ℕ) → flat_map f (range_with_len 0 (k + 1)) ≡ flat_map f (range_with_len 0 k) ++ f k
flat_more f k =
    ap (flat_map f) (range_more 0 k ∙ ap (λ b. range_with_len 0 k ++ b ∷ []) (let e : 0 + k ≡ k = omega arith in e))
    ∙ flat_map-append f (range_with_len 0 k) (k ∷ []) ∙ ap (λ zs. flat_map f (range_with_len 0 k) ++ zs) (append-nil (f k))

-- ---- exponents
pub take_set_more : (i : ℕ) (ks : List ℕ) (v : ℕ) → i < length ks → take (i + 1) (slice_set ks i v) ≡ take i ks ++ v ∷ []
take_set_more i [] v h = absurd (omega arith)
take_set_more zero (k ∷ ks) v h = refl
take_set_more (suc i) (k ∷ ks) v h = ap (λ j. take j (k ∷ slice_set ks i v)) (let e : suc i + 1 ≡ suc (i + 1) = omega arith in e) ∙ ap (λ ls. k ∷ ls) (take_set_more i ks v (omega arith))

drop_set : (i : ℕ) (ks : List ℕ) (v : ℕ) → drop (suc i) (slice_set ks i v) ≡ drop (suc i) ks
drop_set i [] v = refl
drop_set zero (k ∷ ks) v = refl
drop_set (suc i) (k ∷ ks) v = drop_set i ks v

zeros_next : (i : ℕ) (ks : List ℕ) → Zeros (drop i ks) → Zeros (drop (suc i) ks)
zeros_next zero [] z = λ j d h. absurd (omega arith)
zeros_next zero (k ∷ ks) z = tail k ks z
zeros_next (suc i) [] z = λ j d h. absurd (omega arith)
zeros_next (suc i) (k ∷ ks) z = zeros_next i ks z

pub zeros_behind_set : (i : ℕ) (ks : List ℕ) (v : ℕ) → Zeros (drop i ks) → Zeros (drop (i + 1) (slice_set ks i v))
zeros_behind_set i ks v z = subst (λ j. Zeros (drop j (slice_set ks i v))) (let e : suc i ≡ i + 1 = omega arith in e) (subst Zeros (sym (drop_set i ks v)) (zeros_next i ks z))

-- ---- the whole list from those by their next exponent
pub map_flat : {A B C : Type 0} (f : B → C) (g : A → List B) (xs : List A) → map f (flat_map g xs) ≡ flat_map (λ x. map f (g x)) xs
map_flat f g [] = refl
map_flat f g (x ∷ xs) = both (g x) ∙ ap (λ zs. map f (g x) ++ zs) (map_flat f g xs)
  where
    both : (ys : List _) → map f (ys ++ flat_map g xs) ≡ map f ys ++ map f (flat_map g xs)
    both [] = refl
    both (y ∷ ys) = ap (λ zs. f y ∷ zs) (both ys)

map_same : {A B C : Type 0} (f : B → C) (g : A → B) (h : A → C) → ((x : A) → f (g x) ≡ h x) → (xs : List A) → map f (map g xs) ≡ map h xs
map_same f g h e [] = refl
map_same f g h e (x ∷ xs) = ap₂ (λ y ys. y ∷ ys) (e x) (map_same f g h e xs)

pub flat_same : {A B : Type 0} (f g : A → List B) → ((x : A) → f x ≡ g x) → (xs : List A) → flat_map f xs ≡ flat_map g xs
flat_same f g e [] = refl
flat_same f g e (x ∷ xs) = ap₂ (λ ys zs. ys ++ zs) (e x) (flat_same f g e xs)

module _ (n u : ℕ) (first : List ℕ) where
  abbrev made : List ℕ → List ℕ → Symbol
  made front ks = Derivative u (record { counts = (front ++ ks) ++ replicate (4 - n) 0 })

  by_next : (q m : ℕ) → derivatives_from n u first (suc q) m ≡ flat_map (λ k. derivatives_from n u (first ++ k ∷ []) q (m - k)) (range_with_len 0 (m + 1))
  by_next q m =
      map_flat (made first) (λ k. map (λ (ks : List ℕ). k ∷ ks) (exponents_to q (m - k))) (range_with_len 0 (m + 1))
      ∙ flat_same (λ k. map (made first) (map (λ (ks : List ℕ). k ∷ ks) (exponents_to q (m - k)))) (λ k. derivatives_from n u (first ++ k ∷ []) q (m - k))
      (λ k. map_same (made first) (λ (ks : List ℕ). k ∷ ks) (made (first ++ k ∷ [])) (λ ks. ap (λ ls. Derivative u (record { counts = ls ++ replicate (4 - n) 0 })) (sym (append_assoc first (k ∷ []) ks))) (exponents_to q (m - k))) (range_with_len 0 (m + 1))

  pub all_next : (i m : ℕ) → i < n → flat_map (λ k. derivatives_from n u (first ++ k ∷ []) (n - (i + 1)) (m - k)) (range_with_len 0 (m + 1)) ≡ derivatives_from n u first (n - i) m
  all_next i m h = sym (by_next (n - (i + 1)) m) ∙ ap (λ q. derivatives_from n u first q m) (let e : suc (n - (i + 1)) ≡ n - i = omega arith in e)

-- where no exponent is left
pub last_listed : (n u m : ℕ) (ks : List ℕ) → length ks ≡ 4 → n ≤ 4 → Zeros (drop n ks) → Derivative u (record { counts = ks }) ∷ [] ≡ derivatives_from n u (take n ks) (n - n) m
last_listed n u m ks size few z =
    ap (λ ls. Derivative u (record { counts = ls }) ∷ []) (sym (filled n 4 ks size few z) ∙ ap (λ ls. ls ++ replicate (4 - n) 0) (sym (append-nil (take n ks))))
    ∙ ap (λ q. derivatives_from n u (take n ks) q m) (let e : 0 ≡ n - n = omega arith in e)

-- one more list behind others
pub listed_more : {A : Type 0} (f : ℕ → List A) (old now new part : List A) (k : ℕ) → now ≡ old ++ flat_map f (range_with_len 0 k) → new ≡ now ++ part → part ≡ f k → new ≡ old ++ flat_map f (range_with_len 0 (k + 1))
listed_more f old now new part k before after is =
    after ∙ ap₂ (λ xs ys. xs ++ ys) before is ∙ append_assoc old (flat_map f (range_with_len 0 k)) (f k) ∙ ap (λ zs. old ++ zs) (sym (flat_more f k))

-- ---- all derivatives, sorted
module _ (r : RankingValue) (m : ℕ) where
  abbrev n : ℕ
  n = r.signature.independents

  pub all_made : (u : ℕ) (xs : List (List ℕ)) → AllOf (λ s. is_derivative s ≡ true) (map (λ (ks : List ℕ). Derivative u (record { counts = ks ++ replicate (4 - n) 0 })) xs)
  all_made u [] = tt
  all_made u (ks ∷ xs) = (refl, all_made u xs)
