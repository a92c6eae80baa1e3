-- Merging falling lists, and values gathered at keys.
use Rattle.std.specs.List.{list_any}
use Rattle.std.proofs.Common.{◌≡◌, ◌≤◌, ◌||◌, Bool, true, false, length, arith, List, [], ◌∷◌, map, refl, sym, ap, subst, ◌∙◌}
use Rattle.std.specs.declared.cmp.Ordering.{Ordering}
use Rattle.std.specs.declared.cmp.Ordering.TheVariants.{Less, Equal, Greater}
use Rattle.std.specs.Ordering.{match_ordering}
use Rattle.dz_algebra.specs.Order.{IsAbove, IsOrder, IsFalling}
use Rattle.dz_algebra.specs.Gather.{put, onto, merge}
use Rattle.dz_algebra.proofs.Orders.{less_reversed, greater_reversed, greater_trans}

-- values that pass to other values with their sums
pub gather-map : {K V W : Type 0} (cmp : K → K → Ordering) (add : V → V → V) (add' : W → W → W) (h : V → W) (keeps : (v w : V) → h (add v w) ≡ add' (h v) (h w)) (rs ts : List (K × V)) → map (λ t. (t.0, h t.1)) (onto cmp add rs ts) ≡ onto cmp add' (map (λ t. (t.0, h t.1)) rs) (map (λ t. (t.0, h t.1)) ts)
gather-map {K} {V} {W} cmp add add' h keeps [] ts = refl
gather-map {K} {V} {W} cmp add add' h keeps (r ∷ rs) ts = put_map r.0 r.1 (onto cmp add rs ts) ∙ ap (put cmp add' r.0 (h r.1)) (gather-map cmp add add' h keeps rs ts)
  where
    put_map : (k : K) (v : V) (ts : List (K × V)) → map (λ t. (t.0, h t.1)) (put cmp add k v ts) ≡ put cmp add' k (h v) (map (λ t. (t.0, h t.1)) ts)
    put_map k v [] = refl
    put_map k v (t ∷ ts) =
        elim (cmp k t.0) as (λ o. map (λ t. (t.0, h t.1)) (match_ordering o (t ∷ put cmp add k v ts) ((t.0, add v t.1) ∷ ts) ((k, v) ∷ t ∷ ts)) ≡ match_ordering o ((t.0, h t.1) ∷ put cmp add' k (h v) (map (λ t. (t.0, h t.1)) ts)) ((t.0, add' (h v) (h t.1)) ∷ map (λ t. (t.0, h t.1)) ts) ((k, h v) ∷ (t.0, h t.1) ∷ map (λ t. (t.0, h t.1)) ts)) [
          | Less ↦ ap (λ l. (t.0, h t.1) ∷ l) (put_map k v ts)
          | Equal ↦ ap (λ w. (t.0, w) ∷ map (λ t. (t.0, h t.1)) ts) (keeps v t.1)
          | Greater ↦ refl
        ]

module _ {K V : Type 0} {cmp : K → K → Ordering} (order : IsOrder cmp) (add : V → V → V) where
  above_more : (k l : K) (ts : List (K × V)) → cmp k l ≡ Greater → IsAbove cmp l ts → IsAbove cmp k ts
  above_more k l [] h a = tt
  above_more k l (t ∷ ts) h a = (greater_trans order.total k l t.0 h a.0, above_more k l ts h a.1)

  -- a greater key goes to the front
  put_above : (k : K) (v : V) (ts : List (K × V)) → IsAbove cmp k ts → put cmp add k v ts ≡ (k, v) ∷ ts
  put_above k v [] a = refl
  put_above k v (t ∷ ts) a = ap (λ o. match_ordering o (t ∷ put cmp add k v ts) ((t.0, add v t.1) ∷ ts) ((k, v) ∷ t ∷ ts)) a.0

  above_put : (k l : K) (v : V) (ts : List (K × V)) → cmp k l ≡ Greater → IsAbove cmp k ts → IsAbove cmp k (put cmp add l v ts)
  above_put k l v [] h a = (h, tt)
  above_put k l v (t ∷ ts) h a =
      elim (cmp l t.0) as (λ o. IsAbove cmp k (match_ordering o (t ∷ put cmp add l v ts) ((t.0, add v t.1) ∷ ts) ((l, v) ∷ t ∷ ts))) [
        | Less ↦ (a.0, above_put k l v ts h a.1)
        | Equal ↦ (a.0, a.1)
        | Greater ↦ (h, a)
      ]

  above_onto : (k : K) (rs ts : List (K × V)) → IsAbove cmp k rs → IsAbove cmp k ts → IsAbove cmp k (onto cmp add rs ts)
  above_onto k [] ts a b = b
  above_onto k (r ∷ rs) ts a b = above_put k r.0 r.1 (onto cmp add rs ts) a.0 (above_onto k rs ts a.1 b)

  falling_put : (k : K) (v : V) (ts : List (K × V)) → IsFalling cmp ts → IsFalling cmp (put cmp add k v ts)
  falling_put k v [] f = (tt, tt)
  falling_put k v (t ∷ ts) f =
      elim (cmp k t.0) as (λ o. cmp k t.0 ≡ o → IsFalling cmp (match_ordering o (t ∷ put cmp add k v ts) ((t.0, add v t.1) ∷ ts) ((k, v) ∷ t ∷ ts))) [
        | Less ↦ λ e. (above_put t.0 k v ts (greater_reversed order.total k t.0 e) f.0, falling_put k v ts f.1)
        | Equal ↦ λ e. (f.0, f.1)
        | Greater ↦ λ e. ((e, above_more k t.0 ts e f.0), f)
      ] refl

  -- putting keeps a list falling
  pub falling_onto : (rs ts : List (K × V)) → IsFalling cmp ts → IsFalling cmp (onto cmp add rs ts)
  falling_onto [] ts f = f
  falling_onto (r ∷ rs) ts f = falling_put r.0 r.1 (onto cmp add rs ts) (falling_onto rs ts f)

  -- falling contributions onto a list that begins with a key greater than all of them
  onto_below : (t : K × V) (rs ts : List (K × V)) → IsAbove cmp t.0 rs → onto cmp add rs (t ∷ ts) ≡ t ∷ onto cmp add rs ts
  onto_below t [] ts a = refl
  onto_below t (r ∷ rs) ts a =
      ap (put cmp add r.0 r.1) (onto_below t rs ts a.1)
      ∙ ap (λ o. match_ordering o (t ∷ put cmp add r.0 r.1 (onto cmp add rs ts)) ((t.0, add r.1 t.1) ∷ onto cmp add rs ts) ((r.0, r.1) ∷ t ∷ onto cmp add rs ts)) (less_reversed order.total t.0 r.0 a.0)

  onto_nothing : (rs : List (K × V)) → IsFalling cmp rs → onto cmp add rs [] ≡ rs
  onto_nothing [] g = refl
  onto_nothing (r ∷ rs) g = ap (put cmp add r.0 r.1) (onto_nothing rs g.1) ∙ put_above r.0 r.1 rs g.0

  -- one pass puts falling contributions onto a falling list
  pub merge_puts : (ts rs : List (K × V)) → IsFalling cmp ts → IsFalling cmp rs → merge cmp add ts rs ≡ onto cmp add rs ts
  merge_puts [] rs f g = sym (onto_nothing rs g)
  merge_puts (t ∷ ts) [] f g = refl
  merge_puts (t ∷ ts) (r ∷ rs) f g =
      elim (cmp r.0 t.0) as (λ o. cmp r.0 t.0 ≡ o → match_ordering o (t ∷ merge cmp add ts (r ∷ rs)) ((t.0, add r.1 t.1) ∷ merge cmp add ts rs) (r ∷ merge cmp add (t ∷ ts) rs) ≡ put cmp add r.0 r.1 (onto cmp add rs (t ∷ ts))) [
        | Less ↦ λ e.
            ap (λ l. t ∷ l) (merge_puts ts (r ∷ rs) f.1 g)
            ∙ sym (ap (put cmp add r.0 r.1) (onto_below t rs ts (above_more t.0 r.0 rs (greater_reversed order.total r.0 t.0 e) g.0))
            ∙ ap (λ o. match_ordering o (t ∷ put cmp add r.0 r.1 (onto cmp add rs ts)) ((t.0, add r.1 t.1) ∷ onto cmp add rs ts) ((r.0, r.1) ∷ t ∷ onto cmp add rs ts)) e)
        | Equal ↦ λ e.
            ap (λ l. (t.0, add r.1 t.1) ∷ l) (merge_puts ts rs f.1 g.1)
            ∙ sym (ap (put cmp add r.0 r.1) (onto_below t rs ts (subst (λ k. IsAbove cmp k rs) (order.same r.0 t.0 e) g.0))
            ∙ ap (λ o. match_ordering o (t ∷ put cmp add r.0 r.1 (onto cmp add rs ts)) ((t.0, add r.1 t.1) ∷ onto cmp add rs ts) ((r.0, r.1) ∷ t ∷ onto cmp add rs ts)) e)
        | Greater ↦ λ e.
            ap (λ l. r ∷ l) (merge_puts (t ∷ ts) rs f g.1)
            ∙ sym (put_above r.0 r.1 (onto cmp add rs (t ∷ ts)) (above_onto r.0 rs (t ∷ ts) g.0 (e, above_more r.0 t.0 ts e f.0)))
      ] refl

  -- a list only grows
  longer_put : (k : K) (v : V) (ts : List (K × V)) → length ts ≤ length (put cmp add k v ts)
  longer_put k v [] = omega arith
  longer_put k v (t ∷ ts) =
      elim (cmp k t.0) as (λ o. length (t ∷ ts) ≤ length (match_ordering o (t ∷ put cmp add k v ts) ((t.0, add v t.1) ∷ ts) ((k, v) ∷ t ∷ ts))) [
        | Less ↦ let h = longer_put k v ts in omega arith
        | Equal ↦ omega arith
        | Greater ↦ omega arith
      ]

  -- a list is never shorter for more contributions
  pub longer_onto : (rs ts : List (K × V)) → length ts ≤ length (onto cmp add rs ts)
  longer_onto [] ts = omega arith
  longer_onto (r ∷ rs) ts = let h = longer_onto rs ts in let g = longer_put r.0 r.1 (onto cmp add rs ts) in omega arith

  -- a test of the keys is a test of the contributions' keys
  any_put : (test : K → Bool) (k : K) (v : V) (ts : List (K × V)) → list_any (λ t. test t.0) (put cmp add k v ts) ≡ (test k || list_any (λ t. test t.0) ts)
  any_put test k v [] = refl
  any_put test k v (t ∷ ts) =
      elim (cmp k t.0) as (λ o. cmp k t.0 ≡ o → list_any (λ t. test t.0) (match_ordering o (t ∷ put cmp add k v ts) ((t.0, add v t.1) ∷ ts) ((k, v) ∷ t ∷ ts)) ≡ (test k || (test t.0 || list_any (λ t. test t.0) ts))) [
        | Less ↦ λ e. ap (λ b. test t.0 || b) (any_put test k v ts) ∙ swapped (test t.0) (test k) _
        | Equal ↦ λ e. twice (test t.0) _ ∙ ap (λ b. b || (test t.0 || list_any (λ t. test t.0) ts)) (ap test (sym (order.same k t.0 e)))
        | Greater ↦ λ e. refl
      ] refl
    where
      swapped : (a b c : Bool) → (a || (b || c)) ≡ (b || (a || c))
      swapped true true c = refl
      swapped true false c = refl
      swapped false b c = refl

      twice : (a c : Bool) → (a || c) ≡ (a || (a || c))
      twice true c = refl
      twice false c = refl

  -- some key passes a test if one of the contributions does
  pub any_onto : (test : K → Bool) (rs ts : List (K × V)) → list_any (λ t. test t.0) (onto cmp add rs ts) ≡ (list_any (λ t. test t.0) rs || list_any (λ t. test t.0) ts)
  any_onto test [] ts = refl
  any_onto test (r ∷ rs) ts = any_put test r.0 r.1 (onto cmp add rs ts) ∙ ap (λ b. test r.0 || b) (any_onto test rs ts) ∙ grouped (test r.0) _ _
    where
      grouped : (a b c : Bool) → (a || (b || c)) ≡ ((a || b) || c)
      grouped true b c = refl
      grouped false b c = refl
