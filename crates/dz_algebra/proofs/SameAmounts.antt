-- What contributions gather depends only on what lands at each key.
use Rattle.std.proofs.Common.{◌≡◌, List, [], ◌∷◌, ◌++◌, Option, Some, None, refl, sym, ap, ap₂, ◌∙◌}
use Rattle.std.specs.declared.cmp.Ordering.{Ordering}
use Rattle.std.specs.declared.cmp.Ordering.TheVariants.{Less, Equal, Greater}
use Rattle.std.specs.Cmp.{tied_itself}
use Rattle.std.specs.Ordering.{match_ordering}
use Rattle.dz_algebra.specs.Order.{IsOrder, IsAbove, IsFalling}
use Rattle.dz_algebra.specs.Gather.{put, onto, gather, joined, landed}
use Rattle.dz_algebra.proofs.Orders.{greater_reversed, greater_trans}
use Rattle.dz_algebra.proofs.Gathers.{falling_onto}

module _ {V : Type 0} (add : V → V → V) (associates : (a b c : V) → add (add a b) c ≡ add a (add b c)) where
  -- joining associates
  pub joined_associates : (x y z : Option V) → joined add (joined add x y) z ≡ joined add x (joined add y z)
  joined_associates None y z = refl
  joined_associates (Some a) None z = refl
  joined_associates (Some a) (Some b) None = refl
  joined_associates (Some a) (Some b) (Some c) = ap Some (associates a b c)

  joined_none : (x : Option V) → joined add x None ≡ x
  joined_none None = refl
  joined_none (Some a) = refl

  -- what two lists land at a key joins
  pub landed-append : {K : Type 0} (cmp : K → K → Ordering) (k : K) (rs ss : List (K × V)) → landed cmp add k (rs ++ ss) ≡ joined add (landed cmp add k rs) (landed cmp add k ss)
  landed-append cmp k [] ss = refl
  landed-append cmp k (r ∷ rs) ss = ap (joined add (match_ordering (cmp k r.0) None (Some r.1) None)) (landed-append cmp k rs ss) ∙ sym (joined_associates (match_ordering (cmp k r.0) None (Some r.1) None) (landed cmp add k rs) (landed cmp add k ss))

  module _ {K : Type 0} {cmp : K → K → Ordering} (order : IsOrder cmp) where
    -- one more value lands at its key
    landed_put : (k l : K) (v : V) (ts : List (K × V)) → landed cmp add k (put cmp add l v ts) ≡ joined add (match_ordering (cmp k l) None (Some v) None) (landed cmp add k ts)
    landed_put k l v [] = refl
    landed_put k l v (t ∷ ts) =
        elim (cmp l t.0) as (λ o. cmp l t.0 ≡ o → landed cmp add k (match_ordering o (t ∷ put cmp add l v ts) ((t.0, add v t.1) ∷ ts) ((l, v) ∷ t ∷ ts)) ≡ joined add (match_ordering (cmp k l) None (Some v) None) (landed cmp add k (t ∷ ts))) [
          | Less ↦ λ h. ap (joined add (match_ordering (cmp k t.0) None (Some t.1) None)) (landed_put k l v ts) ∙ apart (cmp k t.0) (cmp k l) (λ e f. let g = order.same k t.0 e in let i = order.same k l f in no (sym (ap₂ cmp (sym i) (sym g)) ∙ h)) t.1 (landed cmp add k ts)
          | Equal ↦ λ h. together (cmp k t.0) t.1 (landed cmp add k ts) ∙ ap (λ x. joined add (match_ordering (cmp k x) None (Some v) None) (landed cmp add k (t ∷ ts))) (sym (order.same l t.0 h))
          | Greater ↦ λ h. refl
        ] refl
      where
        no : cmp k k ≡ Less → ⊥
        no h = let e = tied_itself order.total k in cc

        apart : (o u : Ordering) → (o ≡ Equal → u ≡ Equal → ⊥) → (w : V) (x : Option V) → joined add (match_ordering o None (Some w) None) (joined add (match_ordering u None (Some v) None) x) ≡ joined add (match_ordering u None (Some v) None) (joined add (match_ordering o None (Some w) None) x)
        apart Less u n w x = refl
        apart Greater u n w x = refl
        apart Equal Less n w x = refl
        apart Equal Greater n w x = refl
        apart Equal Equal n w x = absurd (n refl refl)

        together : (o : Ordering) (w : V) (x : Option V) → joined add (match_ordering o None (Some (add v w)) None) x ≡ joined add (match_ordering o None (Some v) None) (joined add (match_ordering o None (Some w) None) x)
        together Less w x = refl
        together Greater w x = refl
        together Equal w None = refl
        together Equal w (Some y) = ap Some (associates v w y)

    -- putting lands what the contributions land
    pub landed_onto : (k : K) (rs ts : List (K × V)) → landed cmp add k (onto cmp add rs ts) ≡ landed cmp add k (rs ++ ts)
    landed_onto k [] ts = refl
    landed_onto k (r ∷ rs) ts = landed_put k r.0 r.1 (onto cmp add rs ts) ∙ ap (joined add (match_ordering (cmp k r.0) None (Some r.1) None)) (landed_onto k rs ts)

    -- and so does gathering
    pub landed_gather : (k : K) (rs : List (K × V)) → landed cmp add k (gather cmp add rs) ≡ landed cmp add k rs
    landed_gather k rs = landed_onto k rs [] ∙ landed-append cmp k rs [] ∙ joined_none (landed cmp add k rs)

    -- ---- a falling list is what lands at its keys
    above_lands : (k : K) (ts : List (K × V)) → IsAbove cmp k ts → landed cmp add k ts ≡ None
    above_lands k [] a = refl
    above_lands k (t ∷ ts) a = ap₂ (λ o x. joined add (match_ordering o None (Some t.1) None) x) a.0 (above_lands k ts a.1)

    above_more : (k l : K) (ts : List (K × V)) → cmp k l ≡ Greater → IsAbove cmp l ts → IsAbove cmp k ts
    above_more k l [] h a = tt
    above_more k l (t ∷ ts) h a = (greater_trans order.total k l t.0 h a.0, above_more k l ts h a.1)

    head_lands : (t : K × V) (ts : List (K × V)) → IsAbove cmp t.0 ts → landed cmp add t.0 (t ∷ ts) ≡ Some t.1
    head_lands t ts a = ap₂ (λ o x. joined add (match_ordering o None (Some t.1) None) x) (tied_itself order.total t.0) (above_lands t.0 ts a)

    -- falling lists that land alike are equal
    pub same_falling : (ts us : List (K × V)) → IsFalling cmp ts → IsFalling cmp us → ((k : K) → landed cmp add k ts ≡ landed cmp add k us) → ts ≡ us
    same_falling [] [] f g e = refl
    same_falling [] (u ∷ us) f g e = let h = e u.0 ∙ head_lands u us g.0 in absurd (nothing u.1 h)
      where
        nothing : (v : V) → ◌≡◌ {A = Option V} None (Some v) → ⊥
        nothing v h = cc
    same_falling (t ∷ ts) [] f g e = let h = sym (head_lands t ts f.0) ∙ e t.0 in absurd (something t.1 h)
      where
        something : (v : V) → ◌≡◌ {A = Option V} (Some v) None → ⊥
        something v h = cc
    same_falling (t ∷ ts) (u ∷ us) f g e = by_order (cmp t.0 u.0) refl (same_falling ts us f.1 g.1)
      where
        differ : (v : V) (x : Option V) → x ≡ Some v → x ≡ None → ⊥
        differ v x e f = cc

        same_value : (v w : V) (x : Option V) → x ≡ Some v → x ≡ Some w → v ≡ w
        same_value v w x e f = cc

        by_order : (o : Ordering) → cmp t.0 u.0 ≡ o → (((k : K) → landed cmp add k ts ≡ landed cmp add k us) → ts ≡ us) → ◌≡◌ {A = List (K × V)} (t ∷ ts) (u ∷ us)
        by_order Greater h rest = absurd (differ t.1 _ (sym (e t.0) ∙ head_lands t ts f.0) (above_lands t.0 (u ∷ us) (h, above_more t.0 u.0 us h g.0)))
        by_order Less h rest =
            let i : cmp u.0 t.0 ≡ Greater = greater_reversed order.total t.0 u.0 h in
            absurd (differ u.1 _ (e u.0 ∙ head_lands u us g.0) (above_lands u.0 (t ∷ ts) (i, above_more u.0 t.0 ts i f.0)))
        by_order Equal h rest =
            let i : t.0 ≡ u.0 = order.same t.0 u.0 h in
            let v : t.1 ≡ u.1 = same_value t.1 u.1 (landed cmp add t.0 (t ∷ ts)) (head_lands t ts f.0) (e t.0 ∙ ap (λ k. landed cmp add k (u ∷ us)) i ∙ head_lands u us g.0) in
            ap₂ (λ (k : K) (w : V). (k, w) ∷ ts) i v ∙ ap (λ l. u ∷ l) (rest (λ k. tails k (cmp k t.0) refl i v))
          where
            tails : (k : K) (o : Ordering) → cmp k t.0 ≡ o → t.0 ≡ u.0 → t.1 ≡ u.1 → landed cmp add k ts ≡ landed cmp add k us
            tails k Equal a i v =
                let b : k ≡ t.0 = order.same k t.0 a in
                ap (λ l. landed cmp add l ts) b ∙ above_lands t.0 ts f.0 ∙ sym (ap (λ l. landed cmp add l us) (b ∙ i) ∙ above_lands u.0 us g.0)
            tails k Less a i v = sym (ap (λ o. joined add (match_ordering o None (Some t.1) None) (landed cmp add k ts)) a) ∙ e k ∙ ap (λ o. joined add (match_ordering o None (Some u.1) None) (landed cmp add k us)) (ap (cmp k) (sym i) ∙ a)
            tails k Greater a i v = sym (ap (λ o. joined add (match_ordering o None (Some t.1) None) (landed cmp add k ts)) a) ∙ e k ∙ ap (λ o. joined add (match_ordering o None (Some u.1) None) (landed cmp add k us)) (ap (cmp k) (sym i) ∙ a)

    -- contributions that land alike gather alike
    pub same_gathered : (rs ss : List (K × V)) → ((k : K) → landed cmp add k rs ≡ landed cmp add k ss) → gather cmp add rs ≡ gather cmp add ss
    same_gathered rs ss e = same_falling (gather cmp add rs) (gather cmp add ss) (falling_onto order add rs [] tt) (falling_onto order add ss [] tt) (λ k. landed_gather k rs ∙ e k ∙ sym (landed_gather k ss))
