-- One step of a pass over two falling lists.
use Rattle.std.proofs.Common.{◌≡◌, ◌<◌, ◌∙◌, length, get_or, List, [], ◌∷◌, ◌++◌, Option, Some, None, refl, sym, ap, ap₂, arith}
use Rattle.std.specs.Option.{option_to_list}
use Rattle.std.specs.declared.cmp.Ordering.{Ordering}
use Rattle.std.specs.declared.cmp.Ordering.TheVariants.{Less, Equal, Greater}
use Rattle.std.specs.Ordering.{match_ordering}
use Rattle.dz_algebra.specs.Gather.{merge}
use Rattle.dz_monomials.specs.Merging.{TakesBoth}

module _ {K V : Type 0} (cmp : K → K → Ordering) (add : V → V → V) where
  abbrev step : Ordering → K × V → List (K × V) → K × V → List (K × V) → List (K × V)
  step o t ts r rs = match_ordering o (t ∷ merge cmp add ts (r ∷ rs)) ((t.0, add r.1 t.1) ∷ merge cmp add ts rs) (r ∷ merge cmp add (t ∷ ts) rs)

  pub take_less : (ts rs ts' : List (K × V)) (t r : K × V) (o : Option (K × V)) → 0 < length rs → t ≡ get_or ts 0 t → r ≡ get_or rs 0 r → cmp r.0 t.0 ≡ Less → ts ≡ option_to_list o ++ ts' → merge cmp add ts rs ≡ option_to_list o ++ merge cmp add ts' rs
  take_less ts [] ts' t r o n p q h e = absurd (omega arith)
  take_less ts (s ∷ rs) ts' t r None n p q h e = ap (λ l. merge cmp add l (s ∷ rs)) e
  take_less [] (s ∷ rs) ts' t r (Some x) n p q h e = cc
  take_less (u ∷ ts) (s ∷ rs) ts' t r (Some x) n p q h e =
      let f : u ≡ x = cc in
      let g : ts ≡ ts' = cc in
      let k : cmp s.0 u.0 ≡ Less = cc in
      ap (λ w. step w u ts s rs) k ∙ cc

  pub take_greater : (ts rs rs' : List (K × V)) (t r : K × V) (o : Option (K × V)) → 0 < length ts → t ≡ get_or ts 0 t → r ≡ get_or rs 0 r → cmp r.0 t.0 ≡ Greater → rs ≡ option_to_list o ++ rs' → merge cmp add ts rs ≡ option_to_list o ++ merge cmp add ts rs'
  take_greater [] rs rs' t r o n p q h e = absurd (omega arith)
  take_greater (u ∷ ts) rs rs' t r None n p q h e = ap (λ l. merge cmp add (u ∷ ts) l) e
  take_greater (u ∷ ts) [] rs' t r (Some x) n p q h e = cc
  take_greater (u ∷ ts) (s ∷ rs) rs' t r (Some x) n p q h e =
      let k : cmp s.0 u.0 ≡ Greater = cc in
      ap (λ w. step w u ts s rs) k ∙ cc

  pub take_equal : (ts rs ts' rs' : List (K × V)) (t r : K × V) (o : Option (K × V)) → t ≡ get_or ts 0 t → r ≡ get_or rs 0 r → cmp r.0 t.0 ≡ Equal → TakesBoth add ts rs o ts' rs' → merge cmp add ts rs ≡ option_to_list o ++ merge cmp add ts' rs'
  take_equal [] rs ts' rs' t r o p q h b = let e = b.2 in cc
  take_equal (u ∷ ts) [] ts' rs' t r o p q h b = let e = b.3 in cc
  take_equal (u ∷ ts) (s ∷ rs) ts' rs' t r o p q h b =
      let f = b.2 in
      let g = b.3 in
      let k : cmp s.0 u.0 ≡ Equal = cc in
      let i : u ≡ b.0 = cc in
      let j : s ≡ b.1 = cc in
      ap (λ w. step w u ts s rs) k
      ∙ ap₂ (λ x y. (x.0, add y.1 x.1) ∷ merge cmp add ts rs) i j
      ∙ ap₂ (λ x y. (b.0.0, add b.1.1 b.0.1) ∷ merge cmp add x y) (let e : ts ≡ ts' = cc in e) (let e : rs ≡ rs' = cc in e)
      ∙ ap (λ z. option_to_list z ++ merge cmp add ts' rs') (sym b.4)

  none : (ts : List (K × V)) → length ts ≡ 0 → ts ≡ []
  none [] e = refl
  none (t ∷ ts) e = absurd (omega arith)

  pub take_row : (ts rs rs' : List (K × V)) (o : Option (K × V)) → length ts ≡ 0 → rs ≡ option_to_list o ++ rs' → merge cmp add ts rs ≡ option_to_list o ++ merge cmp add ts rs'
  take_row ts rs rs' o n f = let e = none ts n in ap (λ l. merge cmp add l rs) e ∙ f ∙ ap (λ l. option_to_list o ++ merge cmp add l rs') (sym e)

  -- a pass over one list alone
  pub merge_nothing : (ts : List (K × V)) → merge cmp add ts [] ≡ ts
  merge_nothing [] = refl
  merge_nothing (t ∷ ts) = refl

  pub take_cells : (ts rs ts' : List (K × V)) (o : Option (K × V)) → length rs ≡ 0 → ts ≡ option_to_list o ++ ts' → merge cmp add ts rs ≡ option_to_list o ++ merge cmp add ts' rs
  take_cells ts rs ts' o n f = let e = none rs n in ap (λ l. merge cmp add ts l) e ∙ merge_nothing ts ∙ f ∙ ap (λ l. option_to_list o ++ l) (sym (ap (λ l. merge cmp add ts' l) e ∙ merge_nothing ts'))
