-- A raised product is the product times a power, and how it is made in one pass.
use Rattle.std.specs.Prelude.{slice_index_or}
use Rattle.std.proofs.Common.{◌≡◌, ◌<◌, ◌≤◌, ◌+◌, ◌-◌, ◌∙◌, ◌++◌, ℕ, nat_lt, Bool, true, false, cond, [], ◌∷◌, length, drop, take, refl, sym, ap, ap₂, arith, Ok, Err, Result}
use Rattle.std.proofs.lemmas.Bool.Decides.{nat_tests}
use Rattle.std.proofs.lemmas.List.{append_assoc}
use Rattle.std.specs.declared.cmp.Ordering.{Ordering}
use Rattle.std.specs.declared.cmp.Ordering.TheVariants.{Less, Equal, Greater}
use Rattle.std.specs.Ordering.{match_ordering, ordering_reverse}
use Rattle.dz_algebra.specs.Monomial.{with_power}
use Rattle.dz_algebra.specs.Size.{Refusal, large}
use Rattle.dz_algebra.specs.declared.Limit.TheVariants.{Exponent}
use Rattle.dz_algebra.proofs.Orders.{less_reversed, greater_reversed}
use Rattle.dz_algebra.specs.Outcome.{◌>>=◌}
use Rattle.dz_algebra.proofs.Outcomes.{bind_ok, ok_same}
use Rattle.dz_step.specs.declared.Step.{Step}
use Rattle.dz_ask.specs.Products.{Product, raised_product, step_cmp, turned_round}
use Rattle.dz_ask.proofs.ListPasses.{take_rest}
use Rattle.dz_ask.proofs.StepOrder.{step_order}

-- steps that tie do so both ways round
same_reversed : (s t : Step) → step_cmp s t ≡ Equal → step_cmp t s ≡ Equal
same_reversed s t e = step_order.total.antisymm t s ∙ ap ordering_reverse e

-- the product times the first power
pub raised_is : (s : Step) (m m' : Product) → raised_product s m ≡ Ok m' → with_power (turned_round step_cmp) s 1 m ≡ m'
raised_is s [] m' e = ok_same ((s, 1) ∷ []) m' e
raised_is s (p ∷ m) m' e = by_order (λ n e. raised_is s m n e) (step_cmp s p.0) refl e
  where
    powers : Ordering → Product
    powers o = match_ordering o (p ∷ with_power (turned_round step_cmp) s 1 m) ((p.0, 1 + p.1) ∷ m) ((s, 1) ∷ p ∷ m)

    by_limit : (b : Bool) → ◌≡◌ {A = Result Product Refusal} (cond b (Ok ((p.0, 1 + p.1) ∷ m)) (Err (large Exponent))) (Ok m') → (p.0, 1 + p.1) ∷ m ≡ m'
    by_limit true e = ok_same ((p.0, 1 + p.1) ∷ m) m' e
    by_limit false e = cc

    by_order : ((n : Product) → raised_product s m ≡ Ok n → with_power (turned_round step_cmp) s 1 m ≡ n) → (o : Ordering) → step_cmp s p.0 ≡ o
        → match_ordering o (Ok ((s, 1) ∷ p ∷ m)) (cond (nat_lt p.1 65535) (Ok ((p.0, 1 + p.1) ∷ m)) (Err (large Exponent))) (raised_product s m >>= (λ n. Ok (p ∷ n))) ≡ Ok m'
        → with_power (turned_round step_cmp) s 1 (p ∷ m) ≡ m'
    by_order more Less o e = ap powers (greater_reversed step_order.total s p.0 o) ∙ ok_same ((s, 1) ∷ p ∷ m) m' e
    by_order more Equal o e = ap powers (same_reversed s p.0 o) ∙ by_limit (nat_lt p.1 65535) e
    by_order more Greater o e =
        let n = bind_ok (raised_product s m) _ m' e in
        ap powers (less_reversed step_order.total s p.0 o) ∙ ap (λ l. p ∷ l) (more n.0 n.1) ∙ ok_same (p ∷ n.0) m' n.2

-- ---- the pass
-- an answer with powers before those that it has
abbrev pub behind : Product → Result Product Refusal → Result Product Refusal
behind us x = x >>= (λ n. Ok (us ++ n))

-- nothing stands before an answer
pub behind-nil : (x : Result Product Refusal) → x ≡ behind [] x
behind-nil (Ok n) = refl
behind-nil (Err e) = refl

-- a power may pass from an answer to those before it
behind-cons : (us : Product) (p : Step × ℕ) (x : Result Product Refusal) → behind us (x >>= (λ n. Ok (p ∷ n))) ≡ behind (us ++ p ∷ []) x
behind-cons us p (Ok n) = ap Ok (sym (append_assoc us (p ∷ []) n))
behind-cons us p (Err e) = refl

module _ (d : Step × ℕ) (s : Step) (us : Product) (whole : Result Product Refusal) where
  -- what a power answers, by how the step compares with its own
  choice : (p : Step × ℕ) (rest : Product) → Ordering → Result Product Refusal
  choice p rest o = match_ordering o (Ok ((s, 1) ∷ p ∷ rest)) (cond (nat_lt p.1 65535) (Ok ((p.0, 1 + p.1) ∷ rest)) (Err (large Exponent))) (raised_product s rest >>= (λ n. Ok (p ∷ n)))

  -- the answer at the next power
  chosen : (p : Step × ℕ) (rest : Product) → whole ≡ behind us (raised_product s (p ∷ rest)) → (o : Ordering) → step_cmp s p.0 ≡ o → whole ≡ behind us (choice p rest o)
  unfolding choice
  chosen p rest e o f = e ∙ ap (λ o. behind us (choice p rest o)) f

  -- the derivative comes before all that are left
  pub first_before : (xs : Product) → whole ≡ behind us (raised_product s xs) → 1 ≤ length xs → step_cmp s (slice_index_or xs 0 d).0 ≡ Less → (all : Product) → all ≡ us ++ (s, 1) ∷ [] ++ xs → whole ≡ Ok all
  unfolding choice
  first_before [] e h f all g = absurd (omega (arith, h))
  first_before (p ∷ xs) e h f all g = chosen p xs e Less f ∙ ap Ok (sym (g ∙ append_assoc us ((s, 1) ∷ []) (p ∷ xs)))

  -- it is the first of them
  pub first_here : (xs : Product) → whole ≡ behind us (raised_product s xs) → 1 ≤ length xs → step_cmp s (slice_index_or xs 0 d).0 ≡ Equal → (slice_index_or xs 0 d).1 < 65535
      → (all : Product) → all ≡ us ++ (s, (slice_index_or xs 0 d).1 + 1) ∷ [] ++ take (length xs - 1) (drop 1 xs) → whole ≡ Ok all
  unfolding choice
  first_here [] e h f l all g = absurd (omega (arith, h))
  first_here (p ∷ xs) e h f l all g =
      let low : nat_lt p.1 65535 ≡ true = grind (arith, nat_tests) in
      let k : 1 + p.1 ≡ p.1 + 1 = omega arith in
      chosen p xs e Equal f ∙ ap (λ b. behind us (cond b (Ok ((p.0, 1 + p.1) ∷ xs)) (Err (large Exponent)))) low
      ∙ ap₂ (λ (t : Step) (n : ℕ). Ok (us ++ (t, n) ∷ xs)) (sym (step_order.same s p.0 f)) k
      ∙ ap Ok (sym (g ∙ ap (λ l. us ++ (s, p.1 + 1) ∷ [] ++ l) (take_rest (p ∷ xs) 1) ∙ append_assoc us ((s, p.1 + 1) ∷ []) xs))

  -- and its exponent is the greatest
  pub first_high : (xs : Product) → whole ≡ behind us (raised_product s xs) → 1 ≤ length xs → step_cmp s (slice_index_or xs 0 d).0 ≡ Equal → 65535 ≤ (slice_index_or xs 0 d).1 → whole ≡ Err (large Exponent)
  unfolding choice
  first_high [] e h f l = absurd (omega (arith, h))
  first_high (p ∷ xs) e h f l =
      let high : nat_lt p.1 65535 ≡ false = grind (arith, nat_tests) in
      chosen p xs e Equal f ∙ ap (λ b. behind us (cond b (Ok ((p.0, 1 + p.1) ∷ xs)) (Err (large Exponent)))) high

  -- it comes behind the first
  pub first_after : (xs : Product) → whole ≡ behind us (raised_product s xs) → 1 ≤ length xs → step_cmp s (slice_index_or xs 0 d).0 ≡ Greater
      → (all : Product) → all ≡ us ++ slice_index_or xs 0 d ∷ [] → whole ≡ behind all (raised_product s (take (length xs - 1) (drop 1 xs)))
  unfolding choice
  first_after [] e h f all g = absurd (omega (arith, h))
  first_after (p ∷ xs) e h f all g =
      chosen p xs e Greater f ∙ behind-cons us p (raised_product s xs) ∙ ap₂ (λ a l. behind a (raised_product s l)) (sym g) (sym (take_rest (p ∷ xs) 1))

  -- or behind all
  pub none_left : (xs : Product) → whole ≡ behind us (raised_product s xs) → length xs < 1 → (all : Product) → all ≡ us ++ (s, 1) ∷ [] → whole ≡ Ok all
  none_left [] e h all g = e ∙ ap Ok (sym g)
  none_left (p ∷ xs) e h all g = absurd (omega (arith, h))
