-- A derivative by an operator is that by the operator with one derivation less, derived once more.
use Rattle.std.proofs.Common.{◌≡◌, ◌<◌, ◌+◌, ◌-◌, ◌∙◌, ℕ, zero, suc, List, [], ◌∷◌, length, take, drop, All, slice_index_or, slice_set, Result, Ok, Err, refl, sym, ap, subst, arith}
use Rattle.dz_algebra.specs.Polynomial.{Polynomial}
use Rattle.dz_algebra.specs.Size.{Refusal, derivation_answer}
use Rattle.dz_algebra.specs.Symbols.{Symbols}
use Rattle.dz_rank.specs.declared.symbols.Operator.{Operator}
use Rattle.dz_rank.specs.declared.symbols.Symbol.{Symbol}
use Rattle.dz_algebra.specs.Outcome.{◌>>=◌}
use Rattle.dz_diff.specs.Operations.{Setting, iterated_answer, derivations_answer, operator_answer}
use Rattle.dz_jet.specs.Making.{IsLast, lowered}

abbrev Answer : Type 0
Answer = Result (Polynomial Symbol) Refusal

then_itself : (x : Answer) → (x >>= (λ p. Ok p)) ≡ x
then_itself (Ok p) = refl
then_itself (Err e) = refl

then_then : (x : Answer) (f h : Polynomial Symbol → Answer) → (x >>= f) >>= h ≡ x >>= (λ p. f p >>= h)
then_then (Ok p) f h = refl
then_then (Err e) f h = refl

then_same : (x : Answer) (f h : Polynomial Symbol → Answer) → ((p : Polynomial Symbol) → f p ≡ h p) → x >>= f ≡ x >>= h
then_same (Ok p) f h e = e p
then_same (Err k) f h e = refl

abbrev Zeros : List ℕ → Type 0
Zeros ks = All (λ k. k ≡ 0) ks

tail_zeros : (k : ℕ) (ks : List ℕ) → Zeros (k ∷ ks) → Zeros ks
tail_zeros k ks z = λ i d h. z (suc i) d (omega arith)

module _ (g : Symbols Symbol) where
  no_derivations : (j : ℕ) (ks : List ℕ) (p : Polynomial Symbol) → Zeros ks → derivations_answer g j ks p ≡ Ok p
  no_derivations j [] p z = refl
  no_derivations j (k ∷ ks) p z = ap (λ n. iterated_answer g j n p >>= derivations_answer g (suc j) ks) (z 0 0 (omega arith)) ∙ no_derivations (suc j) ks p (tail_zeros k ks z)

  once_more : (i j : ℕ) (ks : List ℕ) (p : Polynomial Symbol) → i < length ks → 0 < slice_index_or ks i 0 → Zeros (drop (suc i) ks)
      → derivations_answer g j ks p ≡ derivations_answer g j (slice_set ks i (slice_index_or ks i 0 - 1)) p >>= derivation_answer g (j + i)
  once_more i j [] p l t z = absurd (omega arith)
  once_more zero j (zero ∷ ks) p l t z = absurd (omega arith)
  once_more zero j (suc k ∷ ks) p l t z =
      let none : (q : Polynomial Symbol) → derivations_answer g (suc j) ks q ≡ Ok q = λ q. no_derivations (suc j) ks q z in
      let all : (n : ℕ) → iterated_answer g j n p >>= derivations_answer g (suc j) ks ≡ iterated_answer g j n p =
      λ n. then_same (iterated_answer g j n p) (derivations_answer g (suc j) ks) (λ q. Ok q) none ∙ then_itself (iterated_answer g j n p) in
      let e : k ≡ suc k - 1 = omega arith in
      let f : j ≡ j + 0 = omega arith in
      all (suc k)
      ∙ ap (λ n. iterated_answer g j n p >>= derivation_answer g j) e
      ∙ ap (λ n. iterated_answer g j (suc k - 1) p >>= derivation_answer g n) f
      ∙ ap (λ x. x >>= derivation_answer g (j + 0)) (sym (all (suc k - 1)))
  once_more (suc i) j (k ∷ ks) p l t z =
      let f : suc j + i ≡ j + suc i = omega arith in
      then_same (iterated_answer g j k p) (derivations_answer g (suc j) ks) (λ q. derivations_answer g (suc j) (slice_set ks i (slice_index_or ks i 0 - 1)) q >>= derivation_answer g (suc j + i))
      (λ q. once_more i (suc j) ks q (omega arith) t z)
      ∙ sym (then_then (iterated_answer g j k p) (derivations_answer g (suc j) (slice_set ks i (slice_index_or ks i 0 - 1))) (derivation_answer g (suc j + i)))
      ∙ ap (λ n. (iterated_answer g j k p >>= derivations_answer g (suc j) (slice_set ks i (slice_index_or ks i 0 - 1))) >>= derivation_answer g n) f

-- ---- the exponents of an operator of n independents
take_set : (n i : ℕ) (ks : List ℕ) (v : ℕ) → i < n → take n (slice_set ks i v) ≡ slice_set (take n ks) i v
take_set zero i ks v h = absurd (omega arith)
take_set (suc n) i [] v h = refl
take_set (suc n) zero (k ∷ ks) v h = refl
take_set (suc n) (suc i) (k ∷ ks) v h = ap (λ ls. k ∷ ls) (take_set n i ks v (omega arith))

take_at : (n i : ℕ) (ks : List ℕ) → i < n → slice_index_or (take n ks) i 0 ≡ slice_index_or ks i 0
take_at zero i ks h = absurd (omega arith)
take_at (suc n) i [] h = refl
take_at (suc n) zero (k ∷ ks) h = refl
take_at (suc n) (suc i) (k ∷ ks) h = take_at n i ks (omega arith)

take_length : (n i : ℕ) (ks : List ℕ) → i < n → i < length ks → i < length (take n ks)
take_length zero i ks h l = absurd (omega arith)
take_length (suc n) i [] h l = absurd (omega arith)
take_length (suc n) zero (k ∷ ks) h l = omega arith
take_length (suc n) (suc i) (k ∷ ks) h l = let e = take_length n i ks (omega arith) (omega arith) in omega arith

take_zeros : (n : ℕ) (ks : List ℕ) → Zeros ks → Zeros (take n ks)
take_zeros zero ks z = λ i d h. absurd (omega arith)
take_zeros (suc n) [] z = λ i d h. absurd (omega arith)
take_zeros (suc n) (k ∷ ks) z = both (take_zeros n ks (tail_zeros k ks z))
  where
    both : Zeros (take n ks) → Zeros (k ∷ take n ks)
    both f zero d h = z 0 d (omega arith)
    both f (suc i) d h = f i d (omega arith)

drop_take_zeros : (n i : ℕ) (ks : List ℕ) → Zeros (drop i ks) → Zeros (drop i (take n ks))
drop_take_zeros n zero ks z = take_zeros n ks z
drop_take_zeros zero (suc i) ks z = λ j d h. absurd (omega arith)
drop_take_zeros (suc n) (suc i) [] z = λ j d h. absurd (omega arith)
drop_take_zeros (suc n) (suc i) (k ∷ ks) z = drop_take_zeros n i ks z

-- the last derivation is one of those of the signature
beyond_zeros : (n i : ℕ) (ks : List ℕ) → Zeros (drop n ks) → i < length ks → 0 < slice_index_or ks i 0 → i < n
beyond_zeros zero i ks z l t = absurd (let e = z i 0 l in omega arith)
beyond_zeros (suc n) i [] z l t = absurd (omega arith)
beyond_zeros (suc n) zero (k ∷ ks) z l t = omega arith
beyond_zeros (suc n) (suc i) (k ∷ ks) z l t = let h = beyond_zeros n i ks z (omega arith) t in omega arith

pub last_within : (n i : ℕ) (t : Operator) → IsLast t i → Zeros (drop n t.counts) → i < n
last_within n i t h z = beyond_zeros n i t.counts z h.inside h.takes

pub last_step : (g : Setting) (t : Operator) (i : ℕ) (p : Polynomial Symbol) → i < g.independents → IsLast t i → operator_answer g t p ≡ operator_answer g (lowered i t) p >>= derivation_answer g.symbols i
last_step g t i p within h =
    let n = g.independents in
    once_more g.symbols i 0 (take n t.counts) p (take_length n i t.counts within h.inside) (subst (λ k. 0 < k) (sym (take_at n i t.counts within)) h.takes) (drop_take_zeros n (suc i) t.counts h.zeros)
    ∙ ap (λ j. derivations_answer g.symbols 0 (slice_set (take n t.counts) i (slice_index_or (take n t.counts) i 0 - 1)) p >>= derivation_answer g.symbols j) (let e : 0 + i ≡ i = omega arith in e)
    ∙ ap (λ ks. derivations_answer g.symbols 0 ks p >>= derivation_answer g.symbols i)
    (ap (λ k. slice_set (take n t.counts) i (k - 1)) (take_at n i t.counts within) ∙ sym (take_set n i t.counts (slice_index_or t.counts i 0 - 1) within))
