-- What an operator answers, derivation by derivation.
use Rattle.std.proofs.Common.{◌≡◌, ◌<◌, ◌≤◌, ◌+◌, ◌∙◌, inl, inr, ℕ, zero, suc, List, [], ◌∷◌, ◌++◌, length, take, get_or, Result, Ok, Err, refl, sym, ap, subst, arith, add-one}
use Rattle.dz_algebra.specs.Polynomial.{Polynomial}
use Rattle.dz_algebra.specs.Size.{Refusal, wide, large, derivation_answer}
use Rattle.dz_algebra.specs.Symbols.{Symbols}
use Rattle.dz_rank.specs.declared.symbols.Symbol.{Symbol}
use Rattle.dz_monomials.specs.Stops.{IsStop}
use Rattle.dz_monomials.specs.declared.PolyStop.{PolyStop}
use Rattle.dz_diff.specs.Operations.{iterated_answer, derivations_answer}
use Rattle.dz_algebra.specs.Outcome.{◌>>=◌}

-- what follows a refusal is the refusal
refusal_stays : {A B : Type 0} (x : Result A Refusal) (f : A → Result B Refusal) (stop : PolyStop) → IsStop stop x → IsStop stop (x >>= f)
refusal_stays x f stop (inl e) = inl e
refusal_stays (Ok a) f stop (inr e) = cc
refusal_stays (Err wide) f stop (inr e) = inr e
refusal_stays (Err (large l)) f stop (inr e) = inr e

-- what follows in turn may be grouped
bind_associates : {A B C E : Type 0} (x : Result A E) (f : A → Result B E) (g : B → Result C E) → ((x >>= f) >>= g) ≡ (x >>= (λ a. f a >>= g))
bind_associates (Ok a) f g = refl
bind_associates (Err e) f g = refl

-- what follows in the same way
bind_same : {A B E : Type 0} (x : Result A E) (f g : A → Result B E) → ((a : A) → f a ≡ g a) → (x >>= f) ≡ (x >>= g)
bind_same (Ok a) f g h = h a
bind_same (Err e) f g h = refl

-- nothing follows
bind_itself : {A E : Type 0} (x : Result A E) → (x >>= (λ a. Ok a)) ≡ x
bind_itself (Ok a) = refl
bind_itself (Err e) = refl

module _ (g : Symbols Symbol) where
  -- ---- one derivation, taken several times
  -- once more
  pub iterated_more : (i n : ℕ) (a b c : Polynomial Symbol) → iterated_answer g i n a ≡ Ok b → derivation_answer g i b ≡ Ok c → iterated_answer g i (n + 1) a ≡ Ok c
  iterated_more i n a b c e f = rw add-one (ap (λ x. x >>= derivation_answer g i) e ∙ f)

  -- a refusal stays
  iterated_stays : (i m n : ℕ) (a : Polynomial Symbol) (stop : PolyStop) → IsStop stop (iterated_answer g i m a) → IsStop stop (iterated_answer g i (n + m) a)
  iterated_stays i m zero a stop h = subst (λ k. IsStop stop (iterated_answer g i k a)) (let e : m ≡ zero + m = omega arith in e) h
  iterated_stays i m (suc n) a stop h =
      subst (λ k. IsStop stop (iterated_answer g i k a)) (let e : suc (n + m) ≡ suc n + m = omega arith in e)
      (refusal_stays (iterated_answer g i (n + m) a) (derivation_answer g i) stop (iterated_stays i m n a stop h))

  -- a derivation that is refused on the way
  pub iterated_refused : (i j n : ℕ) (a b : Polynomial Symbol) (stop : PolyStop) → iterated_answer g i j a ≡ Ok b → j < n → IsStop stop (derivation_answer g i b) → IsStop stop (iterated_answer g i n a)
  iterated_refused i j n a b stop e l h =
      subst (λ k. IsStop stop (iterated_answer g i k a)) (parts j n l)
      (iterated_stays i (suc j) (less j n) a stop (subst (λ x. IsStop stop (x >>= derivation_answer g i)) (sym e) h))
    where
      less : ℕ → ℕ → ℕ
      less zero zero = zero
      less zero (suc n) = n
      less (suc j) zero = zero
      less (suc j) (suc n) = less j n

      parts : (j n : ℕ) → j < n → less j n + suc j ≡ n
      parts zero zero l = absurd (omega arith)
      parts zero (suc n) l = omega arith
      parts (suc j) zero l = absurd (omega arith)
      parts (suc j) (suc n) l = let h = parts j n (omega arith) in omega arith

  -- ---- one after the other
  -- the derivations of two lists
  derivations-append : (i : ℕ) (ks ls : List ℕ) (a : Polynomial Symbol) → derivations_answer g i (ks ++ ls) a ≡ (derivations_answer g i ks a >>= derivations_answer g (i + length ks) ls)
  derivations-append i [] ls a = ap (λ n. derivations_answer g n ls a) (let e : i ≡ i + 0 = omega arith in e)
  derivations-append i (k ∷ ks) ls a =
      bind_same (iterated_answer g i k a) (derivations_answer g (suc i) (ks ++ ls)) (λ b. derivations_answer g (suc i) ks b >>= derivations_answer g (i + length (k ∷ ks)) ls)
      (λ b. derivations-append (suc i) ks ls b ∙ ap (λ n. derivations_answer g (suc i) ks b >>= derivations_answer g n ls) (let e : suc i + length ks ≡ i + length (k ∷ ks) = omega arith in e))
      ∙ sym (bind_associates (iterated_answer g i k a) (derivations_answer g (suc i) ks) (derivations_answer g (i + length (k ∷ ks)) ls))

  -- one more exponent
  take_here : (i : ℕ) (ks : List ℕ) (d : ℕ) → i < length ks → take (i + 1) ks ≡ take i ks ++ get_or ks i d ∷ []
  take_here i ks d h = rw add-one (at i ks h)
    where
      at : (i : ℕ) (ks : List ℕ) → i < length ks → take (suc i) ks ≡ take i ks ++ get_or ks i d ∷ []
      at i [] h = absurd (omega arith)
      at zero (k ∷ ks) h = refl
      at (suc i) (k ∷ ks) h = ap (λ l. k ∷ l) (at i ks (omega arith))

  -- the length of a front
  length_taken : (i : ℕ) (ks : List ℕ) → i ≤ length ks → length (take i ks) ≡ i
  length_taken zero ks h = refl
  length_taken (suc i) [] h = absurd (omega arith)
  length_taken (suc i) (k ∷ ks) h = ap suc (length_taken i ks (omega arith))

  -- one more independent
  one_more : (i : ℕ) (ks : List ℕ) (d : ℕ) (a : Polynomial Symbol) → i < length ks → derivations_answer g 0 (take (i + 1) ks) a ≡ (derivations_answer g 0 (take i ks) a >>= iterated_answer g i (get_or ks i d))
  one_more i ks d a h =
      ap (λ l. derivations_answer g 0 l a) (take_here i ks d h)
      ∙ derivations-append 0 (take i ks) (get_or ks i d ∷ []) a
      ∙ ap (λ n. derivations_answer g 0 (take i ks) a >>= derivations_answer g n (get_or ks i d ∷ [])) (let e : 0 + length (take i ks) ≡ i = omega (arith, length_taken i ks (omega arith)) in e)
      ∙ bind_same (derivations_answer g 0 (take i ks) a) (derivations_answer g i (get_or ks i d ∷ [])) (iterated_answer g i (get_or ks i d)) (λ b. bind_itself (iterated_answer g i (get_or ks i d) b))

  -- its derivations after those of the independents before
  pub derivations_more : (i : ℕ) (ks : List ℕ) (d : ℕ) (a b c : Polynomial Symbol) → i < length ks → derivations_answer g 0 (take i ks) a ≡ Ok b → iterated_answer g i (get_or ks i d) b ≡ Ok c → derivations_answer g 0 (take (i + 1) ks) a ≡ Ok c
  derivations_more i ks d a b c h e f = one_more i ks d a h ∙ ap (λ x. x >>= iterated_answer g i (get_or ks i d)) e ∙ f

  -- a refusal stays
  derivations_stay : (i n : ℕ) (ks : List ℕ) (a : Polynomial Symbol) (stop : PolyStop) → n + i ≤ length ks → IsStop stop (derivations_answer g 0 (take i ks) a) → IsStop stop (derivations_answer g 0 (take (n + i) ks) a)
  derivations_stay i zero ks a stop l h = subst (λ k. IsStop stop (derivations_answer g 0 (take k ks) a)) (let e : i ≡ zero + i = omega arith in e) h
  derivations_stay i (suc n) ks a stop l h =
      subst (λ k. IsStop stop (derivations_answer g 0 (take k ks) a)) (let e : n + i + 1 ≡ suc n + i = omega arith in e)
      (subst (IsStop stop) (sym (one_more (n + i) ks 0 a (omega arith)))
      (refusal_stays (derivations_answer g 0 (take (n + i) ks) a) (iterated_answer g (n + i) (get_or ks (n + i) 0)) stop (derivations_stay i n ks a stop (omega arith) h)))

  -- derivations that are refused on the way
  pub derivations_refused : (i n : ℕ) (ks : List ℕ) (d : ℕ) (a b : Polynomial Symbol) (stop : PolyStop) → i < n → n ≤ length ks → derivations_answer g 0 (take i ks) a ≡ Ok b → IsStop stop (iterated_answer g i (get_or ks i d) b) → IsStop stop (derivations_answer g 0 (take n ks) a)
  derivations_refused i n ks d a b stop l m e h =
      subst (λ k. IsStop stop (derivations_answer g 0 (take k ks) a)) (parts i n l)
      (derivations_stay (i + 1) (less i n) ks a stop (let p = parts i n l in omega arith)
      (subst (IsStop stop) (sym (one_more i ks d a (omega arith))) (subst (λ x. IsStop stop (x >>= iterated_answer g i (get_or ks i d))) (sym e) h)))
    where
      less : ℕ → ℕ → ℕ
      less zero zero = zero
      less zero (suc n) = n
      less (suc j) zero = zero
      less (suc j) (suc n) = less j n

      parts : (j n : ℕ) → j < n → less j n + (j + 1) ≡ n
      parts zero zero l = absurd (omega arith)
      parts zero (suc n) l = omega arith
      parts (suc j) zero l = absurd (omega arith)
      parts (suc j) (suc n) l = let h = parts j n (omega arith) in omega arith
