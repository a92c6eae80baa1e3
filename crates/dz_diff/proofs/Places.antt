-- Facts of all members of a list, and places.
use Rattle.std.proofs.Common.{◌≡◌, ◌⊎◌, inl, inr, ℕ, zero, suc, Bool, true, false, cond, List, [], ◌∷◌, ◌++◌, refl, ap, subst, Some}
use Rattle.dz_diff.specs.State.{at_place, without_place, replaced}
use Rattle.dz_monomials.specs.Lists.{AllOf, SomeOf}

module _ {A : Type 0} (P : A → Type 0) where
  -- what stands at a place, and the others
  pub taken : (i : ℕ) (x : A) (xs : List A) → at_place i xs ≡ Some x → AllOf P xs → P x × AllOf P (without_place i xs)
  taken i x [] e h = cc
  taken zero x (y ∷ xs) e h = cc
  taken (suc zero) x (y ∷ xs) e h = let f : y ≡ x = cc in (subst P f h.0, h.1)
  taken (suc (suc i)) x (y ∷ xs) e h = let r = taken (suc i) x xs e h.1 in (r.0, (h.0, r.1))

  -- all, from what stands at a place and the others
  pub put_back : (i : ℕ) (x : A) (xs : List A) → at_place i xs ≡ Some x → P x → AllOf P (without_place i xs) → AllOf P xs
  put_back i x [] e p h = tt
  put_back zero x (y ∷ xs) e p h = cc
  put_back (suc zero) x (y ∷ xs) e p h = let f : x ≡ y = cc in (subst P f p, h)
  put_back (suc (suc i)) x (y ∷ xs) e p h = (h.0, put_back (suc i) x xs e p h.1)

  -- a list with a place replaced
  pub replaced_all : (i : ℕ) (y : A) (xs : List A) → P y → AllOf P (without_place i xs) → AllOf P (replaced i y xs)
  replaced_all i y [] p h = tt
  replaced_all zero y (z ∷ xs) p h = h
  replaced_all (suc zero) y (z ∷ xs) p h = (p, h)
  replaced_all (suc (suc i)) y (z ∷ xs) p h = (h.0, replaced_all (suc i) y xs p h.1)

  -- what was put at a place, and the others
  pub replaced_parts : (i : ℕ) (x y : A) (xs : List A) → at_place i xs ≡ Some x → AllOf P (replaced i y xs) → P y × AllOf P (without_place i xs)
  replaced_parts i x y [] e h = cc
  replaced_parts zero x y (z ∷ xs) e h = cc
  replaced_parts (suc zero) x y (z ∷ xs) e h = (h.0, h.1)
  replaced_parts (suc (suc i)) x y (z ∷ xs) e h = let r = replaced_parts (suc i) x y xs e h.1 in (r.0, (h.0, r.1))

  -- a list with a place replaced, or removed where a test holds
  pub put_all : (b : Bool) (i : ℕ) (y : A) (xs : List A) → P y → AllOf P (without_place i xs) → AllOf P (cond b (without_place i xs) (replaced i y xs))
  put_all true i y xs p h = h
  put_all false i y xs p h = replaced_all i y xs p h

  -- what was put at a place or removed, and the others
  pub put_parts : (b : Bool) (i : ℕ) (x y : A) (xs : List A) → at_place i xs ≡ Some x → (b ≡ true → AllOf P (without_place i xs) → P y) → AllOf P (cond b (without_place i xs) (replaced i y xs)) → P y × AllOf P (without_place i xs)
  put_parts true i x y xs e drop h = (drop refl h, h)
  put_parts false i x y xs e drop h = replaced_parts i x y xs e h

  -- what stands at another place
  pub at_other : (i j : ℕ) (x : A) (xs : List A) → (i ≡ j → ⊥) → at_place j xs ≡ Some x → AllOf P (without_place i xs) → P x
  at_other i j x [] n e h = cc
  at_other zero j x (y ∷ xs) n e h = (taken j x (y ∷ xs) e h).0
  at_other (suc zero) zero x (y ∷ xs) n e h = cc
  at_other (suc zero) (suc zero) x (y ∷ xs) n e h = absurd (n refl)
  at_other (suc zero) (suc (suc j)) x (y ∷ xs) n e h = (taken (suc j) x xs e h).0
  at_other (suc (suc i)) zero x (y ∷ xs) n e h = cc
  at_other (suc (suc i)) (suc zero) x (y ∷ xs) n e h = let f : y ≡ x = cc in subst P f h.0
  at_other (suc (suc i)) (suc (suc j)) x (y ∷ xs) n e h = at_other (suc i) (suc j) x xs (λ f. n (ap suc f)) e h.1

  -- two lists together
  pub all-append : (xs ys : List A) → AllOf P xs → AllOf P ys → AllOf P (xs ++ ys)
  all-append [] ys h k = k
  all-append (x ∷ xs) ys h k = (h.0, all-append xs ys h.1 k)

  -- the two parts
  pub all_parts : (xs ys : List A) → AllOf P (xs ++ ys) → AllOf P xs × AllOf P ys
  all_parts [] ys h = (tt, h)
  all_parts (x ∷ xs) ys h = let r = all_parts xs ys h.1 in ((h.0, r.0), r.1)

  -- a member of the first list
  pub some_left : (xs ys : List A) → SomeOf P xs → SomeOf P (xs ++ ys)
  some_left [] ys h = absurd h
  some_left (x ∷ xs) ys (inl h) = inl h
  some_left (x ∷ xs) ys (inr h) = inr (some_left xs ys h)

  -- a member of the second list
  pub some_right : (xs ys : List A) → SomeOf P ys → SomeOf P (xs ++ ys)
  some_right [] ys h = h
  some_right (x ∷ xs) ys h = inr (some_right xs ys h)

  -- a member of one of them
  pub some_parts : (xs ys : List A) → SomeOf P (xs ++ ys) → SomeOf P xs ⊎ SomeOf P ys
  some_parts [] ys h = inr h
  some_parts (x ∷ xs) ys (inl h) = inl (inl h)
  some_parts (x ∷ xs) ys (inr h) = elim (some_parts xs ys h) [ inl k ↦ inl (inr k) | inr k ↦ inr k ]
