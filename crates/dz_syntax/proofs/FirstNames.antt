-- The first names of a system, declared one after the other.
use Rattle.std.proofs.Common.{◌≡◌, ◌<◌, ◌+◌, ◌∙◌, ℕ, zero, suc, Bool, true, false, List, [], ◌∷◌, ◌++◌, All, take, slice_get, Some, refl, sym, ap, subst, arith}
use Rattle.std.specs.Str.{bytes_eq}
use Rattle.std.specs.List.{IsDistinct, AllByRecursion, list_any}
use Rattle.std.proofs.lemmas.List.{length-take-le}
use Rattle.std.proofs.lemmas.Slice.Eq.{bytes_eq-Decides}
use Rattle.dz_syntax.specs.Functions.{first_names}
use Rattle.dz_syntax.specs.Names.{Declared, HasRoom, IsDeclared, IsName, declared, known}
use Rattle.dz_syntax.specs.declared.names.Group.TheVariants.{Independents}

-- a name at a place has what all names have
name_has : (P : List ℕ → Type 0) (names : List (List ℕ)) (i : ℕ) (name : List ℕ) → All P names → Some name ≡ slice_get names i → P name
name_has P [] i name h e = cc
name_has P (n ∷ names) zero name h e = let f : n ≡ name = cc in subst P f (h 0 [] (omega arith))
name_has P (n ∷ names) (suc i) name h e = name_has P names i name (λ k d l. h (suc k) d (omega arith)) e

-- no name before it is the same
different : (x y : List ℕ) → bytes_eq x y ≡ false → bytes_eq y x ≡ false
different x y e = by_test (bytes_eq y x) refl
  where
    by_test : (b : Bool) → bytes_eq y x ≡ b → b ≡ false
    by_test false f = refl
    by_test true f =
        let same : y ≡ x = (bytes_eq-Decides y x).0 f in
        let equal : bytes_eq x y ≡ true = (bytes_eq-Decides x y).1 (sym same) in absurd cc

later_differs : (x : List ℕ) (names : List (List ℕ)) (i : ℕ) (name : List ℕ) → AllByRecursion (λ y. bytes_eq x y ≡ false) names → Some name ≡ slice_get names i → bytes_eq x name ≡ false
later_differs x [] i name h e = cc
later_differs x (n ∷ names) zero name h e = let f : n ≡ name = cc in subst (λ y. bytes_eq x y ≡ false) f h.0
later_differs x (n ∷ names) (suc i) name h e = later_differs x names i name h.1 e

not_before : (names : List (List ℕ)) (i : ℕ) (name : List ℕ) → IsDistinct bytes_eq names → Some name ≡ slice_get names i → list_any (λ n. bytes_eq name n) (take i names) ≡ false
unfolding IsDistinct
not_before [] i name h e = cc
not_before (n ∷ names) zero name h e = refl
not_before (n ∷ names) (suc i) name h e =
    rw (different n name (later_differs n names i name h.0 e)) (not_before names i name h.1 e)

-- one name more
one_more : (names : List (List ℕ)) (i : ℕ) (name : List ℕ) → Some name ≡ slice_get names i → take i names ++ name ∷ [] ≡ take (i + 1) names
one_more [] i name e = cc
one_more (n ∷ names) zero name e = let f : n ≡ name = cc in ap (λ x. x ∷ []) (sym f)
one_more (n ∷ names) (suc i) name e =
    let f : suc i + 1 ≡ suc (i + 1) = omega arith in ap (λ l. n ∷ l) (one_more names i name e) ∙ ap (λ k. take k (n ∷ names)) (sym f)

module _ (names : Declared) (is : IsDeclared names) (i : ℕ) (name : List ℕ) (there : Some name ≡ slice_get names.all i) where
  pub first_is_name : IsName name
  first_is_name = name_has IsName names.all i name is.are_names there

  pub first_is_new : known (first_names i names) name ≡ false
  first_is_new = not_before names.all i name is.distinct there

  pub first_has_room : i < names.independents → HasRoom Independents 1 (first_names i names)
  first_has_room h = (omega (arith, h, is.independents_fit), length-take-le i names.all (omega (arith, h, is.independents_are)))

  pub first_declared : declared Independents (first_names i names) name ≡ first_names (i + 1) names
  first_declared = ap (λ (l : List (List ℕ)). record { all = l; independents = i + 1 }) (one_more names.all i name there)
